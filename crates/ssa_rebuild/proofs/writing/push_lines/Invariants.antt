use Rattle.std.proofs.Common.{◌≡◌, ◌++◌}
use Rattle.ssa_rebuild.specs.Written.{written, behind}
use Rattle.ssa_rebuild.proofs.writing.push_lines.Given as goal

abbrev pub invariant-loop-inst : goal.invariant-loop-inst
invariant-loop-inst l = record {
  lines : l.lines.items ≡ l.initial.lines.items ++ written l.groups l.initial.writing l.yielded;
  writing : l.writing ≡ behind l.groups l.initial.writing l.yielded;
}
