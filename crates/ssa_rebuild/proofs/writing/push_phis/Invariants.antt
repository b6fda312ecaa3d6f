use Rattle.std.proofs.Common.{◌≡◌, ◌++◌, drop}
use Rattle.ssa_rebuild.specs.Written.{phi_lines, phis_behind}
use Rattle.ssa_rebuild.proofs.writing.push_phis.Given as goal

abbrev pub invariant-loop-value : goal.invariant-loop-value
invariant-loop-value l = record {
  lines : l.initial.lines.items ++ phi_lines l.preds l.initial.writing l.values ≡ l.lines.items ++ phi_lines l.preds l.writing (drop l._value-index l.values);
  writing : phis_behind l.preds l.initial.writing l.values ≡ phis_behind l.preds l.writing (drop l._value-index l.values);
}
