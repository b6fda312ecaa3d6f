use Rattle.std.proofs.Common.{◌≡◌, ◌≤◌, ◌+◌, length}
use Rattle.object_meaning.specs.Lines.{after_all}
use Rattle.base_forms.specs.Lines.{based_insts}
use Rattle.base_tables.specs.Tables.{tabled}
use Rattle.base_infer.proofs.functions.with_more_lines.Given as goal

abbrev pub invariant-loop-inst : goal.invariant-loop-inst
invariant-loop-inst l = record {
  next : l.next ≡ after_all l.start l.yielded;
  few : l.next ≤ l.start + length l.yielded;
  lines : l.lines.items ≡ based_insts (tabled l.tables) l.start l.yielded;
}
