use Rattle.std.proofs.Common.{◌≡◌, ◌≤◌, ◌+◌, length}
use Rattle.object_meaning.specs.Lines.{after_all}
use Rattle.folded_forms.specs.Folded.{folded_insts}
use Rattle.fold_tables.proofs.fold.folded_insts.Given as goal

abbrev pub invariant-loop-inst : goal.invariant-loop-inst
invariant-loop-inst l = record {
  next : l.next ≡ after_all l.start l.yielded;
  few : l.next ≤ l.start + length l.yielded;
  lines : l.lines.items ≡ folded_insts l.table l.start l.yielded;
}
