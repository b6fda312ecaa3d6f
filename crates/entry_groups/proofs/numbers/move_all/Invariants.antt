use Rattle.std.proofs.Common.{◌≡◌, ◌+◌, drop}
use Rattle.entry_groups.specs.Entry.{moved}
use Rattle.entry_groups.proofs.numbers.move_all.Given as goal

abbrev pub invariant-loop-relocate : goal.invariant-loop-relocate
invariant-loop-relocate l = record {
  row : moved l.next (drop l.relocate-index l.relocates) l.row.items ≡ moved l.first l.relocates l.initial.row.items;
  next : l.next ≡ l.first + l.relocate-index;
}
