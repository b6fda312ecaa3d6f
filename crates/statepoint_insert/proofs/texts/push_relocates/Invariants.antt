use Rattle.std.proofs.Common.{◌≡◌, ◌+◌, ◌++◌, take}
use Rattle.statepoint_insert.specs.Texts.{first_rank, relocate_lines}
use Rattle.statepoint_insert.proofs.texts.push_relocates.Given as goal

abbrev pub invariant-loop-relocate : goal.invariant-loop-relocate
invariant-loop-relocate l = record {
  count : l.count ≡ l.first + l.relocate-index;
  rank : l.rank ≡ first_rank l.group.has_null + l.relocate-index;
  lines : l.lines.items ≡ l.initial.lines.items ++ relocate_lines l.token l.first (first_rank l.group.has_null) (take l.relocate-index l.group.relocates);
}
