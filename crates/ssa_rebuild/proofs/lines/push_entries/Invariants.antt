use Rattle.std.proofs.Common.{◌≡◌, ◌++◌, map, take}
use Rattle.ssa_rebuild.specs.Rows.{use_slot}
use Rattle.ssa_rebuild.proofs.lines.push_entries.Given as goal

abbrev pub invariant-loop-relocate : goal.invariant-loop-relocate
invariant-loop-relocate l = l.row.items ≡ l.initial.row.items ++ map use_slot (map (λ relocate. relocate.value.0) (take l.relocate-index l.relocates))
