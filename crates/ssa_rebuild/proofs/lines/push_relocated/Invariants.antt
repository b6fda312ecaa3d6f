use Rattle.std.proofs.Common.{◌≡◌, ◌++◌, map, take}
use Rattle.ssa_rebuild.specs.Rows.{give_slot}
use Rattle.ssa_rebuild.proofs.lines.push_relocated.Given as goal

abbrev pub invariant-loop-relocate : goal.invariant-loop-relocate
invariant-loop-relocate l = l.row.items ≡ l.initial.row.items ++ map give_slot (map (λ relocate. relocate.value.0) (take l.relocate-index l.relocates))
