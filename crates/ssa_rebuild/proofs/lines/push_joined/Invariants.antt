use Rattle.std.proofs.Common.{◌≡◌, ◌++◌, map, take}
use Rattle.ssa_rebuild.specs.Rows.{give_slot}
use Rattle.ssa_rebuild.proofs.lines.push_joined.Given as goal
use Rattle.statepoint_insert.specs.Groups.{numbers_in}

abbrev pub invariant-loop-value : goal.invariant-loop-value
invariant-loop-value l = l.row.items ≡ l.initial.row.items ++ map give_slot (numbers_in (take l.value-index l.values))
