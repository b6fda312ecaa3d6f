use Rattle.std.proofs.Common.{◌≡◌, ◌++◌, map, take}
use Rattle.std.specs.List.{filter}
use Rattle.ssa_rebuild.specs.Answers.{number_of}
use Rattle.thin_phis.specs.Thinned.{stays, number_now}
use Rattle.thin_phis.proofs.rows.push_left.Given as goal

abbrev pub invariant-loop-slot : goal.invariant-loop-slot
invariant-loop-slot l =
    map number_of l.after.items ≡ map number_of l.initial.after.items ++ map (number_now l.numbers) (filter (stays l.numbers) (map number_of (take l.slot-index l.slots)))
