use Rattle.std.proofs.Common.{◌≡◌, ◌++◌, map, take}
use Rattle.ssa_rebuild.specs.Answers.{number_of}
use Rattle.thin_phis.specs.Thinned.{number_now}
use Rattle.thin_phis.proofs.rows.push_all.Given as goal

abbrev pub invariant-loop-slot : goal.invariant-loop-slot
invariant-loop-slot l = map number_of l.after.items ≡ map number_of l.initial.after.items ++ map (number_now l.numbers) (map number_of (take l.slot-index l.slots))
