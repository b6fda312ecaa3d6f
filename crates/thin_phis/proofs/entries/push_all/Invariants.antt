use Rattle.std.proofs.Common.{◌≡◌, ◌++◌, map, take}
use Rattle.thin_phis.specs.Thinned.{number_now}
use Rattle.thin_phis.proofs.entries.push_all.Given as goal

abbrev pub invariant-loop-number : goal.invariant-loop-number
invariant-loop-number l = l.after.items ≡ l.initial.after.items ++ map (number_now l.numbers) (take l.number-index l.taken)
