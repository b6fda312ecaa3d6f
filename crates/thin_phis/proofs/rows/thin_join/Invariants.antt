use Rattle.std.proofs.Common.{◌≡◌, ◌++◌, map, drop}
use Rattle.ssa_rebuild.specs.Answers.{number_of}
use Rattle.thin_phis.specs.Thinned.{stays}
use Rattle.thin_phis.specs.Runs.{left_at}
use Rattle.thin_phis.proofs.rows.thin_join.Given as goal

abbrev pub invariant-loop-place : goal.invariant-loop-place
invariant-loop-place l = left_at (stays l.numbers) l.join (map number_of l.slots) ≡ l.after.items ++ left_at (stays l.numbers) (drop l.place l.join) (map number_of (drop l.place l.slots))
