use Rattle.std.proofs.Common.{◌≡◌, ℕ, ◌<◌}
use Rattle.phi_webs.specs.Forests.{up_of}
use Rattle.thin_phis.proofs.numbers.are_own.Given as goal

abbrev pub invariant-loop-place : goal.invariant-loop-place
invariant-loop-place l = (n : ℕ) → n < l.place → up_of l.ends n ≡ n
