use Rattle.std.proofs.Common.{◌≡◌, ℕ, length}
use Rattle.phi_webs.specs.Forests.{up_of}
use Rattle.phi_webs.proofs.settled.own_names.Given as goal

abbrev pub invariant-loop-name : goal.invariant-loop-name
invariant-loop-name l = record { own : (n : ℕ) → up_of l.ups.items n ≡ n; len : length l.ups.items ≡ l.name }
