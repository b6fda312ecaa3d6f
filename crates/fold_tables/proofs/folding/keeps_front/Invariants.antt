use Rattle.std.proofs.Common.{◌≡◌, ◌<◌, ℕ, true}
use Rattle.folded_forms.specs.Folded.{stays}
use Rattle.fold_tables.proofs.folding.keeps_front.Given as goal

abbrev pub invariant-loop-value : goal.invariant-loop-value
invariant-loop-value l = (value : ℕ) → value < l.value → stays l.table value ≡ true
