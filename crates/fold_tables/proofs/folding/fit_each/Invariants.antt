use Rattle.std.proofs.Common.{◌<◌, ℕ}
use Rattle.fold_tables.specs.Checks.{FitsAt}
use Rattle.fold_tables.proofs.folding.fit_each.Given as goal

abbrev pub invariant-loop-value : goal.invariant-loop-value
invariant-loop-value l = (value : ℕ) → value < l.value → FitsAt l.types l.table value
