use Rattle.std.proofs.Common.{◌<◌, ℕ}
use Rattle.fold_tables.specs.Checks.{DerivedAlike}
use Rattle.fold_tables.proofs.folding.are_derived_alike.Given as goal

abbrev pub invariant-loop-value : goal.invariant-loop-value
invariant-loop-value l = (value : ℕ) → value < l.value → DerivedAlike l.marks l.table value
