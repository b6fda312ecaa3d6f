use Rattle.std.proofs.Common.{◌≡◌, drop}
use Rattle.std.specs.Prelude.{None, filter}
use Rattle.folded_forms.specs.Foldable.{other_than}
use Rattle.fold_tables.specs.Checks.{agreed}
use Rattle.fold_tables.proofs.pure.have_one_other.Given as goal

abbrev pub invariant-loop-operand : goal.invariant-loop-operand
invariant-loop-operand l = agreed l.first (filter (other_than l.value.0) (drop l.operand-index l.operands)) ≡ agreed None (filter (other_than l.value.0) l.operands)
