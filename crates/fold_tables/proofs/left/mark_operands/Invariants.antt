use Rattle.std.proofs.Common.{◌≡◌, ◌≢◌, ◌⊎◌, ℕ, true, take}
use Rattle.std.specs.Prelude.{Some}
use Rattle.std.specs.List.{Contains}
use Rattle.ir_ast.specs.Lists.{has_mark}
use Rattle.ir_ast.specs.Operands.{named}
use Rattle.fold_tables.proofs.left.mark_operands.Given as goal

abbrev pub invariant-loop-operand : goal.invariant-loop-operand
invariant-loop-operand l = (value : ℕ) → has_mark l.marks value ≡ true
    → (has_mark l.initial.marks value ≡ true) ⊎ (Contains (take l.operand-index l.operands) (named value) × (l.own ≢ Some value))
