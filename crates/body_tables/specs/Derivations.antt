-- What gives each value, and the marks of the derived values.
use Rattle.std.specs.Prelude.{◌≡◌, ℕ, Bool, true, false, List, Option, Some, None, slice_get, slice_index_or}
use Rattle.ir_ast.specs.Insts.{Instruction}
use Rattle.ir_ast.specs.Operands.{values_used}
use Rattle.ir_ast.specs.Funcs.{Function}
use Rattle.ir_ast.specs.Derived.{Derived}
use Rattle.derived_values.specs.Givens.{Given, other, given_by}

abbrev pub giver_of : Option Instruction → Given
giver_of None = other
giver_of (Some inst) = given_by inst.op (values_used inst)

-- the marked values are the derived ones
pub record MarksDerived (func : Function) (marks : List Bool) : Type 0 where
  pub sound : (value : ℕ) → slice_get marks value ≡ Some true → Derived func value
  pub complete : (value : ℕ) → Derived func value → slice_get marks value ≡ Some true
