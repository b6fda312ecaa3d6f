-- What gives a value, as far as derived values go.
use Rattle.std.specs.Prelude.{ℕ, List, ◌++◌, map}
use Rattle.std.specs.List.{filter_map}
use Rattle.ir_ast.specs.declared.ops.Op.{Op}
use Rattle.ir_ast.specs.declared.ops.Op.TheVariants.{Gep, Phi, Select}
use Rattle.ir_ast.specs.Operands.{value_in, values_used}
use Rattle.ir_ast.specs.Values.{Definition, argument, outcome}
use Rattle.derived_values.specs.declared.givers.Giver.{Giver}
use Rattle.derived_values.specs.declared.givers.Giver.TheVariants.{Other, Step, Merge}

pub data Given : Type 0 where
  other : Given
  -- a `getelementptr`
  step : Given
  -- a phi or select, with the values that it uses
  merge : List ℕ → Given

abbrev pub seen_giver : Giver → Given
seen_giver Other = other
seen_giver Step = step
seen_giver (Merge operands bundle) = merge (filter_map value_in (operands.now ++ map (λ entry. entry.1) bundle.now))

-- ---- of a function's values

abbrev pub given_by : Op → List ℕ → Given
given_by (Gep elem index_width place) used = step
given_by Phi used = merge used
given_by Select used = merge used
given_by op used = other

abbrev pub given_of : Definition → Given
given_of (argument arg) = other
given_of (outcome inst) = given_by inst.op (values_used inst)
