-- Derived values by their kinds, and what marks that are spread in order say.
use Rattle.std.specs.Prelude.{ℕ, Bool, true, false, not, ◌||◌, List, map}
use Rattle.std.specs.List.{filter_map}
use Rattle.ir_ast.specs.Operands.{value_in}
use Rattle.base_forms.specs.DerivedMarks.{has_mark}
use Rattle.base_tables.specs.Kinds.{Kind, steps, merges, any_marked}
use Rattle.derived_values.specs.Givens.{Given, other, step, merge}
use Rattle.derived_values.specs.Deriveds as deriveds

-- what gives a value of this kind, as far as derived values go
abbrev pub given_kind : Kind → Given
given_kind (steps before) = step
given_kind (merges operands) = merge (filter_map value_in operands)
given_kind kind = other

-- the values that are derived, by the kinds: the steps, and the phis and selects that use one of them
abbrev pub DerivedIn : List Kind → ℕ → Type 0
DerivedIn kinds = deriveds.DerivedIn (map given_kind kinds)

-- a mark for each value, on those that are derived
abbrev pub AreMarks : List Kind → List Bool → Type 0
AreMarks kinds = deriveds.AreMarks (map given_kind kinds)

abbrev pub kind_steps : Kind → Bool
kind_steps (steps before) = true
kind_steps kind = false

-- a step has a mark, and a phi or select that uses a value with a mark
abbrev pub closed_at : List Bool → ℕ → Kind → Bool
closed_at marks value (steps before) = has_mark marks value
closed_at marks value (merges operands) = has_mark marks value || not (any_marked marks operands)
closed_at marks value kind = true
