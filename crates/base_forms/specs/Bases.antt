-- The base of each pointer (Garbage Collection Safepoints in LLVM, "Base & Derived Pointers"). The base of a
-- `getelementptr` is that of the pointer which it steps from; that of a derived phi or select is the line inserted before
-- it; and any other value is its own base.
use Rattle.std.specs.Prelude.{ℕ, zero, suc, if◌then◌else◌, Bool, false, List, [], ◌∷◌, ◌++◌, length, Option, None, slice_get}
use Rattle.std.specs.List.{flat_map, range_with_len}
use Rattle.std.specs.Option.{option_map_or, option_and_then}
use Rattle.ir_ast.specs.declared.ops.Operand.{Operand}
use Rattle.ir_ast.specs.declared.ops.Operand.TheVariants.{Value, Null}
use Rattle.ir_ast.specs.Insts.{Instruction}
use Rattle.ir_ast.specs.Funcs.{Function}
use Rattle.ir_ast.specs.Values.{Definition, argument, outcome, definitions_of}
use Rattle.ir_ast.specs.Derived.{is_step}
use Rattle.base_forms.specs.Inserted.{by_line, is_merged, has_inserted, inserted_number, new_number}

abbrev pub source_of : Definition → Option Operand
source_of (argument arg) = None
source_of (outcome inst) = if is_step inst.op then slice_get inst.operands 0 else None

-- the first on the way back from an operand by these steps that has no step, or `null` where so many don't lead to one
abbrev pub origin_by : (Operand → Option Operand) → ℕ → Operand → Operand
origin_by step zero operand = Null
origin_by step (suc more) operand = option_map_or (origin_by step more) (step operand) operand

module _ (func : Function) where
  -- the pointer from which an operand steps, where it is a `getelementptr`
  abbrev pub stepped_from : Operand → Option Operand
  stepped_from (Value value) = option_and_then source_of (slice_get (definitions_of func) value.0)
  stepped_from operand = None

  abbrev pub origin_within : ℕ → Operand → Operand
  origin_within = origin_by stepped_from

  -- the way back is no longer than the function has values, unless it never ends
  abbrev pub origin : Operand → Operand
  origin operand = origin_within (suc (length (definitions_of func))) operand

  module _ (marks : List Bool) where
    abbrev pub gives_by : (Instruction → Bool) → ℕ → Bool
    gives_by test value = option_map_or (by_line test) (slice_get (definitions_of func) value) false

    -- the base of what is no `getelementptr`
    abbrev pub own_base : Operand → Operand
    own_base (Value value) = Value (record {
      0 = if gives_by (is_merged marks) value.0 then inserted_number func marks value.0 else new_number func marks value.0;
    })
    own_base operand = operand

    -- the base of an operand, with its new number
    abbrev pub base_of : Operand → Operand
    base_of operand = own_base (origin operand)

    -- the bases of a value and of the line inserted before it, which is its own base
    abbrev pub bases_for : ℕ → List Operand
    bases_for value =
        (if option_map_or (has_inserted marks) (slice_get (definitions_of func) value) false
        then Value (record { 0 = inserted_number func marks value }) ∷ [] else [])
        ++ base_of (Value (record { 0 = value })) ∷ []

    -- the base of each value of the new function, by its number
    abbrev pub base_table : List Operand
    base_table = flat_map bases_for (range_with_len 0 (length (definitions_of func)))
