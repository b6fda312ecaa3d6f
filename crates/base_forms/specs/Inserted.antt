-- Which values have a line with a result inserted before theirs, and the numbers that values have then. At most one such
-- line stands before each value: the base of a derived phi or select, or the compare before a negation.
use Rattle.std.specs.Prelude.{ℕ, suc, ◌+◌, Bool, true, false, ◌&&◌, ◌||◌, List, take, count_by}
use Rattle.ir_ast.specs.declared.ops.Pred.TheVariants.{Ne}
use Rattle.ir_ast.specs.declared.ops.Operand.{Operand}
use Rattle.ir_ast.specs.declared.ops.Operand.TheVariants.{Value}
use Rattle.ir_ast.specs.declared.ops.Op.{Op}
use Rattle.ir_ast.specs.declared.ops.Op.TheVariants.{Icmp}
use Rattle.ir_ast.specs.Insts.{Instruction}
use Rattle.ir_ast.specs.Funcs.{Function}
use Rattle.ir_ast.specs.Values.{Definition, argument, outcome, definitions_of}
use Rattle.ir_ast.specs.Derived.{is_merge}
use Rattle.base_forms.specs.DerivedMarks.{uses_marked}

-- a derived phi or select
abbrev pub is_merged : List Bool → Instruction → Bool
is_merged marks inst = is_merge inst.op && uses_marked marks inst

abbrev pub is_unequal : Op → Bool
is_unequal (Icmp Ne) = true
is_unequal _ = false

-- an `icmp ne` with a derived operand
abbrev pub is_negated : List Bool → Instruction → Bool
is_negated marks inst = is_unequal inst.op && uses_marked marks inst

abbrev pub by_line : (Instruction → Bool) → Definition → Bool
by_line test (argument arg) = false
by_line test (outcome inst) = test inst

-- what gives a value before which a line with a result is inserted
abbrev pub has_inserted : List Bool → Definition → Bool
has_inserted marks given = by_line (λ inst. is_merged marks inst || is_negated marks inst) given

module _ (func : Function) (marks : List Bool) where
  -- the number of the line that is inserted before a value
  abbrev pub inserted_number : ℕ → ℕ
  inserted_number value = value + count_by (has_inserted marks) (take value (definitions_of func))

  -- the new number of a value
  abbrev pub new_number : ℕ → ℕ
  new_number value = value + count_by (has_inserted marks) (take (suc value) (definitions_of func))

  abbrev pub renumbered : Operand → Operand
  renumbered (Value value) = Value (record { 0 = new_number value.0 })
  renumbered operand = operand
