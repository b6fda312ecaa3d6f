-- Instructions that a simplifier leaves none of: those for whose results something else stands, and those whose results nothing uses.
use Rattle.std.specs.Prelude.{◌≡◌, ℕ, Bool, false, not, ◌==◌, ◌&&◌, ◌||◌, nat_lt, if◌then◌else◌, List, [], ◌∷◌, filter, count_by, Option, Some, None, is_some, slice_get}
use Rattle.std.specs.List.{list_all, list_any}
use Rattle.std.specs.Option.{option_map_or}
use Rattle.ir_ast.specs.declared.ops.Operand.{Operand}
use Rattle.ir_ast.specs.declared.ops.Operand.TheVariants.{Int}
use Rattle.ir_ast.specs.declared.ops.Op.{Op}
use Rattle.ir_ast.specs.declared.ops.Op.TheVariants.{Select, Phi}
use Rattle.ir_ast.specs.Funcs.{Function, instructions_of}
use Rattle.ir_ast.specs.Insts.{Instruction}
use Rattle.ir_ast.specs.Operands.{is_literal, named, same_operand, values_used}
use Rattle.ir_ast.specs.Ops.{is_phi}
use Rattle.ir_ast.specs.Faults.GroupShape.{number_at}
use Rattle.folded_forms.specs.Pure.{is_pure}

-- the operand that a select with a literal condition chooses
abbrev pub chosen : List Operand → Option Operand
chosen (Int condition ∷ first ∷ second ∷ []) = Some (if nat_lt 0 condition then first else second)
chosen _ = None

abbrev pub other_than : ℕ → Operand → Bool
other_than value operand = not (same_operand (named value) operand)

-- the first of these where all are the same
abbrev pub only : List Operand → Option Operand
only [] = None
only (first ∷ rest) = if list_all (same_operand first) rest then Some first else None

-- what stands for the result of a select or a phi with this number, other than itself: the chosen operand, or the one among the
-- entries
abbrev pub substitute : ℕ → List Operand → Op → Option Operand
substitute value operands Select = option_map_or (λ operand. if other_than value operand then Some operand else None) (chosen operands) None
substitute value operands Phi = only (filter (other_than value) operands)
substitute value operands _ = None

-- a pure operator on integer literals, or a select or phi for which an operand stands
abbrev pub is_foldable : ℕ → Instruction → Bool
is_foldable value inst =
    (is_pure inst && not (is_phi inst.op) && list_all is_literal inst.operands) || is_some (substitute value inst.operands inst.op)

abbrev pub uses : ℕ → Instruction → Bool
uses value inst = list_any (λ used. used == value) (values_used inst)

-- it is pure, and no other instruction uses its result, which has this number
abbrev pub is_dead : Function → ℕ → Instruction → Bool
is_dead func value inst = is_pure inst && (count_by (uses value) (instructions_of func.blocks) == (if uses value inst then 1 else 0))

-- none is left
abbrev pub IsReduced : Function → Type 0
IsReduced func = (place : ℕ) (inst : Instruction) → slice_get (instructions_of func.blocks) place ≡ Some inst
    → is_foldable (number_at func place) inst || is_dead func (number_at func place) inst ≡ false
