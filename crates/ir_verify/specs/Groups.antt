-- The statepoint group that is open before an instruction, and what an instruction must be beside it.
use Rattle.std.specs.Prelude.{◌≡◌, ◌≢◌, ℕ, ◌+◌, ◌<◌, ◌↔◌, Bool, true, false, nat_eq, List, [], ◌∷◌, length, Option, Some, None, slice_get, if◌then◌else◌}
use Rattle.std.specs.List.{All}
use Rattle.sp_ids.specs.declared.ids.ValueId.{ValueId}
use Rattle.ir_ast.specs.declared.types.Ty.{Ty}
use Rattle.ir_ast.specs.declared.types.Ty.TheVariants.{Ptr, Token}
use Rattle.ir_ast.specs.declared.ops.Operand.{Operand}
use Rattle.ir_ast.specs.declared.ops.Operand.TheVariants.{Value, Int}
use Rattle.ir_ast.specs.declared.ops.Op.{Op}
use Rattle.ir_ast.specs.declared.ops.Op.TheVariants.{Statepoint, GcResult, GcRelocate}
use Rattle.ir_ast.specs.Insts.{Instruction}
use Rattle.ir_ast.specs.Funcs.{Function}
use Rattle.ir_ast.specs.Operands.{values_used, named}
use Rattle.ir_ast.specs.Faults.TypeClash.{Fits}
use Rattle.ir_ast.specs.Faults.GroupShape.{Group, entries_of, holds_live, is_part}
use Rattle.ir_verify.specs.declared.groups.Open.{Open}

-- an operand, where there is one, is this value
abbrev pub is_value_of : ℕ → Option Operand → Bool
is_value_of token (Some (Value value)) = nat_eq value.0 token
is_value_of token _ = false

-- a group beside its code: the number of its token, what its callee answers, its entries, and whether no part stands
-- behind its statepoint yet
pub record OpenGroup : Type 0 where
  pub number : ℕ
  pub answer : Ty
  pub live : List Operand
  pub is_fresh : Bool

abbrev pub seen_open : Open → OpenGroup
seen_open group = record { number = group.number; answer = group.answer; live = group.live.now; is_fresh = group.is_fresh }

abbrev pub kept_by : Bool → OpenGroup → Option OpenGroup
kept_by part group = if part then Some (record group { is_fresh = false }) else None

-- what is open behind a result or a relocate
abbrev pub kept_open : Option OpenGroup → Instruction → Option OpenGroup
kept_open None inst = None
kept_open (Some group) inst = kept_by (is_part group.number inst) group

-- what is open behind an instruction, where so many values stand before its own
abbrev pub behind_op : Option OpenGroup → ℕ → Op → Instruction → Option OpenGroup
behind_op held number (Statepoint id callee types) inst =
    Some (record { number = number; answer = inst.ty; live = entries_of inst; is_fresh = true })
behind_op held number GcResult inst = kept_open held inst
behind_op held number GcRelocate inst = kept_open held inst
behind_op held number op inst = None

-- ---- results and relocates

pub record IsResultOf (group : OpenGroup) (inst : Instruction) : Type 0 where
  pub operands : inst.operands ≡ named group.number ∷ []
  pub fresh : group.is_fresh ≡ true
  pub type : inst.ty ≡ group.answer

abbrev pub ResultFits : Option OpenGroup → Instruction → Type 0
ResultFits None inst = ⊥
ResultFits (Some group) inst = IsResultOf group inst

abbrev pub number_in : Option Operand → Option ℕ
number_in (Some (Int number)) = Some number
number_in _ = None

pub record NamesEntries (group : OpenGroup) (base derived : ℕ) : Type 0 where
  pub base_entry : base < length group.live
  pub derived_entry : (value : ValueId) × (slice_get group.live derived ≡ Some (Value value))

abbrev pub HaveEntries : OpenGroup → Option ℕ → Option ℕ → Type 0
HaveEntries group (Some base) (Some derived) = NamesEntries group base derived
HaveEntries group _ _ = ⊥

pub record IsRelocateOf (group : OpenGroup) (inst : Instruction) : Type 0 where
  pub base : ℕ
  pub derived : ℕ
  pub operands : inst.operands ≡ named group.number ∷ Int base ∷ Int derived ∷ []
  pub base_entry : base < length group.live
  pub derived_entry : (value : ValueId) × (slice_get group.live derived ≡ Some (Value value))

abbrev pub RelocateFits : Option OpenGroup → Instruction → Type 0
RelocateFits None inst = ⊥
RelocateFits (Some group) inst = IsRelocateOf group inst

-- ---- tokens elsewhere

abbrev pub NamesToken : List Ty → Operand → Type 0
NamesToken types (Value value) = slice_get types value.0 ≡ Some Token
NamesToken types operand = ⊥

abbrev pub UsesNo : List Ty → Instruction → Type 0
UsesNo types inst = All (λ value. slice_get types value ≢ Some Token) (values_used inst)

abbrev pub IsApartBy : List Ty → Instruction → Type 0
IsApartBy types inst = UsesNo types inst × All (λ entry. Fits types entry Ptr) (entries_of inst)

abbrev pub ShapeBy : List Ty → Option OpenGroup → Op → Instruction → Type 0
ShapeBy types held GcResult inst = ResultFits held inst
ShapeBy types held GcRelocate inst = RelocateFits held inst
ShapeBy types held (Statepoint id callee params) inst = IsApartBy types inst × (holds_live inst ≡ true)
ShapeBy types held op inst = IsApartBy types inst

-- ---- the group that is open before a place

pub record IsOpen (func : Function) (place : ℕ) (held : OpenGroup) : Type 0 where
  pub group : Group func held.number place
  pub answer : held.answer ≡ group.statepoint.ty
  pub live : held.live ≡ entries_of group.statepoint
  pub fresh : (held.is_fresh ≡ true) ↔ (group.head + 1 ≡ place)

pub record Opened (func : Function) (place : ℕ) (held : Option OpenGroup) : Type 0 where
  pub is : (one : OpenGroup) → held ≡ Some one → IsOpen func place one
  pub only : (token : ℕ) → Group func token place → (one : OpenGroup) × (held ≡ Some one) × (one.number ≡ token)
