-- The pairs that lines use: which pointer, with which base, judged before which place, and the code of the fault where
-- the pair doesn't stand.
use Rattle.std.specs.Prelude.{◌≡◌, ℕ, suc, Bool, true, false, ◌==◌, ◌&&◌, List, [], ◌∷◌, Option, Some, None, slice_get}
use Rattle.std.specs.List.{Contains, list_any, position}
use Rattle.std.specs.Option.{option_map_or}
use Rattle.ir_ast.specs.declared.types.Ty.{Ty}
use Rattle.ir_ast.specs.declared.types.Ty.TheVariants.{Void, Int as Integer, Ptr, Token}
use Rattle.ir_ast.specs.declared.ops.Callee.{Callee}
use Rattle.ir_ast.specs.declared.ops.Callee.TheVariants.{Check, Same}
use Rattle.ir_ast.specs.declared.ops.Operand.{Operand}
use Rattle.ir_ast.specs.declared.ops.Operand.TheVariants.{Value, Int}
use Rattle.ir_ast.specs.declared.ops.Op.{Op}
use Rattle.ir_ast.specs.declared.ops.Op.TheVariants.{Icmp, Load, Store, Call, Statepoint, Ret}
use Rattle.ir_ast.specs.Insts.{Instruction}
use Rattle.ir_ast.specs.Cells.{kind_of}
use Rattle.ir_ast.specs.Faults.GroupShape.{entries_of}
use Rattle.object_meaning.specs.Lines.{Line}
use Rattle.object_meaning.specs.Accesses.{cell_of}
use Rattle.pair_facts.specs.Lines.{line_in, line_before, operand_at, same_operand, is_relocate, head_at}
use Rattle.pair_facts.specs.Pairs.{base_index, derived_index}

-- a pointer, and the base that a line takes for it
pub record Use : Type 0 where
  pub address : Operand
  pub base : Operand

-- ---- pointers that leave the registers or are compared, each of which must be its own base

abbrev pointer_of : Ty → Operand → List Operand
pointer_of Ptr operand = operand ∷ []
pointer_of Void operand = []
pointer_of (Integer width) operand = []
pointer_of Token operand = []

abbrev pub pointers_of : List Ty → List Operand → List Operand
pointers_of (Ptr ∷ types) (operand ∷ operands) = operand ∷ pointers_of types operands
pointers_of (Void ∷ types) (operand ∷ operands) = pointers_of types operands
pointers_of (Integer width ∷ types) (operand ∷ operands) = pointers_of types operands
pointers_of (Token ∷ types) (operand ∷ operands) = pointers_of types operands
pointers_of types operands = []

-- a helper's operands aren't passed
abbrev pub passed_to : Callee → List Ty → List Operand → List Operand
passed_to Check types operands = []
passed_to Same types operands = []
passed_to callee types operands = pointers_of types operands

abbrev pub escaping : Op → Instruction → List Operand
escaping Store inst = pointer_of inst.ty (operand_at inst.operands 0)
escaping (Icmp pred) inst = pointers_of (inst.ty ∷ inst.ty ∷ []) (operand_at inst.operands 0 ∷ operand_at inst.operands 1 ∷ [])
escaping Ret inst = pointer_of inst.ty (operand_at inst.operands 0)
escaping (Call callee types) inst = passed_to callee types inst.operands
escaping (Statepoint id callee types) inst = passed_to callee types inst.operands
escaping op inst = []

abbrev pub own_use : Operand → Use
own_use operand = record { address = operand; base = operand }

-- ---- the helpers' operands, the base before the address

abbrev pub use_at : List Operand → ℕ → Use
use_at operands place = record { address = operand_at operands (suc place); base = operand_at operands place }

abbrev called_check : Callee → List Operand → List Use
called_check Check operands = use_at operands 0 ∷ []
called_check callee operands = []

abbrev called_same : Callee → List Operand → List Use
called_same Same operands = use_at operands 0 ∷ use_at operands 2 ∷ []
called_same callee operands = []

abbrev pub checked : Op → Instruction → List Use
checked (Call callee types) inst = called_check callee inst.operands
checked (Statepoint id callee types) inst = called_check callee inst.operands
checked op inst = []

abbrev pub compared : Op → Instruction → List Use
compared (Call callee types) inst = called_same callee inst.operands
compared (Statepoint id callee types) inst = called_same callee inst.operands
compared op inst = []

-- ---- the two entries that a relocate names

abbrev pub entries_used : Line → List Operand → Use
entries_used line entries =
    record { address = operand_at entries (derived_index line); base = operand_at entries (base_index line) }

-- the relocate at a place, and the statepoint of its group
pub record Relocates (lines : List Line) (place head : ℕ) (line : Line) : Type 0 where
  pub stands : slice_get lines place ≡ Some line
  pub relocate : is_relocate line.inst.op ≡ true
  pub in_group : head_at lines place ≡ Some head

abbrev pub entries_at : List Line → ℕ → List Operand
entries_at lines head = entries_of (line_in lines head).inst

-- ---- all of them

-- the line at a place of a block uses a pair. The code is that of the pair's fault; the pair is judged before the line,
-- and for entries before the statepoint.
pub data Uses (lines : List Line) (place : ℕ) : ℕ → ℕ → Use → Type 0 where
  relocates : (head : ℕ) (line : Line) → Relocates lines place head line → Uses lines place 2 head (entries_used line (entries_at lines head))
  checks : (line : Line) (pair : Use) → slice_get lines place ≡ Some line → Contains (checked line.inst.op line.inst) pair
      → Uses lines place 3 place pair
  compares : (line : Line) (pair : Use) → slice_get lines place ≡ Some line → Contains (compared line.inst.op line.inst) pair
      → Uses lines place 4 place pair
  escapes : (line : Line) (operand : Operand) → slice_get lines place ≡ Some line → Contains (escaping line.inst.op line.inst) operand
      → Uses lines place 5 place (own_use operand)

-- ---- checks directly before accesses

abbrev is_check : Op → Bool
is_check (Call Check types) = true
is_check _ = false

-- the line is a plain check of this address and of the kind of this type
abbrev pub checks_access : Operand → Ty → Line → Bool
checks_access address ty line = is_check line.inst.op
    && (same_operand (operand_at line.inst.operands 1) address && same_operand (operand_at line.inst.operands 2) (Int (kind_of (cell_of ty))))

-- the address of a load or a store
abbrev pub accessed_at : Op → Instruction → Option Operand
accessed_at Load inst = Some (operand_at inst.operands 0)
accessed_at Store inst = Some (operand_at inst.operands 1)
accessed_at op inst = None

abbrev pub is_checked : List Line → ℕ → Operand → Ty → Bool
is_checked lines place address ty = option_map_or (checks_access address ty) (line_before lines place) false

-- ---- values of "deopt" bundles

-- a relocate of the group has as its derived entry the first one that is this value
abbrev pub is_kept : List Operand → List Line → Operand → Bool
is_kept entries group (Value value) =
    option_map_or (λ place. list_any (λ line. is_relocate line.inst.op && (derived_index line == place)) group)
    (position (λ entry. same_operand entry (Value value)) entries) false
is_kept entries group operand = true
