-- Classes of operands, and what an instruction names.
use Rattle.std.specs.Prelude.{ℕ, ◌==◌, Bool, true, false, List, [], ◌∷◌, ◌++◌, length, take, drop, map, slice_index_or, Option, Some, None}
use Rattle.std.specs.List.{filter_map}
use Rattle.sp_ids.specs.declared.ids.ValueId.{ValueId}
use Rattle.ir_ast.specs.declared.ops.Operand.{Operand}
use Rattle.ir_ast.specs.declared.ops.Operand.TheVariants.{Value, Int, Null, Fun}
use Rattle.ir_ast.specs.declared.ops.Callee.{Callee}
use Rattle.ir_ast.specs.declared.ops.Callee.TheVariants.{Fun as Defined, New}
use Rattle.ir_ast.specs.declared.ops.Elem.TheVariants.{Layout}
use Rattle.ir_ast.specs.declared.ops.Op.{Op}
use Rattle.ir_ast.specs.declared.ops.Op.TheVariants.{Gep, Call, Statepoint}
use Rattle.ir_ast.specs.Insts.{Instruction}

-- any operand but the name of a function
abbrev pub is_value : Operand → Bool
is_value (Fun func) = false
is_value _ = true

abbrev pub is_literal : Operand → Bool
is_literal (Int number) = true
is_literal _ = false

abbrev pub is_null : Operand → Bool
is_null Null = true
is_null _ = false

-- the same value, the same literal, or both `null`
abbrev pub same_operand : Operand → Operand → Bool
same_operand (Value value) (Value other) = value.0 == other.0
same_operand (Int number) (Int other) = number == other
same_operand Null Null = true
same_operand _ _ = false

-- the value with this number, as an identity and as an operand
abbrev pub valued : ℕ → ValueId
valued number = record { 0 = number }

abbrev pub named : ℕ → Operand
named value = Value (record { 0 = value })

-- the operand at a place, or the literal 0 where there is none
abbrev pub operand_at : List Operand → ℕ → Operand
operand_at operands place = slice_index_or operands place (Int 0)

-- the number of a literal, or 0
abbrev pub index_in : Option Operand → ℕ
index_in (Some (Int place)) = place
index_in _ = 0

-- all operands, those of the bundle too
abbrev pub operands_of : Instruction → List Operand
operands_of inst = inst.operands ++ map (λ entry. entry.1) inst.bundle

-- the arguments of a call or a statepoint
abbrev arguments_in : Op → List Operand → List Operand
arguments_in (Statepoint id callee types) operands = take (length types) operands
arguments_in op operands = operands

abbrev pub arguments_of : Instruction → List Operand
arguments_of inst = arguments_in inst.op inst.operands

-- the "gc-live" entries of a statepoint, which stand after its arguments
abbrev pub live_entries : Op → List Operand → List Operand
live_entries (Statepoint id callee types) operands = drop (length types) operands
live_entries op operands = []

abbrev pub entries_of : Instruction → List Operand
entries_of inst = live_entries inst.op inst.operands

-- the value that an operand names
abbrev pub value_named : Operand → Option ValueId
value_named (Value value) = Some value
value_named _ = None

abbrev pub value_in : Operand → Option ℕ
value_in (Value value) = Some value.0
value_in _ = None

-- the values that an instruction uses
abbrev pub values_used : Instruction → List ℕ
values_used inst = filter_map value_in (operands_of inst)

abbrev pub callee_of : Op → Option Callee
callee_of (Call callee types) = Some callee
callee_of (Statepoint id callee types) = Some callee
callee_of _ = None

abbrev function_in : Operand → Option ℕ
function_in (Fun func) = Some func.0
function_in _ = None

abbrev function_called : Option Callee → List ℕ
function_called (Some (Defined func)) = func.0 ∷ []
function_called _ = []

-- the functions that an instruction names
abbrev pub functions_named : Instruction → List ℕ
functions_named inst = function_called (callee_of inst.op) ++ filter_map function_in (operands_of inst)

abbrev layout_made : Option Callee → List ℕ
layout_made (Some (New layout)) = layout ∷ []
layout_made _ = []

abbrev layout_stepped : Op → List ℕ
layout_stepped (Gep (Layout layout) index_width place) = layout ∷ []
layout_stepped _ = []

-- the layouts that an instruction names
abbrev pub layouts_named : Instruction → List ℕ
layouts_named inst = layout_made (callee_of inst.op) ++ layout_stepped inst.op
