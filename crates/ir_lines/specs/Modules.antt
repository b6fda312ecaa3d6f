-- The module that lines stand for, and beside it the line of each instruction.
use Rattle.std.specs.Prelude.{ℕ, ◌-◌, ◌%◌, ◌^◌, min, List, [], ◌∷◌, ◌++◌, map, flat_map, filter_map, drop, Option, Some, None, option_map, unwrap_or, codes, if◌then◌else◌}
use Rattle.std.specs.Str.{bytes_eq}
use Rattle.sp_ids.specs.declared.ids.BlockId.{BlockId}
use Rattle.ir_ast.specs.declared.types.Ty.{Ty}
use Rattle.ir_ast.specs.declared.types.Ty.TheVariants as tys
use Rattle.ir_ast.specs.declared.cells.Cell.{Cell}
use Rattle.ir_ast.specs.declared.cells.Cell.TheVariants as cells
use Rattle.ir_ast.specs.declared.funcs.Arg.{Arg}
use Rattle.ir_ast.specs.declared.modules.Form.{Form}
use Rattle.ir_ast.specs.declared.ops.Op.{Op}
use Rattle.ir_ast.specs.declared.ops.Op.TheVariants as ops
use Rattle.ir_ast.specs.declared.ops.Operand.{Operand}
use Rattle.ir_ast.specs.declared.ops.Operand.TheVariants as operands
use Rattle.ir_ast.specs.declared.ops.Callee.{Callee}
use Rattle.ir_ast.specs.declared.ops.Callee.TheVariants as callees
use Rattle.ir_ast.specs.declared.ops.Elem.{Elem}
use Rattle.ir_ast.specs.declared.ops.Elem.TheVariants as elements
use Rattle.ir_ast.specs.Cells.{cell_in}
use Rattle.ir_ast.specs.Insts.{Instruction}
use Rattle.ir_ast.specs.Blocks.{BasicBlock}
use Rattle.ir_ast.specs.Funcs.{Function}
use Rattle.ir_ast.specs.Layouts.{ObjectLayout}
use Rattle.ir_ast.specs.Modules.{LinedModule}
use Rattle.line_parts.specs.Types.{TypeWord}
use Rattle.line_parts.specs.Types as types
use Rattle.line_tokens.specs.declared.literals.Literal.{Literal}
use Rattle.line_tokens.specs.declared.words.Binary.{Binary}
use Rattle.line_tokens.specs.declared.words.Binary.TheVariants as binaries
use Rattle.line_tokens.specs.declared.words.Conversion.{Conversion}
use Rattle.line_tokens.specs.declared.words.Conversion.TheVariants as conversions
use Rattle.line_parts.specs.Parts.{Val}
use Rattle.line_parts.specs.Parts as values
use Rattle.line_parts.specs.Lists.{Given, given, function}
use Rattle.ir_lines.specs.Statements.{Statement, Line, binary, compare, convert, select, phi, scalar_step, layout_step, load, store, call, jump, branch, switch, switch_case, ret_void, ret, unreachable, cast, statepoint, gc_result, gc_relocate, kept_by}
use Rattle.ir_lines.specs.Parts.{live_use, token_use, index_use}
use Rattle.ir_lines.specs.Sections.{LayoutLine, Definition, Naming, BlockLines, layouts_of, definitions_of, arguments_named, values_of, blocks_of, cases_of}
use Rattle.ir_lines.specs.Places.{place_in, number_of, number_in}

-- the names that an instruction can name by number
pub record Known : Type 0 where
  pub layouts : List (List ℕ)
  pub functions : List (List ℕ)
  pub values : List (List ℕ)
  pub blocks : List (List ℕ)

abbrev pub known_of : List Line → Definition → Known
known_of lines func = record {
  layouts = map (λ one. one.name) (layouts_of lines);
  functions = map (λ one. one.name) (definitions_of lines);
  values = map (λ one. one.name) (values_of func);
  blocks = map (λ one. one.name) (blocks_of func);
}

-- ---- types and operators

-- `void` stands for the type of a function's name
abbrev pub type_of : TypeWord → Ty
type_of types.Void = tys.Void
type_of (types.Int width) = tys.Int width
type_of types.Managed = tys.Ptr
type_of types.Plain = tys.Void

-- a field of another type is a fault of its line
abbrev pub cell_of : TypeWord → Cell
cell_of ty = unwrap_or (cell_in (type_of ty)) cells.I64

abbrev pub element_of : TypeWord → Elem
element_of (types.Int width) = elements.Int width
element_of types.Managed = elements.Ptr
element_of types.Void = elements.Ptr
element_of types.Plain = elements.Ptr

abbrev pub binary_of : Binary → Op
binary_of binaries.Add = ops.Add
binary_of binaries.Sub = ops.Sub
binary_of binaries.Mul = ops.Mul
binary_of binaries.Udiv = ops.Udiv
binary_of binaries.Sdiv = ops.Sdiv
binary_of binaries.Urem = ops.Urem
binary_of binaries.Srem = ops.Srem
binary_of binaries.And = ops.And
binary_of binaries.Or = ops.Or
binary_of binaries.Xor = ops.Xor
binary_of binaries.Shl = ops.Shl
binary_of binaries.Lshr = ops.Lshr
binary_of binaries.Ashr = ops.Ashr

abbrev pub conversion_of : Conversion → ℕ → Op
conversion_of conversions.Trunc to = ops.Trunc to
conversion_of conversions.Zext to = ops.Zext to
conversion_of conversions.Sext to = ops.Sext to

-- ---- operands

-- a literal stands for its value modulo 2^width
abbrev pub wrapped : ℕ → Literal → ℕ
wrapped width literal =
    (if literal.negative then (2 ^ 64 - literal.magnitude) % 2 ^ 64 else literal.magnitude) % 2 ^ width

abbrev pub width_of : TypeWord → ℕ
width_of (types.Int width) = width
width_of types.Managed = 64
width_of types.Void = 64
width_of types.Plain = 64

-- among these values
abbrev pub operand_in : List (List ℕ) → TypeWord → Val → Operand
operand_in names ty (values.local name) = operands.Value (record { 0 = number_in names name })
operand_in names ty (values.number literal) = operands.Int (wrapped (width_of ty) literal)
operand_in names ty (values.truth said) = operands.Int (if said then 1 else 0)
operand_in names ty values.null = operands.Null

abbrev pub operand_of : Known → TypeWord → Val → Operand
operand_of known ty value = operand_in known.values ty value

-- among these blocks
abbrev pub label_in : List (List ℕ) → List ℕ → BlockId
label_in names name = record { 0 = number_in names name }

abbrev pub label_of : Known → List ℕ → BlockId
label_of known name = label_in known.blocks name

abbrev pub entry_operand : List (List ℕ) → TypeWord → Val × List ℕ → Operand
entry_operand names ty entry = operand_in names ty entry.0

abbrev pub entry_label : List (List ℕ) → Val × List ℕ → BlockId
entry_label names entry = label_in names entry.1

abbrev pub passed_operand : Known → Given → Operand
passed_operand known (given ty value) = operand_of known ty value
passed_operand known (function name) = operands.Fun (record { 0 = number_in known.functions name })

abbrev pub passed_type : Given → TypeWord
passed_type (given ty value) = ty
passed_type (function name) = types.Plain

abbrev pub given_type : Given → Ty
given_type one = type_of (passed_type one)

-- the operand that a use of a value stands for
abbrev pub used_operand : Known → Val × TypeWord → Operand
used_operand known used = operand_of known used.1 used.0

-- the entry of a bundle that it stands for
abbrev pub kept_entry : Known → Val × TypeWord → Ty × Operand
kept_entry known used = (type_of used.1, used_operand known used)

-- the external of a name; other names than the first six are those of `gc_new`
abbrev pub external_callee : Known → List ℕ → Callee
external_callee known name =
    if bytes_eq name (codes "print_i64") then callees.Print
    else if bytes_eq name (codes "read_i64") then callees.Read
    else if bytes_eq name (codes "task_start") then callees.TaskStart
    else if bytes_eq name (codes "gc.safepoint_poll") then callees.Poll
    else if bytes_eq name (codes "gc_check") then callees.Check
    else if bytes_eq name (codes "gc_same") then callees.Same
    else callees.New (number_in known.layouts (drop 7 name))

abbrev pub callee_at : Known → List ℕ → Option ℕ → Callee
callee_at known name (Some place) = callees.Fun (record { 0 = number_of (Some place) })
callee_at known name None = external_callee known name

abbrev pub callee_of : Known → List ℕ → Callee
callee_of known name = callee_at known name (place_in known.functions name)

-- the place of a field
abbrev pub place_of : Literal → ℕ
place_of literal = min literal.magnitude (2 ^ 32 - 1)

-- ---- instructions

abbrev pub instruction : Option (List ℕ) → Op → Ty → List Operand → List BlockId → Instruction
instruction result op ty operands labels =
    record { result = result; op = op; ty = ty; operands = operands; labels = labels; bundle = [] }

-- the same with a bundle
abbrev pub keeping : List (Ty × Operand) → Instruction → Instruction
keeping bundle inst = record inst { bundle = bundle }

-- the values and the labels of the cases that stand first among these lines
abbrev pub case_value : List (List ℕ) → ℕ → Statement → Option Operand
case_value names width (switch_case other value to) = Some (operand_in names (types.Int width) value)
case_value names width _ = None

abbrev pub case_label : List (List ℕ) → Statement → Option BlockId
case_label names (switch_case width value to) = Some (label_in names to)
case_label names _ = None

abbrev pub case_values : List (List ℕ) → ℕ → List Line → List Operand
case_values names width behind = filter_map (λ l. case_value names width l.says) (cases_of behind)

abbrev pub case_labels : List (List ℕ) → List Line → List BlockId
case_labels names behind = filter_map (λ l. case_label names l.says) (cases_of behind)

-- the instruction of a line, where it is one; a `switch` has the cases that stand behind it
abbrev pub instruction_said : Known → List Line → Statement → Option Instruction
instruction_said known behind (binary result op width left right) =
    Some (instruction (Some result) (binary_of op) (tys.Int width)
    (operand_of known (types.Int width) left ∷ operand_of known (types.Int width) right ∷ []) [])
instruction_said known behind (compare result predicate ty left right) =
    Some (instruction (Some result) (ops.Icmp predicate) (type_of ty)
    (operand_of known ty left ∷ operand_of known ty right ∷ []) [])
instruction_said known behind (convert result op width value to) =
    Some (instruction (Some result) (conversion_of op to) (tys.Int width) (operand_of known (types.Int width) value ∷ []) [])
instruction_said known behind (select result condition left_ty left right_ty right) =
    Some (instruction (Some result) ops.Select (type_of left_ty)
    (operand_of known (types.Int 1) condition ∷ operand_of known left_ty left ∷ operand_of known right_ty right ∷ []) [])
instruction_said known behind (phi result ty entries) =
    Some (instruction (Some result) ops.Phi (type_of ty)
    (map (entry_operand known.values ty) entries) (map (entry_label known.blocks) entries))
instruction_said known behind (scalar_step result element address width index) =
    Some (instruction (Some result) (ops.Gep (element_of element) width None) tys.Ptr
    (operand_of known types.Managed address ∷ operand_of known (types.Int width) index ∷ []) [])
instruction_said known behind (layout_step result named address width index place) =
    Some (instruction (Some result) (ops.Gep (elements.Layout (number_in known.layouts named)) width (option_map place_of place)) tys.Ptr
    (operand_of known types.Managed address ∷ operand_of known (types.Int width) index ∷ []) [])
instruction_said known behind (load result ty address) =
    Some (instruction (Some result) ops.Load (type_of ty) (operand_of known types.Managed address ∷ []) [])
instruction_said known behind (store ty value address) =
    Some (instruction None ops.Store (type_of ty) (operand_of known ty value ∷ operand_of known types.Managed address ∷ []) [])
instruction_said known behind (call result made) =
    Some (keeping (map (kept_entry known) (kept_by made))
    (instruction result (ops.Call (callee_of known made.callee) (map given_type made.passed)) (type_of made.answer)
    (map (passed_operand known) made.passed) []))
instruction_said known behind (jump to) = Some (instruction None ops.Br tys.Void [] (label_of known to ∷ []))
instruction_said known behind (branch condition on_true on_false) =
    Some (instruction None ops.CondBr (tys.Int 1) (operand_of known (types.Int 1) condition ∷ [])
    (label_of known on_true ∷ label_of known on_false ∷ []))
instruction_said known behind (switch width value default) =
    Some (instruction None ops.Switch (tys.Int width)
    (operand_of known (types.Int width) value ∷ case_values known.values width behind)
    (label_of known default ∷ case_labels known.blocks behind))
instruction_said known behind ret_void = Some (instruction None ops.Ret tys.Void [] [])
instruction_said known behind (ret ty value) = Some (instruction None ops.Ret (type_of ty) (operand_of known ty value ∷ []) [])
instruction_said known behind unreachable = Some (instruction None ops.Unreachable tys.Void [] [])
-- a cast, which no module has, is a call that passes nothing: its result keeps its place among the values
instruction_said known behind (cast result op from value to) =
    Some (instruction (Some result) (ops.Call (callee_of known []) []) (type_of to) [] [])
-- a statepoint has its arguments first and then its live entries
instruction_said known behind (statepoint result made live) =
    Some (keeping (map (kept_entry known) made.kept)
    (instruction (Some result) (ops.Statepoint (wrapped 64 made.id) (callee_of known made.callee) (map given_type made.passed))
    (type_of made.signature.answer) (map (passed_operand known) made.passed ++ map (used_operand known) (map live_use live)) []))
instruction_said known behind (gc_result result ty token) =
    Some (instruction (Some result) ops.GcResult (type_of ty) (used_operand known (token_use token) ∷ []) [])
instruction_said known behind (gc_relocate result token base derived) =
    Some (instruction (Some result) ops.GcRelocate tys.Ptr
    (used_operand known (token_use token) ∷ used_operand known (index_use base) ∷ used_operand known (index_use derived) ∷ []) [])
instruction_said known behind _ = None

-- each with its line
abbrev pub with_line : ℕ → Option Instruction → List (ℕ × Instruction)
with_line number None = []
with_line number (Some inst) = (number, inst) ∷ []

abbrev pub instructions_of : Known → List Line → List (ℕ × Instruction)
instructions_of known [] = []
instructions_of known (l ∷ ls) = with_line l.number (instruction_said known ls l.says) ++ instructions_of known ls

abbrev pub insts_of : Known → List Line → List Instruction
insts_of known lines = map (λ one. one.1) (instructions_of known lines)

abbrev pub numbers_of : Known → List Line → List ℕ
numbers_of known lines = map (λ one. one.0) (instructions_of known lines)

-- ---- the module

abbrev pub block_of : Known → BlockLines → BasicBlock
block_of known block = record { name = block.name; insts = insts_of known block.lines }

abbrev pub argument_of : Naming → Arg
argument_of one = record { name = one.name; ty = type_of one.ty }

abbrev pub function_of : Known → Definition → Function
function_of known func = record {
  name = func.name;
  answer = type_of func.answer;
  args = map argument_of (arguments_named func.line [] func.arguments);
  blocks = map (block_of known) (blocks_of func);
}

abbrev pub layout_of : LayoutLine → ObjectLayout
layout_of one = record { name = one.name; fields = map cell_of one.fields }

abbrev pub instruction_lines : Known → Definition → List ℕ
instruction_lines known func =
    flat_map (λ block. numbers_of known block.lines) (blocks_of func)

abbrev pub module_of : Form → List Line → LinedModule
module_of form lines = record {
  content = record {
    layouts = map layout_of (layouts_of lines);
    funcs = map (λ func. function_of (known_of lines func) func) (definitions_of lines);
    form = form;
  };
  lines = map (λ func. instruction_lines (known_of lines func) func) (definitions_of lines);
}
