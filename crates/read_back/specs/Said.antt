-- What the lines of a printed module say, line by line; empty lines say nothing.
use Rattle.std.specs.Prelude.{ℕ, ℤ, pos, negsuc, suc, ◌==◌, true, false, not, List, [], ◌∷◌, ◌++◌, length, map, drop, Option, Some, None, codes, unwrap_or, option_map, if◌then◌else◌}
use Rattle.std.specs.List.{zip, flat_map}
use Rattle.sp_ids.specs.declared.ids.BlockId.{BlockId}
use Rattle.sp_ids.specs.Numbers.{wrapped, signed}
use Rattle.ir_ast.specs.declared.types.Ty.{Ty}
use Rattle.ir_ast.specs.declared.types.Ty.TheVariants as tys
use Rattle.ir_ast.specs.declared.cells.Cell.{Cell}
use Rattle.ir_ast.specs.Cells.{type_of}
use Rattle.ir_ast.specs.declared.funcs.Arg.{Arg}
use Rattle.ir_ast.specs.declared.ops.Callee.{Callee}
use Rattle.ir_ast.specs.declared.ops.Pred.{Pred}
use Rattle.ir_ast.specs.declared.ops.Elem.{Elem}
use Rattle.ir_ast.specs.declared.ops.Elem.TheVariants as elements
use Rattle.ir_ast.specs.declared.ops.Operand.{Operand}
use Rattle.ir_ast.specs.declared.ops.Operand.TheVariants as operands
use Rattle.ir_ast.specs.declared.ops.Op.{Op}
use Rattle.ir_ast.specs.declared.ops.Op.TheVariants as ops
use Rattle.ir_ast.specs.Insts.{Instruction}
use Rattle.ir_ast.specs.Blocks.{BasicBlock}
use Rattle.ir_ast.specs.Layouts.{ObjectLayout}
use Rattle.ir_ast.specs.Funcs.{Function}
use Rattle.ir_ast.specs.Modules.{ModuleContent}
use Rattle.print_tables.specs.declared.externals.External.{External}
use Rattle.print_tables.specs.declared.externals.External.TheVariants as externs
use Rattle.ir_printer.specs.Names.{Names, layout_name, function_name, block_name, value_name}
use Rattle.ir_printer.specs.Operands.{operand_at, label_at}
use Rattle.ir_printer.specs.Calls.{callee_name}
use Rattle.ir_printer.specs.Declarations.{calls, externals}
use Rattle.line_parts.specs.Types.{TypeWord}
use Rattle.line_parts.specs.Types as types
use Rattle.line_tokens.specs.declared.literals.Literal.{Literal}
use Rattle.line_tokens.specs.declared.words.Binary.{Binary}
use Rattle.line_tokens.specs.declared.words.Binary.TheVariants as binaries
use Rattle.line_tokens.specs.declared.words.Conversion.{Conversion}
use Rattle.line_tokens.specs.declared.words.Conversion.TheVariants as conversions
use Rattle.line_parts.specs.Parts.{Val}
use Rattle.line_parts.specs.Parts as values
use Rattle.line_parts.specs.Lists.{Named, Given, given, function}
use Rattle.ir_lines.specs.Statements.{Guarded, Statement}
use Rattle.ir_lines.specs.Statements as says

-- ---- types

-- no line of a source module spells a token's type
abbrev pub word_of : Ty → TypeWord
word_of tys.Void = types.Void
word_of (tys.Int width) = types.Int width
word_of tys.Ptr = types.Managed
word_of tys.Token = types.Void

abbrev pub width_in : Ty → ℕ
width_in (tys.Int width) = width
width_in _ = 0

abbrev pub cell_word : Cell → TypeWord
cell_word cell = word_of (type_of cell)

-- ---- values

abbrev pub literal_of : ℤ → Literal
literal_of (pos n) = record { negative = false; magnitude = n }
literal_of (negsuc n) = record { negative = true; magnitude = suc n }

-- an integer as the signed number of its width, and one of `i1` as `true` or `false`
abbrev pub integer_value : ℕ → ℕ → Val
integer_value width number =
    if width == 1 then values.truth (not (wrapped 1 number == 0)) else values.number (literal_of (signed width number))

abbrev pub literal_value : Ty → ℕ → Val
literal_value (tys.Int width) number = integer_value width number
literal_value _ number = values.number (record { negative = false; magnitude = number })

-- `V` of a type; the name of a function is no value of a line
abbrev pub value_says : Names → Ty → Operand → Val
value_says names ty (operands.Value value) = values.local (value_name names.func value.0)
value_says names ty (operands.Int number) = literal_value ty number
value_says names ty operands.Null = values.null
value_says names ty (operands.Fun func) = values.null

-- `T V`, or `ptr @f`
abbrev pub passed_says : Names → Ty → Operand → Given
passed_says names ty (operands.Fun func) = function (function_name names.funcs func.0)
passed_says names ty operand = given (word_of ty) (value_says names ty operand)

-- the value with this place in a line of this type
abbrev pub value_at : Names → Ty → Instruction → ℕ → Val
value_at names ty inst place = value_says names ty (operand_at inst place)

abbrev pub label_says : Names → BlockId → List ℕ
label_says names label = block_name names.func label.0

abbrev pub target_at : Names → Instruction → ℕ → List ℕ
target_at names inst place = label_says names (label_at inst place)

-- ---- instructions

abbrev pub result_of : Instruction → List ℕ
result_of inst = unwrap_or inst.result []

abbrev pub binary_says : Names → Binary → Instruction → Statement
binary_says names op inst =
    says.binary (result_of inst) op (width_in inst.ty) (value_at names inst.ty inst 0) (value_at names inst.ty inst 1)

abbrev pub compare_says : Names → Pred → Instruction → Statement
compare_says names pred inst =
    says.compare (result_of inst) pred (word_of inst.ty) (value_at names inst.ty inst 0) (value_at names inst.ty inst 1)

abbrev pub convert_says : Names → Conversion → ℕ → Instruction → Statement
convert_says names op width inst =
    says.convert (result_of inst) op (width_in inst.ty) (value_at names inst.ty inst 0) width

abbrev pub select_says : Names → Instruction → Statement
select_says names inst =
    says.select (result_of inst) (value_at names (tys.Int 1) inst 0)
    (word_of inst.ty) (value_at names inst.ty inst 1) (word_of inst.ty) (value_at names inst.ty inst 2)

abbrev pub entry_says : Names → Ty → Operand × BlockId → Val × List ℕ
entry_says names ty entry = (value_says names ty entry.0, label_says names entry.1)

abbrev pub phi_says : Names → Instruction → Statement
phi_says names inst =
    says.phi (result_of inst) (word_of inst.ty) (map (entry_says names inst.ty) (zip inst.operands inst.labels))

abbrev pub place_says : ℕ → Literal
place_says place = record { negative = false; magnitude = place }

abbrev pub step_says : Names → Elem → ℕ → Option ℕ → Instruction → Statement
step_says names (elements.Int width) index_width place inst =
    says.scalar_step (result_of inst) (types.Int width) (value_at names tys.Ptr inst 0) index_width (value_at names (tys.Int index_width) inst 1)
step_says names elements.Ptr index_width place inst =
    says.scalar_step (result_of inst) types.Managed (value_at names tys.Ptr inst 0) index_width (value_at names (tys.Int index_width) inst 1)
step_says names (elements.Layout layout) index_width place inst =
    says.layout_step (result_of inst) (layout_name names.layouts layout) (value_at names tys.Ptr inst 0)
    index_width (value_at names (tys.Int index_width) inst 1) (option_map place_says place)

abbrev pub load_says : Names → Instruction → Statement
load_says names inst = says.load (result_of inst) (word_of inst.ty) (value_at names tys.Ptr inst 0)

abbrev pub store_says : Names → Instruction → Statement
store_says names inst = says.store (word_of inst.ty) (value_at names inst.ty inst 0) (value_at names tys.Ptr inst 1)

-- an entry of a "deopt" bundle, as a use of its value
abbrev pub kept_says : Names → Ty × Operand → Val × TypeWord
kept_says names entry = (value_says names entry.0 entry.1, word_of entry.0)

abbrev pub call_says : Names → Callee → List Ty → Instruction → Statement
call_says names callee tys inst =
    says.call inst.result (says.calling (word_of inst.ty) (callee_name names callee)
    (map (λ argument. passed_says names argument.0 argument.1) (zip tys inst.operands)) (map (kept_says names) inst.bundle))

-- a parameter of a callee; that of a function's name is a plain pointer
abbrev pub parameter_says : Ty → TypeWord
parameter_says tys.Void = types.Plain
parameter_says ty = word_of ty

-- a number of so many bits
abbrev pub number_says : ℕ → Operand → Literal
number_says width (operands.Int number) = literal_of (signed width number)
number_says width _ = literal_of (pos 0)

-- a token, by its name
abbrev pub token_says : Names → Operand → List ℕ
token_says names (operands.Value value) = value_name names.func value.0
token_says names _ = []

-- what a statepoint calls, passes and keeps
abbrev pub made_says : Names → ℕ → Callee → List Ty → Instruction → Guarded
made_says names id callee takes inst = record {
  id = literal_of (signed 64 id);
  signature = record { answer = word_of inst.ty; parameters = map parameter_says takes };
  callee = callee_name names callee;
  count = literal_of (pos (length takes));
  passed = map (λ argument. passed_says names argument.0 argument.1) (zip takes inst.operands);
  kept = map (kept_says names) inst.bundle;
}

-- the operands behind the arguments are the live entries
abbrev pub statepoint_says : Names → ℕ → Callee → List Ty → Instruction → Statement
statepoint_says names id callee takes inst =
    says.statepoint (result_of inst) (made_says names id callee takes inst) (map (value_says names tys.Ptr) (drop (length takes) inst.operands))

abbrev pub gc_result_says : Names → Instruction → Statement
gc_result_says names inst = says.gc_result (result_of inst) (word_of inst.ty) (token_says names (operand_at inst 0))

abbrev pub gc_relocate_says : Names → Instruction → Statement
gc_relocate_says names inst =
    says.gc_relocate (result_of inst) (token_says names (operand_at inst 0)) (number_says 32 (operand_at inst 1)) (number_says 32 (operand_at inst 2))

abbrev pub jump_says : Names → Instruction → Statement
jump_says names inst = says.jump (target_at names inst 0)

abbrev pub branch_says : Names → Instruction → Statement
branch_says names inst = says.branch (value_at names (tys.Int 1) inst 0) (target_at names inst 0) (target_at names inst 1)

abbrev pub case_says : Names → Ty → Operand × BlockId → Statement
case_says names ty entry = says.switch_case (width_in ty) (value_says names ty entry.0) (label_says names entry.1)

-- its first line, a line for each case, and its last line
abbrev pub switch_says : Names → Instruction → List Statement
switch_says names inst =
    says.switch (width_in inst.ty) (value_at names inst.ty inst 0) (target_at names inst 0)
    ∷ (map (case_says names inst.ty) (zip (drop 1 inst.operands) (drop 1 inst.labels)) ++ says.switch_end ∷ [])

abbrev pub return_says : Names → Ty → Instruction → Statement
return_says names tys.Void inst = says.ret_void
return_says names ty inst = says.ret (word_of ty) (value_at names ty inst 0)

-- the lines of an instruction, by its operator
abbrev pub operator_says : Names → Op → Instruction → List Statement
operator_says names ops.Add inst = binary_says names binaries.Add inst ∷ []
operator_says names ops.Sub inst = binary_says names binaries.Sub inst ∷ []
operator_says names ops.Mul inst = binary_says names binaries.Mul inst ∷ []
operator_says names ops.Udiv inst = binary_says names binaries.Udiv inst ∷ []
operator_says names ops.Sdiv inst = binary_says names binaries.Sdiv inst ∷ []
operator_says names ops.Urem inst = binary_says names binaries.Urem inst ∷ []
operator_says names ops.Srem inst = binary_says names binaries.Srem inst ∷ []
operator_says names ops.And inst = binary_says names binaries.And inst ∷ []
operator_says names ops.Or inst = binary_says names binaries.Or inst ∷ []
operator_says names ops.Xor inst = binary_says names binaries.Xor inst ∷ []
operator_says names ops.Shl inst = binary_says names binaries.Shl inst ∷ []
operator_says names ops.Lshr inst = binary_says names binaries.Lshr inst ∷ []
operator_says names ops.Ashr inst = binary_says names binaries.Ashr inst ∷ []
operator_says names (ops.Icmp pred) inst = compare_says names pred inst ∷ []
operator_says names (ops.Trunc width) inst = convert_says names conversions.Trunc width inst ∷ []
operator_says names (ops.Zext width) inst = convert_says names conversions.Zext width inst ∷ []
operator_says names (ops.Sext width) inst = convert_says names conversions.Sext width inst ∷ []
operator_says names ops.Select inst = select_says names inst ∷ []
operator_says names ops.Phi inst = phi_says names inst ∷ []
operator_says names (ops.Gep elem index_width place) inst = step_says names elem index_width place inst ∷ []
operator_says names ops.Load inst = load_says names inst ∷ []
operator_says names ops.Store inst = store_says names inst ∷ []
operator_says names (ops.Call callee tys) inst = call_says names callee tys inst ∷ []
operator_says names (ops.Statepoint id callee takes) inst = statepoint_says names id callee takes inst ∷ []
operator_says names ops.GcResult inst = gc_result_says names inst ∷ []
operator_says names ops.GcRelocate inst = gc_relocate_says names inst ∷ []
operator_says names ops.Br inst = jump_says names inst ∷ []
operator_says names ops.CondBr inst = branch_says names inst ∷ []
operator_says names ops.Switch inst = switch_says names inst
operator_says names ops.Ret inst = return_says names inst.ty inst ∷ []
operator_says names ops.Unreachable inst = says.unreachable ∷ []

abbrev pub instruction_says : Names → Instruction → List Statement
instruction_says names inst = operator_says names inst.op inst

-- ---- functions

-- a block's label line, and its instructions
abbrev pub block_says : Names → BasicBlock → List Statement
block_says names block = says.label block.name ∷ flat_map (instruction_says names) block.insts

abbrev pub argument_says : Arg → Named
argument_says arg = record { ty = word_of arg.ty; name = Some arg.name }

abbrev pub function_says : List ObjectLayout → List Function → Function → List Statement
function_says layouts funcs func =
    says.define (word_of func.answer) func.name (map argument_says func.args) (Some (codes "statepoint-example"))
    ∷ (flat_map (block_says (record { layouts = layouts; funcs = funcs; func = func })) func.blocks ++ says.close ∷ [])

-- ---- layouts and declarations

abbrev pub layout_says : ObjectLayout → Statement
layout_says layout = says.layout layout.name (map cell_word layout.fields)

-- parameters of these types, without names
abbrev pub unnamed : List TypeWord → List Named
unnamed words = map (λ ty. record { ty = ty; name = None }) words

-- the declaration of an external; those of the three families are dropped
abbrev pub declaration_says : List ObjectLayout → External → List Statement
declaration_says layouts (externs.New layout) =
    says.declare types.Managed (codes "gc_new." ++ layout_name layouts layout) (unnamed (types.Int 64 ∷ [])) ∷ []
declaration_says layouts externs.Print = says.declare types.Void (codes "print_i64") (unnamed (types.Int 64 ∷ [])) ∷ []
declaration_says layouts externs.Read = says.declare (types.Int 64) (codes "read_i64") [] ∷ []
declaration_says layouts externs.TaskStart = says.declare types.Void (codes "task_start") (unnamed (types.Plain ∷ types.Managed ∷ [])) ∷ []
declaration_says layouts externs.Poll = says.declare types.Void (codes "gc.safepoint_poll") [] ∷ []
declaration_says layouts externs.Check = says.declare types.Void (codes "gc_check") (unnamed (types.Managed ∷ types.Managed ∷ types.Int 64 ∷ [])) ∷ []
declaration_says layouts externs.Same = says.declare (types.Int 1) (codes "gc_same") (unnamed (types.Managed ∷ types.Managed ∷ types.Managed ∷ types.Managed ∷ [])) ∷ []
declaration_says layouts _ = []

abbrev pub declaration_if_called : List ObjectLayout → List Function → External → List Statement
declaration_if_called layouts funcs external = if calls funcs external then declaration_says layouts external else []

-- ---- the module

-- the layouts, the declarations of the externals that the module calls, and the functions
unfoldable pub said_by : ModuleContent → List Statement
said_by content =
    map layout_says content.layouts
    ++ (flat_map (declaration_if_called content.layouts content.funcs) (externals content.layouts)
    ++ flat_map (function_says content.layouts content.funcs) content.funcs)
