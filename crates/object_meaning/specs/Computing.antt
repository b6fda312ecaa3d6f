-- The lines that compute a value from values alone.
use Rattle.std.specs.Prelude.{ℕ, ◌+◌, ◌*◌, ◌/◌, if◌then◌else◌, List, Option, Some, Result, Ok, Err}
use Rattle.std.specs.Int.{w64, cast_unsigned}
use Rattle.sp_ids.specs.Numbers.{signed}
use Rattle.sp_ids.specs.declared.ends.Trap.{Trap}
use Rattle.ir_ast.specs.declared.types.Ty.{Ty}
use Rattle.ir_ast.specs.declared.types.Ty.TheVariants.{Int}
use Rattle.ir_ast.specs.declared.ops.Elem.{Elem}
use Rattle.ir_ast.specs.declared.ops.Elem.TheVariants.{Int as Integer, Ptr, Layout}
use Rattle.ir_ast.specs.declared.ops.Op.{Op}
use Rattle.ir_ast.specs.declared.ops.Op.TheVariants.{Icmp, Trunc, Zext, Sext, Select, Gep}
use Rattle.ir_ast.specs.declared.ops.Operand.{Operand}
use Rattle.ir_ast.specs.declared.cells.Cell.TheVariants as cells
use Rattle.ir_ast.specs.Layouts.{ObjectLayout}
use Rattle.ir_ast.specs.Sizes.{bytes, size_of, begins_at, fields_in}
use Rattle.ir_ast.specs.Objects.{Pointer, Datum, number, pointer, advanced}
use Rattle.object_meaning.specs.Numbers.{width_of, arithmetic, truncated, sign_extended}
use Rattle.object_meaning.specs.Comparisons.{compares, bit}
use Rattle.object_meaning.specs.Registers.{operand, number_in, pointer_in, is_set}

-- the bytes of a source element
abbrev pub element_bytes : List ObjectLayout → Elem → ℕ
element_bytes layouts (Integer width) = width / 8
element_bytes layouts Ptr = bytes cells.Ptr
element_bytes layouts (Layout layout) = size_of (fields_in layouts layout)

-- where a field of a source element begins
abbrev pub field_bytes : List ObjectLayout → Elem → Option ℕ → ℕ
field_bytes layouts (Layout layout) (Some place) = begins_at (fields_in layouts layout) place
field_bytes layouts elem place = 0

-- `getelementptr E, P from, iN index`: the index is signed, and all is modulo 2^64 (LLVM Language Reference,
-- "'getelementptr' Instruction")
abbrev pub address_of : List ObjectLayout → Elem → ℕ → Option ℕ → Pointer → ℕ → Pointer
address_of layouts elem index_width place from index =
    advanced from (cast_unsigned w64 (signed index_width index) * element_bytes layouts elem + field_bytes layouts elem place)

abbrev pub with_number : Result ℕ Trap → Result Datum Trap
with_number (Ok value) = Ok (number value)
with_number (Err trap) = Err trap

-- the value of a line with this operator and type, of its first three operands; what computes none gives 0
abbrev pub computed : List ObjectLayout → Op → Ty → Datum → Datum → Datum → Result Datum Trap
computed layouts (Icmp pred) ty first second third = Ok (number (bit (compares pred ty first second)))
computed layouts (Trunc to) ty first second third = Ok (number (truncated (width_of (Int to)) (number_in first)))
computed layouts (Zext to) ty first second third = Ok (number (number_in first))
computed layouts (Sext to) ty first second third =
    Ok (number (sign_extended (width_of ty) (width_of (Int to)) (number_in first)))
computed layouts Select ty first second third = Ok (if is_set first then second else third)
computed layouts (Gep elem index_width place) ty first second third =
    Ok (pointer (address_of layouts elem (width_of (Int index_width)) place (pointer_in first) (number_in second)))
computed layouts op ty first second third = with_number (arithmetic op (width_of ty) (number_in first) (number_in second))

abbrev pub value_of_line : List ObjectLayout → List Datum → Op → Ty → List Operand → Result Datum Trap
value_of_line layouts registers op ty operands =
    computed layouts op ty (operand registers operands 0) (operand registers operands 1) (operand registers operands 2)
