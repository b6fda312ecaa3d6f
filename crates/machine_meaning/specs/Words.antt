-- Lines on words: a pointer is one word, so `null` is the number 0, and pointers are compared as numbers.
use Rattle.std.specs.Prelude.{ℕ, List, map}
use Rattle.ir_ast.specs.declared.types.Ty.{Ty}
use Rattle.ir_ast.specs.declared.types.Ty.TheVariants.{Int as Integer, Ptr}
use Rattle.ir_ast.specs.declared.ops.Op.{Op}
use Rattle.ir_ast.specs.declared.ops.Op.TheVariants.{Icmp}
use Rattle.ir_ast.specs.declared.ops.Operand.{Operand}
use Rattle.ir_ast.specs.declared.ops.Operand.TheVariants.{Int, Null}
use Rattle.ir_ast.specs.Insts.{Instruction}
use Rattle.object_meaning.specs.Lines.{Line}
use Rattle.object_meaning.specs.States.{Setting}

abbrev pub worded_operand : Operand → Operand
worded_operand Null = Int 0
worded_operand operand = operand

abbrev pub worded_type : Op → Ty → Ty
worded_type (Icmp pred) Ptr = Integer 64
worded_type op ty = ty

abbrev pub worded_instruction : Instruction → Instruction
worded_instruction inst =
    record inst { ty = worded_type inst.op inst.ty; operands = map worded_operand inst.operands }

abbrev pub worded : Line → Line
worded line = record line { inst = worded_instruction line.inst }

abbrev pub worded_lines : (ℕ → ℕ → List Line) → ℕ → ℕ → List Line
worded_lines lines func block = map worded (lines func block)

abbrev pub worded_setting : Setting → Setting
worded_setting setting = record setting { lines = worded_lines setting.lines }
