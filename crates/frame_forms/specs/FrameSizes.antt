-- Frames: while a frame waits at a statepoint it keeps the live entries in words of 8 bytes, entry i at [SP + 8 i],
-- and behind them the integers that the "deopt" bundle names.
use Rattle.std.specs.Prelude.{ℕ, ◌+◌, ◌*◌, Bool, true, false, List, length, drop, map, fold, max, count_by}
use Rattle.ir_ast.specs.declared.types.Ty.{Ty}
use Rattle.ir_ast.specs.declared.types.Ty.TheVariants.{Int}
use Rattle.ir_ast.specs.declared.ops.Operand.{Operand}
use Rattle.ir_ast.specs.declared.ops.Operand.TheVariants.{Value}
use Rattle.ir_ast.specs.declared.ops.Op.{Op}
use Rattle.ir_ast.specs.declared.ops.Op.TheVariants.{Statepoint}
use Rattle.ir_ast.specs.Insts.{Instruction}
use Rattle.ir_ast.specs.Funcs.{Function, instructions_of}

-- the slot of a word of a frame, in bytes from its stack pointer
abbrev pub slot : ℕ → ℕ
slot word = 8 * word

abbrev names_value : Operand → Bool
names_value (Value value) = true
names_value operand = false

-- an integer of a bundle that isn't a literal
abbrev pub is_named_integer : Ty → Operand → Bool
is_named_integer (Int width) operand = names_value operand
is_named_integer ty operand = false

-- the words of an instruction with this operator, these operands and this bundle
abbrev pub words_of : Op → List Operand → List (Ty × Operand) → ℕ
words_of (Statepoint id callee types) operands bundle =
    length (drop (length types) operands) + count_by (λ entry. is_named_integer entry.0 entry.1) bundle
words_of op operands bundle = 0

abbrev pub words_at : Instruction → ℕ
words_at inst = words_of inst.op inst.operands inst.bundle

-- as many as the statepoint with the most asks for
abbrev pub frame_words : Function → ℕ
frame_words func = fold max 0 (map words_at (instructions_of func.blocks))

abbrev pub frame_bytes : Function → ℕ
frame_bytes func = 8 * frame_words func
