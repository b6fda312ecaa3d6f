-- Lines decoded: where their operands are found, and the bits of their types.
use Rattle.std.specs.Prelude.{ℕ, Bool, true, false, ◌&&◌, is_some, List, slice_get, slice_index}
use Rattle.std.specs.Option.{option_map_or}
use Rattle.ir_ast.specs.declared.ops.Op.{Op}
use Rattle.ir_ast.specs.declared.ops.Op.TheVariants.{Add, Sub, Mul, Udiv, Sdiv, Urem, Srem, And, Or, Xor, Shl, Lshr, Ashr, Icmp, Trunc, Zext, Sext, Select, Gep, Load, Store, Call}
use Rattle.ir_ast.specs.declared.ops.Operand.{Operand}
use Rattle.ir_ast.specs.declared.ops.Operand.TheVariants.{Value, Int}
use Rattle.ir_ast.specs.Insts.{Instruction}
use Rattle.object_meaning.specs.Numbers.{width_of}
use Rattle.machine_lines.specs.declared.decoded.Source.{Source}
use Rattle.machine_lines.specs.declared.decoded.Source.TheVariants.{Register, Literal}
use Rattle.machine_lines.specs.declared.decoded.Decoded.{Decoded}

-- a line that computes a number of numbers
abbrev pub is_plain : Op → Bool
is_plain Add = true
is_plain Sub = true
is_plain Mul = true
is_plain Udiv = true
is_plain Sdiv = true
is_plain Urem = true
is_plain Srem = true
is_plain And = true
is_plain Or = true
is_plain Xor = true
is_plain Shl = true
is_plain Lshr = true
is_plain Ashr = true
is_plain (Icmp pred) = true
is_plain (Trunc to) = true
is_plain (Zext to) = true
is_plain (Sext to) = true
is_plain Select = true
is_plain _ = false

abbrev pub source_of : Operand → Source
source_of (Value id) = Register id.0
source_of (Int number) = Literal number
source_of operand = Literal 0

abbrev pub source_at : List Operand → ℕ → Source
source_at operands place = option_map_or source_of (slice_get operands place) (Literal 0)

-- a line that may stay in its frame
abbrev pub stays : Op → Bool
stays (Gep elem index_width place) = true
stays Load = true
stays Store = true
stays (Call callee types) = true
stays op = is_plain op

abbrev pub decoded_of : Instruction → Decoded
decoded_of inst = record {
  stays = stays inst.op;
  gives = is_some inst.result;
  plain = is_plain inst.op && is_some inst.result;
  width = width_of inst.ty;
  first = source_at inst.operands 0;
  second = source_at inst.operands 1;
  third = source_at inst.operands 2;
}

-- the word at a source; a register that isn't there is 0
abbrev pub found_word : List ℕ → Source → ℕ
found_word registers (Register place) = slice_index registers place
found_word registers (Literal word) = word
