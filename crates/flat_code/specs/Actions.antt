-- What an action computes.
use Rattle.std.specs.Prelude.{ℕ, ◌+◌, ◌*◌, ◌≤◌, if◌then◌else◌, Result, Ok}
use Rattle.std.specs.Int.{w64, cast_unsigned}
use Rattle.sp_ids.specs.Numbers.{signed}
use Rattle.sp_ids.specs.declared.ends.Trap.{Trap}
use Rattle.ir_ast.specs.declared.ops.Op.TheVariants as ops
use Rattle.ir_ast.specs.Widths.{IsWidth}
use Rattle.ir_ast.specs.Objects.{Datum, number, pointer, advanced}
use Rattle.object_meaning.specs.Numbers.{arithmetic, truncated, sign_extended}
use Rattle.object_meaning.specs.Comparisons.{numbers_compare, pointers_related, same_pointer, bit}
use Rattle.object_meaning.specs.Computing.{with_number}
use Rattle.object_meaning.specs.Registers.{number_in, pointer_in, is_set}
use Rattle.flat_code.specs.declared.lines.Action.{Action}
use Rattle.flat_code.specs.declared.lines.Action.TheVariants.{Add, Sub, Mul, Udiv, Sdiv, Urem, Srem, And, Or, Xor, Shl, Lshr, Ashr, Compare, ComparePointers, Truncate, Widen, SignExtend, Select, Advance}

abbrev pub ExtendsWell : Action → Type 0
ExtendsWell (SignExtend to) = IsWidth to
ExtendsWell action = Unit {0}

pub record IsSized (action : Action) (width : ℕ) : Type 0 where
  pub some_bits : 1 ≤ width
  pub word : width ≤ 64
  pub extends : ExtendsWell action

-- of two numbers
abbrev pub number_done : Action → ℕ → ℕ → ℕ → Result ℕ Trap
number_done Add width left right = arithmetic ops.Add width left right
number_done Sub width left right = arithmetic ops.Sub width left right
number_done Mul width left right = arithmetic ops.Mul width left right
number_done Udiv width left right = arithmetic ops.Udiv width left right
number_done Sdiv width left right = arithmetic ops.Sdiv width left right
number_done Urem width left right = arithmetic ops.Urem width left right
number_done Srem width left right = arithmetic ops.Srem width left right
number_done And width left right = arithmetic ops.And width left right
number_done Or width left right = arithmetic ops.Or width left right
number_done Xor width left right = arithmetic ops.Xor width left right
number_done Shl width left right = arithmetic ops.Shl width left right
number_done Lshr width left right = arithmetic ops.Lshr width left right
number_done Ashr width left right = arithmetic ops.Ashr width left right
number_done (Compare pred) width left right = Ok (bit (numbers_compare pred width left right))
number_done Truncate width left right = Ok (truncated width left)
number_done Widen width left right = Ok left
number_done (SignExtend to) width left right = Ok (sign_extended width to left)
number_done action width left right = Ok 0

-- of three values
abbrev pub acted : Action → ℕ → Datum → Datum → Datum → Result Datum Trap
acted (ComparePointers pred) width first second third =
    Ok (number (bit (pointers_related pred (same_pointer (pointer_in first) (pointer_in second)))))
acted Select width first second third = Ok (if is_set first then second else third)
acted (Advance scale fixed) width first second third =
    Ok (pointer (advanced (pointer_in first) (cast_unsigned w64 (signed width (number_in second)) * scale + fixed)))
acted action width first second third = with_number (number_done action width (number_in first) (number_in second))
