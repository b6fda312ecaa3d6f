-- Instructions that compute a value from values and can't trap.
use Rattle.std.specs.Prelude.{ℕ, ◌-◌, ◌^◌, Bool, true, false, not, ◌==◌, ◌&&◌, nat_lt, Option, Some, slice_get}
use Rattle.ir_ast.specs.declared.ops.Operand.{Operand}
use Rattle.ir_ast.specs.declared.ops.Operand.TheVariants.{Int}
use Rattle.ir_ast.specs.declared.ops.Op.{Op}
use Rattle.ir_ast.specs.declared.ops.Op.TheVariants.{Add, Sub, Mul, Udiv, Sdiv, Urem, Srem, And, Or, Xor, Shl, Lshr, Ashr, Icmp, Trunc, Zext, Sext, Select, Phi, Gep}
use Rattle.ir_ast.specs.Insts.{Instruction}
use Rattle.object_meaning.specs.Numbers.{width_of}

-- a divisor by which no division traps: a literal other than 0
abbrev pub divides : Option Operand → Bool
divides (Some (Int number)) = not (number == 0)
divides _ = false

-- and other than -1 where the division is signed
abbrev pub divides_signed : ℕ → Option Operand → Bool
divides_signed width (Some (Int number)) = not (number == 0) && not (number == 2 ^ width - 1)
divides_signed width _ = false

-- an amount by which no shift traps: a literal below the width
abbrev pub shifts : ℕ → Option Operand → Bool
shifts width (Some (Int number)) = nat_lt number width
shifts width _ = false

-- an operator at integers of this width, with this second operand
abbrev pub is_pure_at : ℕ → Option Operand → Op → Bool
is_pure_at width second Add = true
is_pure_at width second Sub = true
is_pure_at width second Mul = true
is_pure_at width second Udiv = divides second
is_pure_at width second Sdiv = divides_signed width second
is_pure_at width second Urem = divides second
is_pure_at width second Srem = divides_signed width second
is_pure_at width second And = true
is_pure_at width second Or = true
is_pure_at width second Xor = true
is_pure_at width second Shl = shifts width second
is_pure_at width second Lshr = shifts width second
is_pure_at width second Ashr = shifts width second
is_pure_at width second (Icmp pred) = true
is_pure_at width second (Trunc to) = true
is_pure_at width second (Zext to) = true
is_pure_at width second (Sext to) = true
is_pure_at width second Select = true
is_pure_at width second Phi = true
is_pure_at width second (Gep elem index_width place) = true
is_pure_at width second _ = false

abbrev pub is_pure : Instruction → Bool
is_pure inst = is_pure_at (width_of inst.ty) (slice_get inst.operands 1) inst.op
