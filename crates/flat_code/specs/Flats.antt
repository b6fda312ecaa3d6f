-- Decoded lines: which lines of a module they are of, and what they do.
use Rattle.std.specs.Prelude.{◌≡◌, ℕ, ◌%◌, ◌^◌, Bool, true, false, ◌||◌, if◌then◌else◌, List, [], ◌∷◌, ◌++◌, Option, unwrap_or, slice_get, Result, Ok, Err}
use Rattle.sp_ids.specs.declared.ends.Trap.{Trap}
use Rattle.ir_ast.specs.declared.types.Ty.{Ty}
use Rattle.ir_ast.specs.declared.types.Ty.TheVariants.{Void, Int as Integer, Ptr, Token}
use Rattle.ir_ast.specs.declared.ops.Pred.{Pred}
use Rattle.ir_ast.specs.declared.ops.Op.{Op}
use Rattle.ir_ast.specs.declared.ops.Op.TheVariants.{Add, Sub, Mul, Udiv, Sdiv, Urem, Srem, And, Or, Xor, Shl, Lshr, Ashr, Icmp, Trunc, Zext, Sext, Select, Gep, Load, Store}
use Rattle.ir_ast.specs.declared.ops.Operand.{Operand}
use Rattle.ir_ast.specs.declared.ops.Operand.TheVariants.{Int}
use Rattle.ir_ast.specs.Layouts.{ObjectLayout}
use Rattle.ir_ast.specs.Objects.{Datum, Object}
use Rattle.ir_ast.specs.Faults.PhiEdges.{is_phi}
use Rattle.object_meaning.specs.Lines.{Line}
use Rattle.object_meaning.specs.Numbers.{width_of}
use Rattle.object_meaning.specs.Registers.{nothing, value, pointer_in, put}
use Rattle.object_meaning.specs.Computing.{element_bytes, field_bytes}
use Rattle.object_meaning.specs.Accesses.{Place, accessed, cell_of, loaded, stored}
use Rattle.flat_code.specs.declared.lines.Action.{Action}
use Rattle.flat_code.specs.declared.lines.Action.TheVariants as actions
use Rattle.flat_code.specs.declared.lines.Action.TheVariants.{Load as Loads, Store as Stores}
use Rattle.flat_code.specs.declared.lines.FlatLine.{FlatLine}
use Rattle.flat_code.specs.Actions.{acted, IsSized}

-- a line that takes effect in its frame and on objects alone
abbrev pub is_straight : Op → Bool
is_straight Add = true
is_straight Sub = true
is_straight Mul = true
is_straight Udiv = true
is_straight Sdiv = true
is_straight Urem = true
is_straight Srem = true
is_straight And = true
is_straight Or = true
is_straight Xor = true
is_straight Shl = true
is_straight Lshr = true
is_straight Ashr = true
is_straight (Icmp pred) = true
is_straight (Trunc to) = true
is_straight (Zext to) = true
is_straight (Sext to) = true
is_straight Select = true
is_straight (Gep elem index_width place) = true
is_straight Load = true
is_straight Store = true
is_straight _ = false

abbrev pub comparison : Pred → Ty → Action
comparison pred Ptr = actions.ComparePointers pred
comparison pred Void = actions.Compare pred
comparison pred (Integer width) = actions.Compare pred
comparison pred Token = actions.Compare pred

-- what a line with this operator and type does
abbrev pub action_of : List ObjectLayout → Op → Ty → Action
action_of layouts Add ty = actions.Add
action_of layouts Sub ty = actions.Sub
action_of layouts Mul ty = actions.Mul
action_of layouts Udiv ty = actions.Udiv
action_of layouts Sdiv ty = actions.Sdiv
action_of layouts Urem ty = actions.Urem
action_of layouts Srem ty = actions.Srem
action_of layouts And ty = actions.And
action_of layouts Or ty = actions.Or
action_of layouts Xor ty = actions.Xor
action_of layouts Shl ty = actions.Shl
action_of layouts Lshr ty = actions.Lshr
action_of layouts Ashr ty = actions.Ashr
action_of layouts (Icmp pred) ty = comparison pred ty
action_of layouts (Trunc to) ty = actions.Truncate
action_of layouts (Zext to) ty = actions.Widen
action_of layouts (Sext to) ty = actions.SignExtend (width_of (Integer to))
action_of layouts Select ty = actions.Select
action_of layouts (Gep elem index_width place) ty =
    actions.Advance (element_bytes layouts elem % 2 ^ 64) (field_bytes layouts elem place)
action_of layouts Load ty = actions.Load (cell_of ty)
action_of layouts Store ty = actions.Store (cell_of ty)
action_of layouts _ ty = actions.Nothing

-- the bits that it works on
abbrev pub width_at : Op → Ty → ℕ
width_at (Trunc to) ty = width_of (Integer to)
width_at (Gep elem index_width place) ty = width_of (Integer index_width)
width_at op ty = width_of ty

-- what isn't there is 0
abbrev pub operand_at : List Operand → ℕ → Operand
operand_at operands place = unwrap_or (slice_get operands place) (Int 0)

abbrev pub flat_line : List ObjectLayout → Line → FlatLine
flat_line layouts line = record {
  action = action_of layouts line.inst.op line.inst.ty;
  width = width_at line.inst.op line.inst.ty;
  to = line.to;
  first = operand_at line.inst.operands 0;
  second = operand_at line.inst.operands 1;
  third = operand_at line.inst.operands 2;
}

-- the decoded lines of these; a phi took effect at the jump
abbrev pub flat_lines : List ObjectLayout → List Line → List FlatLine
flat_lines layouts [] = []
flat_lines layouts (line ∷ lines) =
    (if is_phi line.inst.op then [] else flat_line layouts line ∷ []) ++ flat_lines layouts lines

abbrev pub is_inner : Line → Bool
is_inner line = is_phi line.inst.op || is_straight line.inst.op

abbrev pub AreInner : List Line → Type 0
AreInner [] = Unit {0}
AreInner (line ∷ lines) = (is_inner line ≡ true) × AreInner lines

-- these are the decoded lines from one place in a block to another
pub record Decodes (layouts : List ObjectLayout) (lines : List Line) (flats : List FlatLine) (rest : List Line) : Type 0 where
  pub front : List Line
  pub splits : lines ≡ front ++ rest
  pub inner : AreInner front
  pub are : flats ≡ flat_lines layouts front

abbrev pub IsSizedLine : FlatLine → Type 0
IsSizedLine line = IsSized line.action line.width

-- what lines work on: the registers of their frame, and objects
pub record Held : Type 0 where
  pub registers : List Datum
  pub objects : List Object

abbrev pub computes : Held → Option ℕ → Result Datum Trap → Result Held Trap
computes held to (Ok datum) = Ok (record held { registers = put to datum held.registers })
computes held to (Err trap) = Err trap

abbrev pub loads : Held → Option ℕ → Result Place Trap → Result Held Trap
loads held to (Ok place) = Ok (record held { registers = put to (loaded held.objects place) held.registers })
loads held to (Err trap) = Err trap

abbrev pub stores : Held → Option ℕ → Datum → Result Place Trap → Result Held Trap
stores held to datum (Ok place) =
    Ok (record { registers = put to nothing held.registers; objects = stored held.objects place datum })
stores held to datum (Err trap) = Err trap

-- an action on three values
abbrev pub acts_on : List ObjectLayout → Held → Option ℕ → ℕ → Datum → Datum → Datum → Action → Result Held Trap
acts_on layouts held to width first second third (Loads cell) =
    loads held to (accessed layouts held.objects cell (pointer_in first))
acts_on layouts held to width first second third (Stores cell) =
    stores held to first (accessed layouts held.objects cell (pointer_in second))
acts_on layouts held to width first second third action = computes held to (acted action width first second third)

abbrev pub line_done : List ObjectLayout → Held → FlatLine → Result Held Trap
line_done layouts held line =
    acts_on layouts held line.to line.width (value held.registers line.first) (value held.registers line.second)
    (value held.registers line.third) line.action

abbrev pub and_then : Result Held Trap → (Held → Result Held Trap) → Result Held Trap
and_then (Ok held) next = next held
and_then (Err trap) next = Err trap

-- one after another, up to a trap
abbrev pub lines_done : List ObjectLayout → Held → List FlatLine → Result Held Trap
lines_done layouts held [] = Ok held
lines_done layouts held (line ∷ lines) = and_then (line_done layouts held line) (λ next. lines_done layouts next lines)
