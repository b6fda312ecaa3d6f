-- What operators on numbers do, as `flat_code` names it.
use Rattle.std.specs.Prelude.{◌≡◌, ℕ, true, List, [], Option, Some, None, Ok}
use Rattle.std.specs.List.{list_all}
use Rattle.ir_ast.specs.declared.types.Ty.{Ty}
use Rattle.ir_ast.specs.declared.types.Ty.TheVariants.{Void, Int, Ptr, Token}
use Rattle.ir_ast.specs.declared.ops.Pred.{Pred}
use Rattle.ir_ast.specs.declared.ops.Op.{Op}
use Rattle.ir_ast.specs.declared.ops.Op.TheVariants.{Add, Sub, Mul, Udiv, Sdiv, Urem, Srem, And, Or, Xor, Shl, Lshr, Ashr, Icmp, Trunc, Zext, Sext}
use Rattle.ir_ast.specs.declared.ops.Operand.{Operand}
use Rattle.ir_ast.specs.Objects.{number}
use Rattle.ir_ast.specs.Operands.{is_literal}
use Rattle.object_meaning.specs.Computing.{value_of_line}
use Rattle.object_meaning.specs.Numbers.{width_of}
use Rattle.flat_code.specs.declared.lines.Action.{Action}
use Rattle.flat_code.specs.declared.lines.Action.TheVariants as actions
use Rattle.known_values.specs.Onward.{computes}

abbrev pub number_comparison : Pred → Ty → Option Action
number_comparison pred Ptr = None
number_comparison pred Void = Some (actions.Compare pred)
number_comparison pred (Int width) = Some (actions.Compare pred)
number_comparison pred Token = Some (actions.Compare pred)

-- the action of an operator on numbers
abbrev pub number_action : Op → Ty → Option Action
number_action Add ty = Some actions.Add
number_action Sub ty = Some actions.Sub
number_action Mul ty = Some actions.Mul
number_action Udiv ty = Some actions.Udiv
number_action Sdiv ty = Some actions.Sdiv
number_action Urem ty = Some actions.Urem
number_action Srem ty = Some actions.Srem
number_action And ty = Some actions.And
number_action Or ty = Some actions.Or
number_action Xor ty = Some actions.Xor
number_action Shl ty = Some actions.Shl
number_action Lshr ty = Some actions.Lshr
number_action Ashr ty = Some actions.Ashr
number_action (Icmp pred) ty = number_comparison pred ty
number_action (Trunc to) ty = Some actions.Truncate
number_action (Zext to) ty = Some actions.Widen
number_action (Sext to) ty = Some (actions.SignExtend (width_of (Int to)))
number_action _ ty = None

-- the width at which it does so
abbrev pub number_width : Op → Ty → ℕ
number_width (Trunc to) ty = width_of (Int to)
number_width _ ty = width_of ty

-- an operator gives a literal of literals alone
pub record GivesLiteral (op : Op) (ty : Ty) (operands : List Operand) (literal : ℕ) : Type 0 where
  pub computing : computes op ≡ true
  pub literals : list_all is_literal operands ≡ true
  pub gives : value_of_line [] [] op ty operands ≡ Ok (number literal)
