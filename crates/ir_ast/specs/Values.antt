-- The values of a function: its arguments first, and then the results of its instructions in text order.
use Rattle.std.specs.Prelude.{◌≡◌, ℕ, List, [], ◌++◌, map, filter, Some, is_some, slice_get, unwrap_or}
use Rattle.ir_ast.specs.declared.types.Ty.{Ty}
use Rattle.ir_ast.specs.declared.types.Ty.TheVariants.{Int, Token}
use Rattle.ir_ast.specs.declared.funcs.Arg.{Arg}
use Rattle.ir_ast.specs.declared.ops.Op.{Op}
use Rattle.ir_ast.specs.declared.ops.Op.TheVariants.{Icmp, Trunc, Zext, Sext, Statepoint}
use Rattle.ir_ast.specs.Insts.{Instruction}
use Rattle.ir_ast.specs.Funcs.{Function, instructions_of}

-- what gives a value
pub data Definition : Type 0 where
  argument : Arg → Definition
  outcome : Instruction → Definition

-- the definitions of all values, by the value's number
abbrev pub definitions_of : Function → List Definition
definitions_of func =
    map argument func.args ++ map outcome (filter (λ inst. is_some inst.result) (instructions_of func.blocks))

-- the type of an instruction's result, from its operator and the type of its line
abbrev pub outcome_type : Op → Ty → Ty
outcome_type (Icmp pred) ty = Int 1
outcome_type (Trunc width) ty = Int width
outcome_type (Zext width) ty = Int width
outcome_type (Sext width) ty = Int width
outcome_type (Statepoint id callee types) ty = Token
outcome_type _ ty = ty

abbrev pub definition_type : Definition → Ty
definition_type (argument arg) = arg.ty
definition_type (outcome inst) = outcome_type inst.op inst.ty

abbrev pub definition_name : Definition → List ℕ
definition_name (argument arg) = arg.name
definition_name (outcome inst) = unwrap_or inst.result []

-- the types of all values, by the value's number
abbrev pub value_types : Function → List Ty
value_types func = map definition_type (definitions_of func)

-- the value with this number is the result of this instruction
abbrev pub Gives : Function → ℕ → Instruction → Type 0
Gives func value inst = slice_get (definitions_of func) value ≡ Some (outcome inst)
