-- What a target module gives a statepoint that a run stands at: the types of its arguments, and what it calls.
use Rattle.std.proofs.Common.{◌≡◌, ℕ, ◌-◌, true, List, ◌∷◌, ◌++◌, length, map, replicate, refl, sym, ap, subst, Option, Some, None}
use Rattle.std.specs.Prelude.{slice_get}
use Rattle.std.specs.List.{AllZip, Contains}
use Rattle.std.specs.Option.{option_map}
use Rattle.std.proofs.lemmas.Option.{none-some, same_Some}
use Rattle.ir_ast.specs.declared.ops.Callee.{Callee}
use Rattle.ir_ast.specs.declared.ops.Op.{Op}
use Rattle.ir_ast.specs.declared.ops.Op.TheVariants.{Statepoint}
use Rattle.ir_ast.specs.declared.ops.Operand.{Operand}
use Rattle.ir_ast.specs.declared.types.Ty.{Ty}
use Rattle.ir_ast.specs.declared.types.Ty.TheVariants.{Ptr}
use Rattle.ir_ast.specs.Faults.TypeClash.{Fits, IsCallOf, RuleOf, asked}
use Rattle.ir_ast.specs.Funcs.{Function}
use Rattle.ir_ast.specs.Modules.{ModuleContent}
use Rattle.ir_ast.specs.Scope.{Signature, scope_of, signature_of}
use Rattle.ir_ast.specs.Values.{value_types}
use Rattle.object_meaning.specs.Lines.{Line}
use Rattle.object_meaning.specs.States.{State}
use Rattle.pair_facts.specs.declared.bases.Base.TheVariants.{Named}
use Rattle.pair_facts.specs.Lines.{lines_at}
use Rattle.pair_facts.specs.Uses.{escapes, escaping, own_use, passed_to}
use Rattle.moves_unseen.specs.States.{Extra, IsRelated}
use Rattle.moves_unseen.specs.Types.{IsLineOf}
use Rattle.moves_unseen.specs.Waits.{IsSound}
use Rattle.moves_unseen.proofs.LineTypes.{lines_are_typed}
use Rattle.moves_unseen.proofs.StandLaws.{line_here}
use Rattle.moves_unseen.proofs.VerifiedLaws.{pair_stands}

module _ (content : ModuleContent) (sound : IsSound content) (state : State) (extra : Extra) (related : IsRelated content state extra) (line : Line) (rest : List Line)
    (is : state.running.rest ≡ line ∷ rest) (id : ℕ) (callee : Callee) (passed : List Ty) (op_is : line.inst.op ≡ Statepoint id callee passed) where
  here : slice_get (lines_at related.running.func state.running.block) related.running.place ≡ Some line
  here = line_here content state.running related.running.func related.running.place related.running.pairs related.running.at line rest is

  of_line : IsLineOf content related.running.func line
  of_line = lines_are_typed content sound.target state.running.func related.running.func related.running.at.defined state.running.block related.running.place line here

  -- arguments have the types that the line spells, entries are pointers
  pub fits : AllZip (Fits (value_types related.running.func)) line.inst.operands (passed ++ replicate (length line.inst.operands - length passed) Ptr)
  fits = subst (λ (op : Op). AllZip (Fits (value_types related.running.func)) line.inst.operands (asked op line.inst.ty (length line.inst.operands))) op_is of_line.typed.operands

  pub calls_by : IsCallOf (scope_of content related.running.func) callee passed line.inst
  calls_by = subst (λ (op : Op). RuleOf (scope_of content related.running.func) op line.inst) op_is of_line.typed.rule

  -- a pointer that is passed is its own base
  pub own_passed : (from : Operand) → Contains (passed_to callee passed line.inst.operands) from → related.running.pairs from (Named from) ≡ true
  own_passed from contained =
      pair_stands related.running.func state.running.block related.running.place
      (λ code. sound.verified state.running.func state.running.block related.running.place code related.running.func related.running.at.defined)
      5 related.running.place (own_use from)
      (escapes line from here (subst (λ (op : Op). Contains (escaping op line.inst) from) (sym op_is) contained))
      related.running.pairs related.running.at.arrived

-- the function of a signature
pub record IsDefinedAs (content : ModuleContent) (called : ℕ) (types : List Ty) : Type 0 where
  pub func : Function
  pub found : slice_get content.funcs called ≡ Some func
  pub args : map (λ arg. arg.ty) func.args ≡ types

pub defined_as : (content : ModuleContent) (called : ℕ) (signature : Signature) → option_map signature_of (slice_get content.funcs called) ≡ Some signature → IsDefinedAs content called signature.params
defined_as content called signature is = by (slice_get content.funcs called) refl is
  where
    by : (found : Option Function) → slice_get content.funcs called ≡ found → option_map signature_of found ≡ Some signature → IsDefinedAs content called signature.params
    by None here_is none = absurd (none-some signature none)
    by (Some func) here_is some = record { func = func; found = here_is; args = ap (λ (one : Signature). one.params) (same_Some (signature_of func) signature some) }
