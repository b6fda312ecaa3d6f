-- A module before liveness that `IsBefore` holds of: a pointer that is live around a loop with a poll.
use Rattle.std.proofs.Common.{◌≡◌, ℕ, zero, suc, ◌<◌, ◌≤◌, true, false, List, [], ◌∷◌, length, refl, ap, sym, arith, Option, Some, None, subst, slice_get, inl, inr, ◌∙◌}
use Rattle.object_meaning.specs.Jumps.{phi_count, label_at, branch_taken}
use Rattle.object_meaning.specs.Registers.{is_set}
use Rattle.object_meaning.specs.Frames.{is_member}
use Rattle.ir_ast.specs.Faults.GroupShape.{is_statepoint}
use Rattle.ir_ast.specs.Faults.PhiEdges.{is_phi}
use Rattle.ir_ast.specs.Ops.{is_terminator}
use Rattle.std.proofs.lemmas.Bool.{cases_Bool, false≢true}
use Rattle.std.specs.Prelude.{codes}
use Rattle.sp_ids.specs.declared.ids.BlockId.{BlockId}
use Rattle.ir_ast.specs.declared.types.Ty.{Ty}
use Rattle.ir_ast.specs.declared.types.Ty.TheVariants.{Void, Int as I, Ptr}
use Rattle.ir_ast.specs.declared.modules.Form.TheVariants.{Source}
use Rattle.ir_ast.specs.declared.ops.Operand.{Operand}
use Rattle.ir_ast.specs.declared.ops.Operand.TheVariants.{Value, Int as Literal}
use Rattle.ir_ast.specs.declared.ops.Callee.{Callee}
use Rattle.ir_ast.specs.declared.ops.Callee.TheVariants.{New, Poll, Check}
use Rattle.ir_ast.specs.declared.ops.Op.{Op}
use Rattle.ir_ast.specs.declared.ops.Op.TheVariants.{Call, Br, CondBr, Ret}
use Rattle.ir_ast.specs.Insts.{Instruction}
use Rattle.ir_ast.specs.Funcs.{Function}
use Rattle.ir_ast.specs.Modules.{ModuleContent}
use Rattle.ir_ast.specs.Objects.{Datum}
use Rattle.object_meaning.specs.Lines.{Line, register_count}
use Rattle.rewriting_forms.specs.Numbered.{lines_at, line_at}
use Rattle.rewriting_forms.specs.Names.{joins_of}
use Rattle.rewriting_laws.specs.Laws.{IsPlain, IsReached, Reached, at_first, over, Edge, LeadsByEdges}
use Rattle.rewriting_laws.specs.Related.{ArgumentsFit}
use Rattle.rewriting_laws.specs.Statements.{IsBefore, no_function, func_of, rewritings}
use Rattle.rewriting_laws.proofs.VersionLaws.{no_lines}

abbrev v : ℕ → Operand
v n = Value (record { 0 = n })

abbrev b : ℕ → BlockId
b n = record { 0 = n }

abbrev i : Option (List ℕ) → Op → Ty → List Operand → List BlockId → Instruction
i result op ty operands labels = record { result = result; op = op; ty = ty; operands = operands; labels = labels; bundle = [] }

abbrev loop : Function
loop = record {
  name = codes "main";
  answer = (I 64);
  args = [];
  blocks =
      record {
        name = codes "entry";
        insts =
            i (Some (codes "o")) (Call (New 0) ((I 64) ∷ [])) Ptr (Literal 1 ∷ []) []
            ∷ i None Br Void [] (b 1 ∷ [])
            ∷ [];
      }
      ∷ record {
        name = codes "l";
        insts =
            i None (Call Poll []) Void [] []
            ∷ i None (Call Check (Ptr ∷ Ptr ∷ (I 64) ∷ [])) Void (v 0 ∷ v 0 ∷ Literal 0 ∷ []) []
            ∷ i None CondBr (I 1) (Literal 1 ∷ []) (b 1 ∷ b 2 ∷ [])
            ∷ [];
      }
      ∷ record {
        name = codes "j";
        insts =
            i None Ret (I 64) (Literal 3 ∷ []) []
            ∷ [];
      }
      ∷ [];
}

abbrev looping : ModuleContent
looping = record { layouts = []; funcs = loop ∷ []; form = Source }

abbrev bases : ℕ → List Operand
bases g = v 0 ∷ []

-- the loop has an inserted phi
joins_there : joins_of loop (bases 0) 1 0 ≡ true
joins_there = refl

is_line : (P : Line → Type 0) (x line : Line) → Some x ≡ Some line → P x → P line
is_line P x line is holds = let e : x ≡ line = cc in subst P e holds

-- what is true of each line
each_line : (P : ℕ → ℕ → Line → Type 0) → P 0 0 (line_at loop 0 0) → P 0 1 (line_at loop 0 1) → P 1 0 (line_at loop 1 0) → P 1 1 (line_at loop 1 1)
    → P 1 2 (line_at loop 1 2) → P 2 0 (line_at loop 2 0) → (b k : ℕ) (line : Line) → slice_get (lines_at loop b) k ≡ Some line → P b k line
each_line P a c d e f g zero zero line is = is_line (P 0 0) (line_at loop 0 0) line is a
each_line P a c d e f g zero (suc zero) line is = is_line (P 0 1) (line_at loop 0 1) line is c
each_line P a c d e f g zero (suc (suc k)) line is = absurd (let h : None ≡ Some line = is in cc)
each_line P a c d e f g (suc zero) zero line is = is_line (P 1 0) (line_at loop 1 0) line is d
each_line P a c d e f g (suc zero) (suc zero) line is = is_line (P 1 1) (line_at loop 1 1) line is e
each_line P a c d e f g (suc zero) (suc (suc zero)) line is = is_line (P 1 2) (line_at loop 1 2) line is f
each_line P a c d e f g (suc zero) (suc (suc (suc k))) line is = absurd (let h : None ≡ Some line = is in cc)
each_line P a c d e f g (suc (suc zero)) zero line is = is_line (P 2 0) (line_at loop 2 0) line is g
each_line P a c d e f g (suc (suc zero)) (suc k) line is = absurd (let h : None ≡ Some line = is in cc)
each_line P a c d e f g (suc (suc (suc n))) k line is =
    let none = no_lines loop (bases 0) (suc (suc (suc n))) (omega arith) in
    let h : slice_get [] k ≡ Some line = ap (λ (ls : List Line). slice_get ls k) (sym none) ∙ is in
    absurd (cc)

no_line_of : {A : Type 0} (n k : ℕ) (line : Line) → slice_get (lines_at no_function n) k ≡ Some line → A
no_line_of n k line is =
    let none = no_lines no_function [] n (omega arith) in
    let h : slice_get [] k ≡ Some line = ap (λ (ls : List Line). slice_get ls k) (sym none) ∙ is in
    absurd (cc)

branches : (datum : Datum) → Edge loop 1 (label_at (b 1 ∷ b 2 ∷ []) (branch_taken datum))
branches datum = elim (cases_Bool (is_set datum)) [
  | inl is ↦ rw is refl
  | inr not ↦ rw not refl
]

same_types : (callee other : Callee) (types others : List Ty) → let op : Op = Call callee types in op ≡ Call other others → length others ≡ length types
same_types callee other types others is = let e : others ≡ types = cc in ap length e

same_fit : (callee other : Callee) (types others : List Ty) (operands : List Operand) → ArgumentsFit (rewritings looping bases) callee operands
    → let op : Op = Call callee types in op ≡ Call other others → ArgumentsFit (rewritings looping bases) other operands
same_fit callee other types others operands fits is = let e : callee ≡ other = cc in subst (λ c. ArgumentsFit (rewritings looping bases) c operands) e fits

loop_plain : IsPlain loop 1
loop_plain = record {
  entry = refl;
  last = each_line (λ n k line. is_terminator line.inst.op ≡ true → (suc k ≡ length (lines_at loop n)) × (line.to ≡ None))
      (λ is. absurd (false≢true is)) (λ is. (refl, refl)) (λ is. absurd (false≢true is)) (λ is. absurd (false≢true is)) (λ is. (refl, refl)) (λ is. (refl, refl));
  leads = each_line (λ n k line. LeadsByEdges loop n line line.inst.op) tt refl tt tt branches tt;
  phis = each_line (λ n k line. is_phi line.inst.op ≡ true → k < phi_count (lines_at loop n))
      (λ is. absurd (false≢true is)) (λ is. absurd (false≢true is)) (λ is. absurd (false≢true is)) (λ is. absurd (false≢true is))
      (λ is. absurd (false≢true is)) (λ is. absurd (false≢true is));
  no_statepoint = each_line (λ n k line. is_statepoint line.inst.op ≡ false) refl refl refl refl refl refl;
  no_member = each_line (λ n k line. is_member line.inst.op ≡ false) refl refl refl refl refl refl;
  arguments = λ n k line callee types stands. each_line (λ n k line. line.inst.op ≡ Call callee types → length types ≡ length line.inst.operands)
      (same_types (New 0) callee (I 64 ∷ []) types) (λ is. absurd (cc)) (same_types Poll callee [] types)
      (same_types Check callee (Ptr ∷ Ptr ∷ I 64 ∷ []) types) (λ is. absurd (cc)) (λ is. absurd (cc)) n k line stands;
  room_line = λ n k x line stands. each_line (λ n k line. line.to ≡ Some x → x < 1)
      (λ is. let e : 0 ≡ x = cc in omega (arith, e)) (λ is. absurd (cc)) (λ is. absurd (cc)) (λ is. absurd (cc)) (λ is. absurd (cc)) (λ is. absurd (cc)) n k line stands;
}

loop_reached : IsReached loop
loop_reached = record {
  entry = refl;
  blocks = each;
}
  where
    each : (n : ℕ) → n < length loop.blocks → Reached loop n
    each zero below = at_first
    each (suc zero) below = over 0 1 at_first refl
    each (suc (suc zero)) below = over 1 2 (over 0 1 at_first refl) refl
    each (suc (suc (suc n))) below = absurd (omega arith)

nothing_plain : IsPlain no_function 0
nothing_plain = record {
  entry = refl;
  last = λ n k line stands is. no_line_of n k line stands;
  leads = λ n k line stands. no_line_of n k line stands;
  phis = λ n k line stands is. no_line_of n k line stands;
  no_statepoint = λ n k line stands. no_line_of n k line stands;
  no_member = λ n k line stands. no_line_of n k line stands;
  arguments = λ n k line callee types stands is. no_line_of n k line stands;
  room_line = λ n k x line stands is. no_line_of n k line stands;
}

nothing_reached : IsReached no_function
nothing_reached = record { entry = refl; blocks = λ n below. absurd (omega arith) }

pub looping_before : IsBefore looping bases
looping_before = record { plain = plain; graph = graph; few_arguments = few; arguments = arguments }
  where
    plain : (g : ℕ) → IsPlain (func_of looping g) (register_count looping g)
    plain zero = loop_plain
    plain (suc g) = nothing_plain

    graph : (g : ℕ) → IsReached (func_of looping g)
    graph zero = loop_reached
    graph (suc g) = nothing_reached

    few : (g : ℕ) → length (func_of looping g).args ≤ register_count looping g
    few zero = omega arith
    few (suc g) = omega arith

    arguments : (g n k : ℕ) (line : Line) (callee : Callee) (types : List Ty) → slice_get (lines_at (func_of looping g) n) k ≡ Some line
        → line.inst.op ≡ Call callee types → ArgumentsFit (rewritings looping bases) callee line.inst.operands
    arguments zero n k line callee types stands = each_line (λ n k line. line.inst.op ≡ Call callee types → ArgumentsFit (rewritings looping bases) callee line.inst.operands)
        (same_fit (New 0) callee (I 64 ∷ []) types (Literal 1 ∷ []) tt) (λ is. absurd (cc)) (same_fit Poll callee [] types [] tt)
        (same_fit Check callee (Ptr ∷ Ptr ∷ I 64 ∷ []) types (v 0 ∷ v 0 ∷ Literal 0 ∷ []) tt) (λ is. absurd (cc)) (λ is. absurd (cc)) n k line stands
    arguments (suc g) n k line callee types stands = λ is. no_line_of n k line stands
