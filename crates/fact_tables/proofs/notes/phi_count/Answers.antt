use Rattle.std.proofs.Common.{◌≡◌, ◌∙◌, inl, inr, ℕ, true, false, sym, ap, refl, length, slice_get, arith}
use Rattle.std.proofs.lemmas.Bool.{cases_lt}
use Rattle.std.proofs.lemmas.Option.{slice_get_read, slice_get_within, same_Some}
use Rattle.ir_ast.specs.Insts.{Instruction}
use Rattle.ir_ast.specs.Faults.PhiEdges.{is_phi}
use Rattle.fact_tables.proofs.NoteLemmas.{prefix_is}
use Rattle.fact_tables.proofs.notes.phi_count.Goals as goal

pub returns-then-not-is_phi : goal.returns-then-not-is_phi
returns-then-not-is_phi c =
    let at = slice_get_read c.args.insts.now (length c.args.insts.now) c.loop-place.place c.index-insts-place.result refl c.loop-place-test.true c.index-insts-place.is in
    let none : is_phi c.index-insts-place.result.op ≡ false = cc (c.op.ensures, c.is_phi.ensures, c.if-not-is_phi.true) in
    sym (prefix_is c.args.insts.now c.loop-place.place (omega arith) c.loop-place.invariant
    (λ inst there. ap (λ (i : Instruction). is_phi i.op) (same_Some inst c.index-insts-place.result (sym there ∙ at)) ∙ none))

pub loop-place-preserved : goal.loop-place-preserved
loop-place-preserved c = λ k inst below there.
    let at = slice_get_read c.args.insts.now (length c.args.insts.now) c.loop-place.place c.index-insts-place.result refl c.loop-place-test.true c.index-insts-place.is in
    let own : is_phi c.index-insts-place.result.op ≡ true = cc (c.op.ensures, c.is_phi.ensures, c.if-not-is_phi.false) in
    elim (cases_lt k c.loop-place.place) [
      | inl less ↦ c.loop-place.invariant k inst less there
      | inr past ↦ (let same : k ≡ c.loop-place.place = omega arith in
          ap (λ (i : Instruction). is_phi i.op) (same_Some inst c.index-insts-place.result (sym there ∙ ap (λ (n : ℕ). slice_get c.args.insts.now n) same ∙ at)) ∙ own)
    ]

pub returns : goal.returns
returns c =
    let all : c.loop-place.place ≡ length c.args.insts.now = omega arith in
    sym (prefix_is c.args.insts.now (length c.args.insts.now) (omega arith)
    (λ k inst below there. c.loop-place.invariant k inst (omega (arith, all)) there)
    (λ inst there. absurd (omega (arith, slice_get_within c.args.insts.now (length c.args.insts.now) inst there))))
