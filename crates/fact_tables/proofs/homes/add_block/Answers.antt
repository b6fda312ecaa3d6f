use Rattle.std.proofs.Common.{◌≡◌, ◌∙◌, sym, ap, length, subst, slice_get, refl, List, arith, ℕ}
use Rattle.std.proofs.lemmas.Option.{slice_get_read}
use Rattle.ir_ast.specs.Insts.{Instruction}
use Rattle.fact_tables.specs.Homes.{KnowsHomes}
use Rattle.fact_tables.proofs.LineLemmas.{insts_are}
use Rattle.fact_tables.proofs.HomeLemmas.{homes_next}
use Rattle.fact_tables.proofs.homes.add_block.Goals as goal

pub add_result-requires-clause-inst : goal.add_result-requires-clause-inst
add_result-requires-clause-inst c =
    let same = c.insts-inst-items.ensures.value ∙ sym (insts_are c.args.func.now.content c.args.number c.args.block.now c.requires.block) in
    ap (λ (insts : List Instruction). slice_get insts c.loop-place.place) (sym same)
    ∙ slice_get_read c.insts-inst-items.result.now (length c.insts-inst-items.result.now) c.loop-place.place c.inst-item.result refl c.loop-place-test.true c.inst-item.is

pub returns : goal.returns
returns c =
    let same : length c.insts-inst-items.result.now ≡ length c.args.block.now.insts = ap length c.insts-inst-items.ensures.value in
    let all : c.loop-place.place ≡ length c.args.block.now.insts = omega arith in
    homes_next c.args.func.now.content c.args.number c.args.block.now c.loop-place.homes.items c.requires.block
    (subst (λ (n : ℕ). KnowsHomes c.args.func.now.content c.args.number n c.loop-place.homes.items) all c.loop-place.invariant)
