use Rattle.std.proofs.Common.{ℕ, List, Some, sym, ap, ◌∙◌}
use Rattle.std.specs.Prelude.{slice_get}
use Rattle.std.proofs.lemmas.Option.{slice_get-get_or}
use Rattle.ir_ast.specs.Insts.{Instruction}
use Rattle.flat_code.specs.Spots.{insts_at}
use Rattle.flat_code.proofs.decode.decode_block.Goals as goal

pub take-requires-clause-there : goal.take-requires-clause-there
take-requires-clause-there c =
    let defined = c.args.source.now.defined in
    ap (λ (block : ℕ). slice_get (insts_at defined block) c.loop-at.draft.spot.at) c.loop-at.invariant.block
    ∙ ap (λ (place : ℕ). slice_get (insts_at defined c.args.draft.spot.block) place) c.loop-at.invariant.place
    ∙ ap (λ (insts : List Instruction). slice_get insts c.loop-at.at) (sym c.insts-insts.ensures.value)
    ∙ slice_get-get_or c.insts-insts.result.now c.loop-at.at c.index-insts-at.result c.loop-at-test.true
    ∙ ap (λ (inst : Instruction). Some inst) (sym c.index-insts-at.is)
