use Rattle.std.proofs.Common.{◌∙◌, ap, sym, arith, length, map, get_or, []}
use Rattle.sp_ids.specs.declared.ids.BlockId.{BlockId}
use Rattle.live_sets.specs.Ends.{Places}
use Rattle.live_sets.proofs.EndLemmas.{fronts_length, front_of}
use Rattle.live_sets.proofs.ends.Backward.sources.Goals as goal

pub preds-requires : goal.preds-requires
preds-requires c =
    let long = ap (λ (places : Places). length places.fronts) c.self.view_is in
    let all = fronts_length c.self.inside.cfg.now in
    omega (arith, long, all, c.requires)

pub returns : goal.returns
returns c =
    let graph = c.self.inside.cfg.now in
    let long = ap (λ (places : Places). length places.fronts) c.self.view_is in
    let all = fronts_length graph in
    ap (map (λ (from : BlockId). from.0)) c.preds.ensures
    ∙ sym (front_of graph c.args.block (omega (arith, long, all, c.requires))) ∙ ap (λ (places : Places). get_or places.fronts c.args.block []) c.self.view_is
