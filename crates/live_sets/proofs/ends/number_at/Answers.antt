use Rattle.std.proofs.Common.{get_or}
use Rattle.std.proofs.lemmas.Option.{slice_get-get_or}
use Rattle.sp_ids.specs.declared.ids.BlockId.{BlockId}
use Rattle.ir_cfg.specs.Graphs.{block_at}
use Rattle.list_laws.proofs.Places.{get_map}
use Rattle.live_sets.proofs.ends.number_at.Goals as goal

pub returns : goal.returns
returns c =
    let blocks = c.args.blocks.now in
    get_map (λ (from : BlockId). from.0) blocks c.args.place (get_or blocks c.args.place (block_at 0)) (slice_get-get_or blocks c.args.place (block_at 0) c.requires)
