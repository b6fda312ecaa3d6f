use Rattle.std.proofs.Common.{◌∙◌, ◌<◌, sym, arith, length}
use Rattle.version_walk.proofs.ForestLemmas.{list_is}
use Rattle.ssa_rebuild.proofs.TakeLemmas.{takes_pop}
use Rattle.ssa_rebuild.proofs.arrivals.take_number.Goals as goal

pub returns : goal.returns
returns c =
    let rows = c.args.rows.now in
    let block = c.args.block.0 in
    let below : block < length rows = omega (arith, c.if-at-rows.false) in
    let room : block < length c.args.arrivals.now.places.items = omega (arith, c.if-at-len.false, c.len.ensures) in
    takes_pop rows c.as_slice.result.now block c.args.value.0 c.args.arrivals.now c.pop.new.arrivals
    (c.as_slice.ensures.value ∙ sym (list_is rows block c.index-rows-at.result below c.index-rows-at.is)) below room c.in_ok-pop.ensures
