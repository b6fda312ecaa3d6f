use Rattle.poll_place.proofs.PlacedLemmas.{ends_placed}
use Rattle.poll_place.proofs.blocks.place_block.Goals as goal

pub of-requires : goal.of-requires
of-requires c =
    rw (c.in_ok-all.ensures, c.in_ok-before_end.ensures)
    (ends_placed c.args.number _ (rw c.into_parts-name.ensures.insts c.into_parts-name.ensures.ends))
