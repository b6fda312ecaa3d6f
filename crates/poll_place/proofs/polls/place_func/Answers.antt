use Rattle.poll_place.proofs.PlacedLemmas.{small_placed}
use Rattle.poll_place.proofs.polls.place_func.Goals as goal

pub of-requires : goal.of-requires
of-requires c =
    rw (c.in_ok-with_polls.ensures, c.into_parts-name.ensures.args, c.into_parts-name.ensures.blocks)
    (small_placed c.args.func.content.args c.args.func.content.blocks c.into_parts-name.ensures.small c.requires)
