use Rattle.test_passes.proofs.passes.polled.Goals as goal

pub place-requires : goal.place-requires
place-requires c = (c.sources_are_ready.ensures c.args.source.content c.requires).room

pub returns : goal.returns
returns c = rw c.in_ok-place.ensures.placed ((c.sources_are_ready.ensures c.args.source.content c.requires).ready)
