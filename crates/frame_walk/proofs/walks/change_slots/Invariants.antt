use Rattle.std.proofs.Common.{◌≡◌}
use Rattle.std.specs.Prelude.{map}
use Rattle.frame_walk.specs.Maps.{pairs_from, pairs_of}
use Rattle.frame_walk.specs.Walks.{write_slots, slot_write}
use Rattle.frame_walk.proofs.walks.change_slots.Given as goal

abbrev pub invariant-loop-pair : goal.invariant-loop-pair
invariant-loop-pair g l =
    write_slots (map (slot_write l.moves.moves l.old) (pairs_from l.pair-iterator.at (g.R.FrameRecord.entry l.pair-iterator.one.now))) l.words
    ≡ write_slots (map (slot_write l.moves.moves l.old) (pairs_of (g.R.FrameRecord.entry l.one))) l.initial.words
