use Rattle.std.proofs.Common.{◌≡◌, ℕ, None}
use Rattle.frame_walk.specs.Maps.{pairs_from, pairs_of}
use Rattle.trap_frames.specs.Bases.{base_in}
use Rattle.trap_frames.proofs.BaseLemmas.{base_from}
use Rattle.trap_frames.proofs.bases.fill_bases.Given as goal

abbrev pub invariant-loop-pair : goal.invariant-loop-pair
invariant-loop-pair g l = (word : ℕ)
    → base_from (base_in l.bases.items word) (pairs_from l.pair-iterator.at (g.R.FrameRecord.entry l.pair-iterator.one.now)) word ≡ base_from None (pairs_of (g.R.FrameRecord.entry l.one)) word
