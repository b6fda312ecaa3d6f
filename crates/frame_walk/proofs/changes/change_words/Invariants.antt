use Rattle.std.proofs.Common.{◌-◌, ◌≤◌, length}
use Rattle.frame_walk.proofs.ChangeLemmas.{Follows}
use Rattle.frame_walk.proofs.changes.change_words.Given as goal

abbrev pub invariant-loop-next : goal.invariant-loop-next
invariant-loop-next g l = record {
  within : l.place ≤ length l.words;
  so_far : Follows _ (g.M.FrameMap.found l.map) g.C.FrameChange.does l.address l.fn.change l.fn.words l.next l.change l.place l.words;
}

abbrev pub decreases-loop-next : goal.decreases-loop-next
decreases-loop-next g l = length l.words - l.place
