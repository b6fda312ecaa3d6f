use Rattle.std.proofs.Common.{◌≡◌, ◌++◌, ◌-◌, map, take, drop}
use Rattle.frame_walk.specs.Maps.{deopt_places, pairs_of}
use Rattle.machine_meaning.specs.TrapLines.{shown_at}
use Rattle.trap_frames.specs.DeoptLines.{shown_text}
use Rattle.trap_frames.proofs.values.fill_values.Given as goal

abbrev pub invariant-loop-index : goal.invariant-loop-index
invariant-loop-index g l =
    map shown_text l.values.items
    ++ map (shown_at (g.M.FrameMap.constants l.map) (g.H.Objects.stands l.objects) l.words (pairs_of (g.R.FrameRecord.entry l.one)))
    (take (l.end - l.index) (drop l.index (g.R.FrameRecord.entry l.one).places))
    ≡ map (shown_at (g.M.FrameMap.constants l.map) (g.H.Objects.stands l.objects) l.words (pairs_of (g.R.FrameRecord.entry l.one))) (deopt_places (g.R.FrameRecord.entry l.one))
