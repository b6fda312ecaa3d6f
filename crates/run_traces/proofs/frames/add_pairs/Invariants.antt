use Rattle.std.proofs.Common.{◌≡◌, ◌++◌, map}
use Rattle.frame_walk.specs.Maps.{pairs_from, pairs_of}
use Rattle.machine_meaning.specs.Happenings.{slot_change}
use Rattle.run_traces.specs.Changes.{change_of}
use Rattle.run_traces.proofs.frames.add_pairs.Given as goal

abbrev pub invariant-loop-pair : goal.invariant-loop-pair
invariant-loop-pair g l =
    map change_of l.changes.items ++ map (slot_change l.task l.frame l.before l.after) (pairs_from l.pair-iterator.at (g.R.FrameRecord.entry l.pair-iterator.one.now))
    ≡ map change_of l.initial.changes.items ++ map (slot_change l.task l.frame l.before l.after) (pairs_of (g.R.FrameRecord.entry l.one))
