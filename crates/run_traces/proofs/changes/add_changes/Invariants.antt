use Rattle.std.proofs.Common.{◌≡◌, ◌++◌, ◌+◌, ◌-◌, ◌≤◌, drop, length, map}
use Rattle.machine_meaning.specs.Happenings.{changes_from}
use Rattle.run_traces.specs.Changes.{change_of}
use Rattle.run_traces.proofs.changes.add_changes.Given as goal

abbrev pub invariant-frames : goal.invariant-frames
invariant-frames g l = record {
  within : l.place ≤ length l.stack;
  frames : l.frame ≤ l.place;
  so_far : map change_of l.changes.items
      ++ changes_from (length l.stack - l.frame + 1) (g.M.FrameMap.found l.index) l.moves.moves l.task l.frame l.next (drop l.place l.stack)
      ≡ map change_of l.initial.changes.items
      ++ changes_from (length l.stack + 1) (g.M.FrameMap.found l.index) l.moves.moves l.task 0 l.address l.stack;
}

abbrev pub decreases-frames : goal.decreases-frames
decreases-frames g l = length l.stack - l.place
