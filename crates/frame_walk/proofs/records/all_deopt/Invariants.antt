use Rattle.std.proofs.Common.{◌≡◌, ◌-◌, take, drop}
use Rattle.std.specs.List.{list_all}
use Rattle.frame_walk.specs.Maps.{is_deopt}
use Rattle.frame_walk.proofs.records.all_deopt.Given as goal

abbrev pub invariant-loop-index : goal.invariant-loop-index
invariant-loop-index g l =
    list_all (is_deopt l.frame_bytes) (take (l.end - l.index) (drop l.index (g.R.FrameRecord.entry l.one).places))
    ≡ list_all (is_deopt l.frame_bytes) (take (l.end - 3) (drop 3 (g.R.FrameRecord.entry l.one).places))
