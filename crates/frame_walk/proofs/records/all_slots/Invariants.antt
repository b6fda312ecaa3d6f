use Rattle.std.proofs.Common.{◌≡◌, drop}
use Rattle.std.specs.List.{list_all}
use Rattle.frame_walk.specs.Maps.{is_slot}
use Rattle.frame_walk.proofs.records.all_slots.Given as goal

abbrev pub invariant-loop-index : goal.invariant-loop-index
invariant-loop-index g l = list_all (is_slot l.frame_bytes) (drop l.index (g.R.FrameRecord.entry l.one).places) ≡ list_all (is_slot l.frame_bytes) (drop l.first (g.R.FrameRecord.entry l.one).places)
