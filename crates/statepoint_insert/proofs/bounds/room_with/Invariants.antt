use Rattle.std.proofs.Common.{◌<◌, ◌≤◌, take}
use Rattle.std.specs.List.{All}
use Rattle.sp_ids.specs.declared.ids.ValueId.{ValueId}
use Rattle.statepoint_insert.proofs.bounds.room_with.Given as goal

abbrev pub invariant-loop-value : goal.invariant-loop-value
invariant-loop-value l = record {
  grows : l.room ≤ l.most;
  room : All (λ (value : ValueId). value.0 < l.most) (take l.value-index l.list);
}
