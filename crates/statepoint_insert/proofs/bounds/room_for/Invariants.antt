use Rattle.std.proofs.Common.{◌<◌, take}
use Rattle.std.specs.List.{All}
use Rattle.std.specs.Global.{Vec}
use Rattle.sp_ids.specs.declared.ids.ValueId.{ValueId}
use Rattle.statepoint_insert.proofs.bounds.room_for.Given as goal

abbrev pub invariant-loop-list : goal.invariant-loop-list
invariant-loop-list l = All (λ (list : Vec ValueId). All (λ (value : ValueId). value.0 < l.room) list.items) (take l.list-index l.lists)
