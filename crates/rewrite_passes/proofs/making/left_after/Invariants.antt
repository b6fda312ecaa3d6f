use Rattle.std.proofs.Common.{◌≡◌, ◌+◌, length, take}
use Rattle.std.specs.List.{sum_by}
use Rattle.std.specs.Global.{Vec}
use Rattle.sp_ids.specs.declared.ids.ValueId.{ValueId}
use Rattle.rewrite_passes.proofs.making.left_after.Given as goal

abbrev pub invariant-loop-list : goal.invariant-loop-list
invariant-loop-list l = l.rest + sum_by (λ (list : Vec ValueId). length list.items) (take l.list-index l.list-items) ≡ l.left
