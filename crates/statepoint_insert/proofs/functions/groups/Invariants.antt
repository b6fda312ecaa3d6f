use Rattle.std.proofs.Common.{◌≡◌, ◌<◌, length, map, take}
use Rattle.std.specs.List.{All}
use Rattle.std.specs.Global.{Vec}
use Rattle.sp_ids.specs.declared.ids.ValueId.{ValueId}
use Rattle.statepoint_insert.specs.Groups.{numbers_in, group_of}
use Rattle.statepoint_insert.specs.Ranks.{IsBlank}
use Rattle.statepoint_insert.proofs.functions.groups.Given as goal

abbrev pub invariant-loop-list : goal.invariant-loop-list
invariant-loop-list l = record {
  groups : l.groups.items ≡ map (λ (list : Vec ValueId). group_of l.bases (numbers_in list.items)) (take l.list-index l.lists);
  blank : IsBlank l.row.items;
  room : All (λ (list : Vec ValueId). All (λ (value : ValueId). value.0 < length l.row.items) list.items) l.lists;
}
