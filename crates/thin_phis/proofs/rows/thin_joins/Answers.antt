use Rattle.std.proofs.Common.{◌∙◌, List, [], ◌∷◌, ◌++◌, map, ap, sym}
use Rattle.std.specs.List.{range_with_len}
use Rattle.std.specs.Global.{Vec}
use Rattle.sp_ids.specs.declared.ids.ValueId.{ValueId}
use Rattle.version_walk.specs.declared.slots.Slot.{Slot}
use Rattle.version_walk.specs.Forest.{list_at}
use Rattle.ssa_rebuild.specs.Answers.{number_of}
use Rattle.thin_phis.specs.Thinned.{stays}
use Rattle.thin_phis.specs.Runs.{join_left, left_at}
use Rattle.thin_phis.proofs.CountLemmas.{range_push}
use Rattle.thin_phis.proofs.rows.thin_joins.Goals as goal
use Rattle.list_laws.proofs.Places.{map_append}

pub loop-block-preserved : goal.loop-block-preserved
loop-block-preserved c =
    let joins = c.args.joins.now in
    let rows = c.args.rows.now in
    let ends = c.args.numbers.now in
    let b = c.loop-block.block in
    let done = map (join_left joins rows ends) (range_with_len 0 b) in
    ap (map (λ (join : Vec ValueId). join.items)) c.in_ok-push.ensures.items
    ∙ map_append (λ (join : Vec ValueId). join.items) c.loop-block.after.items (c.in_ok-thin_join.field-0 ∷ [])
    ∙ ap (λ (vss : List (List ValueId)). vss ++ c.in_ok-thin_join.field-0.items ∷ []) c.loop-block.invariant
    ∙ ap (λ (vs : List ValueId). done ++ vs ∷ [])
    (c.in_ok-thin_join.ensures
    ∙ ap (λ (vs : List ValueId). left_at (stays ends) vs (map number_of c.inserted.result.now)) c.join_at.ensures
    ∙ ap (λ (ss : List Slot). left_at (stays ends) (list_at joins b) (map number_of ss)) c.inserted.ensures)
    ∙ sym (range_push (join_left joins rows ends) b)
