use Rattle.std.proofs.Common.{◌∙◌, ℕ, List, [], ◌∷◌, ◌++◌, map, take, drop, length, ap, sym}
use Rattle.std.specs.List.{filter, range_with_len}
use Rattle.std.specs.Global.{Vec}
use Rattle.sp_ids.specs.declared.ids.ValueId.{ValueId}
use Rattle.version_walk.specs.declared.slots.Slot.{Slot}
use Rattle.version_walk.specs.Forest.{list_at}
use Rattle.ssa_rebuild.specs.Answers.{number_of}
use Rattle.thin_phis.specs.Thinned.{stays, number_now}
use Rattle.thin_phis.specs.Runs.{row_left}
use Rattle.thin_phis.proofs.CountLemmas.{range_push}
use Rattle.thin_phis.proofs.rows.thin_rows.Goals as goal
use Rattle.list_laws.proofs.Places.{map_append}

abbrev left_of : List ℕ → List Slot → ℕ → List ℕ
left_of ends row count =
    map (number_now ends) (filter (stays ends) (map number_of (take count row))) ++ map (number_now ends) (map number_of (drop count row))

pub loop-block-preserved : goal.loop-block-preserved
loop-block-preserved c =
    let joins = c.args.joins.now in
    let rows = c.args.rows.now in
    let ends = c.args.numbers.now in
    let b = c.loop-block.block in
    let done = map (row_left joins rows ends) (range_with_len 0 b) in
    ap (map (λ (row : Vec Slot). map number_of row.items)) c.in_ok-push.ensures.items
    ∙ map_append (λ (row : Vec Slot). map number_of row.items) c.loop-block.after.items (c.in_ok-thin_row.field-0 ∷ [])
    ∙ ap (λ (nss : List (List ℕ)). nss ++ map number_of c.in_ok-thin_row.field-0.items ∷ []) c.loop-block.invariant
    ∙ ap (λ (ns : List ℕ). done ++ ns ∷ [])
    (c.in_ok-thin_row.ensures
    ∙ ap (λ (ss : List Slot). left_of ends ss (length c.join_at.result.now)) c.row_at.ensures
    ∙ ap (λ (vs : List ValueId). left_of ends (list_at rows b) (length vs)) c.join_at.ensures)
    ∙ sym (range_push (row_left joins rows ends) b)
