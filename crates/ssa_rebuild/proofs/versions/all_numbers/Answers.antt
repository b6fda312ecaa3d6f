use Rattle.std.proofs.Common.{◌∙◌, ◌≡◌, ℕ, List, [], ◌∷◌, refl, ap, length, map, subst}
use Rattle.std.specs.Global.{Vec}
use Rattle.sp_ids.specs.declared.ids.ValueId.{ValueId}
use Rattle.ir_ast.specs.Funcs.{Function}
use Rattle.rewriting_forms.specs.Names.{full_naming}
use Rattle.rewriting_forms.specs.Numbered.{preds}
use Rattle.statepoint_insert.specs.Groups.{GroupContent, groups_of, numbers_in}
use Rattle.version_walk.specs.declared.slots.Slot.{Slot}
use Rattle.ssa_rebuild.specs.Rows.{body_rows, group_list, entries_all}
use Rattle.ssa_rebuild.specs.Arrivals.{HoldsAll, arriving_numbers}
use Rattle.ssa_rebuild.proofs.RebuiltLaws.{arrived}
use Rattle.ssa_rebuild.proofs.versions.all_numbers.Goals as goal

both : (rows : List (Vec Slot)) → map (λ row. length row.items) rows ≡ map (λ row. length row) (map (λ row. row.items) rows)
both [] = refl
both (row ∷ rows) = ap (λ (ns : List ℕ). length row.items ∷ ns) (both rows)

pub solve-requires-clause-bodies : goal.solve-requires-clause-bodies
solve-requires-clause-bodies c =
    let func = c.func-func.result.now.content in
    let lists : List (List ℕ) = map (λ (join : Vec ValueId). numbers_in join.items) c.args.joins.now in
    c.in_ok-bodies.ensures
    ∙ ap (λ (gs : List GroupContent). body_rows (map group_list gs) lists 0 (length func.args) func.blocks) (c.groups-groups.ensures.value ∙ c.groups-groups.ensures.whole)
    ∙ ap (λ (f : Function). body_rows (map group_list (groups_of c.args.marked.now.before c.args.marked.now.table)) lists 0 (length f.args) f.blocks) c.func-func.ensures.value

pub returns-clause-entries : goal.returns-clause-entries
returns-clause-entries c =
    let func = c.args.marked.now.before in
    let table = c.args.marked.now.table in
    let joins = c.args.joins.now in
    let lists : List (List ℕ) = map (λ (join : Vec ValueId). numbers_in join.items) joins in
    let rows = c.in_ok-rows.rows.items in
    let places = c.in_ok-places.places.items in
    let entries = c.in_ok-entries.entries.items in
    let groups = c.groups-groups.result.now in
    let same = c.func-func.ensures.value in
    let lengths : places ≡ map (λ row. length row) (body_rows (map group_list groups) lists 0 (length func.args) func.blocks) =
    c.in_ok-places.ensures ∙ ap (map (λ (row : Vec Slot). length row.items)) c.as_slice-2.ensures.value ∙ both c.in_ok-bodies.bodies.items
    ∙ ap (map (λ (row : List Slot). length row)) (c.in_ok-bodies.ensures ∙ ap (λ (f : Function). body_rows (map group_list groups) lists 0 (length f.args) f.blocks) same) in
    let held : HoldsAll rows places entries (entries_all (preds func) lists 0 func.blocks) (λ here. arriving_numbers here (preds func) lists 0 func.blocks) =
    subst (λ (f : Function). HoldsAll rows places entries (entries_all (preds f) lists 0 f.blocks) (λ here. arriving_numbers here (preds f) lists 0 f.blocks)) same
    (subst (λ (rs : List (Vec Slot)). HoldsAll rs places entries (entries_all (preds c.func-func.result.now.content) lists 0 c.func-func.result.now.content.blocks) (λ here. arriving_numbers here (preds c.func-func.result.now.content) lists 0 c.func-func.result.now.content.blocks))
    c.as_slice-3.ensures.value c.in_ok-entries.ensures) in
    arrived func table (full_naming func table) joins c.requires.joins.whole c.requires.joins.each groups rows places entries
    (c.groups-groups.ensures.value ∙ c.groups-groups.ensures.whole) c.in_ok-rows.ensures lengths held
