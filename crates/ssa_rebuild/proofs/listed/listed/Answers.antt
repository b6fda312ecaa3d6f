use Rattle.std.proofs.Common.{◌∙◌, ◌∷◌, [], Bool, false, ◌||◌, List, map, take, get_or, ap}
use Rattle.std.specs.List.{list_any}
use Rattle.std.proofs.lemmas.List.{take_all, map-append}
use Rattle.rewriting_forms.specs.Numbered.{among}
use Rattle.statepoint_insert.specs.declared.groups.Relocate.{Relocate}
use Rattle.statepoint_insert.specs.Groups.{GroupContent}
use Rattle.ssa_rebuild.specs.Rows.{group_list}
use Rattle.ssa_rebuild.proofs.MarkLemmas.{listed_more}
use Rattle.ssa_rebuild.proofs.listed.listed.Goals as goal
use Rattle.list_laws.proofs.Places.{take_item}

pub loop-group-init : goal.loop-group-init
loop-group-init c v = ap (λ (ms : List Bool). get_or ms v false) c.new-marks.ensures.items

pub loop-group-preserved : goal.loop-group-preserved
loop-group-preserved c v =
    let groups = c.args.groups.now in
    let i = c.loop-group.group-index in
    let group = c.group-item.result in
    let more = ap (map group_list) (take_item groups i group c.loop-group-test.true c.group-item.is) ∙ map-append group_list (take i groups) (group ∷ []) in
    listed_more v (map group_list (take i groups)) _ (group_list group) c.loop-group.marks.items c.mark_all.new.marks.items more (c.loop-group.invariant v)
    (c.in_ok-mark_all.ensures.each v ∙ ap (λ (rs : List Relocate). among v (map (λ relocate. relocate.value.0) rs) || get_or c.loop-group.marks.items v false) c.relocates.ensures)

pub returns : goal.returns
returns c v = c.loop-group.invariant v ∙ ap (λ (gs : List GroupContent). list_any (among v) (map group_list gs)) (take_all c.loop-group.group-index c.args.groups.now c.loop-group-test.false)
