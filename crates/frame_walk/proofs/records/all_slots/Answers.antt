use Rattle.std.proofs.Common.{◌+◌, ◌&&◌, sym, ap, ◌∙◌, arith, drop}
use Rattle.std.specs.List.{list_all}
use Rattle.std.proofs.lemmas.List.{drop_all}
use Rattle.frame_walk.specs.Maps.{is_slot}
use Rattle.frame_walk.proofs.RecordLemmas.{all_from}
use Rattle.frame_walk.proofs.records.all_slots.Goals as goal

pub returns-then-not-is_slot : goal.returns-then-not-is_slot
returns-then-not-is_slot g c =
    let places = (g.R.FrameRecord.entry c.args.one.now).places in
    let test = is_slot c.args.frame_bytes in
    sym (sym c.loop-index.invariant ∙ all_from test places c.loop-index.index c.place.result c.place.ensures
    ∙ ap (λ b. b && list_all test (drop (c.loop-index.index + 1) places)) (sym c.is_slot.ensures ∙ c.if-not-is_slot.true))

pub loop-index-preserved : goal.loop-index-preserved
loop-index-preserved g c =
    let places = (g.R.FrameRecord.entry c.args.one.now).places in
    let test = is_slot c.args.frame_bytes in
    sym (all_from test places c.loop-index.index c.place.result c.place.ensures
    ∙ ap (λ b. b && list_all test (drop (c.loop-index.index + 1) places)) (sym c.is_slot.ensures ∙ c.if-not-is_slot.false))
    ∙ c.loop-index.invariant

pub returns : goal.returns
returns g c =
    let places = (g.R.FrameRecord.entry c.args.one.now).places in
    sym (ap (list_all (is_slot c.args.frame_bytes)) (drop_all c.loop-index.index places (omega (arith, c.places-index-end.ensures, c.loop-index-test.false)))) ∙ c.loop-index.invariant
