use Rattle.std.proofs.Common.{◌+◌, ◌-◌, ◌++◌, ℕ, List, map, take, drop, ap, ◌∙◌}
use Rattle.frame_walk.specs.Maps.{deopt_places, pairs_of}
use Rattle.machine_meaning.specs.TrapLines.{shown_at}
use Rattle.trap_frames.specs.declared.deopts.Shown.{Shown}
use Rattle.trap_frames.specs.DeoptLines.{shown_text}
use Rattle.trap_frames.proofs.ValueLemmas.{value_more}
use Rattle.trap_frames.proofs.values.fill_values.Goals as goal

pub loop-index-preserved : goal.loop-index-preserved
loop-index-preserved g c =
    let entry = g.R.FrameRecord.entry c.args.one.now in
    let f = shown_at (g.M.FrameMap.constants c.args.map.now) (g.H.Objects.stands c.args.objects.now) c.args.words.now (pairs_of entry) in
    let end : ℕ = 3 + c.deopt_count-end.result in
    ap (λ (items : List Shown). map shown_text items ++ map f (take (end - (c.loop-index.index + 1)) (drop (c.loop-index.index + 1) entry.places))) c.in_ok-push.ensures.items
    ∙ value_more f entry.places c.loop-index.index end c.place.result c.loop-index.values.items c.shown_at.result (map f (deopt_places entry))
    c.place.ensures c.loop-index-test.true c.shown_at.ensures c.loop-index.invariant
