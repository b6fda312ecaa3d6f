use Rattle.std.proofs.Common.{◌++◌, ◌*◌, List, map, refl, sym, ap, ◌∙◌, append-nil}
use Rattle.frame_walk.specs.Maps.{Pair, pairs_from}
use Rattle.frame_walk.specs.Pairs.{pair_of}
use Rattle.machine_meaning.specs.Happenings.{SlotChange as Change, slot_change}
use Rattle.run_traces.specs.Changes.{change_of}
use Rattle.run_traces.proofs.ChangeLemmas.{added, change_is}
use Rattle.run_traces.proofs.frames.add_pairs.Goals as goal

pub loop-pair-preserved : goal.loop-pair-preserved
loop-pair-preserved g c =
    let f : Pair → Change = slot_change c.args.task c.args.frame c.args.before.now c.args.after.now in
    let pair : Pair = pair_of c.in-Some.pair in
    let rest : List Pair = pairs_from c.next.new.self.at (g.R.FrameRecord.entry c.next.new.self.one.now) in
    let same = change_is c.args.task c.args.frame (8 * c.in-Some.pair.derived) c.word_at.result c.word_at-in-loop-pair.result c.in-Some.pair.derived c.args.before.now c.args.after.now pair
    refl c.word_at.ensures c.word_at-in-loop-pair.ensures refl in
    added f c.loop-pair.changes.items c.push.new.self.items _ pair rest c.in_ok-push.ensures.items same
    ∙ ap (λ (pairs : List Pair). map change_of c.loop-pair.changes.items ++ map f pairs) (sym c.in-Some.ensures.steps) ∙ c.loop-pair.invariant

pub returns : goal.returns
returns g c =
    let f : Pair → Change = slot_change c.args.task c.args.frame c.args.before.now c.args.after.now in
    sym (append-nil (map change_of c.loop-pair.changes.items))
    ∙ ap (λ (pairs : List Pair). map change_of c.loop-pair.changes.items ++ map f pairs) (sym c.in-None.ensures.steps.0) ∙ c.loop-pair.invariant
