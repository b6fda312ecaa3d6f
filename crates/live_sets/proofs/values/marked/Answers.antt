use Rattle.live_sets.proofs.ValueLemmas.{marked_more}
use Rattle.live_sets.proofs.values.marked.Goals as goal

pub loop-number-preserved : goal.loop-number-preserved
loop-number-preserved c =
    marked_more c.args.marks.now c.loop-number.number c.loop-number.values.items c.keep.new.values.items c.loop-number.invariant c.in_ok-keep.ensures
