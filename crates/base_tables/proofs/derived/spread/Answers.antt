use Rattle.std.proofs.Common.{◌∙◌}
use Rattle.base_tables.specs.Seen.{seen_shape}
use Rattle.base_tables.proofs.UserLemmas.{spread_more}
use Rattle.base_tables.proofs.derived.spread.Goals as goal

pub loop-value-preserved : goal.loop-value-preserved
loop-value-preserved c = record {
  whole = c.mark_merge.ensures.whole ∙ c.loop-value.invariant.whole;
  sound = spread_more seen_shape c.args.shapes.now c.loop-value.value _ c.loop-value.marks.items c.mark_merge.new.marks.items c.loop-value-test.true
      c.loop-value.invariant.sound c.mark_merge.ensures.each;
}
