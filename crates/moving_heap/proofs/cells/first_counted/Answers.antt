use Rattle.std.proofs.Common.{◌+◌, ◌-◌, ◌/◌, arith}
use Rattle.moving_heap.specs.declared.cells.Counted.{Counted}
use Rattle.moving_heap.proofs.FindLemmas.{rises_below, rises_above}
use Rattle.moving_heap.proofs.ShapeLemmas.{rising_by}
use Rattle.moving_heap.proofs.cells.first_counted.Goals as goal

abbrev blank : Counted
blank = record { object = 0; count = 0 }

pub loop-low-preserved-then-counts-middle : goal.loop-low-preserved-then-counts-middle
loop-low-preserved-then-counts-middle c = record {
  within = omega arith;
  end = c.loop-low.invariant.end;
  below = λ k d l.
      let h = rises_below (λ one. one.object) c.args.counts.now (c.loop-low.low + (c.loop-low.high - c.loop-low.low) / 2) (c.args.object - 1) blank (rising_by c.args.counts.now c.requires) (omega arith) (omega arith) k d l in omega arith;
  above = c.loop-low.invariant.above;
}

pub loop-low-preserved : goal.loop-low-preserved
loop-low-preserved c = record {
  within = omega arith;
  end = omega arith;
  below = c.loop-low.invariant.below;
  above = rises_above (λ one. one.object) c.args.counts.now (c.loop-low.low + (c.loop-low.high - c.loop-low.low) / 2) c.args.object blank (rising_by c.args.counts.now c.requires) (omega arith) c.if-counts-middle.false;
}
