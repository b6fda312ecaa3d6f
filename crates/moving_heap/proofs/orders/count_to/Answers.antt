use Rattle.std.proofs.Common.{◌+◌, ◌-◌, ◌/◌, ap, ◌∙◌, sym, arith}
use Rattle.moving_heap.specs.declared.stands.Stand.{Stand}
use Rattle.moving_heap.specs.Orders.{row, nowhere}
use Rattle.moving_heap.proofs.FindLemmas.{rises_below, rises_above}
use Rattle.moving_heap.proofs.RowLemmas.{row_get, row-length}
use Rattle.moving_heap.proofs.orders.count_to.Goals as goal

pub loop-low-init : goal.loop-low-init
loop-low-init c =
    let size = row-length c.args.stands.now c.args.order.now in
    record {
      within = omega arith;
      end = omega arith;
      below = λ k d l. absurd (omega arith);
      above = λ k d le l. absurd (omega arith);
    }

pub loop-low-preserved-then-stand-word : goal.loop-low-preserved-then-stand-word
loop-low-preserved-then-stand-word c =
    let middle = c.loop-low.low + (c.loop-low.high - c.loop-low.low) / 2 in
    let size = row-length c.args.stands.now c.args.order.now in
    let here = ap (λ (s : Stand). s.address) (row_get c.args.stands.now c.args.order.now middle nowhere (omega arith) ∙ sym c.at-stand.ensures) in
    record {
      within = omega arith;
      end = c.loop-low.invariant.end;
      below = rises_below (λ stand. stand.address) (row c.args.stands.now c.args.order.now) middle c.args.word nowhere c.requires (omega arith) (omega (arith, here, c.if-stand-word.true));
      above = c.loop-low.invariant.above;
    }

pub loop-low-preserved : goal.loop-low-preserved
loop-low-preserved c =
    let middle = c.loop-low.low + (c.loop-low.high - c.loop-low.low) / 2 in
    let size = row-length c.args.stands.now c.args.order.now in
    let here = ap (λ (s : Stand). s.address) (row_get c.args.stands.now c.args.order.now middle nowhere (omega arith) ∙ sym c.at-stand.ensures) in
    record {
      within = omega arith;
      end = omega arith;
      below = c.loop-low.invariant.below;
      above = λ k d le l.
          let h = rises_above (λ stand. stand.address) (row c.args.stands.now c.args.order.now) middle (c.args.word + 1) nowhere c.requires (omega arith) (omega (arith, here, c.if-stand-word.false)) k d le l in omega arith;
    }

pub returns-clause-within : goal.returns-clause-within
returns-clause-within c = let size = row-length c.args.stands.now c.args.order.now in omega arith
