use Rattle.std.proofs.Common.{◌+◌, ◌-◌, ◌/◌, map, ap, ◌∙◌, sym, arith}
use Rattle.std.proofs.lemmas.List.{get_or-map, length-map}
use Rattle.moving_heap.specs.declared.stands.Moved.{Moved}
use Rattle.moving_heap.specs.Settled.{move_at}
use Rattle.moving_heap.proofs.FindLemmas.{rises_below, rises_above}
use Rattle.moving_heap.proofs.moves.first_from.Goals as goal

abbrev blank : Moved
blank = record { old = 0; new = 0 }

pub loop-low-init : goal.loop-low-init
loop-low-init c =
    let size = length-map c.args.sorted.now (move_at c.args.moves.now) in
    record {
      within = omega arith;
      end = omega arith;
      below = λ k d l. absurd (omega arith);
      above = λ k d le l. absurd (omega arith);
    }

pub loop-low-preserved-then-moved-old : goal.loop-low-preserved-then-moved-old
loop-low-preserved-then-moved-old c =
    let middle = c.loop-low.low + (c.loop-low.high - c.loop-low.low) / 2 in
    let size = length-map c.args.sorted.now (move_at c.args.moves.now) in
    let here = ap (λ (m : Moved). m.old) (get_or-map (move_at c.args.moves.now) c.args.sorted.now middle 0 blank (omega arith) ∙ sym c.move_at-moved.ensures) in
    record {
      within = omega arith;
      end = c.loop-low.invariant.end;
      below = λ k d l.
          let h = rises_below (λ move. move.old) (map (move_at c.args.moves.now) c.args.sorted.now) middle (c.args.old - 1) blank c.requires (omega arith) (omega (arith, here, c.if-moved-old.true)) k d l in omega (arith, here, c.if-moved-old.true);
      above = c.loop-low.invariant.above;
    }

pub loop-low-preserved : goal.loop-low-preserved
loop-low-preserved c =
    let middle = c.loop-low.low + (c.loop-low.high - c.loop-low.low) / 2 in
    let size = length-map c.args.sorted.now (move_at c.args.moves.now) in
    let here = ap (λ (m : Moved). m.old) (get_or-map (move_at c.args.moves.now) c.args.sorted.now middle 0 blank (omega arith) ∙ sym c.move_at-moved.ensures) in
    record {
      within = omega arith;
      end = omega arith;
      below = c.loop-low.invariant.below;
      above = rises_above (λ move. move.old) (map (move_at c.args.moves.now) c.args.sorted.now) middle c.args.old blank c.requires (omega arith) (omega (arith, here, c.if-moved-old.false));
    }

pub returns-clause-within : goal.returns-clause-within
returns-clause-within c = let size = length-map c.args.sorted.now (move_at c.args.moves.now) in omega arith
