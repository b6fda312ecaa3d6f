use Rattle.std.proofs.Common.{ap, ◌∙◌, arith}
use Rattle.std.proofs.lemmas.List.{get_or_default}
use Rattle.moving_heap.specs.declared.cells.Counted.{Counted}
use Rattle.moving_heap.proofs.ShapeLemmas.{counted_at, counted_none}
use Rattle.moving_heap.proofs.cells.kept_count.Goals as goal
use Rattle.moving_heap.proofs.cells.kept_count.Goals.{else-place-counts-via-then-place-counts+else-counts-place, else-place-counts-via-else-place-counts}

abbrev blank : Counted
blank = record { object = 0; count = 0 }

pub returns-then-counts-place : goal.returns-then-counts-place
returns-then-counts-place c = counted_at c.args.counts.now c.args.object c.first_counted-place.result blank c.requires c.if-place-counts.true c.if-counts-place.true

pub returns-else-place-counts : goal.returns-else-place-counts
returns-else-place-counts c =
    let none = counted_none c.args.counts.now c.args.object c.first_counted-place.result c.requires c.first_counted-place.ensures.below c.first_counted-place.ensures.above in
    elim c.else-place-counts.branch [
      | else-place-counts-via-then-place-counts+else-counts-place w ↦
          none (λ d l e. w.if-counts-place.false (ap (λ (one : Counted). one.object) (get_or_default c.args.counts.now c.first_counted-place.result blank d l) ∙ e))
      | else-place-counts-via-else-place-counts w ↦ none (λ d l e. omega arith)
    ]
