use Rattle.std.proofs.Common.{sym, ap, ◌∙◌, Some, arith, length}
use Rattle.moving_heap.specs.declared.stands.Stand.{Stand}
use Rattle.moving_heap.proofs.RowLemmas.{get-row_low, get-row_high}
use Rattle.moving_heap.proofs.orders.Order.at.Goals as goal

pub returns-then-rank-low : goal.returns-then-rank-low
returns-then-rank-low c =
    rw (← c.parts.ensures.low, ← c.parts.ensures.high)
    (get-row_low c.args.stands.now c.parts.result.0.now c.parts.result.1.now c.args.rank (omega arith) ∙ ap (λ (s : Stand). Some s) (sym c.at.ensures))

pub returns-else-rank-low : goal.returns-else-rank-low
returns-else-rank-low c =
    let low = ap length c.parts.ensures.low in
    let high = ap length c.parts.ensures.high in
    rw (← c.parts.ensures.low, ← c.parts.ensures.high)
    (get-row_high c.args.stands.now c.parts.result.0.now c.parts.result.1.now c.args.rank (omega arith) (omega (arith, c.requires)) ∙ ap (λ (s : Stand). Some s) (sym c.at-else-rank-low.ensures))
