use Rattle.std.proofs.Common.{◌≡◌, ◌-◌, ℕ, sym, ap, ◌∙◌, get_or, arith, Option, Some}
use Rattle.moving_heap.specs.Contents.{count_of, nothing_kept, begins}
use Rattle.moving_heap.proofs.ShapeLemmas.{shape_found, shape_past}
use Rattle.moving_heap.proofs.cells.shape_at.Goals as goal

pub returns-then-object-parts : goal.returns-then-object-parts
returns-then-object-parts c = sym (shape_past c.args.parts.now c.args.widths.now c.args.counts.now c.args.object c.requires (omega arith))

pub returns : goal.returns
returns c =
    let cells : c.saturating_sub-cells.result ≡ (get_or c.args.parts.now c.args.object nothing_kept).end - begins 0 c.args.parts.now c.args.object = omega (arith, c.saturating_sub-cells.ensures, c.begin_of.ensures) in
    ap (λ (n : ℕ). (let one : Option (ℕ × ℕ) = Some ((get_or c.args.parts.now c.args.object nothing_kept).layout, n) in one))
    (c.count_of-count.ensures ∙ ap (λ (m : ℕ). count_of c.args.counts.now c.args.object m (get_or c.args.widths.now c.args.object 0)) cells)
    ∙ sym (shape_found c.args.parts.now c.args.widths.now c.args.counts.now c.args.object c.requires c.if-object-parts.false)
