use Rattle.std.proofs.Common.{◌≡◌, ◌-◌, ◌*◌, max, get_or, sym, ap, ◌∙◌, arith, length}
use Rattle.std.proofs.lemmas.List.{length-map, get_or_past}
use Rattle.moving_heap.specs.Contents.{Held, bytes_of, sizes_of, contents_of, shapes_of, nothing_kept, begins}
use Rattle.moving_heap.proofs.SizeLemmas.{contents-length, size_at}
use Rattle.moving_heap.proofs.ShapeLemmas.{shapes_of-length}
use Rattle.moving_heap.proofs.cells.Cells.size.Goals as goal

pub returns-then-object-parts : goal.returns-then-object-parts
returns-then-object-parts c =
    let shapes = shapes_of c.self.inside.parts.items c.self.inside.widths.items c.self.inside.counts.items in
    let contents = contents_of shapes c.self.inside.kinds.items c.self.inside.words.items in
    let count = length-map contents bytes_of ∙ contents-length shapes c.self.inside.kinds.items c.self.inside.words.items
    ∙ shapes_of-length c.self.inside.parts.items c.self.inside.widths.items c.self.inside.counts.items c.self.invariant.0 in
    let all = ap length c.as_slice-parts.ensures.value in
    rw (← c.self.view_is) (sym (get_or_past (sizes_of contents) c.args.object 0 (omega arith)))

pub overflow_cast-result : goal.overflow_cast-result
overflow_cast-result c =
    let parts = c.self.inside.parts.items in
    let all = ap length c.as_slice-parts.ensures.value in
    let at = size_at parts c.self.inside.widths.items c.self.inside.counts.items c.self.inside.kinds.items c.self.inside.words.items c.args.object c.self.invariant.0 c.self.invariant.2.laid.whole (omega arith) in
    let small = ap (λ (held : Held). get_or (sizes_of held.contents) c.args.object 0) c.self.view_is in
    let first = rw c.as_slice-parts.ensures.value at c.begin_of-first.ensures in
    let cells = rw c.as_slice-parts.ensures.value at c.saturating_sub-cells.ensures in
    omega (arith, c.requires, c.bytes_of.ensures)

pub returns : goal.returns
returns c =
    let parts = c.self.inside.parts.items in
    let all = ap length c.as_slice-parts.ensures.value in
    let at = size_at parts c.self.inside.widths.items c.self.inside.counts.items c.self.inside.kinds.items c.self.inside.words.items c.args.object c.self.invariant.0 c.self.invariant.2.laid.whole (omega arith) in
    let seen = ap (λ (held : Held). get_or (sizes_of held.contents) c.args.object 0) c.self.view_is in
    let first = rw c.as_slice-parts.ensures.value at c.begin_of-first.ensures in
    let cells = rw c.as_slice-parts.ensures.value at c.saturating_sub-cells.ensures in
    let same : c.bytes_of.result ≡ max 8 (8 * ((get_or parts c.args.object nothing_kept).end - begins 0 parts c.args.object)) = omega (arith, c.bytes_of.ensures) in
    same ∙ sym at ∙ seen
