use Rattle.std.proofs.Common.{sym, ◌∙◌}
use Rattle.moving_heap.specs.Contents.{shapes_of}
use Rattle.moving_heap.proofs.CellLemmas.{shape_is}
use Rattle.moving_heap.proofs.cells.Cells.shape.Goals as goal

pub shape_at-requires : goal.shape_at-requires
shape_at-requires c = rw (c.as_slice.ensures.value, c.as_slice-2.ensures.value, c.as_slice-3.ensures.value) c.self.invariant.0

pub returns : goal.returns
returns c =
    let at = rw (c.as_slice.ensures.value, c.as_slice-2.ensures.value, c.as_slice-3.ensures.value) at c.shape_at.ensures in
    rw (← c.self.view_is) (at ∙ sym (shape_is (shapes_of c.self.inside.parts.items c.self.inside.widths.items c.self.inside.counts.items) c.self.inside.kinds.items c.self.inside.words.items c.args.object))
