use Rattle.std.proofs.Common.{◌<◌, ◌∙◌, length, arith}
use Rattle.moving_heap.specs.Contents.{contents_of, shapes_of}
use Rattle.moving_heap.proofs.ShapeLemmas.{shapes_of-length}
use Rattle.moving_heap.proofs.SizeLemmas.{contents-length}
use Rattle.moving_heap.proofs.cells.Cells.reserve.Goals as goal

pub returns-clause-room : goal.returns-clause-room
returns-clause-room c =
    let shapes = shapes_of c.self.inside.parts.items c.self.inside.widths.items c.self.inside.counts.items in
    let kept = contents-length shapes c.self.inside.kinds.items c.self.inside.words.items
    ∙ shapes_of-length c.self.inside.parts.items c.self.inside.widths.items c.self.inside.counts.items c.self.invariant.0 in
    rw (c.reserve.ensures.items, c.reserve-2.ensures.items, c.reserve-3.ensures.items, c.reserve-4.ensures.items, c.reserve-5.ensures.items)
    (let parts = c.reserve-3.ensures.len in omega (arith, c.len.ensures))
