use Rattle.std.proofs.Common.{sym, ap, ◌∙◌, length}
use Rattle.std.proofs.lemmas.List.{length-map}
use Rattle.moving_heap.specs.Contents.{bytes_of, sizes_of}
use Rattle.moving_heap.proofs.StandLemmas.{numbered-length}
use Rattle.moving_heap.proofs.stands.Stands.len.Goals as goal

pub returns : goal.returns
returns c =
    let cells = c.self.inside.cells.now.contents in
    sym (numbered-length 0 c.self.inside.addresses.now (sizes_of cells) (length-map cells bytes_of ∙ c.self.invariant.0)) ∙ ap length c.self.view_is
