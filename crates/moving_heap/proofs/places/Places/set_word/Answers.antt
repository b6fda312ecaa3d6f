use Rattle.std.proofs.Common.{List, ℕ, ap, ◌∙◌, length}
use Rattle.moving_heap.specs.Contents.{Held, sizes_of}
use Rattle.moving_heap.specs.Settled.{Table, numbered}
use Rattle.moving_heap.proofs.CellLemmas.{with_word-length}
use Rattle.moving_heap.proofs.SizeLemmas.{sizes_written}
use Rattle.moving_heap.proofs.places.Places.set_word.Goals as goal

pub invariant_of-self : goal.invariant_of-self
invariant_of-self c =
    let sizes = ap (λ (h : Held). sizes_of h.contents) c.set_word.ensures ∙ sizes_written c.self.inside.cells.contents c.args.object c.args.cell c.args.word in
    let count = ap (λ (h : Held). length h.contents) c.set_word.ensures ∙ with_word-length c.self.inside.cells.contents c.args.object c.args.cell c.args.word in
    let room = ap (λ (h : Held). h.room) c.set_word.ensures in
    (rw sizes c.self.invariant.0, rw room c.self.invariant.1, count ∙ c.self.invariant.2)

pub returns : goal.returns
returns c =
    let sizes = ap (λ (h : Held). sizes_of h.contents) c.set_word.ensures ∙ sizes_written c.self.inside.cells.contents c.args.object c.args.cell c.args.word in
    rw (← c.self.view_is)
    (ap (λ (l : List ℕ). let t : Table = record { stands = numbered 0 c.self.inside.addresses.items l; contents = c.set_word.new.self.contents; moves = c.self.inside.pending.moves; room = c.self.inside.room; spare = c.set_word.new.self.spare } in t) sizes
    ∙ ap (λ (h : Held). let t : Table = record { stands = numbered 0 c.self.inside.addresses.items (sizes_of c.self.inside.cells.contents); contents = h.contents; moves = c.self.inside.pending.moves; room = c.self.inside.room; spare = h.spare } in t) c.set_word.ensures)
