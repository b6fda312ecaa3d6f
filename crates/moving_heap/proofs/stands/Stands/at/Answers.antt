use Rattle.std.proofs.Common.{◌+◌, ℕ, List, get_or, sym, ap, ◌∙◌, arith}
use Rattle.std.proofs.lemmas.List.{get_or_past, length-map}
use Rattle.std.proofs.lemmas.List.Sums.{get_or-le-sum_by}
use Rattle.moving_heap.specs.declared.stands.Stand.{Stand}
use Rattle.moving_heap.specs.Contents.{bytes_of, sizes_of}
use Rattle.moving_heap.specs.Orders.{stand_at, nowhere}
use Rattle.moving_heap.specs.Settled.{numbered}
use Rattle.moving_heap.proofs.PlaceLemmas.{count_within}
use Rattle.moving_heap.proofs.StandLemmas.{numbered-length, numbered-at}
use Rattle.moving_heap.proofs.stands.Stands.at.Goals as goal

pub size-requires : goal.size-requires
size-requires c =
    let cells = c.self.inside.cells.now.contents in
    let same = length-map cells bytes_of ∙ c.self.invariant.0 in
    let stands = numbered 0 c.self.inside.addresses.now (sizes_of cells) in
    let many = numbered-length 0 c.self.inside.addresses.now (sizes_of cells) same in
    let at = ap (λ (s : Stand). s.size) (numbered-at 0 c.self.inside.addresses.now (sizes_of cells) c.args.place (c.args.place + 1) nowhere 0 0 same (omega (arith, c.if-place-self.true)) (omega arith)) in
    let le = get_or-le-sum_by (λ (s : Stand). s.size) stands c.args.place nowhere (omega (arith, c.if-place-self.true)) in
    omega (arith, c.self.invariant.1.within)

pub returns-then-place-self : goal.returns-then-place-self
returns-then-place-self c =
    let cells = c.self.inside.cells.now.contents in
    let same = length-map cells bytes_of ∙ c.self.invariant.0 in
    ap (λ (n : ℕ). let one : Stand = record { number = c.args.place + 1; size = n; address = get_or c.self.inside.addresses.now c.args.place 0 } in one) c.size.ensures
    ∙ sym (numbered-at 0 c.self.inside.addresses.now (sizes_of cells) c.args.place (c.args.place + 1) nowhere 0 0 same (omega (arith, c.if-place-self.true)) (omega arith))
    ∙ ap (λ (stands : List Stand). stand_at stands c.args.place) c.self.view_is

pub returns-else-place-self : goal.returns-else-place-self
returns-else-place-self c =
    let cells = c.self.inside.cells.now.contents in
    let size = numbered-length 0 c.self.inside.addresses.now (sizes_of cells) (length-map cells bytes_of ∙ c.self.invariant.0) in
    sym (get_or_past (numbered 0 c.self.inside.addresses.now (sizes_of cells)) c.args.place nowhere (omega (arith, c.if-place-self.false)))
    ∙ ap (λ (stands : List Stand). stand_at stands c.args.place) c.self.view_is

pub overflow_cast-result : goal.overflow_cast-result
overflow_cast-result c =
    let cells = c.self.inside.cells.now.contents in
    let stands = numbered 0 c.self.inside.addresses.now (sizes_of cells) in
    let many = numbered-length 0 c.self.inside.addresses.now (sizes_of cells) (length-map cells bytes_of ∙ c.self.invariant.0) in
    let count = count_within stands (λ k d l. (c.self.invariant.1.each k d l).size) in
    omega (arith, c.if-place-self.true, c.self.invariant.1.within)
