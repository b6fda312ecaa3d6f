use Rattle.std.proofs.Common.{◌≡◌, ◌+◌, ◌*◌, ◌<◌, ◌≤◌, ◌++◌, ◌∷◌, [], ℕ, length, max, replicate, sym, ap, ◌∙◌}
use Rattle.std.specs.Prelude.{Ok, Err, unsigned_abs}
use Rattle.std.specs.List.{sum_by}
use mir.Syntax.{w64}
use mir.ValLaws.{to_z-of_z}
use Rattle.moving_heap.specs.declared.stands.Stand.{Stand}
use Rattle.moving_heap.specs.Places.{new_stand}
use Rattle.moving_heap.specs.Contents.{Content, repeated}
use Rattle.moving_heap.specs.Heaps.{HeapView, heap_of, alloc_answer}
use Rattle.moving_heap.specs.Settled.{Table}
use Rattle.moving_heap.proofs.SizeLemmas.{footprint_bytes}
use Rattle.moving_heap.proofs.RoomLemmas.{refused_count, refused_full, admitted_is, place_of}
use Rattle.moving_heap.proofs.places.Places.make.Goals as goal

pub returns-in-Err-clause-count : goal.returns-in-Err-clause-count
returns-in-Err-clause-count c =
    let value = to_z-of_z w64 c.args.count c.ranges.count in
    let said = rw value at c.admitted.ensures.count in
    λ e. refused_count c.args.self.now c.args.cells.now c.args.count (said (c.in-Err.is ∙ e))

pub returns-in-Err-clause-full : goal.returns-in-Err-clause-full
returns-in-Err-clause-full c =
    let used = c.self.invariant.0.used_is ∙ ap (λ (t : Table). sum_by (λ (s : Stand). s.size) t.stands) c.self.view_is in
    let value = to_z-of_z w64 c.args.count c.ranges.count in
    let said = rw value at c.admitted.ensures.full in
    λ e. let full = said (c.in-Err.is ∙ e) in refused_full c.args.self.now c.args.cells.now c.args.count c.self.inside.used used full.0 full.1

pub add-requires-clause-some : goal.add-requires-clause-some
add-requires-clause-some c =
    let used = c.self.invariant.0.used_is ∙ ap (λ (t : Table). sum_by (λ (s : Stand). s.size) t.stands) c.self.view_is in
    let value = to_z-of_z w64 c.args.count c.ranges.count in
    let some = rw value at c.in-Ok.ensures.some in
    let fits : c.self.inside.used + max 8 (8 * (unsigned_abs c.args.count * length c.args.cells.now)) ≤ 67108864 = rw some.1 at some.2 in
    (place_of c.args.self.now c.args.cells.now c.args.count _ (admitted_is c.args.self.now c.args.cells.now c.args.count c.self.inside.used used some.0 fits) c.requires.room).0

pub add-requires-clause-spare : goal.add-requires-clause-spare
add-requires-clause-spare c =
    let used = c.self.invariant.0.used_is ∙ ap (λ (t : Table). sum_by (λ (s : Stand). s.size) t.stands) c.self.view_is in
    let value = to_z-of_z w64 c.args.count c.ranges.count in
    let some = rw value at c.in-Ok.ensures.some in
    let fits : c.self.inside.used + max 8 (8 * (unsigned_abs c.args.count * length c.args.cells.now)) ≤ 67108864 = rw some.1 at some.2 in
    rw (c.unsigned_abs.ensures.value ∙ ap unsigned_abs value) (place_of c.args.self.now c.args.cells.now c.args.count _ (admitted_is c.args.self.now c.args.cells.now c.args.count c.self.inside.used used some.0 fits) c.requires.room).1

pub returns-in-Ok-clause-address : goal.returns-in-Ok-clause-address
returns-in-Ok-clause-address c =
    let used = c.self.invariant.0.used_is ∙ ap (λ (t : Table). sum_by (λ (s : Stand). s.size) t.stands) c.self.view_is in
    let value = to_z-of_z w64 c.args.count c.ranges.count in
    let some = rw value at c.in-Ok.ensures.some in
    let fits : c.self.inside.used + max 8 (8 * (unsigned_abs c.args.count * length c.args.cells.now)) ≤ 67108864 = rw some.1 at some.2 in
    admitted_is c.args.self.now c.args.cells.now c.args.count c.self.inside.used used some.0 fits ∙ ap (λ (n : ℕ). Ok n) (sym c.add.ensures.address)

pub returns-in-Ok-clause-made : goal.returns-in-Ok-clause-made
returns-in-Ok-clause-made c =
    let now = c.args.self.now in
    let value = to_z-of_z w64 c.args.count c.ranges.count in
    let some = rw value at c.in-Ok.ensures.some in
    let size = some.1 ∙ sym (footprint_bytes c.args.cells.now (unsigned_abs c.args.count)) in
    ap heap_of c.add.ensures.added
    ∙ ap (λ (n : ℕ). let h : HeapView = record { stands = now.stands ++ new_stand now.stands c.in-Ok.size ∷ []; contents = now.contents ++ (let one : Content = record { layout = c.args.layout; count = n; kinds = repeated c.args.cells.now n; words = replicate (n * length c.args.cells.now) 0 } in one) ∷ []; moves = [] } in h) (c.unsigned_abs.ensures.value ∙ ap unsigned_abs value)
    ∙ ap (λ (n : ℕ). let h : HeapView = record { stands = now.stands ++ new_stand now.stands n ∷ []; contents = now.contents ++ (let one : Content = record { layout = c.args.layout; count = unsigned_abs c.args.count; kinds = repeated c.args.cells.now (unsigned_abs c.args.count); words = replicate (unsigned_abs c.args.count * length c.args.cells.now) 0 } in one) ∷ []; moves = [] } in h) size
