use Rattle.std.proofs.Common.{◌≡◌, ◌++◌, ◌∷◌, [], List, ℕ, true, length, sym, ap, ◌∙◌, arith}
use Rattle.std.specs.Result.{is_ok}
use Rattle.std.proofs.lemmas.List.FromFn.{length-range_with_len}
use Rattle.moving_heap.proofs.GroupLemmas.{places_more}
use Rattle.moving_heap.proofs.moves.number.Goals as goal

pub loop-place-preserved : goal.loop-place-preserved
loop-place-preserved c =
    let size = ap length c.loop-place.invariant.places ∙ length-range_with_len 0 c.loop-place.place in
    let ok : is_ok c.push.result ≡ true = c.push.ensures.succeeds (omega (arith, c.requires.room, c.loop-place.invariant.capacity)) in
    let items : c.push.new.self.items ≡ c.loop-place.places.items ++ c.loop-place.place ∷ [] = rw ok at c.push.ensures.items in
    record {
      places = items ∙ ap (λ (l : List ℕ). l ++ c.loop-place.place ∷ []) c.loop-place.invariant.places ∙ sym (places_more c.loop-place.place);
      capacity = omega (arith, c.push.ensures.capacity, c.loop-place.invariant.capacity);
    }
