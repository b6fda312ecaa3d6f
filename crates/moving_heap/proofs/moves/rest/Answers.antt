use Rattle.std.proofs.Common.{◌≡◌, ◌<◌, ◌++◌, ◌∷◌, [], List, true, length, take, map, sym, ap, ◌∙◌, arith}
use Rattle.std.specs.Result.{is_ok}
use Rattle.std.proofs.lemmas.List.{map_more, length-map, length-take}
use Rattle.moving_heap.specs.declared.stands.Stand.{Stand}
use Rattle.moving_heap.specs.declared.stands.Moved.{Moved}
use Rattle.moving_heap.specs.Orders.{resting, nowhere}
use Rattle.moving_heap.proofs.moves.rest.Goals as goal

pub loop-place-preserved : goal.loop-place-preserved
loop-place-preserved c =
    let among : c.loop-place.place < length c.args.stands.now = omega (arith, c.loop-place-test.true, c.len-place-end.ensures) in
    let front = length-take c.loop-place.place c.args.stands.now in
    let size = ap length c.loop-place.invariant.moves ∙ length-map (take c.loop-place.place c.args.stands.now) resting in
    let ok : is_ok c.push.result ≡ true = c.push.ensures.succeeds (omega (arith, c.requires.room, c.loop-place.invariant.capacity)) in
    let items : c.push.new.self.items ≡ c.loop-place.list.items ++ record { old = c.at-stand.result.address; new = 0 } ∷ [] = rw ok at c.push.ensures.items in
    record {
      moves = items ∙ ap (λ (l : List Moved). l ++ record { old = c.at-stand.result.address; new = 0 } ∷ []) c.loop-place.invariant.moves
          ∙ ap (λ (s : Stand). map resting (take c.loop-place.place c.args.stands.now) ++ resting s ∷ []) c.at-stand.ensures
          ∙ sym (map_more resting c.args.stands.now c.loop-place.place nowhere among);
      capacity = omega (arith, c.push.ensures.capacity, c.loop-place.invariant.capacity);
    }
