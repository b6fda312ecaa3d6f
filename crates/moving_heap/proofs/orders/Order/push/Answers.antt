use Rattle.std.proofs.Common.{◌≡◌, ◌++◌, ◌∷◌, [], true, arith, refl}
use Rattle.std.specs.Result.{is_ok}
use Rattle.std.proofs.lemmas.List.{take-append-le, drop-append-le, length-take, length-drop}
use Rattle.moving_heap.proofs.orders.Order.push.Goals as goal

pub returns : goal.returns
returns c =
    let places = c.self.inside.places.items in
    let high = c.self.inside.high in
    let within = c.self.invariant.0 in
    let front = length-take high places in
    let back = length-drop high places in
    let room = rw (← c.self.view_is) at c.requires in
    let ok : is_ok c.push.result ≡ true = c.push.ensures.succeeds (omega (arith, c.self.invariant.0, c.self.invariant.1, room)) in
    let items : c.push.new.self.items ≡ c.self.inside.places.items ++ c.args.place ∷ [] = rw ok at c.push.ensures.items in
    rw (← c.self.view_is, items, drop-append-le high places (c.args.place ∷ []) within, take-append-le high places (c.args.place ∷ []) within) refl
