use Rattle.std.proofs.Common.{◌++◌, ◌≤◌, ℕ, List, length, drop, sym, ap, ◌∙◌, arith}
use Rattle.std.proofs.lemmas.List.{take_all, drop_all, append-nil}
use Rattle.moving_heap.specs.Settled.{sent_on}
use Rattle.moving_heap.proofs.StandLemmas.{followed_none}
use Rattle.moving_heap.proofs.moves.follow.Goals as goal

pub returns : goal.returns
returns c =
    let addresses = c.loop-address.addresses in
    let moves = drop c.loop-address.next c.args.moves.now in
    let past : length c.loop-address.addresses ≤ c.loop-address.address-index = omega (arith, c.loop-address-test.false, c.loop-address.auto.addresses) in
    let all = take_all c.loop-address.address-index c.loop-address.addresses past in
    let none = ap (sent_on moves) (drop_all c.loop-address.address-index c.loop-address.addresses past) ∙ followed_none moves in
    sym (ap (λ (front : List ℕ). front ++ sent_on (drop c.loop-address.next c.args.moves.now) (drop c.loop-address.address-index c.loop-address.addresses)) all ∙ ap (λ (rest : List ℕ). addresses ++ rest) none ∙ append-nil addresses)
    ∙ c.loop-address.invariant.same
