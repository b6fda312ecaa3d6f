use Rattle.std.proofs.Common.{◌≡◌, ◌++◌, List, ℕ, sym, ap, ◌∙◌, arith, length, append_assoc}
use Rattle.std.specs.Prelude.{filter}
use Rattle.std.proofs.lemmas.List.{length-append}
use Rattle.std.proofs.lemmas.List.Elements.{filter-append}
use Rattle.moving_heap.specs.Orders.{leaves_at, targets_in}
use Rattle.moving_heap.proofs.orders.Order.gather.Goals as goal

pub gather-requires : goal.gather-requires
gather-requires c =
    let p = leaves_at c.args.stands.now (targets_in c.args.targets.now) in
    let low = filter (leaves_at c.args.stands.now (targets_in c.args.targets.now)) c.args.self.now.low in
    let high = filter (leaves_at c.args.stands.now (targets_in c.args.targets.now)) c.args.self.now.high in
    let all = ap length (filter-append (leaves_at c.args.stands.now (targets_in c.args.targets.now)) c.args.self.now.low c.args.self.now.high) in
    let size = length-append low high in rw c.parts.ensures.low (omega (arith, c.requires))

pub gather-requires-2 : goal.gather-requires-2
gather-requires-2 c =
    let low = filter (leaves_at c.args.stands.now (targets_in c.args.targets.now)) c.args.self.now.low in
    let high = filter (leaves_at c.args.stands.now (targets_in c.args.targets.now)) c.args.self.now.high in
    let all = ap length (filter-append (leaves_at c.args.stands.now (targets_in c.args.targets.now)) c.args.self.now.low c.args.self.now.high) in
    let size = length-append low high in
    let first = ap length (rw c.parts.ensures.low at c.gather.ensures.leavers) in
    let both = length-append c.args.leaving.now.items low in rw c.parts.ensures.high (omega (arith, c.requires, c.gather.ensures.capacity))

pub returns-clause-leavers : goal.returns-clause-leavers
returns-clause-leavers c =
    let low = filter (leaves_at c.args.stands.now (targets_in c.args.targets.now)) c.args.self.now.low in
    let high = filter (leaves_at c.args.stands.now (targets_in c.args.targets.now)) c.args.self.now.high in
    let all : filter (leaves_at c.args.stands.now (targets_in c.args.targets.now)) (c.args.self.now.low ++ c.args.self.now.high) ≡ low ++ high =
    filter-append (leaves_at c.args.stands.now (targets_in c.args.targets.now)) c.args.self.now.low c.args.self.now.high in
    (rw c.parts.ensures.high at c.gather-2.ensures.leavers) ∙ ap (λ (l : List ℕ). l ++ high) (rw c.parts.ensures.low at c.gather.ensures.leavers) ∙ append_assoc c.args.leaving.now.items low high
    ∙ ap (λ (l : List ℕ). c.args.leaving.now.items ++ l) (sym all)
