use Rattle.std.proofs.Common.{arith}
use Rattle.std.proofs.lemmas.List.Sorted.{length_permutation}
use Rattle.moving_heap.specs.Orders.{ranks}
use Rattle.moving_heap.specs.Settled.{AreSettled, AreRanked}
use Rattle.moving_heap.proofs.RankLemmas.{rank_found, rank_past}
use Rattle.moving_heap.proofs.RowLemmas.{ranks-length}
use Rattle.moving_heap.proofs.places.Places.at_rank.Goals as goal

pub at-requires : goal.at-requires
at-requires c =
    let ranked : AreRanked c.stands-stands.result c.self.inside.order = rw (c.stands-stands.ensures, ← c.self.view_is) c.self.invariant.0.ranked in
    let all = ranks-length c.stands-stands.result c.self.inside.order in
    let size = length_permutation c.stands-stands.result (ranks c.stands-stands.result c.self.inside.order) ranked.order.same in omega (arith, c.len.ensures)

pub returns-then-rank-len : goal.returns-then-rank-len
returns-then-rank-len c =
    let settled : AreSettled c.stands-stands.result = rw (c.stands-stands.ensures, ← c.self.view_is) c.self.invariant.0.settled in
    let ranked : AreRanked c.stands-stands.result c.self.inside.order = rw (c.stands-stands.ensures, ← c.self.view_is) c.self.invariant.0.ranked in
    rw (← c.stands-stands.ensures)
    (rank_found c.stands-stands.result (ranks c.stands-stands.result c.self.inside.order) c.args.rank c.at.result settled ranked.order c.at.ensures)

pub returns-else-rank-len : goal.returns-else-rank-len
returns-else-rank-len c =
    let settled : AreSettled c.stands-stands.result = rw (c.stands-stands.ensures, ← c.self.view_is) c.self.invariant.0.settled in
    let ranked : AreRanked c.stands-stands.result c.self.inside.order = rw (c.stands-stands.ensures, ← c.self.view_is) c.self.invariant.0.ranked in
    rw (← c.stands-stands.ensures)
    (rank_past c.stands-stands.result (ranks c.stands-stands.result c.self.inside.order) c.args.rank settled ranked.order (let size = length_permutation c.stands-stands.result (ranks c.stands-stands.result c.self.inside.order) ranked.order.same in omega (arith, c.len.ensures)))
