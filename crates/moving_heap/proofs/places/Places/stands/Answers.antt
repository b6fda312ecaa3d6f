use Rattle.std.proofs.Common.{sym, ap, ◌∙◌, length}
use Rattle.moving_heap.proofs.places.Places.stands.Goals as goal

pub of-requires-clause-same : goal.of-requires-clause-same
of-requires-clause-same c = c.self.invariant.2 ∙ sym (ap length c.as_slice.ensures.value)

pub of-requires-clause-settled : goal.of-requires-clause-settled
of-requires-clause-settled c = rw c.as_slice.ensures.value c.self.invariant.0.settled
