use Rattle.ssa_rebuild.proofs.arrivals.take_entry.Goals as goal

pub returns-in-Value : goal.returns-in-Value
returns-in-Value c = rw c.in-Value.is c.take_number.ensures
