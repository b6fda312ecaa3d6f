use Rattle.std.proofs.Common.{ltb, rules}
use Rattle.std.proofs.lemmas.List.Sorted.{IsPartitionPoint-from_clause, IsPartitionedBy-ltb}
use Rattle.move_plan.proofs.lookups.events_below.Goals as goal

pub returns-clause-point : goal.returns-clause-point
returns-clause-point c =
    IsPartitionPoint-from_clause (λ at. ltb at c.args.event) c.args.events.now c.partition_point.result c.partition_point.ensures.partitioned
    (IsPartitionedBy-ltb (λ at. at) c.args.events.now c.args.event c.requires) (λ a r f' called. search rules)
