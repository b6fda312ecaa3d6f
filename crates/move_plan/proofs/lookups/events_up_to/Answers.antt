use Rattle.std.proofs.Common.{leb, rules}
use Rattle.std.proofs.lemmas.List.Sorted.{IsPartitionPoint-from_clause, IsPartitionedBy-leb}
use Rattle.move_plan.proofs.lookups.events_up_to.Goals as goal

pub returns-clause-point : goal.returns-clause-point
returns-clause-point c =
    IsPartitionPoint-from_clause (λ at. leb at c.args.event) c.args.events.now c.partition_point.result c.partition_point.ensures.partitioned
    (IsPartitionedBy-leb (λ at. at) c.args.events.now c.args.event c.requires) (λ a r f' called. search rules)
