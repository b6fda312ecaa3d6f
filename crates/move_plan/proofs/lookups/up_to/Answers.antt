use Rattle.std.proofs.Common.{leb, rules}
use Rattle.std.proofs.lemmas.List.Sorted.{IsPartitionPoint-from_clause, IsPartitionedBy-leb}
use Rattle.move_plan.specs.Plans.{event_of}
use Rattle.move_plan.proofs.lookups.up_to.Goals as goal

pub returns-clause-point : goal.returns-clause-point
returns-clause-point c =
    IsPartitionPoint-from_clause (λ line. leb (event_of line) c.args.event) c.args.plan.now c.partition_point.result c.partition_point.ensures.partitioned
    (IsPartitionedBy-leb event_of c.args.plan.now c.args.event c.requires) (λ a r f' called. search rules)
