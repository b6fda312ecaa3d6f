use Rattle.std.proofs.Common.{ltb, rules}
use Rattle.std.proofs.lemmas.List.Sorted.{IsPartitionPoint-from_clause, IsPartitionedBy-ltb}
use Rattle.stackmap_view.specs.Indexes.{address_of}
use Rattle.stackmap_view.proofs.numbered.below.Goals as goal

pub returns-clause-point : goal.returns-clause-point
returns-clause-point c =
    IsPartitionPoint-from_clause (λ one. ltb (address_of one) c.args.address) c.args.list.now c.partition_point.result c.partition_point.ensures.partitioned
    (IsPartitionedBy-ltb address_of c.args.list.now c.args.address c.requires) (λ a r f' called. search rules)
