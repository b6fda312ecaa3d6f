use Rattle.std.proofs.Common.{map, take}
use Rattle.std.specs.List.{flat_map}
use Rattle.ssa_rebuild.specs.Rows.{inserted_entries}
use Rattle.ssa_rebuild.specs.Arrivals.{Takes, inserted_numbers}
use Rattle.ssa_rebuild.proofs.arrivals.take_joined.Given as goal
use Rattle.statepoint_insert.specs.Groups.{numbers_in}

abbrev pub invariant-loop-value : goal.invariant-loop-value
invariant-loop-value l = Takes l.rows l.initial.arrivals l.arrivals
    (λ p. flat_map (inserted_entries p (map (λ block. block.0) l.preds)) (numbers_in (take l.value-index l.joined)))
    (λ here. flat_map (inserted_numbers here (map (λ block. block.0) l.preds)) (numbers_in (take l.value-index l.joined)))
