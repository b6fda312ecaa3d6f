use Rattle.std.proofs.Common.{map, take}
use Rattle.ssa_rebuild.specs.Rows.{inserted_entries}
use Rattle.ssa_rebuild.specs.Arrivals.{Takes, inserted_numbers}
use Rattle.ssa_rebuild.proofs.arrivals.take_inserted.Given as goal

abbrev pub invariant-loop-block : goal.invariant-loop-block
invariant-loop-block l = Takes l.rows l.initial.arrivals l.arrivals (λ p. inserted_entries p (map (λ block. block.0) (take l.block-index l.preds)) l.value.0)
    (λ here. inserted_numbers here (map (λ block. block.0) (take l.block-index l.preds)) l.value.0)
