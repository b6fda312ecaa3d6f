use Rattle.std.proofs.Common.{map, take}
use Rattle.std.specs.List.{flat_map}
use Rattle.ssa_rebuild.specs.Rows.{Grows, inserted_entries}
use Rattle.ssa_rebuild.proofs.entries.add_joined.Given as goal
use Rattle.statepoint_insert.specs.Groups.{numbers_in}

abbrev pub invariant-loop-value : goal.invariant-loop-value
invariant-loop-value l = Grows l.initial.rows.items l.rows.items (λ p. flat_map (inserted_entries p (map (λ block. block.0) l.preds)) (numbers_in (take l.value-index l.joined)))
