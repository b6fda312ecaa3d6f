use Rattle.std.proofs.Common.{map, take}
use Rattle.ssa_rebuild.specs.Rows.{Grows, inserted_entries}
use Rattle.ssa_rebuild.proofs.entries.add_inserted.Given as goal

abbrev pub invariant-loop-block : goal.invariant-loop-block
invariant-loop-block l = Grows l.initial.rows.items l.rows.items (λ p. inserted_entries p (map (λ block. block.0) (take l.block-index l.preds)) l.value.0)
