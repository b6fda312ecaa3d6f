use Rattle.std.proofs.Common.{◌≡◌, map, take, length}
use Rattle.ssa_rebuild.proofs.versions.lengths.Given as goal

abbrev pub invariant-loop-row : goal.invariant-loop-row
invariant-loop-row l = l.lengths.items ≡ map (λ row. length row.items) (take l.row-index l.rows)
