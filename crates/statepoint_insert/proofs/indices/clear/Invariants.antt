use Rattle.std.proofs.Common.{◌≡◌, length, drop}
use Rattle.statepoint_insert.specs.Ranks.{IsBlankBeside}
use Rattle.statepoint_insert.proofs.indices.clear.Given as goal

abbrev pub invariant-loop-value : goal.invariant-loop-value
invariant-loop-value l = record {
  whole : length l.row.items ≡ length l.initial.row.items;
  beside : IsBlankBeside (drop l.value-index l.list) l.row.items;
}
