use Rattle.std.proofs.Common.{◌≡◌, ◌≤◌, length, take, vec_len, vec_capacity}
use Rattle.std.specs.Prelude.{map}
use Rattle.base_tables.specs.Tables.{own_base_in}
use Rattle.base_tables.proofs.tables.bases.Given as goal

abbrev pub invariant-loop-origin : goal.invariant-loop-origin
invariant-loop-origin l = record {
  bases : l.bases.items ≡ map (own_base_in l.merged l.numbers.inserted.items l.numbers.numbers.items) (take l.origin-index l.origins);
  len : vec_len l.bases ≡ l.origin-index;
  room : length l.origins ≤ vec_capacity l.bases;
}
