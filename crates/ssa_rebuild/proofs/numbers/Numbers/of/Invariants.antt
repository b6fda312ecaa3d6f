use Rattle.std.proofs.Common.{◌≡◌, ℕ, ◌<◌, ◌+◌, ◌++◌, ◌^◌, length, drop}
use Rattle.std.specs.Prelude.{slice_index}
use Rattle.std.specs.List.{range_with_len}
use Rattle.version_walk.specs.Forest.{list_at}
use Rattle.ssa_rebuild.specs.Rows.{starts_of, all_owns, slots_in}
use Rattle.ssa_rebuild.proofs.numbers.Numbers.of.Given as goal

abbrev pub invariant-loop-row : goal.invariant-loop-row
invariant-loop-row l = record {
  starts : starts_of l.args (slots_in l.rows) ≡ l.numbers.starts.items ++ starts_of l.next (slots_in (drop l.row-index l.rows));
  own : range_with_len 0 l.args ++ all_owns l.args (slots_in l.rows) ≡ l.numbers.own.items ++ all_owns l.next (slots_in (drop l.row-index l.rows));
  whole : length l.numbers.starts.items ≡ l.row-index;
  room : (b : ℕ) → b < l.row-index → slice_index l.numbers.starts.items b + length (list_at l.rows b) < 2 ^ 32;
}
