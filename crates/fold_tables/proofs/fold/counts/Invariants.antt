use Rattle.std.proofs.Common.{◌≡◌, ◌≤◌, ◌<◌, ℕ, length, Some, slice_get}
use Rattle.fold_tables.specs.Counts.{stay_count}
use Rattle.fold_tables.proofs.fold.counts.Given as goal

abbrev pub invariant-loop-value : goal.invariant-loop-value
invariant-loop-value l = record {
  count : l.count ≡ stay_count l.table l.value;
  few : l.count ≤ l.value;
  long : length l.counts.items ≡ l.value;
  each : (value : ℕ) → value < l.value → slice_get l.counts.items value ≡ Some (stay_count l.table value);
}
