use Rattle.std.proofs.Common.{◌≡◌, length, ℕ, ◌<◌, true}
use Rattle.std.specs.List.{flat_map, range_with_len}
use Rattle.live_sets.specs.Starts.{list_at, starts_in}
use Rattle.live_sets.proofs.starts.starts.Given as goal
use Rattle.ir_ast.specs.Lists.{has_mark}

abbrev pub invariant-loop-number : goal.invariant-loop-number
invariant-loop-number l = record {
  whole : length l.starts.items ≡ length l.marks;
  each : (v : ℕ) → v < length l.marks → has_mark l.wanted v ≡ true → list_at l.starts.items v ≡ flat_map (starts_in l.func.content l.marks l.bases v) (range_with_len 0 l.number);
}
