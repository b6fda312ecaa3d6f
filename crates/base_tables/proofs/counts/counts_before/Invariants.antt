use Rattle.std.proofs.Common.{◌≡◌, ◌≤◌, length, map, take, Bool, vec_len, vec_capacity}
use Rattle.std.specs.List.{count_by, range_with_len}
use Rattle.base_tables.proofs.counts.counts_before.Given as goal

abbrev pub invariant-loop-mark : goal.invariant-loop-mark
invariant-loop-mark l = record {
  counts : l.counts.items ≡ map (λ old. count_by (λ (mark : Bool). mark) (take old l.marks)) (range_with_len 0 l.mark-index);
  before : l.before ≡ count_by (λ (mark : Bool). mark) (take l.mark-index l.marks);
  len : vec_len l.counts ≡ l.mark-index;
  room : length l.marks ≤ vec_capacity l.counts;
}
