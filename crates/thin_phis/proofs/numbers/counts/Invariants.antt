use Rattle.std.proofs.Common.{◌≡◌, map}
use Rattle.std.specs.List.{range_with_len}
use Rattle.thin_phis.specs.Thinned.{kept_below}
use Rattle.thin_phis.proofs.numbers.counts.Given as goal

abbrev pub invariant-loop-place : goal.invariant-loop-place
invariant-loop-place l = record {
  kept : l.kept.items ≡ map (kept_below l.ends) (range_with_len 0 l.place);
  count : l.count ≡ kept_below l.ends l.place;
}
