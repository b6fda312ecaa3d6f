use Rattle.std.proofs.Common.{◌≡◌, ℕ, length, Some, None}
use Rattle.std.specs.Prelude.{slice_get}
use Rattle.flat_code.specs.Spots.{front_spot, entry_spot, behind_phis}
use Rattle.flat_code.specs.Segments.{AreChained, StartsAt}
use Rattle.flat_code.proofs.decode.function.Given as goal

abbrev pub invariant-loop-block : goal.invariant-loop-block
invariant-loop-block l = record {
  chained : AreChained l.source.layouts l.source.defined l.segments.items None;
  front : StartsAt l.segments.items 0 (front_spot l.source.defined);
  entry : StartsAt l.segments.items 1 (entry_spot l.source.defined);
  count : length l.starts.items ≡ l.block;
  starts : (block place : ℕ) → slice_get l.starts.items block ≡ Some place → StartsAt l.segments.items place (behind_phis l.source.defined block);
}
