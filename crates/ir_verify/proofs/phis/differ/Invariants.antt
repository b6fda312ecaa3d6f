use Rattle.std.proofs.Common.{◌≡◌, length}
use Rattle.ir_verify.proofs.PhiLemmas.{IsFilled}
use Rattle.ir_verify.proofs.phis.differ.Given as goal

abbrev pub invariant-loop-place : goal.invariant-loop-place
invariant-loop-place l = record {
  size : length l.places.items ≡ length l.initial.places.items;
  filled : IsFilled l.labels l.operands l.places.items l.place;
}
