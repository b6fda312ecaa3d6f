use Rattle.std.proofs.Common.{◌≡◌, length}
use Rattle.test_passes.proofs.passes.all_with_bases.Given as goal

abbrev pub invariant-loop-func : goal.invariant-loop-func
invariant-loop-func l = length l.after.items ≡ length l.yielded
