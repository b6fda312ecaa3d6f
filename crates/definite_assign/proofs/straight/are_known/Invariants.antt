use Rattle.std.proofs.Common.{◌≡◌}
use Rattle.definite_assign.specs.Straight.{values_before, AreKnown}
use Rattle.definite_assign.proofs.straight.are_known.Given as goal

abbrev pub invariant-loop-inst : goal.invariant-loop-inst
invariant-loop-inst l = record {
  known : l.known ≡ values_before l.arguments l.insts l.inst-index;
  lines : AreKnown l.arguments l.insts l.inst-index;
}
