use Rattle.std.proofs.Common.{take}
use Rattle.statepoint_verify.specs.Least.{IsLeastOf, IsMarkedAs}
use Rattle.statepoint_verify.proofs.least.least_of.Given as goal

abbrev pub invariant-loop-mark : goal.invariant-loop-mark
invariant-loop-mark l = IsLeastOf (IsMarkedAs l.func (take l.mark-index l.marks)) l.least
