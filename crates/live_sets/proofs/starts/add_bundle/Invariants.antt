use Rattle.std.proofs.Common.{take}
use Rattle.std.specs.List.{flat_map}
use Rattle.live_sets.specs.Starts.{Grown, adds}
use Rattle.live_sets.proofs.starts.add_bundle.Given as goal

abbrev pub invariant-loop-operand : goal.invariant-loop-operand
invariant-loop-operand l = Grown l.wanted l.initial.starts.items l.starts.items (λ v. flat_map (λ entry. adds l.marks l.bases l.spot v entry.1) (take l.operand-index l.bundle))
