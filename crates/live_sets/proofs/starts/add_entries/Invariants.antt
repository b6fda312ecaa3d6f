use Rattle.std.proofs.Common.{take}
use Rattle.live_sets.specs.Starts.{Grown, entries_add}
use Rattle.live_sets.proofs.starts.add_entries.Given as goal

abbrev pub invariant-loop-index : goal.invariant-loop-index
invariant-loop-index l = Grown l.wanted l.initial.starts.items l.starts.items (λ v. entries_add l.marks l.bases v l.labels (take l.index l.operands))
