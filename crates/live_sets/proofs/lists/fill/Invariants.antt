use Rattle.std.proofs.Common.{take}
use Rattle.live_sets.specs.Sets.{HasMembers}
use Rattle.live_sets.proofs.lists.fill.Given as goal

abbrev pub invariant-loop-value : goal.invariant-loop-value
invariant-loop-value l = HasMembers l.marks (take l.value-index l.values) l.set
