use Rattle.std.proofs.Common.{take, ◌||◌}
use Rattle.std.specs.List.{list_any}
use Rattle.live_sets.specs.Sets.{Changed}
use Rattle.live_sets.specs.Uses.{uses}
use Rattle.live_sets.proofs.uses.put_entries.Given as goal

abbrev pub invariant-loop-operand : goal.invariant-loop-operand
invariant-loop-operand l =
    Changed l.marks l.initial.set l.set (λ v old. list_any (λ entry. uses l.marks l.bases v entry.1) (take l.operand-index l.bundle) || old)
