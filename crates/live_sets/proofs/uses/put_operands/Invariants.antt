use Rattle.std.proofs.Common.{take, ◌||◌}
use Rattle.std.specs.List.{list_any}
use Rattle.live_sets.specs.Sets.{Changed}
use Rattle.live_sets.specs.Uses.{uses}
use Rattle.live_sets.proofs.uses.put_operands.Given as goal

abbrev pub invariant-loop-operand : goal.invariant-loop-operand
invariant-loop-operand l =
    Changed l.marks l.initial.set l.set (λ v old. list_any (uses l.marks l.bases v) (take l.operand-index l.operands) || old)
