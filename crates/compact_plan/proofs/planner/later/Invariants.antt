use Rattle.std.proofs.Common.{◌≡◌, ◌++◌, drop}
use Rattle.compact_plan.specs.Compacting.{later_lines}
use Rattle.compact_plan.proofs.planner.later.Given as goal

abbrev pub invariant-loop-index : goal.invariant-loop-index
invariant-loop-index l = l.lines.items ++ later_lines (drop l.index l.plan) l.event ≡ later_lines l.plan l.event
