use Rattle.std.proofs.Common.{◌≡◌, ◌++◌, drop}
use Rattle.compact_plan.specs.Compacting.{front_lines}
use Rattle.compact_plan.proofs.planner.front.Given as goal

abbrev pub invariant-loop-index : goal.invariant-loop-index
invariant-loop-index l = l.lines.items ++ front_lines (drop l.index l.plan) l.event ≡ front_lines l.plan l.event
