-- The faults of a plan's text by their names.
use Rattle.std.specs.Prelude.{ℕ, List}
use Rattle.move_plan.specs.PlanFaults.{IsLeastFault, limit, order, syntax, two_go}
use Rattle.statepoint_tool.specs.declared.refusal.PlanFault.{PlanFault}
use Rattle.statepoint_tool.specs.declared.refusal.PlanFault.TheVariants.{Syntax, Order, TwoGo, Limit}

-- the line of a fault, and its code
abbrev pub line_of_fault : PlanFault → ℕ
line_of_fault (Syntax line) = line
line_of_fault (Order line) = line
line_of_fault (TwoGo line) = line
line_of_fault (Limit line) = line

abbrev pub code_of_fault : PlanFault → ℕ
code_of_fault (Syntax line) = syntax
code_of_fault (Order line) = order
code_of_fault (TwoGo line) = two_go
code_of_fault (Limit line) = limit

-- of all faults of the text, the one of the least line, and of that line the one of the least code
abbrev pub IsLeastPlanFault : List ℕ → PlanFault → Type 0
IsLeastPlanFault text fault = IsLeastFault text (line_of_fault fault) (code_of_fault fault)
