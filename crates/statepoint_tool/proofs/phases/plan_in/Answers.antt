use Rattle.statepoint_tool.specs.Work.{planned, no_plan}
use Rattle.statepoint_tool.specs.declared.refusal.PlanFault.TheVariants.{Syntax, Order, TwoGo, Limit}
use Rattle.statepoint_tool.proofs.phases.plan_in.Goals as goal

pub returns-in-Ok : goal.returns-in-Ok
returns-in-Ok c = planned c.in-Ok.plan c.in-Ok.ensures.plan c.in-Ok.ensures.faultless

pub returns-in-Err-Syntax : goal.returns-in-Err-Syntax
returns-in-Err-Syntax c = rw c.refused.ensures (no_plan (Syntax c.in-Err-Syntax.line) (rw c.in-Err-Syntax.field-0-is at c.in-Err-Syntax.ensures.fault))

pub returns-in-Err-Order : goal.returns-in-Err-Order
returns-in-Err-Order c = rw c.refused-in-Err-Order.ensures (no_plan (Order c.in-Err-Order.line) (rw c.in-Err-Order.field-0-is at c.in-Err-Order.ensures.fault))

pub returns-in-Err-TwoGo : goal.returns-in-Err-TwoGo
returns-in-Err-TwoGo c = rw c.refused-in-Err-TwoGo.ensures (no_plan (TwoGo c.in-Err-TwoGo.line) (rw c.in-Err-TwoGo.field-0-is at c.in-Err-TwoGo.ensures.fault))

pub returns-in-Err-Limit : goal.returns-in-Err-Limit
returns-in-Err-Limit c = rw c.refused-in-Err-Limit.ensures (no_plan (Limit c.in-Err-Limit.line) (rw c.in-Err-Limit.field-0-is at c.in-Err-Limit.ensures.fault))
