use Rattle.gen_report.proofs.FlipLaws.{flips, no_fault}
use Rattle.gen_report.proofs.runs.flipping_plan.Goals as goal

pub returns-in-Ok : goal.returns-in-Ok
returns-in-Ok c = flips c.in-Ok.plan c.in-Ok.ensures.plan

pub unreachable-requires : goal.unreachable-requires
unreachable-requires c = no_fault c.in-Err-Syntax.field-0-0 1 (rw c.in-Err-Syntax.field-0-is at c.in-Err-Syntax.ensures.fault).is

pub unreachable-requires-in-Err-Order : goal.unreachable-requires-in-Err-Order
unreachable-requires-in-Err-Order c = no_fault c.in-Err-Order.field-0-0 2 (rw c.in-Err-Order.field-0-is at c.in-Err-Order.ensures.fault).is

pub unreachable-requires-in-Err-TwoGo : goal.unreachable-requires-in-Err-TwoGo
unreachable-requires-in-Err-TwoGo c = no_fault c.in-Err-TwoGo.field-0-0 3 (rw c.in-Err-TwoGo.field-0-is at c.in-Err-TwoGo.ensures.fault).is

pub unreachable-requires-in-Err-Limit : goal.unreachable-requires-in-Err-Limit
unreachable-requires-in-Err-Limit c = no_fault c.in-Err-Limit.field-0-0 4 (rw c.in-Err-Limit.field-0-is at c.in-Err-Limit.ensures.fault).is
