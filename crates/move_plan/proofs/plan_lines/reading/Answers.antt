use Rattle.move_plan.specs.Words.{words}
use Rattle.move_plan.proofs.DecodeLemmas.{line_says, no_reading}
use Rattle.move_plan.proofs.plan_lines.reading.Goals as goal

pub returns-in_err-plan_line-in-Some : goal.returns-in_err-plan_line-in-Some
returns-in_err-plan_line-in-Some c =
    rw c.from_residual.ensures (no_reading c.args.line.now c.in-Some.first.now (words c.in-Some.rest.now) c.in-Some.ensures c.in_err-plan_line-in-Some.ensures)

pub returns-in_ok-plan_line-in-Some : goal.returns-in_ok-plan_line-in-Some
returns-in_ok-plan_line-in-Some c =
    line_says c.args.line.now c.in-Some.first.now (words c.in-Some.rest.now) c.in_ok-plan_line-in-Some.field-0 c.in-Some.ensures c.in_ok-plan_line-in-Some.ensures
