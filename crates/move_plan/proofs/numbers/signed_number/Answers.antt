use Rattle.move_plan.proofs.InputLemmas.{minus_number}
use Rattle.move_plan.proofs.numbers.signed_number.Goals as goal

pub returns-in_ok-magnitude : goal.returns-in_ok-magnitude
returns-in_ok-magnitude c =
    minus_number c.args.word.now c.in_ok-first.rest.now c.in_ok-first.first.now c.in_ok-magnitude.field-0 c.negative.result c.in_ok-first.ensures.cases.0 c.if-first-eq45.true c.in_ok-magnitude.ensures.0 c.in_ok-magnitude.ensures.1 c.negative.ensures
