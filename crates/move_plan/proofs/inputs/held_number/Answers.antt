use Rattle.move_plan.specs.Words.{words}
use Rattle.move_plan.proofs.InputLaws.{holds_word, no_number}
use Rattle.move_plan.proofs.inputs.held_number.Goals as goal

pub returns-in_err-signed_number-in-None : goal.returns-in_err-signed_number-in-None
returns-in_err-signed_number-in-None c =
    rw c.from_residual.ensures (no_number c.args.line.now c.in-Some.word.now (words c.in-Some.rest.now) c.in-Some.ensures c.in-None.ensures c.in_err-signed_number-in-None.ensures)

pub returns-in_ok-signed_number-in-None : goal.returns-in_ok-signed_number-in-None
returns-in_ok-signed_number-in-None c =
    holds_word c.args.line.now c.in-Some.word.now (words c.in-Some.rest.now) c.in_ok-signed_number-in-None.field-0 c.in-Some.ensures c.in-None.ensures c.in_ok-signed_number-in-None.ensures
