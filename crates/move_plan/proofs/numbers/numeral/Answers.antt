use Rattle.std.proofs.Common.{◌<◌, ◌∙◌, sym, length, arith}
use Rattle.std.proofs.lemmas.Bool.Decides.{nat_tests}
use Rattle.move_plan.proofs.NumberLemmas.{numeral-more, numeral-stops, numeral-done, numeral_of-some}
use Rattle.move_plan.proofs.numbers.numeral.Goals as goal

pub returns-in_err-number : goal.returns-in_err-number
returns-in_err-number c =
    let some : 0 < length c.args.digits.now = omega arith in
    rw c.from_residual.ensures (sym (numeral_of-some c.args.digits.now some ∙ sym c.loop-digit.invariant
    ∙ numeral-stops c.loop-digit.number c.loop-digit.digit-index c.args.digits.now c.loop-digit-test.true c.in_err-number.ensures))

pub loop-digit-preserved : goal.loop-digit-preserved
loop-digit-preserved c =
    sym (numeral-more c.loop-digit.number c.in_ok-number.number c.loop-digit.digit-index c.args.digits.now c.loop-digit-test.true c.in_ok-number.ensures)
    ∙ c.loop-digit.invariant

pub returns : goal.returns
returns c =
    let some : 0 < length c.args.digits.now = grind (arith, nat_tests) in
    sym (numeral_of-some c.args.digits.now some ∙ sym c.loop-digit.invariant ∙ numeral-done c.loop-digit.number c.loop-digit.digit-index c.args.digits.now (omega arith))
