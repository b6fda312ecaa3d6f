use Rattle.move_plan.proofs.InputLemmas.{few_digits}
use Rattle.move_plan.proofs.numbers.magnitude.Goals as goal

pub returns : goal.returns
returns c = few_digits c.args.digits.now c.numeral.result c.numeral.ensures c.if-digits-gt-INPUT_DIGITS.false
