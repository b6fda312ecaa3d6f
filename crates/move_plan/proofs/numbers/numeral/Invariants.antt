use Rattle.std.proofs.Common.{◌≡◌, drop}
use Rattle.move_plan.specs.Decoded.{numeral_after}
use Rattle.move_plan.proofs.numbers.numeral.Given as goal

abbrev pub invariant-loop-digit : goal.invariant-loop-digit
invariant-loop-digit l = numeral_after l.number (drop l.digit-index l.digits) ≡ numeral_after 0 l.digits
