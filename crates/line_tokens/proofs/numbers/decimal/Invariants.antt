use Rattle.std.proofs.Common.{◌≡◌, ◌<◌, ◌^◌, drop}
use Rattle.line_tokens.specs.Numbers.{decimal_from}
use Rattle.line_tokens.proofs.numbers.decimal.Given as goal

abbrev pub invariant-loop-digit : goal.invariant-loop-digit
invariant-loop-digit l = (decimal_from l.number (drop l.digit-index l.digits) ≡ decimal_from 0 l.digits) × (l.number < 2 ^ 64)
