use Rattle.std.proofs.Common.{◌≡◌, ◌<◌, ◌^◌, ◌+◌, ◌*◌, ◌-◌, get_or, drop, length, sym, ◌∙◌, arith}
use Rattle.line_tokens.specs.Numbers.{decimal, decimal_from}
use Rattle.line_tokens.proofs.Decimals.{decimal_from-ge, decimal_from-at, decimal_from-done}
use Rattle.line_tokens.proofs.numbers.decimal.Goals as goal

pub returns-in_err-number : goal.returns-in_err-number
returns-in_err-number c =
    let bs = c.args.digits.now in
    let i = c.loop-digit.digit-index in
    let lt : i < length bs = c.loop-digit-test.true in
    let all : decimal_from (10 * c.loop-digit.number + (get_or bs i 0 - 48)) (drop (i + 1) bs) ≡ decimal bs = sym (decimal_from-at c.loop-digit.number i bs lt) ∙ c.loop-digit.invariant.0 in
    let more = decimal_from-ge (10 * c.loop-digit.number + (get_or bs i 0 - 48)) (drop (i + 1) bs) in
    let large : 10 * c.loop-digit.number + (get_or bs i 0 - 48) < 2 ^ 64 → ⊥ = c.in_err-number.ensures in
    rw c.from_residual.ensures (λ small. large (omega arith))

pub loop-digit-preserved : goal.loop-digit-preserved
loop-digit-preserved c =
    let bs = c.args.digits.now in
    let i = c.loop-digit.digit-index in
    let lt : i < length bs = c.loop-digit-test.true in
    (rw c.in_ok-number.ensures.1 (sym (decimal_from-at c.loop-digit.number i bs lt) ∙ c.loop-digit.invariant.0), rw c.in_ok-number.ensures.1 c.in_ok-number.ensures.0)

pub returns : goal.returns
returns c =
    let bs = c.args.digits.now in
    let i = c.loop-digit.digit-index in
    let e : c.loop-digit.number ≡ decimal bs = sym (decimal_from-done c.loop-digit.number i bs c.loop-digit-test.false) ∙ c.loop-digit.invariant.0 in
    (omega (arith, e, c.loop-digit.invariant.1), e)
