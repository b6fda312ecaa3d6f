use Rattle.std.proofs.Common.{◌≤◌, ◌<◌, ◌^◌, arith}
use Rattle.std.proofs.Math.Pow.{pow_mono}
use Rattle.std.proofs.lemmas.Bool.{le-leb}
use Rattle.ir_verify.proofs.types.is_below.Goals as goal

pub returns-then-width-ge64 : goal.returns-then-width-ge64
returns-then-width-ge64 c =
    let p : 2 ^ 64 ≤ 2 ^ c.args.width = pow_mono c.if-width-ge64.true in
    let h : c.args.number < 2 ^ c.args.width = omega (arith, c.ranges.number.fits) in
    ((λ is. h), (λ below. le-leb 64 c.args.width c.if-width-ge64.true))
