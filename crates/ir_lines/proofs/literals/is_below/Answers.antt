use Rattle.std.proofs.Common.{◌<◌, ◌^◌, arith}
use Rattle.std.proofs.lemmas.Bool.Decides.{nat_tests}
use Rattle.ir_lines.proofs.Powers.{narrow_below}
use Rattle.ir_lines.proofs.literals.is_below.Goals as goal

pub returns-then-width-ge64 : goal.returns-then-width-ge64
returns-then-width-ge64 c =
    let h : c.args.number < 2 ^ c.args.width = narrow_below _ _ c.if-width-ge64.true c.ranges.number.fits in
    grind (arith, nat_tests)
