use Rattle.std.proofs.Common.{◌<◌, ◌≤◌, ◌^◌, arith}
use Rattle.ir_lines.proofs.Powers.{narrow_below}
use Rattle.ir_lines.proofs.literals.modulo.Goals as goal

pub returns-else-width-lt64 : goal.returns-else-width-lt64
returns-else-width-lt64 c =
    let w : 64 ≤ c.args.width = omega arith in
    let h : c.args.number < 2 ^ c.args.width = narrow_below _ _ w c.ranges.number.fits in
    grind arith
