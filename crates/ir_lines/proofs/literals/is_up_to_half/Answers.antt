use Rattle.std.proofs.Common.{◌≤◌, ◌^◌, ◌-◌, arith}
use Rattle.std.proofs.lemmas.Bool.Decides.{nat_tests}
use Rattle.ir_lines.proofs.Powers.{narrow_up_to_half}
use Rattle.ir_lines.proofs.literals.is_up_to_half.Goals as goal

pub returns-then-width-gt64 : goal.returns-then-width-gt64
returns-then-width-gt64 c =
    let h : c.args.number ≤ 2 ^ (c.args.width - 1) = narrow_up_to_half _ _ c.if-width-gt64.true c.ranges.number.fits in
    grind (arith, nat_tests)
