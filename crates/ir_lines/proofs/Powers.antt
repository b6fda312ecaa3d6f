-- Words below 2^64 against wider powers.
use Rattle.std.proofs.Common.{ℕ, ◌-◌, ◌^◌, ◌<◌, ◌≤◌, arith}
use Rattle.std.proofs.Math.Pow.{pow_mono}

pub narrow_below : (width number : ℕ) → 64 ≤ width → number < 2 ^ 64 → number < 2 ^ width
narrow_below width number wide small = let p : 2 ^ 64 ≤ 2 ^ width = pow_mono wide in omega arith

pub narrow_up_to_half : (width number : ℕ) → 64 < width → number < 2 ^ 64 → number ≤ 2 ^ (width - 1)
narrow_up_to_half width number wide small =
    let h : 64 ≤ width - 1 = omega arith in
    let p : 2 ^ 64 ≤ 2 ^ (width - 1) = pow_mono h in omega arith
