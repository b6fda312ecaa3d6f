use Rattle.std.proofs.Common.{◌≡◌, ◌-◌, ◌^◌, arith}
use Rattle.std.proofs.lemmas.Nat.{and_mask}
use Rattle.sp_ids.proofs.numbers.wrap.Goals as goal

pub returns : goal.returns
returns c =
    let mask : c.ones.result ≡ 2 ^ c.args.width - 1 = omega (arith, c.ones.ensures) in
    rw mask (and_mask c.args.n c.args.width)
