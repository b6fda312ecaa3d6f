use Rattle.std.proofs.Common.{arith}
use Rattle.sp_text.proofs.FrontLemmas.{digits-all}
use Rattle.sp_text.proofs.fronts.digits_front.Goals as goal

pub returns-in_default : goal.returns-in_default
returns-in_default c = rw c.digits_len.ensures.len (digits-all _ (λ e. omega (arith, c.digits_len.ensures.len, e)))
