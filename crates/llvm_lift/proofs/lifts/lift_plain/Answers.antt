use Rattle.std.proofs.Common.{ℕ, Vec, Global}
use Rattle.llvm_lift.proofs.JudgeLaws.{refusal_lifts}
use Rattle.llvm_lift.proofs.lifts.lift_plain.Goals as goal

pub returns-then-not-is_empty : goal.returns-then-not-is_empty
returns-then-not-is_empty c =
    refusal_lifts {X = Vec ℕ Global} (λ out. out.items) c.args.text.now c.in_ok-lifted.lifted.reasons.items c.in_ok-lifted.lifted.missing.items c.refused.result
    c.in_ok-lifted.ensures.reasons c.in_ok-lifted.ensures.missing c.refused.ensures
