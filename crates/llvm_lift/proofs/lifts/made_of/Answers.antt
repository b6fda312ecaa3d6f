use Rattle.std.proofs.Common.{subst, ℕ, Vec, Global, Ok}
use Rattle.llvm_lift.specs.declared.front.Judged.{Judged}
use Rattle.llvm_lift.specs.Lifted.{IsJudgedLifted}
use Rattle.llvm_lift.proofs.JudgeLaws.{lifting_fault}
use Rattle.llvm_lift.proofs.lifts.made_of.Goals as goal

pub returns-in-Printed : goal.returns-in-Printed
returns-in-Printed c = record {
  lifted = c.args.lifted.now;
  small = c.requires;
  settles = subst (λ (it : Judged). IsJudgedLifted c.args.lifted.now (Ok it)) c.in-Printed.is c.in_ok-printed.ensures;
}

pub returns-in-Faulty : goal.returns-in-Faulty
returns-in-Faulty c =
    lifting_fault {X = Vec ℕ Global} (λ out. out.items) c.in-Faulty.fault.code c.fault_at.result
    (subst (λ (it : Judged). IsJudgedLifted c.args.lifted.now (Ok it)) c.in-Faulty.is c.in_ok-printed.ensures) c.fault_at.ensures
