use Rattle.std.proofs.Common.{subst, Ok}
use Rattle.llvm_lift.specs.declared.front.Judged.{Judged}
use Rattle.llvm_lift.specs.Lifted.{IsSettled, left}
use Rattle.llvm_lift.proofs.JudgeLaws.{answers_outside, refused_outside}
use Rattle.llvm_lift.proofs.lifts.lift.Goals as goal

pub returns-then-branch : goal.returns-then-branch
returns-then-branch c = record {
  answers = answers_outside _ c.args.text.now c.lift_outside.result
      (refused_outside c.args.text.now (c.in_ok-declares_unknown.ensures c.if-branch.true)) c.lift_outside.ensures;
}

pub returns-in-Printed : goal.returns-in-Printed
returns-in-Printed c = record {
  answers = left (subst (λ (it : Judged). IsSettled c.args.text.now (Ok it)) c.in-Printed.is c.in_ok-printed.ensures);
}

pub returns-in-Faulty : goal.returns-in-Faulty
returns-in-Faulty c = record {
  answers = answers_outside _ c.args.text.now c.lift_outside-in-Faulty.result
      (subst (λ (it : Judged). IsSettled c.args.text.now (Ok it)) c.in-Faulty.is c.in_ok-printed.ensures).0 c.lift_outside-in-Faulty.ensures;
}
