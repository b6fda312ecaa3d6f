use Rattle.std.proofs.Common.{subst, Ok}
use Rattle.ir_ast.specs.declared.modules.Form.TheVariants.{Source, Rewritten}
use Rattle.llvm_lift.specs.declared.front.Judged.{Judged}
use Rattle.llvm_lift.specs.Texts.{IsJudged}
use Rattle.llvm_lift.proofs.JudgeLaws.{settled_again}
use Rattle.llvm_lift.proofs.lifts.settled.Goals as goal

pub returns-in-Printed-2 : goal.returns-in-Printed-2
returns-in-Printed-2 c =
    settled_again c.args.text.now c.in-Printed-2.printed.items c.in-Faulty.field-0.line c.in-Faulty.field-0.code c.again.result
    (subst (λ (it : Judged). IsJudged Source c.args.text.now (Ok it)) c.in-Faulty.is c.in_ok-printed.ensures)
    (subst (λ (it : Judged). IsJudged Rewritten c.args.text.now (Ok it)) c.in-Printed-2.is c.in_ok-printed-in-Faulty.ensures)
    c.again.ensures
