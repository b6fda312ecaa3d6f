use Rattle.llvm_lift.proofs.JudgeLaws.{lifted_settled, lifted_source}
use Rattle.llvm_lift.proofs.lifts.judge_lifted.Goals as goal

pub returns-then-is_rewritten : goal.returns-then-is_rewritten
returns-then-is_rewritten c = lifted_settled c.args.lifted.now c.settled.result c.settled.ensures

pub returns-else-is_rewritten : goal.returns-else-is_rewritten
returns-else-is_rewritten c = lifted_source c.args.lifted.now c.judge_text.result c.judge_text.ensures
