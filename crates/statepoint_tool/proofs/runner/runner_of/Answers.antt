use Rattle.std.proofs.Common.{sym, subst}
use Rattle.statepoint_tool.specs.Answers.{Agrees}
use Rattle.statepoint_tool.specs.Work.{judged}
use Rattle.statepoint_tool.specs.declared.engine.Engine.{Engine}
use Rattle.statepoint_tool.specs.declared.runner.Runner.{Runner}
use Rattle.statepoint_tool.proofs.runner.runner_of.Goals as goal

pub returns-in-Rewriter-clause-judged : goal.returns-in-Rewriter-clause-judged
returns-in-Rewriter-clause-judged c =
    subst (λ (engine : Engine). Agrees (λ (_ : Runner). c.args.read) c.rewriting_runner.result (judged engine c.args.read)) (sym c.in-Rewriter.is)
    c.rewriting_runner.ensures.judged
