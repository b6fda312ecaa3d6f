use Rattle.std.proofs.Common.{Bool, sym, subst}
use Rattle.statepoint_tool.specs.Answers.{Agrees}
use Rattle.statepoint_tool.specs.Work.{judged}
use Rattle.statepoint_tool.specs.declared.engine.Engine.TheVariants.{Machine}
use Rattle.statepoint_tool.specs.declared.runner.Runner.{Runner}
use Rattle.statepoint_tool.proofs.runner.machine_runner.Goals as goal

pub returns-else-trust-clause-judged : goal.returns-else-trust-clause-judged
returns-else-trust-clause-judged c =
    subst (λ (trust : Bool). Agrees (λ (_ : Runner). c.args.read) c.checked_runner.result (judged (Machine c.args.map trust c.args.shows) c.args.read)) (sym c.if-trust.false)
    c.checked_runner.ensures.judged
