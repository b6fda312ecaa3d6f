use Rattle.std.proofs.Common.{Bool, sym, subst}
use Rattle.std.proofs.lemmas.Result.{IfOk-weaker}
use Rattle.ir_machine.specs.Executors.{machinery, seen}
use Rattle.ir_machine.specs.Answers.{Turned}
use Rattle.ir_machine.proofs.executor.Executor.turn.Goals as goal

pub returns-else-trace : goal.returns-else-trace
returns-else-trace c =
    let program = c.args.program.now in let old = seen c.args.self.now in let new = seen c.turn_quiet.new.self in let one = c.args.happening.now in
    IfOk-weaker c.turn_quiet.result _ _
    (λ turn far. subst (λ (trace : Bool). Turned (machinery program) trace old turn.event one turn.did new) (sym c.if-trace.false) (far one)) c.turn_quiet.ensures
