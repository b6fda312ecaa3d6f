use Rattle.std.specs.Prelude.{false}
use Rattle.ir_machine.specs.Executors.{machinery, seen}
use Rattle.ir_machine.specs.Answers.{LeadsOn}
use Rattle.ir_machine.proofs.executor.Executor.fast_steps.Given as goal

abbrev pub invariant-loop : goal.invariant-loop
invariant-loop l = LeadsOn (machinery l.program) false (seen l.initial.self) (seen l.self)
