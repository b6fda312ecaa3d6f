use Rattle.ir_machine.specs.Executors.{machinery}
use Rattle.ir_machine.proofs.TaskLemmas.{WalkedTo}
use Rattle.ir_machine.proofs.events.walk_tasks.Given as goal

abbrev pub invariant-loop-place : goal.invariant-loop-place
invariant-loop-place l = WalkedTo (machinery l.program) l.moves.moves l.initial.tasks l.tasks l.place
