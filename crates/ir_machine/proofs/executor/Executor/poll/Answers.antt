use Rattle.std.proofs.Common.{sym, ap, ◌∙◌, refl}
use Rattle.object_meaning.specs.Effects.{Effect, goes_on}
use Rattle.machine_meaning.specs.Machines.{Machine}
use Rattle.machine_meaning.specs.MachineTasks.{polled_machine}
use Rattle.machine_meaning.specs.Moving.{moves_due}
use Rattle.ir_machine.specs.Executors.{machinery, seen, told}
use Rattle.ir_machine.proofs.EventLemmas.{happen_is}
use Rattle.ir_machine.proofs.executor.Executor.poll.Goals as goal

pub returns : goal.returns
returns c =
    let machine = seen c.args.self.now in let all = machinery c.args.program.now in let event = c.saturating_add-event.result in
    let next : Machine → Effect Machine = λ m. goes_on (polled_machine all m) in
    c.pass_event.ensures ∙ ap told (happen_is all machine next event (moves_due all machine.heap event) c.saturating_add-event.ensures refl)
