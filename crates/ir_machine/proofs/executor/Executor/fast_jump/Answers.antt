use Rattle.std.proofs.Common.{◌+◌, sym, ap, ◌∙◌}
use Rattle.object_meaning.specs.Effects.{Effect, goes_on}
use Rattle.object_meaning.specs.Jumps.{jumped}
use Rattle.object_meaning.specs.States.{Frame}
use Rattle.machine_meaning.specs.Machines.{Machine, lifted}
use Rattle.ir_machine.specs.Executors.{machinery, seen}
use Rattle.ir_machine.proofs.executor.Executor.fast_jump.Goals as goal
use Rattle.run_tasks.proofs.StepLemmas.{step_left}

pub returns : goal.returns
returns c =
    let now = c.args.self.now in let machine = seen now in let all = machinery c.args.program.now in let block = c.args.block in
    let running : Frame → Effect Machine = λ f. goes_on (record machine { state = record machine.state { running = f; steps = now.steps + 1 } }) in
    sym (ap (lifted machine) (step_left all.setting machine.state (jumped all.setting block) c.if-self-program.false))
    ∙ ap running (sym c.in_ok-arrive.ensures)
