use Rattle.std.proofs.Common.{List, ap, sym}
use Rattle.ir_ast.specs.Insts.{Instruction}
use Rattle.machine_meaning.specs.MachineSteps.{machine_at, machine_step}
use Rattle.machine_lines.specs.Lines.{lines_left}
use Rattle.ir_machine.specs.Executors.{machinery, seen}
use Rattle.ir_machine.proofs.StepLemmas.{goes_as}
use Rattle.ir_machine.proofs.executor.Executor.fast_step.Goals as goal

pub returns-in-Some : goal.returns-in-Some
unfolding machine_step
returns-in-Some c =
    let now = c.args.self.now in let all = machinery c.args.program.now in
    goes_as (seen now) (seen c.fast_step_at.new.self) c.fast_step_at.result _ _
    (sym (ap (λ (insts : List Instruction). machine_at all (seen now) (lines_left now.run.frame.next insts)) c.in-Some.ensures.insts)) c.fast_step_at.ensures
