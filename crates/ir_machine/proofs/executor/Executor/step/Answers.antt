use Rattle.std.proofs.Common.{List, sym, ap}
use Rattle.machine_lines.specs.Lines.{lines_left}
use Rattle.ir_machine.specs.Executors.{machinery, seen, told}
use Rattle.ir_machine.proofs.StepLemmas.{does_as}
use Rattle.ir_ast.specs.Insts.{Instruction}
use Rattle.machine_meaning.specs.MachineSteps.{machine_at, machine_step}
use Rattle.ir_machine.proofs.executor.Executor.step.Goals as goal

pub returns-in-None : goal.returns-in-None
unfolding machine_step
returns-in-None c =
    let now = c.args.self.now in let all = machinery c.args.program.now in
    sym (ap (λ (insts : List Instruction). told (machine_at all (seen now) (lines_left now.run.frame.next insts))) c.in-None.ensures.insts)

pub returns-in-Some : goal.returns-in-Some
unfolding machine_step
returns-in-Some c =
    let now = c.args.self.now in let all = machinery c.args.program.now in
    does_as c.act.new.self c.act.result _ _
    (sym (ap (λ (insts : List Instruction). machine_at all (seen now) (lines_left now.run.frame.next insts)) c.in-Some.ensures.insts)) c.act.ensures
