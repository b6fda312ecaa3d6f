use Rattle.std.proofs.Common.{◌≡◌, map, take, sym, ap, ◌∙◌}
use Rattle.ir_ast.specs.Objects.{number}
use Rattle.object_meaning.specs.Lines.{following}
use Rattle.machine_meaning.specs.Words.{worded_operand}
use Rattle.machine_lines.specs.Lines.{line_of, lines_left}
use Rattle.ir_machine.specs.Executors.{machinery, seen}
use Rattle.ir_machine.proofs.StepLemmas.{does_as}
use Rattle.std.proofs.lemmas.List.{take-map}
use Rattle.machine_meaning.specs.Machines.{over, spilled}
use Rattle.machine_meaning.specs.MachineSteps.{calls}
use Rattle.machine_frames.specs.declared.tasks.Task.{Task}
use Rattle.machine_frames.specs.Frames.{kept_in}
use Rattle.ir_machine.proofs.executor.Executor.statepoint.Goals as goal

pub returns : goal.returns
returns c =
    let now = c.args.self.now in let inst = c.args.inst.now in let next = now.run.frame.next in let all = machinery c.args.program.now in
    let line = line_of next inst in let lines = lines_left (following next inst) c.args.rest.insts.now in
    let operands : map worded_operand c.front.result.now ≡ take c.args.arguments (map worded_operand inst.operands) =
    ap (map worded_operand) (c.front.ensures ∙ ap (take c.args.arguments) c.operands.ensures) ∙ sym (take-map worded_operand c.args.arguments inst.operands) in
    let kept : Task = record now.run { stack = over (kept_in (map number now.run.frame.registers.items) inst c.args.arguments) now.run.stack } in
    let is : c.keep.new.self ≡ kept = c.in_ok-keep.ensures in
    does_as c.call.new.self c.call.result _ _
    (ap (λ (run : Task). calls all (seen (record now { run = run })) (line_of run.frame.next inst) (lines_left (following run.frame.next inst) c.args.rest.insts.now) c.args.callee (map worded_operand c.front.result.now)) is
    ∙ ap (calls all (spilled (seen now) line.inst c.args.arguments) line lines c.args.callee) operands) c.call.ensures

pub call-requires-clause-stands : goal.call-requires-clause-stands
call-requires-clause-stands c = ap (λ (run : Task). run.frame.rest.insts.now) c.in_ok-keep.ensures ∙ c.requires.stands
