use Rattle.std.proofs.Common.{◌≡◌, List, map, take, sym, ap, ◌∙◌}
use Rattle.ir_ast.specs.declared.ops.Callee.TheVariants.{Poll}
use Rattle.ir_ast.specs.declared.ops.Operand.{Operand}
use Rattle.ir_ast.specs.Objects.{number}
use Rattle.object_meaning.specs.Lines.{following}
use Rattle.machine_meaning.specs.Words.{worded_operand}
use Rattle.machine_meaning.specs.Machines.{over, spilled}
use Rattle.machine_meaning.specs.MachineSteps.{calls}
use Rattle.machine_lines.specs.Lines.{line_of, lines_left}
use Rattle.machine_frames.specs.declared.tasks.Task.{Task}
use Rattle.machine_frames.specs.Frames.{kept_in}
use Rattle.std.proofs.lemmas.List.{take-map}
use Rattle.ir_machine.specs.Executors.{machinery, seen}
use Rattle.ir_machine.proofs.executor.Executor.fast_poll.Goals as goal

pub returns : goal.returns
returns c =
    let now = c.args.self.now in let inst = c.args.inst.now in let next = now.run.frame.next in let all = machinery c.args.program.now in
    let line = line_of next inst in let lines = lines_left (following next inst) c.args.rest.insts.now in
    let front : List Operand = take c.args.arguments inst.operands in
    let kept : Task = record now.run { stack = over (kept_in (map number now.run.frame.registers.items) inst c.args.arguments) now.run.stack } in
    let is : c.keep.new.self ≡ kept = c.in_ok-keep.ensures in
    ap (calls all (spilled (seen now) line.inst c.args.arguments) line lines Poll) (take-map worded_operand c.args.arguments inst.operands)
    ∙ sym (ap (λ (run : Task). calls all (seen (record now { run = run })) (line_of run.frame.next inst) (lines_left (following run.frame.next inst) c.args.rest.insts.now) Poll (map worded_operand front)) is)
    ∙ c.in_ok-pass_poll.ensures front

pub pass_poll-requires-clause-stands : goal.pass_poll-requires-clause-stands
pass_poll-requires-clause-stands c = ap (λ (run : Task). run.frame.rest.insts.now) c.in_ok-keep.ensures ∙ c.requires.stands
