use Rattle.std.proofs.Common.{◌≡◌, ℕ, List, [], sym, ap, ◌∙◌}
use Rattle.std.specs.Prelude.{Option, slice_get}
use Rattle.std.specs.Option.{option_map_or}
use Rattle.std.proofs.lemmas.Result.{on_ok_weaker}
use Rattle.ir_ast.specs.declared.ops.Operand.{Operand}
use Rattle.ir_ast.specs.Insts.{Instruction}
use Rattle.object_meaning.specs.Effects.{Effect, goes_on}
use Rattle.object_meaning.specs.Lines.{following}
use Rattle.object_meaning.specs.Registers.{nothing}
use Rattle.object_meaning.specs.States.{Frame}
use Rattle.machine_meaning.specs.Machines.{Machine, gone_behind, gone_from, gone_on}
use Rattle.machine_meaning.specs.MachineTasks.{polled_machine, switched_machine}
use Rattle.machine_meaning.specs.Moving.{moves_due}
use Rattle.machine_lines.specs.Lines.{line_of, lines_left}
use Rattle.machine_frames.specs.declared.tasks.Task.{Task}
use Rattle.machine_frames.specs.Frames.{frame_of, below_of}
use Rattle.ir_machine.specs.Executors.{machinery, seen}
use Rattle.ir_machine.proofs.EventLemmas.{happen_is, nobody_due, nothing_due}
use Rattle.ir_machine.proofs.executor.Executor.pass_poll.Goals as goal

pub returns : goal.returns
returns c =
    let now = c.args.self.now in let machine = seen now in let all = machinery c.args.program.now in
    let inst = c.args.inst.now in let first = now.run.frame.next in let rest = c.args.rest.insts.now in
    let events = c.saturating_add-self.result in
    let counted : Machine = record machine { state = record machine.state { events = events } } in
    let next : Machine → Effect Machine = λ m. goes_on (polled_machine all m) in
    let none : [] ≡ moves_due all machine.heap events = nothing_due c.args.program.now machine.heap events c.requires.nothing in
    let running : Frame → Effect Machine = λ f. goes_on (record counted { state = record counted.state { running = f } }) in
    on_ok_weaker c.go_behind.result
    (λ (e : frame_of c.go_behind.new.self.frame ≡ gone_behind now.run.stack (frame_of now.run.frame) (line_of first inst) (lines_left (following first inst) rest) nothing inst.op). λ (operands : List Operand).
    sym (happen_is all machine next events [] c.saturating_add-self.ensures none)
    ∙ sym (ap (λ (to : Option ℕ). goes_on (gone_on nothing (option_map_or (λ (t : ℕ). switched_machine counted t (slice_get counted.state.tasks t)) to counted))) (nobody_due c.args.program.now events c.requires.nothing))
    ∙ ap (λ (insts : List Instruction). running (gone_from now.run.stack (frame_of now.run.frame) (lines_left first insts) nothing)) c.requires.stands
    ∙ ap running (sym e)
    ∙ ap (λ (task : Task). goes_on (record counted { state = record counted.state { running = frame_of c.go_behind.new.self.frame; below = below_of task }; stack = task.stack })) (sym c.go_behind.ensures.others)) c.go_behind.ensures.frame
