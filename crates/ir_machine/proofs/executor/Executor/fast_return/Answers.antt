use Rattle.std.proofs.Common.{ℕ, ◌+◌, ◌∷◌, List, sym, ap, subst, ◌∙◌}
use Rattle.std.specs.Prelude.{Bool}
use Rattle.ir_ast.specs.Objects.{number}
use Rattle.object_meaning.specs.Effects.{Effect, goes_on}
use Rattle.object_meaning.specs.Lines.{following}
use Rattle.object_meaning.specs.States.{Frame}
use Rattle.machine_meaning.specs.Machines.{Machine, gone_from}
use Rattle.machine_lines.specs.Lines.{line_of, lines_left}
use Rattle.machine_frames.specs.Frames.{below_of, frame_of}
use Rattle.machine_frames.specs.declared.tasks.Task.{Task}
use Rattle.machine_frames.specs.Tasks.{Leaves, Returns}
use Rattle.ir_machine.specs.Executors.{acts_at, machinery, seen}
use Rattle.ir_machine.proofs.CallLemmas.{ret_step}
use Rattle.ir_machine.proofs.executor.Executor.fast_return.Goals as goal

pub returns : goal.returns
returns c =
    let now = c.args.self.now in let machine = seen now in let inst = c.args.inst.now in let next = now.run.frame.next in let all = machinery c.args.program.now in
    let rest = c.args.rest.insts.now in let line = line_of next inst in let lines = lines_left (following next inst) rest in
    let one = c.leave.new.self in let two = c.go_on.new.self in let answer = c.first-answer.result in
    let caller = frame_of one.frame in let below = below_of one in
    let gone : Returns c.args.program.now.code now.run one =
    subst (λ (left : Bool). Leaves c.args.program.now.code now.run left one) c.if-not-left.false c.in_ok-left.ensures in
    let whole : Frame → List Frame → List ℕ → Effect Machine = λ f b words. goes_on (record machine { state = record machine.state { running = f; below = b; steps = now.steps + 1 }; stack = words }) in
    ap (acts_at all now inst rest) c.requires.is
    ∙ sym (ret_step all machine line lines answer (caller ∷ below) c.if-self-program.false c.first-answer.ensures gone.below)
    ∙ ap (λ (words : List ℕ). whole (gone_from words caller caller.rest (number answer)) below words) (sym gone.stack)
    ∙ ap (λ (f : Frame). whole f below one.stack) (sym c.in_ok-go_on.ensures.frame)
    ∙ ap (λ (task : Task). whole (frame_of two.frame) (below_of task) task.stack) (sym c.in_ok-go_on.ensures.others)
