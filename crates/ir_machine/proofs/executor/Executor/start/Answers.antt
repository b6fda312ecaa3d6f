use Rattle.std.proofs.Common.{◌≡◌, ℕ, ◌<◌, ◌≤◌, List, [], ◌∷◌, ◌++◌, length, map, set, sym, ap, ◌∙◌, arith}
use Rattle.std.specs.Prelude.{Option, Some, None, slice_get}
use Rattle.ir_ast.specs.Objects.{number}
use Rattle.object_meaning.specs.Effects.{Effect, goes_on}
use Rattle.object_meaning.specs.Lines.{following}
use Rattle.object_meaning.specs.Registers.{operand}
use Rattle.object_meaning.specs.States.{Frame}
use Rattle.machine_meaning.specs.Machines.{Machine}
use Rattle.machine_meaning.specs.Words.{worded_operand}
use Rattle.machine_lines.specs.Lines.{line_of, lines_left}
use Rattle.ir_machine.specs.Executors.{machinery, seen, told}
use Rattle.ir_machine.proofs.CallLemmas.{start_full, start_goes}
use Rattle.ir_machine.specs.Executors.{waiting, kept}
use Rattle.machine_frames.specs.declared.tasks.Task.{Task}
use Rattle.machine_frames.specs.Frames.{frame_of, frames_of, below_of}
use Rattle.std.proofs.lemmas.List.{length-map, map-append, map-set}
use Rattle.object_meaning.specs.Calls.{function_in}
use Rattle.machine_meaning.specs.MachineTasks.{started_machine}
use Rattle.ir_machine.proofs.executor.Executor.start.Goals as goal

pub returns-then-len : goal.returns-then-len
returns-then-len c =
    let now = c.args.self.now in let machine = seen now in let inst = c.args.inst.now in let next = now.run.frame.next in
    let line = line_of next inst in let rest = lines_left (following next inst) c.args.rest.insts.now in let all = machinery c.args.program.now in
    let func = function_in (slice_get (map worded_operand c.args.operands.now) 0) in
    let many : 64 ≤ length (map waiting now.tasks.items) = omega (arith, c.len.ensures, length-map now.tasks.items waiting) in
    ap told (start_full all machine func (operand machine.state.running.registers (map worded_operand c.args.operands.now) 1) many)

pub returns : goal.returns
returns c =
    let now = c.args.self.now in let machine = seen now in let inst = c.args.inst.now in let next = now.run.frame.next in
    let line = line_of next inst in let rest = lines_left (following next inst) c.args.rest.insts.now in let all = machinery c.args.program.now in
    let tasks : List (Option Task) = now.tasks.items in let operands = map worded_operand c.args.operands.now in
    let few : length (map waiting tasks) < 64 = omega (arith, c.len.ensures, length-map tasks waiting) in
    let number_is : c.len-task.result ≡ length (map waiting tasks) = omega (arith, c.len-task.ensures, length-map tasks waiting) in
    let begins = c.in_ok-run.ensures in
    let after : c.push.new.self.items ≡ set tasks now.task (Some now.run) ++ None ∷ [] =
    c.in_ok-push.ensures.items
    ∙ ap (λ (ts : List (Option Task)). ts ++ None ∷ []) (c.set_task.ensures ∙ ap (λ (run : Task). set tasks now.task (Some run)) c.replace-waits.ensures.value) in
    let frames : map waiting c.push.new.self.items ≡ set (map waiting tasks) now.task (frames_of now.run) ++ [] ∷ [] =
    ap (map waiting) after ∙ map-append waiting (set tasks now.task (Some now.run)) (None ∷ []) ∙ ap (λ (ts : List (List Frame)). ts ++ [] ∷ []) (map-set waiting tasks now.task (Some now.run)) in
    let stacks : map kept c.push.new.self.items ≡ set (map kept tasks) now.task now.run.stack ++ [] ∷ [] =
    ap (map kept) after ∙ map-append kept (set tasks now.task (Some now.run)) (None ∷ []) ∙ ap (λ (ts : List (List ℕ)). ts ++ [] ∷ []) (map-set kept tasks now.task (Some now.run)) in
    let whole : Task → List Frame → ℕ → List (List Frame) → List (List ℕ) → Effect Machine = λ run below task ts words. goes_on (record machine {
      state = record machine.state { running = frame_of run.frame; below = below; task = task; tasks = ts };
      stack = run.stack;
      stacks = words;
    }) in
    ap told (ap (λ (run : Task). whole run (below_of run) c.len-task.result (map waiting c.push.new.self.items) (map kept c.push.new.self.items)) c.replace-waits.ensures.after
    ∙ ap (λ (b : List Frame). whole c.in_ok-run.run' b c.len-task.result (map waiting c.push.new.self.items) (map kept c.push.new.self.items)) begins.below
    ∙ ap (λ (n : ℕ). whole c.in_ok-run.run' [] n (map waiting c.push.new.self.items) (map kept c.push.new.self.items)) number_is
    ∙ ap (λ (ts : List (List Frame)). whole c.in_ok-run.run' [] (length (map waiting tasks)) ts (map kept c.push.new.self.items)) frames
    ∙ ap (λ (ws : List (List ℕ)). whole c.in_ok-run.run' [] (length (map waiting tasks)) (set (map waiting tasks) now.task (frames_of now.run) ++ [] ∷ []) ws) stacks
    ∙ start_goes all machine c.function_in-func.result (number c.argument-argument.result) (frame_of c.in_ok-run.run'.frame) c.in_ok-run.run'.stack few begins.frame begins.stack
    ∙ ap (λ (f : ℕ). started_machine all machine f (number c.argument-argument.result)) c.function_in-func.ensures
    ∙ ap (started_machine all machine (function_in (slice_get operands 0))) (sym c.argument-argument.ensures))
