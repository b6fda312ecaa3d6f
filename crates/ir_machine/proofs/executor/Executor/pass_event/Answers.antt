use Rattle.std.proofs.Common.{◌≡◌, ℕ, Bool, List, length, map, sym, ap, subst, ◌∙◌, arith}
use Rattle.std.specs.Prelude.{Option, Some, None, slice_get, true}
use Rattle.std.proofs.lemmas.List.{with_items_is}
use Rattle.moving_heap.specs.Heaps.{HeapView, heap_of}
use Rattle.move_plan.specs.Plans.{go}
use Rattle.object_meaning.specs.Effects.{Effect, goes_on}
use Rattle.object_meaning.specs.Registers.{nothing}
use Rattle.object_meaning.specs.States.{Frame}
use Rattle.machine_lines.specs.Going.{still}
use Rattle.machine_frames.specs.declared.frames.Frame.{Frame as Standing}
use Rattle.machine_frames.specs.declared.tasks.Task.{Task}
use Rattle.machine_frames.specs.Frames.{CanGoOn, below_of, frame_of}
use Rattle.machine_meaning.specs.Machines.{Machine, gone_on}
use Rattle.machine_meaning.specs.MachineTasks.{polled_machine}
use Rattle.machine_meaning.specs.Moving.{moved_by, moves_due}
use Rattle.ir_machine.specs.Executors.{kept, machinery, seen, told, waiting}
use Rattle.ir_machine.specs.Events.{gone_to, next_frame, or_lost, placed, unwalked}
use Rattle.ir_machine.proofs.TaskLemmas.{same_next}
use Rattle.ir_machine.proofs.EventLemmas.{lent_moves}
use Rattle.ir_machine.proofs.executor.Executor.pass_event.Goals as goal

pub returns-then-lost : goal.returns-then-lost
returns-then-lost c =
    let now = c.args.self.now in let all = machinery c.args.program.now in
    let next : Machine → Effect Machine = λ m. goes_on (polled_machine all m) in
    let others : List (Option Task) = c.happen-lost.new.tasks in
    let count : length others ≡ now.tasks.len = omega (arith, c.happen-lost.auto.tasks, c.as_mut_slice.ensures.len) in
    sym (lent_moves all now.events (seen now) now.run now.tasks.items c.as_mut_slice.result.now c.places_mut.result.now now.heap next c.as_mut_slice.ensures.value c.places_mut.ensures.value
    ∙ c.happen-lost.ensures.moved (seen now) next (ap (λ (ts : List (Option Task)). slice_get ts now.task) c.as_mut_slice.ensures.value ∙ c.requires.hole)
    ∙ ap (λ (b : Bool). told (or_lost b (placed (seen now) c.happen-lost.new.run others c.happen-lost.new.places) next)) c.if-lost.true
    ∙ ap (λ (ts : List (Option Task)). told (or_lost true (placed (seen now) c.happen-lost.new.run ts c.happen-lost.new.places) next)) (sym (with_items_is now.tasks others count)))

pub resume-requires : goal.resume-requires
resume-requires c =
    let now = c.args.self.now in let tasks : List (Option Task) = now.tasks.items in
    let later : Task = c.happen-lost.new.run in let others : List (Option Task) = c.happen-lost.new.tasks in
    let count : length others ≡ now.tasks.len = omega (arith, c.happen-lost.auto.tasks, c.as_mut_slice.ensures.len) in
    let frame_is : c.go_to.new.self.run.frame ≡ next_frame (go c.args.program.now.plan.now now.events) now.run.frame tasks =
    c.go_to.ensures.frame
    ∙ ap (next_frame c.go_of.result later.frame) (with_items_is now.tasks others count)
    ∙ same_next c.go_of.result later.frame tasks others (c.happen-lost.ensures.tasks ∙ ap (map unwalked) c.as_mut_slice.ensures.value)
    ∙ ap (λ (task : Task). next_frame c.go_of.result task.frame tasks) c.happen-lost.ensures.run
    ∙ ap (λ (to : Option ℕ). next_frame to now.run.frame tasks) c.go_of.ensures in
    subst (λ (frame : Standing). CanGoOn frame) (sym frame_is) c.requires.goes

pub returns : goal.returns
returns c =
    let now = c.args.self.now in let all = machinery c.args.program.now in
    let next : Machine → Effect Machine = λ m. goes_on (polled_machine all m) in
    let others : List (Option Task) = c.happen-lost.new.tasks in
    let count : length others ≡ now.tasks.len = omega (arith, c.happen-lost.auto.tasks, c.as_mut_slice.ensures.len) in
    let went = c.go_to.new.self in
    let after = placed (seen now) c.happen-lost.new.run others c.happen-lost.new.places in
    let goes : goes_on (seen (record went { run = c.resume.new.self })) ≡ goes_on (gone_on nothing (seen went)) =
    ap (λ (task : Task). goes_on (seen (record went { run = task }))) c.resume.ensures.others
    ∙ ap (λ (frame : Frame). goes_on (record (seen went) { state = record (seen went).state { running = frame } })) c.resume.ensures.frame in
    ap told (goes
    ∙ ap (λ (m : Machine). goes_on (gone_on nothing m)) (c.go_to.ensures.goes
    ∙ ap (λ (ts : List (Option Task)). gone_to c.go_of.result (placed (seen now) c.happen-lost.new.run ts c.happen-lost.new.places)) (with_items_is now.tasks others count)
    ∙ ap (λ (to : Option ℕ). gone_to to after) c.go_of.ensures))
    ∙ sym (lent_moves all now.events (seen now) now.run now.tasks.items c.as_mut_slice.result.now c.places_mut.result.now now.heap next c.as_mut_slice.ensures.value c.places_mut.ensures.value
    ∙ c.happen-lost.ensures.moved (seen now) next (ap (λ (ts : List (Option Task)). slice_get ts now.task) c.as_mut_slice.ensures.value ∙ c.requires.hole)
    ∙ ap (λ (b : Bool). told (or_lost b after next)) c.if-lost.false)
