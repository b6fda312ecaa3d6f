use Rattle.std.proofs.Common.{◌≡◌, ℤ, Bool, List, sym, ap, ◌∙◌}
use Rattle.std.specs.Prelude.{Err, Option, unsigned_abs}
use Rattle.ir_ast.specs.Objects.{number}
use mir.Syntax.{w64}
use mir.ValLaws.{to_z-of_z}
use Rattle.sp_ids.specs.declared.ends.End.TheVariants.{Trap}
use Rattle.sp_ids.specs.declared.ends.Trap.TheVariants.{Count, Full}
use Rattle.moving_heap.specs.Heaps.{HeapView, alloc_answer, heap_of, with_object}
use Rattle.moving_heap.specs.Settled.{Table}
use Rattle.object_meaning.specs.Effects.{Effect, ends, goes_on}
use Rattle.object_meaning.specs.States.{Frame}
use Rattle.machine_lines.specs.Going.{still}
use Rattle.machine_frames.specs.declared.tasks.Task.{Task}
use Rattle.machine_frames.specs.Frames.{CanGoOn, frame_of}
use Rattle.machine_meaning.specs.Machines.{Machine, gone_from, gone_on}
use Rattle.ir_machine.specs.Executors.{told}
use Rattle.ir_machine.specs.Events.{or_lost, placed}
use Rattle.ir_machine.proofs.EventLemmas.{make_goes, make_none, make_full}
use Rattle.ir_machine.proofs.events.make_object.Goals as goal

pub returns-then-lost : goal.returns-then-lost
returns-then-lost c = λ machine next there same.
    let after = placed machine c.happen-lost.new.run c.happen-lost.new.tasks c.happen-lost.new.places in
    sym (c.happen-lost.ensures.moved machine next there ∙ ap (λ (b : Bool). told (or_lost b after next)) c.if-lost.true)

pub returns-in-Ok : goal.returns-in-Ok
returns-in-Ok c = λ machine next there same.
    let later : Task = c.happen-lost.new.run in let others : List (Option Task) = c.happen-lost.new.tasks in let left = c.happen-lost.new.places in
    let after = placed machine later others left in
    let heap : HeapView = still (heap_of c.make.new.self) in
    let value = to_z-of_z w64 c.args.count c.ranges.count in
    let stays = ap (λ (task : Task). frame_of task.frame) c.happen-lost.ensures.run in
    let goes : goes_on (placed machine c.resume.new.self others c.make.new.self) ≡ goes_on (gone_on (number c.in-Ok.address) (record after { heap = heap })) =
    ap (λ (task : Task). goes_on (placed machine task others c.make.new.self)) c.resume.ensures.others
    ∙ ap (λ (frame : Frame). goes_on (record after { state = record after.state { running = frame }; heap = heap })) c.resume.ensures.frame in
    ap told (goes
    ∙ make_goes after c.args.layout c.args.fields.now c.args.count c.in-Ok.address heap (ap (λ (n : ℤ). alloc_answer after.heap c.args.fields.now n) (sym value) ∙ c.in-Ok.ensures.address)
    (ap still (c.in-Ok.ensures.made ∙ ap (λ (n : ℤ). with_object after.heap c.args.layout c.args.fields.now (unsigned_abs n)) value))
    ∙ sym (same after stays))
    ∙ sym (c.happen-lost.ensures.moved machine next there ∙ ap (λ (b : Bool). told (or_lost b after next)) c.if-lost.false)

pub returns-in-Err-Count : goal.returns-in-Err-Count
returns-in-Err-Count c = λ machine next there same.
    let later : Task = c.happen-lost.new.run in let others : List (Option Task) = c.happen-lost.new.tasks in let left = c.happen-lost.new.places in
    let after = placed machine later others left in
    let value = to_z-of_z w64 c.args.count c.ranges.count in
    let stays = ap (λ (task : Task). frame_of task.frame) c.happen-lost.ensures.run in
    ap (λ (table : Table). let e : Effect Machine = ends (Trap Count) (placed machine later others table) in e) c.in-Err-Count.ensures.kept
    ∙ ap told (make_none after c.args.layout c.args.fields.now c.args.count (ap (λ (n : ℤ). alloc_answer after.heap c.args.fields.now n) (sym value) ∙ c.in-Err-Count.ensures.count (ap Err c.in-Err-Count.field-0-is)) ∙ sym (same after stays))
    ∙ sym (c.happen-lost.ensures.moved machine next there ∙ ap (λ (b : Bool). told (or_lost b after next)) c.if-lost.false)

pub returns-in-Err-Full : goal.returns-in-Err-Full
returns-in-Err-Full c = λ machine next there same.
    let later : Task = c.happen-lost.new.run in let others : List (Option Task) = c.happen-lost.new.tasks in let left = c.happen-lost.new.places in
    let after = placed machine later others left in
    let value = to_z-of_z w64 c.args.count c.ranges.count in
    let stays = ap (λ (task : Task). frame_of task.frame) c.happen-lost.ensures.run in
    ap (λ (table : Table). let e : Effect Machine = ends (Trap Full) (placed machine later others table) in e) c.in-Err-Full.ensures.kept
    ∙ ap told (make_full after c.args.layout c.args.fields.now c.args.count (ap (λ (n : ℤ). alloc_answer after.heap c.args.fields.now n) (sym value) ∙ c.in-Err-Full.ensures.full (ap Err c.in-Err-Full.field-0-is)) ∙ sym (same after stays))
    ∙ sym (c.happen-lost.ensures.moved machine next there ∙ ap (λ (b : Bool). told (or_lost b after next)) c.if-lost.false)
