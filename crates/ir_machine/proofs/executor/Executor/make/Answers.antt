use Rattle.std.proofs.Common.{◌≡◌, ℤ, List, length, map, sym, ap, ◌∙◌, arith, refl}
use Rattle.std.specs.Prelude.{Option, slice_get}
use Rattle.std.proofs.lemmas.List.{with_items_is}
use mir.Syntax.{w64}
use mir.ValLaws.{to_z-of_z}
use Rattle.sp_ids.specs.Numbers.{signed}
use Rattle.ir_ast.specs.declared.cells.Cell.{Cell}
use Rattle.ir_ast.specs.Objects.{Datum}
use Rattle.ir_ast.specs.Sizes.{fields_in}
use Rattle.moving_heap.specs.declared.stands.Moved.{Moved}
use Rattle.moving_heap.specs.declared.stands.Stand.{Stand}
use Rattle.moving_heap.specs.Contents.{Content}
use Rattle.moving_heap.specs.Heaps.{HeapView, heap_of}
use Rattle.object_meaning.specs.Effects.{Effect}
use Rattle.object_meaning.specs.Registers.{operand, number_in}
use Rattle.object_meaning.specs.States.{Frame}
use Rattle.machine_frames.specs.declared.tasks.Task.{Task}
use Rattle.machine_frames.specs.Frames.{frame_of}
use Rattle.machine_meaning.specs.Machines.{Machine}
use Rattle.machine_meaning.specs.MachineTasks.{allocating_machine}
use Rattle.machine_meaning.specs.Moving.{moves_due}
use Rattle.machine_meaning.specs.Words.{worded_operand}
use Rattle.ir_machine.specs.Executors.{machinery, seen, told}
use Rattle.ir_machine.specs.Events.{placed}
use Rattle.ir_machine.proofs.EventLemmas.{happen_is, lent_moves}
use Rattle.ir_machine.proofs.executor.Executor.make.Goals as goal
use Rattle.run_tasks.specs.Dids.{effect_of}

pub returns : goal.returns
returns c =
    let now = c.args.self.now in let machine = seen now in let all = machinery c.args.program.now in
    let operands = map worded_operand c.args.operands.now in let layout = c.args.layout in
    let event = c.saturating_add-event.result in
    let called : List Cell = fields_in c.args.program.now.code.layouts layout in
    let next : Machine → Effect Machine = λ m. allocating_machine m layout called (signed 64 (number_in (operand m.state.running.registers operands 0))) in
    let counted : Machine = record machine { state = record machine.state { events = event } } in
    let value = to_z-of_z w64 c.sign-count.result (record { sfits = c.sign-count.type_inv }) in
    let count : c.sign-count.result ≡ signed 64 (number_in (operand machine.state.running.registers operands 0)) = c.sign-count.ensures ∙ ap (λ (d : Datum). signed 64 (number_in d)) (sym c.argument.ensures) in
    let fields : c.fields_of-fields.result.now ≡ called = rw c.module.ensures at (c.fields_of-fields.ensures ∙ ap (λ layouts. fields_in layouts layout) c.layouts.ensures.value) in
    let others : List (Option Task) = c.make_object-did.new.tasks in let table = c.reserve.new.self in
    let many : length others ≡ now.tasks.len = omega (arith, c.make_object-did.auto.tasks, c.as_mut_slice.ensures.len) in
    let heap_is : heap_of table ≡ now.heap =
    ap (λ (stands : List Stand). let h : HeapView = record { stands = stands; contents = table.contents; moves = table.moves } in h) c.reserve.ensures.stands
    ∙ ap (λ (contents : List Content). let h : HeapView = record { stands = c.places_mut-places.result.now.stands; contents = contents; moves = table.moves } in h) c.reserve.ensures.contents
    ∙ ap (λ (moves : List Moved). let h : HeapView = record { stands = c.places_mut-places.result.now.stands; contents = c.places_mut-places.result.now.contents; moves = moves } in h) c.reserve.ensures.moves
    ∙ c.places_mut-places.ensures.value in
    let there = ap (λ (ts : List (Option Task)). slice_get ts now.task) c.as_mut_slice.ensures.value
    ∙ sym (ap (λ (ts : List (Option Task)). slice_get ts now.task) c.as_slice.ensures.value) ∙ c.waits_not.ensures c.if-not-waits_not.false in
    ap (λ (ts : List (Option Task)). told (effect_of c.make_object-did.result (placed counted c.make_object-did.new.run ts c.make_object-did.new.places))) (with_items_is now.tasks others many)
    ∙ c.make_object-did.ensures counted next there
    (λ (m : Machine) is. ap (λ (frame : Frame). allocating_machine m layout called (signed 64 (number_in (operand frame.registers operands 0)))) is
    ∙ ap (allocating_machine m layout called) (sym count)
    ∙ ap (λ (fs : List Cell). allocating_machine m layout fs c.sign-count.result) (sym fields)
    ∙ ap (allocating_machine m layout c.fields_of-fields.result.now) (sym value))
    ∙ sym (lent_moves all event counted now.run now.tasks.items c.as_mut_slice.result.now table now.heap next c.as_mut_slice.ensures.value heap_is)
    ∙ ap told (happen_is all machine next event (moves_due all machine.heap event) c.saturating_add-event.ensures refl)
