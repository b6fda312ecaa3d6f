use Rattle.std.proofs.Common.{◌≡◌, List, [], sym, ap, subst, ◌∙◌}
use Rattle.moving_heap.specs.declared.stands.Moved.{Moved}
use Rattle.moving_heap.specs.Heaps.{HasPlace, heap_of}
use Rattle.moving_heap.specs.Settled.{Table}
use Rattle.machine_meaning.specs.Moving.{moved_by, moves_due}
use Rattle.ir_machine.specs.Executors.{machinery, told}
use Rattle.ir_machine.specs.Events.{placed}
use Rattle.ir_machine.proofs.events.happen.Goals as goal

pub returns-then-is_empty-clause-moved : goal.returns-then-is_empty-clause-moved
returns-then-is_empty-clause-moved c = λ machine next there.
    let all = machinery c.args.program.now in let places = c.args.places.now in let run = c.args.run.now in let tasks = c.args.tasks.now in
    let none : [] ≡ moves_due all (heap_of places) c.args.event = rw (c.group_of.ensures, c.flip_of-flip.ensures) at (sym (c.is_empty.ensures.0 c.if-is_empty.true) ∙ c.moves.ensures ∙ ap (λ (table : Table). table.moves) c.ready.ensures.pending) in
    sym (ap (λ (moves : List Moved). told (moved_by all moves (placed machine run tasks places) next)) none)
    ∙ ap (λ (table : Table). told (next (placed machine run tasks table))) (sym c.ready.ensures.pending)

pub returns-then-is_empty-clause-room : goal.returns-then-is_empty-clause-room
returns-then-is_empty-clause-room c = λ fields count held. subst (λ (table : Table). HasPlace table fields count) (sym c.ready.ensures.pending) held

pub returns-clause-moved : goal.returns-clause-moved
returns-clause-moved c = λ machine next there.
    let all = machinery c.args.program.now in let places = c.args.places.now in let run = c.args.run.now in let tasks = c.args.tasks.now in
    let moves = c.ready.new.self.moves in
    let some : c.ready.new.self.moves ≡ moves_due all (heap_of places) c.args.event = rw (c.group_of.ensures, c.flip_of-flip.ensures) at (ap (λ (table : Table). table.moves) c.ready.ensures.pending) in
    sym (ap (λ (moves : List Moved). told (moved_by all moves (placed machine run tasks places) next)) some)
    ∙ ap (λ (table : Table). told (moved_by all moves (placed machine run tasks table) next)) (sym c.ready.ensures.pending)
    ∙ c.make_moves.ensures.moved machine next there

pub returns-clause-room : goal.returns-clause-room
returns-clause-room c = λ fields count held.
    c.make_moves.ensures.room fields count (subst (λ (table : Table). HasPlace table fields count) (sym c.ready.ensures.pending) held)
