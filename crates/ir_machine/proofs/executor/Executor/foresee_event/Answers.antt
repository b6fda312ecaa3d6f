use Rattle.std.proofs.Common.{◌≡◌, ◌++◌, [], map, refl, sym, ap, ◌∙◌}
use Rattle.std.specs.List.{filter_map}
use Rattle.std.proofs.lemmas.Bool.{true≢false}
use Rattle.moving_heap.specs.Heaps.{HeapView}
use Rattle.machine_meaning.specs.Happenings.{changes_by_task, object_move}
use Rattle.machine_meaning.specs.Machines.{all_frames, all_stacks}
use Rattle.machine_meaning.specs.Moving.{moves_due, verdict_at}
use Rattle.run_traces.specs.Changes.{change_of}
use Rattle.run_traces.specs.Happenings.{move_of}
use Rattle.ir_machine.specs.Executors.{machinery, seen}
use Rattle.ir_machine.proofs.TraceLemmas.{foreseen_so, none_move, some_due}
use Rattle.ir_machine.proofs.executor.Executor.foresee_event.Goals as goal

pub returns-then-is_empty-clause-foreseen : goal.returns-then-is_empty-clause-foreseen
returns-then-is_empty-clause-foreseen c =
    let now = c.args.self.now in let machine = seen now in let all = machinery c.args.program.now in
    let events = c.saturating_add-number.result in
    let due : c.ready-happening.new.self.moves ≡ moves_due all machine.heap events = rw (c.group.ensures, c.flip_of-flip.ensures) at (ap (λ (h : HeapView). h.moves) c.ready-happening.ensures.pending) in
    let none : [] ≡ moves_due all machine.heap events = sym (c.is_empty.ensures.0 c.if-is_empty.true) ∙ (c.moves.ensures ∙ due) in
    let verdict : c.ready-happening.result ≡ verdict_at all machine.heap events = rw (c.group.ensures, c.flip_of-flip.ensures) at c.ready-happening.ensures.answer in
    foreseen_so all machine c.args.poll _ events [] c.saturating_add-number.ensures refl refl verdict none
    (ap (map move_of) c.clear.ensures.items ∙ sym (none_move machine.heap.stands)) (ap (map change_of) c.clear-2.ensures.items)

pub returns-clause-foreseen : goal.returns-clause-foreseen
returns-clause-foreseen c =
    let now = c.args.self.now in let machine = seen now in let all = machinery c.args.program.now in
    let events = c.saturating_add-number.result in
    let moves = c.ready-happening.new.self.moves in
    let due : c.ready-happening.new.self.moves ≡ moves_due all machine.heap events = rw (c.group.ensures, c.flip_of-flip.ensures) at (ap (λ (h : HeapView). h.moves) c.ready-happening.ensures.pending) in
    let verdict : c.ready-happening.result ≡ verdict_at all machine.heap events = rw (c.group.ensures, c.flip_of-flip.ensures) at c.ready-happening.ensures.answer in
    let stands = ap (λ (h : HeapView). h.stands) c.ready-happening.ensures.pending in
    let objects : map move_of c.add_moves.new.moves.items ≡ filter_map (object_move moves) machine.heap.stands =
    c.in_ok-add_moves.ensures ∙ (ap (λ items. map move_of items ++ filter_map (object_move moves) c.ready-happening.new.self.stands) c.clear.ensures.items
    ∙ ap (filter_map (object_move moves)) stands) in
    let slots : map change_of c.add_slots.new.slots.items ≡ changes_by_task all moves 0 (all_frames machine) (all_stacks machine) =
    c.in_ok-add_slots.ensures ∙ ap (λ items. map change_of items ++ changes_by_task all moves 0 (all_frames machine) (all_stacks machine)) c.clear-2.ensures.items in
    foreseen_so all machine c.args.poll _ events moves c.saturating_add-number.ensures refl refl verdict due objects
    (slots ∙ sym (some_due all moves machine (λ none. true≢false (sym (c.is_empty.ensures.1 (c.moves.ensures ∙ none)) ∙ c.if-is_empty.false))))
