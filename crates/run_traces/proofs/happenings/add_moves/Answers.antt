use Rattle.std.proofs.Common.{◌++◌, ◌+◌, List, [], ◌∷◌, ap, sym, ◌∙◌, map, append-nil}
use Rattle.std.proofs.lemmas.List.{map-append}
use Rattle.std.specs.List.{filter_map}
use Rattle.moving_heap.specs.declared.stands.Moved.{Moved}
use Rattle.moving_heap.specs.declared.stands.Stand.{Stand}
use Rattle.moving_heap.specs.Places.{new_address}
use Rattle.machine_meaning.specs.Happenings.{object_move}
use Rattle.run_traces.specs.Happenings.{move_of}
use Rattle.run_traces.proofs.WritingLemmas.{found, goes, missing, stays}
use Rattle.run_traces.proofs.happenings.add_moves.Goals as goal
use Rattle.run_traces.proofs.happenings.add_moves.Goals.{in-Some-new_address+in_ok-push, in_default-new_address}

pub returns-in_default : goal.returns-in_default
returns-in_default c =
    let heap = c.args.heap.now in
    let items = map move_of c.loop-place.moves.items in
    let none = missing (λ (stand : Stand). stand.address) heap.stands c.loop-place.place c.in_default.ensures in
    sym (append-nil items) ∙ ap (λ (l : List Stand). items ++ filter_map (object_move heap.moves) l) (sym none) ∙ c.loop-place.invariant

pub loop-place-preserved : goal.loop-place-preserved
loop-place-preserved c =
    let heap = c.args.heap.now in let place = c.loop-place.place in
    let items = map move_of c.loop-place.moves.items in
    let all = map move_of c.args.moves.now.items ++ filter_map (object_move heap.moves) heap.stands in
    let stand = found (λ (stand : Stand). stand.address) heap.stands place c.in-Some.old c.in-Some.ensures in
    elim c.match-new_address.branch [
      | in-Some-new_address+in_ok-push w ↦
          goes heap.moves heap.stands place items all c.in-Some.old stand c.loop-place.invariant c.requires w.in-Some-new_address.new (map move_of c.match-new_address.moves.items)
          (w.in-Some-new_address.ensures ∙ ap (λ (ms : List Moved). new_address ms c.in-Some.old) c.moves.ensures)
          (rw w.moves-is (ap (map move_of) w.in_ok-push.ensures.items ∙ map-append move_of c.loop-place.moves.items (record { object = place + 1; old = c.in-Some.old; new = w.in-Some-new_address.new } ∷ [])))
      | in_default-new_address w ↦ rw w.moves-is (stays heap.moves heap.stands place items all c.in-Some.old stand c.loop-place.invariant
          (w.in_default-new_address.ensures ∙ ap (λ (ms : List Moved). new_address ms c.in-Some.old) c.moves.ensures))
    ]
