-- What an event that is shown stands for, and its lines.
use Rattle.std.specs.Prelude.{ℕ, Bool, true, false, if◌then◌else◌, List, [], map}
use Rattle.object_meaning.specs.Traces.{Event, at_poll, at_new}
use Rattle.machine_meaning.specs.Happenings.{Happening as Happened, ObjectMove as Move}
use Rattle.run_texts.specs.RunTexts.{event_lines}
use Rattle.run_traces.specs.declared.happenings.Happening.{Happening}
use Rattle.run_traces.specs.declared.happenings.ObjectMove.{ObjectMove}
use Rattle.run_traces.specs.Changes.{change_of}

abbrev pub move_of : ObjectMove → Move
move_of move = record { object = move.object; old = move.old; new = move.new }

abbrev pub kind_of : Bool → Event
kind_of true = at_poll
kind_of false = at_new

-- where the walk lost a frame, no slot is shown
abbrev pub happened : Bool → Happening → Happened
happened lost happening = record {
  event = kind_of happening.poll;
  verdict = happening.verdict;
  moves = map move_of happening.moves.items;
  slots = if lost then [] else map change_of happening.slots.items;
}

abbrev pub happened_lines : Bool → Happening → List (List ℕ)
happened_lines lost happening = event_lines happening.number (happened lost happening)
