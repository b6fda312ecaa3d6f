-- How many lines are left to the frames in which the tasks stand.
use Rattle.std.proofs.Common.{◌≡◌, ℕ, zero, suc, ◌+◌, ◌<◌, ◌≤◌, List, [], ◌∷◌, length, drop, Some, ap, arith}
use Rattle.std.specs.Prelude.{slice_get, slice_set}
use Rattle.std.proofs.lemmas.List.{length-drop}
use Rattle.object_meaning.specs.Lines.{Line}
use Rattle.object_meaning.specs.States.{Frame, State}
use Rattle.object_meaning.proofs.EndLaws.{taken_within, set_within}

-- to a task that waits, in the frame that goes on when it is switched to
abbrev pub top_lines : List Frame → ℕ
top_lines [] = 0
top_lines (frame ∷ below) = length frame.rest

abbrev pub waiting_lines : List (List Frame) → ℕ
waiting_lines [] = 0
waiting_lines (task ∷ tasks) = top_lines task + waiting_lines tasks

-- to all tasks
abbrev pub lines_left : State → ℕ
lines_left state = length state.running.rest + waiting_lines state.tasks
