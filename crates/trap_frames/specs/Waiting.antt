-- What frames that wait show is read by the records and constants of a map and by the names of functions.
use Rattle.std.specs.Prelude.{◌≡◌, ℕ, List, map, Option}
use Rattle.std.specs.List.{concat}
use Rattle.moving_heap.specs.declared.stands.Stand.{Stand}
use Rattle.frame_walk.specs.Maps.{FrameEntry, deopt_places, pairs_of}
use Rattle.machine_meaning.specs.Machines.{Machinery}
use Rattle.machine_meaning.specs.TrapLines.{frame_line, shown_at, waiting_lines}

-- a machinery that has these
pub record IsReadBy (found : ℕ → Option FrameEntry) (constants : List ℕ) (names : ℕ → Option (List ℕ)) (machinery : Machinery) : Type 0 where
  pub found_is : (address : ℕ) → machinery.found address ≡ found address
  pub constants_are : machinery.constants ≡ constants
  pub names_are : (address : ℕ) → machinery.name_at address ≡ names address

-- the text of the frames above a newest frame of so many words
abbrev pub waiting_text : Machinery → List Stand → ℕ → List ℕ → List ℕ
waiting_text machinery stands own stack = concat (waiting_lines machinery stands own stack)

-- the line of a frame with these words and this record, where the record has "deopt" locations
abbrev pub line_with : List ℕ → List Stand → List ℕ → FrameEntry → ℕ → List ℕ → List (List ℕ)
line_with constants stands words one number name = frame_line number name (map (shown_at constants stands words (pairs_of one)) (deopt_places one))
