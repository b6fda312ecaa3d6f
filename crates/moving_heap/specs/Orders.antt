-- Objects in the order of their addresses, and what a group of moves does to that order.
use Rattle.std.specs.Prelude.{ℕ, ◌+◌, ◌-◌, ◌≤◌, ◌^◌, ◌==◌, ◌++◌, if◌then◌else◌, Bool, not, is_some, List, map, Option, Some, None, slice_index_or}
use Rattle.std.specs.Option.{option_map}
use Rattle.moving_heap.specs.declared.stands.Stand.{Stand}
use Rattle.moving_heap.specs.declared.stands.Moved.{Moved}
use Rattle.moving_heap.specs.Places.{sent}

-- where an object goes, by its number
abbrev pub target_of : List (Option ℕ) → Stand → Option ℕ
target_of targets stand = slice_index_or targets (stand.number - 1) None

abbrev pub stays : List (Option ℕ) → Stand → Bool
stays targets stand = not (is_some (target_of targets stand))

abbrev pub sent_by : List (Option ℕ) → Stand → Stand
sent_by targets stand = sent stand (target_of targets stand)

-- an object that moves, at its target
abbrev pub leaver : List (Option ℕ) → Stand → Option Stand
leaver targets stand = option_map (λ to. record stand { address = to }) (target_of targets stand)

-- an object that never moved, and one that was moved
abbrev pub IsLow : Stand → Type 0
IsLow stand = stand.address + stand.size ≤ 2 ^ 40

abbrev pub IsHigh : Stand → Type 0
IsHigh stand = 2 ^ 40 ≤ stand.address

-- what contracts see of an order: the places, from 0, of the objects that never moved and of the others, both in the order
-- of their addresses, and how many there is room for
pub record Ordered : Type 0 where
  pub low : List ℕ
  pub high : List ℕ
  pub room : ℕ

abbrev pub nowhere : Stand
nowhere = record { number = 0; size = 0; address = 0 }

-- an object by its place
abbrev pub stand_at : List Stand → ℕ → Stand
stand_at stands place = slice_index_or stands place nowhere

abbrev pub row : List Stand → List ℕ → List Stand
row stands places = map (stand_at stands) places

-- all objects of an order
abbrev pub ranks : List Stand → Ordered → List Stand
ranks stands order = row stands order.low ++ row stands order.high

-- an object, at its target if it has one
abbrev pub then_at : List Stand → List (Option ℕ) → ℕ → Stand
then_at stands targets place = sent_by targets (stand_at stands place)

abbrev pub then_row : List Stand → List (Option ℕ) → List ℕ → List Stand
then_row stands targets places = map (then_at stands targets) places

abbrev pub then_ranks : List Stand → List (Option ℕ) → Ordered → List Stand
then_ranks stands targets order = then_row stands targets order.low ++ then_row stands targets order.high

-- by its place, whether an object has no target, and whether it has one
abbrev pub stays_at : List Stand → List (Option ℕ) → ℕ → Bool
stays_at stands targets place = stays targets (stand_at stands place)

abbrev pub leaves_at : List Stand → List (Option ℕ) → ℕ → Bool
leaves_at stands targets place = is_some (target_of targets (stand_at stands place))

-- ---- while a group is judged there is a move for each object, to 0 where it has no target

abbrev pub resting : Stand → Moved
resting stand = record { old = stand.address; new = 0 }

abbrev pub target_in : Moved → Option ℕ
target_in move = if move.new == 0 then None else Some move.new

abbrev pub targets_in : List Moved → List (Option ℕ)
targets_in moves = map target_in moves

abbrev pub leaves : Moved → Bool
leaves move = not (move.new == 0)
