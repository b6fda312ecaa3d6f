-- Where objects stand: the first place of each, what a group of moves changes, and which groups are legal.
use Rattle.std.specs.Prelude.{ℕ, ◌+◌, ◌%◌, ◌^◌, ◌==◌, ◌&&◌, ◌||◌, nat_lt, nat_le, Bool, true, false, if◌then◌else◌, List, [], ◌∷◌, length, map, Option, Some, None}
use Rattle.std.specs.List.{sum_by, count_by, list_all, find}
use Rattle.std.specs.Option.{option_map, option_map_or, is_some, unwrap_or}
use Rattle.move_plan.specs.declared.plan_lines.Move.{Move}
use Rattle.moving_heap.specs.declared.stands.Stand.{Stand}
use Rattle.moving_heap.specs.declared.stands.Moved.{Moved}
use Rattle.moving_heap.specs.declared.stands.Verdict.{Verdict}
use Rattle.moving_heap.specs.declared.stands.Verdict.TheVariants.{Empty, Legal, Illegal}

-- a new object stands behind the footprints of all before it
abbrev pub first_place : List Stand → ℕ
first_place stands = 65536 + sum_by (λ stand. stand.size) stands

abbrev pub new_stand : List Stand → ℕ → Stand
new_stand stands size = record { number = length stands + 1; size = size; address = first_place stands }

-- where the move lines of an event send an object
abbrev pub line_target : List Move → ℕ → Option ℕ
line_target [] number = None
line_target (line ∷ lines) number = if line.obj == number then Some line.to else line_target lines number

abbrev pub line_targets : List Move → List Stand → List (Option ℕ)
line_targets lines stands = map (λ stand. line_target lines stand.number) stands

-- a flip lays the objects without a line side by side
abbrev pub flipped : ℕ → List Stand → List (Option ℕ) → List (Option ℕ)
flipped at (stand ∷ stands) (Some to ∷ targets) = Some to ∷ flipped at stands targets
flipped at (stand ∷ stands) (None ∷ targets) = Some at ∷ flipped (at + stand.size) stands targets
flipped at _ targets = targets

abbrev pub flip_start : ℕ → ℕ
flip_start event = if event % 2 == 0 then 2 ^ 45 else 2 ^ 44

abbrev pub flipped_at : Option ℕ → List Stand → List (Option ℕ) → List (Option ℕ)
flipped_at None stands targets = targets
flipped_at (Some event) stands targets = flipped (flip_start event) stands targets

-- where each object goes at an event with these move lines, which flips where `event` has its number
abbrev pub group_targets : List Stand → List Move → Option ℕ → List (Option ℕ)
group_targets stands lines event = flipped_at event stands (line_targets lines stands)

-- the objects of the lines exist and differ
abbrev pub exist : List Stand → List Move → Bool
exist stands lines = list_all (λ line. nat_lt 0 line.obj && nat_le line.obj (length stands)) lines

abbrev pub unnamed : List Move → ℕ → Bool
unnamed lines number = list_all (λ line. if line.obj == number then false else true) lines

abbrev pub differ : List Move → Bool
differ [] = true
differ (line ∷ lines) = unnamed lines line.obj && differ lines

abbrev pub fits : Stand → ℕ → Bool
fits stand to = (to % 8 == 0) && (nat_le (2 ^ 40) to && nat_le (to + stand.size) (2 ^ 46))

abbrev pub all_fit : List Stand → List (Option ℕ) → Bool
all_fit (stand ∷ stands) (target ∷ targets) = option_map_or (fits stand) target true && all_fit stands targets
all_fit _ _ = true

-- where the objects stand after these moves
abbrev pub sent : Stand → Option ℕ → Stand
sent stand (Some to) = record stand { address = to }
sent stand None = stand

abbrev pub moved : List Stand → List (Option ℕ) → List Stand
moved (stand ∷ stands) (target ∷ targets) = sent stand target ∷ moved stands targets
moved stands _ = stands

-- two footprints are disjoint
abbrev pub clear : Stand → Stand → Bool
clear one other = nat_le (one.address + one.size) other.address || nat_le (other.address + other.size) one.address

abbrev pub apart : List Stand → Bool
apart [] = true
apart (stand ∷ stands) = list_all (clear stand) stands && apart stands

abbrev pub moves_none : List (Option ℕ) → Bool
moves_none targets = list_all (λ target. if is_some target then false else true) targets

abbrev pub no_lines : List Move → Bool
no_lines [] = true
no_lines (line ∷ lines) = false

abbrev pub is_legal : List Stand → List Move → List (Option ℕ) → Bool
is_legal stands lines targets = (exist stands lines && differ lines) && (all_fit stands targets && apart (moved stands targets))

abbrev pub verdict_of : List Stand → List Move → List (Option ℕ) → Verdict
verdict_of stands lines targets =
    if no_lines lines && moves_none targets then Empty else (if is_legal stands lines targets then Legal else Illegal)

abbrev pub verdict : List Stand → List Move → Option ℕ → Verdict
verdict stands lines flip = verdict_of stands lines (group_targets stands lines flip)

-- the moves of a group, by the numbers of the objects
abbrev pub moves_of : List Stand → List (Option ℕ) → List Moved
moves_of (stand ∷ stands) (Some to ∷ targets) = record { old = stand.address; new = to } ∷ moves_of stands targets
moves_of (stand ∷ stands) (None ∷ targets) = moves_of stands targets
moves_of _ _ = []

-- the moves that are made: those of a legal group
abbrev pub due_moves : Verdict → List Moved → List Moved
due_moves Legal moves = moves
due_moves _ moves = []

abbrev pub group_moves : List Stand → List Move → Option ℕ → List Moved
group_moves stands lines flip = due_moves (verdict stands lines flip) (moves_of stands (group_targets stands lines flip))

-- where the object goes that stands at an address
abbrev pub new_address : List Moved → ℕ → Option ℕ
new_address moves old = option_map (λ move. move.new) (find (λ move. move.old == old) moves)

-- the object inside whose footprint an address lies
abbrev pub holds : ℕ → Stand → Bool
holds word stand = nat_le stand.address word && nat_lt word (stand.address + stand.size)

abbrev pub owner : List Stand → ℕ → Option Stand
owner stands word = find (holds word) stands

-- the word that a pointer to a moved object becomes
abbrev pub new_word : List Moved → ℕ → ℕ
new_word moves word = unwrap_or (new_address moves word) word

abbrev pub carried : List Moved → Stand → Stand
carried moves stand = record stand { address = new_word moves stand.address }

-- the object that stands at an address
abbrev pub stands_at : List Stand → ℕ → Option Stand
stands_at stands base = find (λ stand. stand.address == base) stands

-- how many objects stand below an address
abbrev pub count_below : List Stand → ℕ → ℕ
count_below stands address = count_by (λ stand. nat_lt stand.address address) stands

-- the object with a place in the order of addresses, from 0: so many stand below it
abbrev pub at_rank : List Stand → ℕ → Option Stand
at_rank stands rank = find (λ stand. count_below stands stand.address == rank) stands
