-- The lines of the plan that lays objects side by side at one event.
use Rattle.std.specs.Prelude.{ℕ, ◌+◌, ◌^◌, ◌&&◌, not, nat_lt, nat_le, Bool, if◌then◌else◌, List, [], ◌∷◌, ◌++◌, filter}
use Rattle.std.specs.List.{count_by}
use Rattle.std.specs.Option.{is_some}
use Rattle.move_plan.specs.declared.plan_lines.PlanLine.{PlanLine}
use Rattle.move_plan.specs.declared.plan_lines.PlanLine.TheVariants.{Move}
use Rattle.move_plan.specs.Plans.{event_of, move_at}
use Rattle.made_objects.specs.declared.makes.Made.{Made}

-- an object that stands already when the event comes
abbrev pub stands_before : ℕ → Made → Bool
stands_before event made = nat_lt made.event event

-- a move line for each object that was made before the event, to an address behind the footprints of those before it; the next object
-- has this number, and the next that moves goes to this address
abbrev pub packed : ℕ → ℕ → ℕ → List Made → List PlanLine
packed event number to [] = []
packed event number to (made ∷ rest) =
    if stands_before event made then Move event number to ∷ packed event (number + 1) (to + made.footprint) rest
    else packed event (number + 1) to rest

abbrev pub packing : List Made → ℕ → List PlanLine
packing made event = packed event 1 (2 ^ 40) made

abbrev pub move_count : List Made → ℕ → ℕ
move_count made event = count_by (stands_before event) made

-- a line up to the event that is no move of it; an `every` line stands before all events
abbrev pub is_front : ℕ → PlanLine → Bool
is_front event line = nat_le (event_of line) event && not (is_some (move_at event line))

abbrev pub is_later : ℕ → PlanLine → Bool
is_later event line = nat_lt event (event_of line)

abbrev pub front_lines : List PlanLine → ℕ → List PlanLine
front_lines plan event = filter (is_front event) plan

abbrev pub later_lines : List PlanLine → ℕ → List PlanLine
later_lines plan event = filter (is_later event) plan

-- the plan without its moves at the event, and behind its last line up to the event the moves that pack
abbrev pub compacted : List PlanLine → List Made → ℕ → List PlanLine
compacted plan made event = front_lines plan event ++ packing made event ++ later_lines plan event
