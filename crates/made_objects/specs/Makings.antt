-- The objects that are made at events, each with its event and its footprint.
use Rattle.std.specs.Prelude.{ℕ, List, [], ◌∷◌, map}
use Rattle.tool_io.specs.Counts.{raised}
use Rattle.object_meaning.specs.Traces.{Event, at_poll, at_new}
use Rattle.made_objects.specs.declared.makes.Made.{Made}

-- the objects that are made at these events, the first of which comes after so many others: each new object takes the next of these
-- footprints; where none is left it isn't made, since the run trapped there. The number of an event stands still at 2^64 - 1
abbrev pub makings_from : ℕ → List Event → List ℕ → List Made
makings_from before [] sizes = []
makings_from before (at_poll ∷ events) sizes = makings_from (raised before) events sizes
makings_from before (at_new ∷ events) [] = []
makings_from before (at_new ∷ events) (size ∷ sizes) =
    record { event = raised before; footprint = size } ∷ makings_from (raised before) events sizes

abbrev pub makings : List Event → List ℕ → List Made
makings events sizes = makings_from 0 events sizes

-- the number of the last of these events
abbrev pub counted_from : ℕ → List Event → ℕ
counted_from before [] = before
counted_from before (event ∷ events) = counted_from (raised before) events

abbrev pub sizes_made : List Made → List ℕ
sizes_made made = map (λ one. one.footprint) made
