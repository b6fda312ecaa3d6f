-- A worked case: two nodes of 16 bytes, made at events 2 and 3, are moved at event 4 and laid side by side at event 5.
use Rattle.std.proofs.Common.{◌≡◌, refl, List, [], ◌∷◌}
use Rattle.move_plan.specs.declared.plan_lines.PlanLine.TheVariants.{Every, Flip, Go, Move}
use Rattle.made_objects.specs.declared.makes.Made.{Made}
use Rattle.compact_plan.specs.Compacting.{compacted}

abbrev nodes : List Made
nodes = record { event = 2; footprint = 16 } ∷ record { event = 3; footprint = 16 } ∷ []

after_the_moves_of_another_event : compacted (Move 4 1 1099511627792 ∷ Move 4 2 1099511627776 ∷ []) nodes 5
    ≡ Move 4 1 1099511627792 ∷ Move 4 2 1099511627776 ∷ Move 5 1 1099511627776 ∷ Move 5 2 1099511627792 ∷ []
after_the_moves_of_another_event = refl

in_place_of_its_own : compacted (Every 7 ∷ Move 3 1 1099511627776 ∷ Flip 3 ∷ Go 4 1 ∷ []) nodes 3
    ≡ Every 7 ∷ Flip 3 ∷ Move 3 1 1099511627776 ∷ Go 4 1 ∷ []
in_place_of_its_own = refl

first_where_no_line_is_before : compacted (Flip 9 ∷ []) nodes 3 ≡ Move 3 1 1099511627776 ∷ Flip 9 ∷ []
first_where_no_line_is_before = refl
