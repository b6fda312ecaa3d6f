-- Objects that lie side by side.
use Rattle.std.specs.Prelude.{ℕ, ◌+◌, List, [], ◌∷◌}
use Rattle.move_plan.specs.declared.plan_lines.Move.{Move}
use Rattle.moving_heap.specs.declared.stands.Stand.{Stand}
use Rattle.moving_heap.specs.declared.stands.Verdict.{Verdict}
use Rattle.moving_heap.specs.declared.stands.Verdict.TheVariants.{Empty, Legal}

-- the objects by number, each behind the one before it
abbrev pub laid : ℕ → List Stand → List Stand
laid to [] = []
laid to (stand ∷ stands) = record stand { address = to } ∷ laid (to + stand.size) stands

-- without objects there is nothing to move
abbrev pub packing_verdict : List Stand → Verdict
packing_verdict [] = Empty
packing_verdict (stand ∷ stands) = Legal

-- the moves of the event, the next object with this number, the next address this
abbrev pub packing_moves : ℕ → ℕ → List ℕ → List Move
packing_moves number to [] = []
packing_moves number to (size ∷ sizes) = record { obj = number; to = to } ∷ packing_moves (number + 1) (to + size) sizes
