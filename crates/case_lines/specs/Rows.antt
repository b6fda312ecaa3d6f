-- Lists one after the other in one list, with the end of each.
use Rattle.std.specs.Prelude.{◌≡◌, ℕ, ◌≤◌, List, [], ◌∷◌, slice_range}

-- the rows that begin at this place and end at these places
abbrev pub rows_from : ℕ → List ℕ → List ℕ → List (List ℕ)
rows_from start [] lines = []
rows_from start (stop ∷ stops) lines = slice_range lines start stop ∷ rows_from stop stops lines

-- the places go up, and the last of them is the end of all
abbrev pub AreStops : ℕ → List ℕ → ℕ → Type 0
AreStops start [] end = start ≡ end
AreStops start (stop ∷ stops) end = (start ≤ stop) × AreStops stop stops end
