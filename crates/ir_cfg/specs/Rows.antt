-- Lists one after the other in one list, with the end of each.
use Rattle.std.specs.Prelude.{◌≡◌, ℕ, ◌≤◌, List, [], ◌∷◌, slice_range}
use Rattle.sp_ids.specs.declared.ids.BlockId.{BlockId}

-- the rows that begin at this place and end at these places
abbrev pub rows_from : ℕ → List ℕ → List BlockId → List (List BlockId)
rows_from start [] items = []
rows_from start (stop ∷ stops) items = slice_range items start stop ∷ rows_from stop stops items

-- the places go up, and the last of them is the end of all
abbrev pub AreStops : ℕ → List ℕ → ℕ → Type 0
AreStops start [] end = start ≡ end
AreStops start (stop ∷ stops) end = (start ≤ stop) × AreStops stop stops end
