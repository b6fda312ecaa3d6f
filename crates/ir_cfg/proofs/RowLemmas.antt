-- Lists one after the other in one list.
use Rattle.std.proofs.Common.{◌≡◌, ℕ, zero, suc, ◌<◌, ◌≤◌, ◌+◌, ◌-◌, List, [], ◌∷◌, ◌++◌, length, get_or, set, take, drop, sum, refl, ap, sym, ◌∙◌, arith, ◌⊎◌, inl, inr}
use Rattle.std.specs.List.{slice_range, flat_map}
use Rattle.std.proofs.lemmas.List.{length-append, length-drop, take_all, take-append-le, drop-append-le, drop_all, drop-set, drop-set-lt, drop-set-add, take-set-le}
use Rattle.std.proofs.lemmas.List.Folds.{drop_split}
use Rattle.std.proofs.lemmas.List.Sums.{sum_by-cons}
use Rattle.std.proofs.Math.Seq.{drop-append_seam}
use Rattle.sp_ids.specs.declared.ids.BlockId.{BlockId}
use Rattle.ir_cfg.specs.Rows.{rows_from, AreStops}

pub length-rows_from : (start : ℕ) (stops : List ℕ) (items : List BlockId) → length (rows_from start stops items) ≡ length stops
length-rows_from start [] items = refl
length-rows_from start (stop ∷ stops) items = ap suc (length-rows_from stop stops items)

pub stops_below : (start : ℕ) (stops : List ℕ) (end : ℕ) → AreStops start stops end → start ≤ end
stops_below start [] end h = omega arith
stops_below start (stop ∷ stops) end h = let rest = stops_below stop stops end h.1 in omega arith

-- the row at a place lies between the end of the one before it and its own end
pub record RowAt (start : ℕ) (stops : List ℕ) (items : List BlockId) (place : ℕ) : Type 0 where
  pub up : get_or (start ∷ stops) place 0 ≤ get_or stops place 0
  pub within : get_or stops place 0 ≤ length items
  pub row : get_or (rows_from start stops items) place []
      ≡ slice_range items (get_or (start ∷ stops) place 0) (get_or stops place 0)

pub row_at : (start : ℕ) (stops : List ℕ) (items : List BlockId) (place : ℕ) → AreStops start stops (length items)
    → place < length stops → RowAt start stops items place
row_at start [] items place h in' = absurd (omega arith)
row_at start (stop ∷ stops) items zero h in' = record { up = h.0; within = stops_below stop stops (length items) h.1; row = refl }
row_at start (stop ∷ stops) items (suc place) h in' =
    let rest = row_at stop stops items place h.1 (omega arith) in
    record { up = rest.up; within = rest.within; row = rest.row }

pub stops_push : (start : ℕ) (stops : List ℕ) (end more : ℕ) → AreStops start stops end → end ≤ more
    → AreStops start (stops ++ more ∷ []) more
stops_push start [] end more h le = (omega arith, refl)
stops_push start (stop ∷ stops) end more h le = (h.0, stops_push stop stops end more h.1 le)

range_in_front : (items row : List BlockId) (start stop : ℕ) → start ≤ stop → stop ≤ length items
    → slice_range (items ++ row) start stop ≡ slice_range items start stop
range_in_front items row start stop up within =
    let front : start ≤ length items = omega arith in
    let few : stop - start ≤ length (drop start items) = omega (arith, length-drop start items) in
    rw (drop-append-le start items row, take-append-le (stop - start) (drop start items) row) refl

range_at_end : (items row : List BlockId) → slice_range (items ++ row) (length items) (length (items ++ row)) ≡ row
range_at_end items row =
    let all : length row ≤ length (items ++ row) - length items = omega (arith, length-append items row) in
    rw (drop-append_seam items row) (take_all _ row all)

pub rows_push : (start : ℕ) (stops : List ℕ) (items row : List BlockId) → AreStops start stops (length items)
    → rows_from start (stops ++ length (items ++ row) ∷ []) (items ++ row) ≡ rows_from start stops items ++ row ∷ []
rows_push start [] items row h = rw h (ap (λ (r : List BlockId). r ∷ []) (range_at_end items row))
rows_push start (stop ∷ stops) items row h =
    let first = range_in_front items row start stop h.0 (stops_below stop stops (length items) h.1) in
    let rest = rows_push stop stops items row h.1 in
    cc

-- rows one after the other are the list
pub rows_flat : (start : ℕ) (stops : List ℕ) (items : List BlockId) → AreStops start stops (length items)
    → flat_map (λ (row : List BlockId). row) (rows_from start stops items) ≡ drop start items
rows_flat start [] items h = let le : length items ≤ start = omega (arith, h) in sym (drop_all start items le)
rows_flat start (stop ∷ stops) items h =
    ap (λ (rest : List BlockId). slice_range items start stop ++ rest) (rows_flat stop stops items h.1) ∙ sym (drop_split items start stop h.0)

-- no row begins before the first
least_start : (start : ℕ) (stops : List ℕ) (end place : ℕ) → AreStops start stops end → place < length stops
    → start ≤ get_or (start ∷ stops) place 0
least_start start stops end zero h in' = omega arith
least_start start [] end (suc place) h in' = absurd (omega arith)
least_start start (stop ∷ stops) end (suc place) h in' =
    let rest = least_start stop stops end place h.1 (omega arith) in
    let first = h.0 in
    omega (arith, rest, first)

-- a row ends where a later one begins, or before
pub stops_ordered : (start : ℕ) (stops : List ℕ) (end place later : ℕ) → AreStops start stops end → place < later → later < length stops
    → get_or stops place 0 ≤ get_or (start ∷ stops) later 0
stops_ordered start [] end place later h before in' = absurd (omega arith)
stops_ordered start (stop ∷ stops) end place zero h before in' = absurd (omega arith)
stops_ordered start (stop ∷ stops) end zero (suc later) h before in' = least_start stop stops end later h.1 (omega arith)
stops_ordered start (stop ∷ stops) end (suc place) (suc later) h before in' =
    stops_ordered stop stops end place later h.1 (omega arith) (omega arith)

-- where each number is the sum of the counts up to it, they are where rows of so many items end
pub sums_are_stops : (start : ℕ) (counts stops : List ℕ) → length stops ≡ length counts
    → ((place : ℕ) → place < length counts → get_or stops place 0 ≡ start + sum (take (suc place) counts))
    → AreStops start stops (start + sum counts)
sums_are_stops start [] [] whole each = omega arith
sums_are_stops start [] (stop ∷ stops) whole each = absurd (omega (arith, whole))
sums_are_stops start (count ∷ counts) [] whole each = absurd (omega (arith, whole))
sums_are_stops start (count ∷ counts) (stop ∷ stops) whole each =
    let cons = sum_by-cons (λ (n : ℕ). n) in
    let first : stop ≡ start + count = omega (arith, each zero (omega arith), cons count []) in
    let rest = sums_are_stops stop counts stops (omega (arith, whole))
    (λ place below. omega (arith, each (suc place) (omega arith), cons count (take (suc place) counts), first)) in
    let end : stop + sum counts ≡ start + sum (count ∷ counts) = omega (arith, cons count counts, first) in
    (omega (arith, first), rw (← end) rest)

-- a write outside of a range
pub range_outside : (items : List BlockId) (place : ℕ) (item : BlockId) (start stop : ℕ) → start ≤ stop → (place < start) ⊎ (stop ≤ place)
    → slice_range (set items place item) start stop ≡ slice_range items start stop
range_outside items place item start stop up (inl before) =
    ap (λ (xs : List BlockId). take (stop - start) xs) (drop-set-lt start items place item before)
range_outside items place item start stop up (inr after) =
    let far : stop - start ≤ place - start = omega arith in
    let split : start + (place - start) ≡ place = omega arith in
    let moved = drop-set-add start items (place - start) item in
    ap (λ (n : ℕ). slice_range (set items n item) start stop) (sym split)
    ∙ ap (λ (xs : List BlockId). take (stop - start) xs) moved
    ∙ take-set-le (stop - start) (drop start items) (place - start) item far

-- a write in front of a range
pub range_first : (items : List BlockId) (place : ℕ) (item : BlockId) (stop : ℕ) → place < stop → place < length items
    → slice_range (set items place item) place stop ≡ item ∷ slice_range items (place + 1) stop
range_first items place item stop before within =
    let one : stop - place ≡ suc (stop - (place + 1)) = omega arith in
    ap (λ (xs : List BlockId). take (stop - place) xs) (drop-set items place item within)
    ∙ ap (λ (n : ℕ). take n (item ∷ drop (place + 1) items)) one
