-- Lists one after the other in one list.
use Rattle.std.proofs.Common.{◌≡◌, ℕ, zero, suc, ◌<◌, ◌≤◌, ◌-◌, List, [], ◌∷◌, ◌++◌, length, get_or, drop, refl, ap, subst, arith}
use Rattle.std.specs.Prelude.{slice_get, unwrap_or}
use Rattle.std.specs.List.{slice_range}
use Rattle.std.proofs.lemmas.List.{append-nil, length-append, length-drop, take_all, take-append-le, drop-append-le}
use Rattle.std.proofs.Math.Seq.{drop-append_seam}
use Rattle.case_lines.specs.Rows.{rows_from, AreStops}

pub length-rows_from : (start : ℕ) (stops lines : List ℕ) → length (rows_from start stops lines) ≡ length stops
length-rows_from start [] lines = refl
length-rows_from start (stop ∷ stops) lines = ap suc (length-rows_from stop stops lines)

stops_below : (start : ℕ) (stops : List ℕ) (end : ℕ) → AreStops start stops end → start ≤ end
stops_below start [] end h = omega arith
stops_below start (stop ∷ stops) end h = let rest = stops_below stop stops end h.1 in omega arith

-- the row at a place lies between the end of the one before it and its own end
pub record RowAt (start : ℕ) (stops lines : List ℕ) (place : ℕ) : Type 0 where
  pub up : get_or (start ∷ stops) place 0 ≤ get_or stops place 0
  pub within : get_or stops place 0 ≤ length lines
  pub row : unwrap_or (slice_get (rows_from start stops lines) place) []
      ≡ slice_range lines (get_or (start ∷ stops) place 0) (get_or stops place 0)

pub row_at : (start : ℕ) (stops lines : List ℕ) (place : ℕ) → AreStops start stops (length lines) → place < length stops → RowAt start stops lines place
row_at start [] lines place h in' = absurd (omega arith)
row_at start (stop ∷ stops) lines zero h in' = record { up = h.0; within = stops_below stop stops (length lines) h.1; row = refl }
row_at start (stop ∷ stops) lines (suc place) h in' =
    let rest = row_at stop stops lines place h.1 (omega arith) in
    record { up = rest.up; within = rest.within; row = rest.row }

-- there is none behind the last
pub no_row : (start : ℕ) (stops lines : List ℕ) (place : ℕ) → length stops ≤ place → unwrap_or (slice_get (rows_from start stops lines) place) [] ≡ []
no_row start [] lines place out = refl
no_row start (stop ∷ stops) lines zero out = absurd (omega arith)
no_row start (stop ∷ stops) lines (suc place) out = no_row stop stops lines place (omega arith)

pub stops_push : (start : ℕ) (stops : List ℕ) (end more : ℕ) → AreStops start stops end → end ≤ more → AreStops start (stops ++ more ∷ []) more
stops_push start [] end more h le = (omega arith, refl)
stops_push start (stop ∷ stops) end more h le = (h.0, stops_push stop stops end more h.1 le)

range_in_front : (lines row : List ℕ) (start stop : ℕ) → start ≤ stop → stop ≤ length lines
    → slice_range (lines ++ row) start stop ≡ slice_range lines start stop
range_in_front lines row start stop up within =
    let front : start ≤ length lines = omega arith in
    let few : stop - start ≤ length (drop start lines) = omega (arith, length-drop start lines) in
    rw (drop-append-le start lines row, take-append-le (stop - start) (drop start lines) row) refl

range_at_end : (lines row : List ℕ) → slice_range (lines ++ row) (length lines) (length (lines ++ row)) ≡ row
range_at_end lines row =
    let all : length row ≤ length (lines ++ row) - length lines = omega (arith, length-append lines row) in
    rw (drop-append_seam lines row) (take_all _ row all)

pub rows_push : (start : ℕ) (stops lines row : List ℕ) → AreStops start stops (length lines)
    → rows_from start (stops ++ length (lines ++ row) ∷ []) (lines ++ row) ≡ rows_from start stops lines ++ row ∷ []
rows_push start [] lines row h = rw h (ap (λ (r : List ℕ). r ∷ []) (range_at_end lines row))
rows_push start (stop ∷ stops) lines row h =
    let first = range_in_front lines row start stop h.0 (stops_below stop stops (length lines) h.1) in
    let rest = rows_push stop stops lines row h.1 in
    cc

-- a row of nothing
pub rows_push_none : (stops lines : List ℕ) → AreStops 0 stops (length lines)
    → rows_from 0 (stops ++ length lines ∷ []) lines ≡ rows_from 0 stops lines ++ [] ∷ []
rows_push_none stops lines h =
    subst (λ (ls : List ℕ). rows_from 0 (stops ++ length ls ∷ []) ls ≡ rows_from 0 stops lines ++ [] ∷ []) (append-nil lines) (rows_push 0 stops lines [] h)
