-- The moves of an event, found among all moves by their events.
use Rattle.std.proofs.Common.{◌≡◌, refl, ap, sym, subst, ◌∙◌, ℕ, ◌-◌, ◌<◌, ◌≤◌, Bool, true, false, List, [], ◌∷◌, length, take, drop, cond, eqb, ltb, leb, arith, None, Some}
use Rattle.std.specs.Prelude.{filter, map, slice_range, ◌&&◌}
use Rattle.std.specs.List.{filter_map, AllWithin}
use Rattle.std.specs.Option.{is_some, unwrap_or}
use Rattle.std.specs.List.Sorted.{IsNonDecreasing, IsNonDecreasingBy}
use Rattle.std.proofs.lemmas.List.{length-map, get_or-map, take-map, drop-map}
use Rattle.std.proofs.lemmas.List.Kept.{IsNonDecreasingBy-filter}
use Rattle.move_plan.specs.declared.plan_lines.Move.{Move as OneMove}
use Rattle.move_plan.specs.declared.plan_lines.PlanLine.{PlanLine}
use Rattle.move_plan.specs.declared.plan_lines.PlanLine.TheVariants.{Every, Move, Flip, Go}
use Rattle.move_plan.specs.Plans.{event_of, group, move_at}
use Rattle.move_plan.specs.Tables.{move_of, moved_at, AreTables}
use Rattle.move_plan.proofs.EventLemmas.{filter_map-map, filter-filter}
use Rattle.move_plan.proofs.SortedLemmas.{ArePlacesOf, slice_of_key}

abbrev is_move : PlanLine → Bool
is_move line = is_some (move_of line)

abbrev some_move : PlanLine → OneMove
some_move line = unwrap_or (move_of line) (record { obj = 0; to = 0 })

move_lines : List PlanLine → List PlanLine
move_lines plan = filter is_move plan

moves-lines : (plan : List PlanLine) → filter_map move_of plan ≡ map some_move (move_lines plan)
unfolding move_lines
moves-lines plan = filter_map-map move_of some_move is_move by plan
  where
    by : (line : PlanLine) → move_of line ≡ cond (is_move line) (Some (some_move line)) None
    by (Every period) = refl
    by (Move event obj to) = refl
    by (Flip event) = refl
    by (Go event task) = refl

events-lines : (plan : List PlanLine) → filter_map moved_at plan ≡ map event_of (move_lines plan)
unfolding move_lines
events-lines plan = filter_map-map moved_at event_of is_move by plan
  where
    by : (line : PlanLine) → moved_at line ≡ cond (is_move line) (Some (event_of line)) None
    by (Every period) = refl
    by (Move event obj to) = refl
    by (Flip event) = refl
    by (Go event task) = refl

group-lines : (plan : List PlanLine) (k : ℕ) → group plan k ≡ map some_move (filter (λ line. eqb (event_of line) k) (move_lines plan))
unfolding move_lines
group-lines plan k =
    filter_map-map (move_at k) some_move (λ line. is_move line && eqb (event_of line) k) by plan
    ∙ ap (map some_move) (sym (filter-filter (λ line. eqb (event_of line) k) is_move plan))
  where
    by : (line : PlanLine) → move_at k line ≡ cond (is_move line && eqb (event_of line) k) (Some (some_move line)) None
    by (Every period) = refl
    by (Move event obj to) = refl
    by (Flip event) = refl
    by (Go event task) = refl

-- keys of the elements themselves
rises-map : {X : Type 0} (n : X → ℕ) (xs : List X) → IsNonDecreasingBy n xs → IsNonDecreasing (map n xs)
rises-map n [] up = λ i j d order fits. omega (arith, fits)
rises-map {X} n (x ∷ xs) up = λ i j d order fits.
    let room : j < length (x ∷ xs) = omega (arith, fits, length-map (x ∷ xs) n) in
    rw (get_or-map n (x ∷ xs) i x d (omega arith), get_or-map n (x ∷ xs) j x d room) (up i j x order room)

pub events-rise : (plan : List PlanLine) (events : List ℕ) → IsNonDecreasingBy event_of plan → events ≡ filter_map moved_at plan → IsNonDecreasing events
unfolding move_lines
events-rise plan events up are = rw (are, events-lines plan) (rises-map event_of (move_lines plan) (IsNonDecreasingBy-filter event_of is_move plan up))

within-map : {X : Type 0} (P : ℕ → Type 0) (n : X → ℕ) (xs : List X) (low high : ℕ) → high ≤ length xs → AllWithin P (map n xs) low high
    → AllWithin (λ x. P (n x)) xs low high
within-map P n xs low high fits h = λ k d above below. subst (λ (m : ℕ). P m) (get_or-map n xs k d (n d) (omega arith)) (h k (n d) above below)

places-map : {X : Type 0} (n : X → ℕ) (xs : List X) (k i j : ℕ) → ArePlacesOf (λ m. m) (map n xs) k i j → ArePlacesOf n xs k i j
places-map n xs k i j are =
    let same = length-map xs n in
    let from_fits : i ≤ length xs = omega (arith, are.fits_from, same) in
    let to_fits : j ≤ length xs = omega (arith, are.fits_to, same) in
    record {
      fits_from = from_fits;
      fits_to = to_fits;
      from = (
        within-map (λ m. ltb m k ≡ true) n xs 0 i from_fits are.from.0,
        within-map (λ m. ltb m k ≡ false) n xs i (length xs) (omega arith) (λ place d low high. are.from.1 place d low (omega (arith, same))),
      );
      to = (
        within-map (λ m. leb m k ≡ true) n xs 0 j to_fits are.to.0,
        within-map (λ m. leb m k ≡ false) n xs j (length xs) (omega arith) (λ place d low high. are.to.1 place d low (omega (arith, same))),
      );
    }

pub moves_fit : (plan : List PlanLine) (moves : List OneMove) (events : List ℕ) → AreTables plan moves events → length moves ≡ length events
moves_fit plan moves events are =
    ap length (are.moves_are ∙ moves-lines plan) ∙ length-map (move_lines plan) some_move
    ∙ sym (ap length (are.events_are ∙ events-lines plan) ∙ length-map (move_lines plan) event_of)

-- the moves between the places of an event are its group
pub group-slice : (plan : List PlanLine) (moves : List OneMove) (events : List ℕ) (k i j : ℕ) → AreTables plan moves events → ArePlacesOf (λ m. m) events k i j
    → slice_range moves i j ≡ group plan k
group-slice plan moves events k i j are places =
    let lines = move_lines plan in
    let of_lines : ArePlacesOf event_of lines k i j = places-map event_of lines k i j (subst (λ (xs : List ℕ). ArePlacesOf (λ m. m) xs k i j) (are.events_are ∙ events-lines plan) places) in
    ap (λ xs. slice_range xs i j) (are.moves_are ∙ moves-lines plan)
    ∙ ap (take (j - i)) (drop-map some_move i lines)
    ∙ take-map some_move (j - i) (drop i lines)
    ∙ ap (map some_move) (slice_of_key event_of lines k i j of_lines)
    ∙ sym (group-lines plan k)
