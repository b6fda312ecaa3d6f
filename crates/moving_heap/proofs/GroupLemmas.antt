-- Groups as they are judged: a move for each object, to 0 where it has no target.
use Rattle.std.proofs.Common.{◌≡◌, ℕ, zero, suc, ◌+◌, ◌<◌, ◌≤◌, ◌≢◌, Bool, true, false, cond, eqb, ltb, leb, List, [], ◌∷◌, ◌++◌, length, map, filter, get_or, set, replicate, refl, sym, ap, ◌∙◌, subst, arith, ◌&&◌, Option, Some, None}
use Rattle.std.specs.Option.{is_some}
use Rattle.std.specs.List.{range_with_len, list_all}
use Rattle.std.specs.List.Sorted.{IsPermutation, IsNonDecreasingBy}
use Rattle.std.proofs.lemmas.List.FromFn.{fill_by_all}
use Rattle.std.proofs.lemmas.List.Sorted.{IsPermutation-map}
use Rattle.std.proofs.lemmas.Bool.{and_parts, and_left, and_right, eq-eqb, ne_eqb, false_from_ne_true, ltb-true, leb-true}
use Rattle.std.proofs.lemmas.List.Sums.{AllPass-from_list_all}
use Rattle.std.proofs.lemmas.List.{get_or-map}
use Rattle.move_plan.specs.declared.plan_lines.Move.{Move}
use Rattle.moving_heap.specs.declared.stands.Stand.{Stand}
use Rattle.moving_heap.specs.declared.stands.Moved.{Moved}
use Rattle.moving_heap.specs.declared.stands.Verdict.{Verdict}
use Rattle.moving_heap.specs.declared.stands.Verdict.TheVariants.{Empty, Legal, Illegal}
use Rattle.moving_heap.specs.Places.{fits, all_fit, flipped, flipped_at, line_target, line_targets, group_targets, exist, differ, no_lines, moves_none, is_legal, apart, moved, moves_of, verdict, due_moves, group_moves}
use Rattle.moving_heap.specs.Orders.{Ordered, resting, target_in, targets_in, leaves, nowhere}
use Rattle.moving_heap.specs.Settled.{IsNumbered, DifferentPlaces, AreSettled, AreRanked, AreMoves, IsDue, followed, move_at}
use Rattle.moving_heap.proofs.FindLemmas.{pairs_tail, old_of, moves_apart}
use Rattle.moving_heap.proofs.PlaceLemmas.{fits_at, different, carried_all}
use Rattle.moving_heap.proofs.RowLemmas.{rising_map}
use Rattle.list_laws.proofs.Ranges.{range_more}
use Rattle.list_laws.proofs.Numbers.{less}

above : (a b : ℕ) → a < b → suc a < suc b
above a b h = omega arith

abbrev pub olds : List Moved → List ℕ
olds moves = map (λ move. move.old) moves

pub targets_resting : (stands : List Stand) → targets_in (map resting stands) ≡ replicate (length stands) None
targets_resting [] = refl
targets_resting (stand ∷ stands) = ap (λ (l : List (Option ℕ)). None ∷ l) (targets_resting stands)

pub olds_resting : (stands : List Stand) → olds (map resting stands) ≡ map (λ stand. stand.address) stands
olds_resting [] = refl
olds_resting (stand ∷ stands) = ap (λ (l : List ℕ). stand.address ∷ l) (olds_resting stands)

-- a further target
pub olds_set : (moves : List Moved) (place to : ℕ) (d : Moved) → place < length moves → olds (set moves place (record (get_or moves place d) { new = to })) ≡ olds moves
olds_set [] place to d l = refl
olds_set (move ∷ moves) zero to d l = refl
olds_set (move ∷ moves) (suc place) to d l = ap (λ (rest : List ℕ). move.old ∷ rest) (olds_set moves place to d (less place (length moves) l))

pub target_some : (move : Moved) (to : ℕ) → (to ≡ 0 → ⊥) → target_in (record move { new = to }) ≡ Some to
target_some move to ne = rw (ne_eqb to 0 ne) refl

pub targets_set : (moves : List Moved) (place to : ℕ) (d : Moved) → place < length moves → (to ≡ 0 → ⊥)
    → targets_in (set moves place (record (get_or moves place d) { new = to })) ≡ set (targets_in moves) place (Some to)
targets_set [] place to d l ne = absurd (omega arith)
targets_set (move ∷ moves) zero to d l ne = ap (λ (o : Option ℕ). o ∷ targets_in moves) (target_some move to ne)
targets_set (move ∷ moves) (suc place) to d l ne = ap (λ (rest : List (Option ℕ)). target_in move ∷ rest) (targets_set moves place to d (less place (length moves) l) ne)

pub target_at : (moves : List Moved) (place : ℕ) (d : Moved) → place < length moves → get_or (targets_in moves) place None ≡ target_in (get_or moves place d)
target_at moves place d l = get_or-map target_in moves place d None l

pub some_target : (move : Moved) → (move.new ≡ 0 → ⊥) → target_in move ≡ Some move.new
some_target move ne = rw (ne_eqb move.new 0 ne) refl

pub no_target : (move : Moved) → move.new ≡ 0 → target_in move ≡ None
no_target move e = rw (eq-eqb move.new 0 e) refl

pub none_at : (n k : ℕ) → get_or (replicate {A = Option ℕ} n None) k None ≡ None
none_at zero k = refl
none_at (suc n) zero = refl
none_at (suc n) (suc k) = none_at n k

rests_here : (move : Moved) (b : Bool) → eqb move.new 0 ≡ b → eqb move.new 0 ≡ cond (is_some (target_in move)) false true
rests_here move true e = rw e refl
rests_here move false e = rw e refl

pub all_rest : (moves : List Moved) → list_all (λ move. eqb move.new 0) moves ≡ moves_none (targets_in moves)
all_rest [] = refl
all_rest (move ∷ moves) =
    ap (λ b. b && list_all (λ (m : Moved). eqb m.new 0) moves) (rests_here move (eqb move.new 0) refl) ∙ ap (λ b. cond (is_some (target_in move)) false true && b) (all_rest moves)

-- ---- a line to a place that doesn't fit

line_at : (stands : List Stand) (lines : List Move) (k : ℕ) → IsNumbered stands → k < length stands → get_or (line_targets lines stands) k None ≡ line_target lines (k + 1)
line_at stands lines k numbered l = get_or-map (λ (stand : Stand). line_target lines stand.number) stands k nowhere None l ∙ ap (line_target lines) (numbered.at k nowhere l)

flipped_keeps : (at : ℕ) (stands : List Stand) (targets : List (Option ℕ)) (k to : ℕ) → get_or targets k None ≡ Some to → get_or (flipped at stands targets) k None ≡ Some to
flipped_keeps at [] targets k to e = e
flipped_keeps at (stand ∷ stands) [] k to e = e
flipped_keeps at (stand ∷ stands) (Some other ∷ targets) zero to e = e
flipped_keeps at (stand ∷ stands) (Some other ∷ targets) (suc k) to e = flipped_keeps at stands targets k to e
flipped_keeps at (stand ∷ stands) (None ∷ targets) zero to e = cc
flipped_keeps at (stand ∷ stands) (None ∷ targets) (suc k) to e = flipped_keeps (at + stand.size) stands targets k to e

event_keeps : (event : Option ℕ) (stands : List Stand) (targets : List (Option ℕ)) (k to : ℕ) → get_or targets k None ≡ Some to → get_or (flipped_at event stands targets) k None ≡ Some to
event_keeps None stands targets k to e = e
event_keeps (Some event) stands targets k to e = flipped_keeps _ stands targets k to e

never : false ≡ true → ⊥
never h = cc

pub unfit_line : (stands : List Stand) (lines : List Move) (event : Option ℕ) (k to : ℕ) → IsNumbered stands → k < length stands → line_target lines (k + 1) ≡ Some to
    → fits (get_or stands k nowhere) to ≡ false → is_legal stands lines (group_targets stands lines event) ≡ false
unfit_line stands lines event k to numbered l e bad =
    let targets = group_targets stands lines event in
    let here = event_keeps event stands (line_targets lines stands) k to (line_at stands lines k numbered l ∙ e) in
    let no : all_fit stands (group_targets stands lines event) ≡ false =
    false_from_ne_true (all_fit stands (group_targets stands lines event)) (λ fit. never (sym bad ∙ fits_at stands (group_targets stands lines event) k to nowhere fit l here)) in
    and_right (exist stands lines && differ lines) (all_fit stands targets && apart (moved stands targets)) (and_left (all_fit stands targets) (apart (moved stands targets)) no)

-- ---- lines that no group can have

pub unnamed_lines : (stands : List Stand) (lines : List Move) (event : Option ℕ) → (exist stands lines && differ lines) ≡ false → is_legal stands lines (group_targets stands lines event) ≡ false
unnamed_lines stands lines event h =
    and_left (exist stands lines && differ lines) (all_fit stands (group_targets stands lines event) && apart (moved stands (group_targets stands lines event))) h

pub absent : (stands : List Stand) (lines : List Move) (i : ℕ) (d : Move) → i < length lines → (0 < (get_or lines i d).obj → (get_or lines i d).obj ≤ length stands → ⊥)
    → (exist stands lines && differ lines) ≡ false
absent stands lines i d l against =
    let obj = (get_or lines i d).obj in
    and_left (exist stands lines) (differ lines)
    (false_from_ne_true (exist stands lines) (λ h.
    let at = and_parts (ltb 0 (get_or lines i d).obj) (leb (get_or lines i d).obj (length stands)) (AllPass-from_list_all (λ line. ltb 0 line.obj && leb line.obj (length stands)) lines h i d l) in
    against (ltb-true 0 obj at.0) (leb-true obj (length stands) at.1)))

pub not_to_zero : (stand : Stand) → fits stand 0 ≡ false
not_to_zero stand = refl

-- ---- the moves of those that have a target

kept_move : (move : Moved) (moves : List Moved) (stand : Stand) (stands : List Stand) → move.old ≡ stand.address → filter leaves moves ≡ moves_of stands (targets_in moves)
    → (b : Bool) → eqb move.new 0 ≡ b → filter leaves (move ∷ moves) ≡ moves_of (stand ∷ stands) (targets_in (move ∷ moves))
kept_move move moves stand stands same rest true e = rw e rest
kept_move move moves stand stands same rest false e =
    rw e (ap (λ (l : List Moved). move ∷ l) rest ∙ ap (λ (n : ℕ). (let m : Moved = record { old = n; new = move.new } in m) ∷ moves_of stands (targets_in moves)) same)

pub kept_moves : (moves : List Moved) (stands : List Stand) → olds moves ≡ map (λ stand. stand.address) stands → filter leaves moves ≡ moves_of stands (targets_in moves)
kept_moves [] [] e = refl
kept_moves [] (stand ∷ stands) e = refl
kept_moves (move ∷ moves) [] e = cc
kept_moves (move ∷ moves) (stand ∷ stands) e =
    let same : move.old ≡ stand.address = cc in
    let rest : olds moves ≡ map (λ stand. stand.address) stands = cc in
    kept_move move moves stand stands same (kept_moves moves stands rest) (eqb move.new 0) refl

-- ---- objects followed by their moves

misses : (moves : List Moved) (stand : Stand) (stands : List Stand) → ((k : ℕ) (d : Moved) → k < length moves → (get_or moves k d).old ≡ stand.address → ⊥)
    → followed moves (stand ∷ stands) ≡ stand ∷ followed moves stands
misses [] stand stands none = refl
misses (move ∷ moves) stand stands none = rw (ne_eqb move.old stand.address (none zero move (omega arith))) refl

pub followed_is : (stands : List Stand) (targets : List (Option ℕ)) → DifferentPlaces stands → followed (moves_of stands targets) stands ≡ moved stands targets
followed_is [] targets apart = refl
followed_is (stand ∷ stands) [] apart = refl
followed_is (stand ∷ stands) (Some to ∷ targets) apart =
    rw (eq-eqb stand.address stand.address refl)
    (ap (λ (l : List Stand). (let s : Stand = record stand { address = to } in s) ∷ l) (followed_is stands targets (pairs_tail (λ one other. one.address ≢ other.address) stand stands apart)))
followed_is (stand ∷ stands) (None ∷ targets) apart =
    misses (moves_of stands targets) stand stands
    (λ k d l e. let at = old_of stands targets k d l in
    apart zero (suc at.0) stand (omega arith) (above at.0 (length stands) at.1) (λ q. let no : ⊥ = omega arith in no) (sym e ∙ at.2 stand))
    ∙ ap (λ (l : List Stand). stand ∷ l) (followed_is stands targets (pairs_tail (λ one other. one.address ≢ other.address) stand stands apart))

-- ---- what is pending after a verdict

pub due_is : (stands : List Stand) (next : Ordered) (targets : List (Option ℕ)) (moves : List Moved) → AreSettled stands → moves ≡ moves_of stands targets
    → AreSettled (moved stands targets) → AreRanked (moved stands targets) next → IsDue stands next moves
due_is stands next targets moves are moves_are settled ranked =
    let is = carried_all stands targets (different stands are) in
    rw moves_are (record {
      settled = subst (λ (l : List Stand). AreSettled l) is settled;
      ranked = subst (λ (l : List Stand). AreRanked l next) is ranked;
      in_order = followed_is stands targets (different stands are) ∙ is;
    })

pub legal_moves : (stands : List Stand) (lines : List Move) (event : Option ℕ) (targets : List (Option ℕ)) → Legal ≡ verdict stands lines event → targets ≡ group_targets stands lines event
    → moves_of stands targets ≡ group_moves stands lines event
legal_moves stands lines event targets legal are = ap (moves_of stands) are ∙ ap (λ v. due_moves v (moves_of stands (group_targets stands lines event))) legal

pub no_moves : (stands : List Stand) (lines : List Move) (event : Option ℕ) (answer : Verdict) → answer ≡ verdict stands lines event → (answer ≡ Legal → ⊥) → [] ≡ group_moves stands lines event
no_moves stands lines event Empty is other = ap (λ v. due_moves v (moves_of stands (group_targets stands lines event))) is
no_moves stands lines event Legal is other = absurd (other refl)
no_moves stands lines event Illegal is other = ap (λ v. due_moves v (moves_of stands (group_targets stands lines event))) is

pub places_more : (n : ℕ) → range_with_len 0 (n + 1) ≡ range_with_len 0 n ++ n ∷ []
places_more n = range_more 0 n ∙ ap (λ (k : ℕ). range_with_len 0 n ++ k ∷ []) (let e : 0 + n ≡ n = omega arith in e)

pub are_sorted : (moves : List Moved) (stands : List Stand) (targets : List (Option ℕ)) (places sorted : List ℕ) → AreSettled stands → moves ≡ moves_of stands targets → places ≡ range_with_len 0 (length moves)
    → IsPermutation places sorted → IsNonDecreasingBy (λ place. (move_at moves place).old) sorted → AreMoves moves (map (move_at moves) sorted)
are_sorted moves stands targets places sorted are moves_are places_are same rising = record {
  same = subst (λ (l : List Moved). IsPermutation l (map (move_at moves) sorted)) (sym (fill_by_all (move_at moves) moves (length moves) (move_at [] 0) refl (λ k l. refl)))
      (subst (λ (l : List ℕ). IsPermutation (map (move_at moves) l) (map (move_at moves) sorted)) places_are (IsPermutation-map (move_at moves) places sorted same));
  rising = rising_map (move_at moves) (λ move. move.old) sorted 0 rising;
  apart = rw moves_are (moves_apart stands targets (different stands are));
}
