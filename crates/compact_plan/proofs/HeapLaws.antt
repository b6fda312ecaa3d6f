-- The group of the event lays the objects side by side.
use Rattle.std.proofs.Common.{◌≡◌, refl, ap, sym, ◌∙◌, ℕ, zero, suc, ◌+◌, ◌<◌, ◌≤◌, ◌%◌, true, ◌&&◌, List, [], ◌∷◌, ◌++◌, length, map, get_or, cond, leb, ltb, Option, Some, None, arith}
use Rattle.std.specs.Prelude.{not}
use Rattle.std.specs.List.{All, filter_map, list_all, sum_by}
use Rattle.std.specs.Option.{is_some}
use Rattle.std.proofs.lemmas.Bool.{and_parts, eq-eqb, le-leb, le-ltb, lt-ltb, ne_eqb}
use Rattle.std.proofs.lemmas.List.Elements.{All-head, All-tail, filter_map-append}
use Rattle.std.proofs.lemmas.List.Sums.{sum_by-cons}
use Rattle.move_plan.specs.declared.plan_lines.Move.{Move}
use Rattle.move_plan.specs.declared.plan_lines.PlanLine.{PlanLine}
use Rattle.move_plan.specs.Plans.{event_of, group, move_at}
use Rattle.moving_heap.specs.declared.stands.Stand.{Stand}
use Rattle.moving_heap.specs.declared.stands.Verdict.TheVariants.{Empty, Illegal, Legal}
use Rattle.moving_heap.specs.Places.{all_fit, apart, carried, clear, differ, exist, flipped, flipped_at, group_moves, group_targets, is_legal, line_target, line_targets, moved, moves_of, unnamed, verdict, verdict_of, due_moves, flip_start}
use Rattle.moving_heap.specs.Settled.{AreSettled}
use Rattle.moving_heap.proofs.PlaceLemmas.{carried_all, different}
use Rattle.made_objects.specs.declared.makes.Made.{Made}
use Rattle.compact_plan.specs.Compacting.{compacted, front_lines, is_front, is_later, later_lines, packed, packing}
use Rattle.compact_plan.specs.Packed.{laid, packing_moves, packing_verdict}
use Rattle.compact_plan.specs.Promises.{AreBefore, EventCompacts}
use Rattle.compact_plan.proofs.LineLaws.{kept_none, later_behind, move_elsewhere}

-- ---- the moves that the plan has at the event

no_move : (o : Option Move) → not (is_some o) ≡ true → o ≡ None
no_move None is = refl
no_move (Some move) is = absurd (cc)

moves_late : (event number to : ℕ) (late : List Made) → All (λ one. event ≤ one.event) late → packed event number to late ≡ []
moves_late event number to [] behind = refl
moves_late event number to (one ∷ rest) behind =
    rw (le-ltb one.event event (All-head (λ one. event ≤ one.event) one rest behind)) (moves_late event (number + 1) to rest (All-tail (λ one. event ≤ one.event) one rest behind))

moves_early : (event number to : ℕ) (early late : List Made) → All (λ one. one.event < event) early → All (λ one. event ≤ one.event) late
    → filter_map (move_at event) (packed event number to (early ++ late)) ≡ packing_moves number to (map (λ (one : Made). one.footprint) early)
moves_early event number to [] late before behind = ap (filter_map (move_at event)) (moves_late event number to late behind)
moves_early event number to (one ∷ rest) late before behind =
    rw (lt-ltb one.event event (All-head (λ one. one.event < event) one rest before), eq-eqb event event refl)
    (ap (λ ms. record { obj = number; to = to } ∷ ms)
    (moves_early event (number + 1) (to + one.footprint) rest late (All-tail (λ one. one.event < event) one rest before) behind))

pub group_is : (plan : List PlanLine) (made : List Made) (event : ℕ) (stands : List Stand) → AreBefore event made stands
    → group (compacted plan made event) event ≡ packing_moves 1 1099511627776 (map (λ (stand : Stand). stand.size) stands)
group_is plan made event stands before =
    let f = move_at event in
    let front : filter_map f (front_lines plan event) ≡ [] = kept_none f (is_front event)
    (λ line is. no_move (move_at event line) (and_parts (leb (event_of line) event) (not (is_some (move_at event line))) is).1) plan in
    let later : filter_map f (later_lines plan event) ≡ [] = kept_none f (is_later event)
    (λ line is. move_elsewhere event line (λ e. let after = later_behind event line is in let no : ⊥ = omega (arith, e, after) in no)) plan in
    let moves : filter_map f (packing made event) ≡ packing_moves 1 1099511627776 (map (λ (one : Made). one.footprint) before.early) =
    ap (λ all. filter_map f (packing all event)) before.split ∙ moves_early event 1 1099511627776 before.early before.later before.before before.behind in
    filter_map-append f (front_lines plan event ++ packing made event) (later_lines plan event)
    ∙ ap (λ ms. ms ++ filter_map f (later_lines plan event)) (filter_map-append f (front_lines plan event) (packing made event))
    ∙ rw (front, moves, later, before.sizes) (append_nil (packing_moves 1 1099511627776 (map (λ (one : Made). one.footprint) before.early)))
  where
    append_nil : (xs : List Move) → xs ++ [] ≡ xs
    append_nil [] = refl
    append_nil (x ∷ xs) = ap (λ ys. x ∷ ys) (append_nil xs)

-- ---- where they send the objects

abbrev targets_of : ℕ → List ℕ → List (Option ℕ)
targets_of to [] = []
targets_of to (size ∷ sizes) = Some to ∷ targets_of (to + size) sizes

abbrev sizes_of : List Stand → List ℕ
sizes_of stands = map (λ (stand : Stand). stand.size) stands

-- the objects have the numbers from this on
abbrev AreNumberedFrom : ℕ → List Stand → Type 0
AreNumberedFrom number stands = (k : ℕ) (d : Stand) → k < length stands → (get_or stands k d).number ≡ number + k

first_number : (number : ℕ) (stand : Stand) (stands : List Stand) → AreNumberedFrom number (stand ∷ stands) → stand.number ≡ number
first_number number stand stands are = omega (arith, are zero stand (omega arith))

rest_numbered : (number : ℕ) (stand : Stand) (stands : List Stand) → AreNumberedFrom number (stand ∷ stands) → AreNumberedFrom (number + 1) stands
rest_numbered number stand stands are k d within = omega (arith, are (suc k) d (omega (arith, within)))

-- no earlier number has one of the moves
named_above : (number to low : ℕ) (sizes : List ℕ) → low < number → unnamed (packing_moves number to sizes) low ≡ true
named_above number to low [] above = refl
named_above number to low (size ∷ sizes) above =
    rw (ne_eqb number low (λ e. let no : ⊥ = omega (arith, e, above) in no)) (named_above (number + 1) (to + size) low sizes (omega (arith, above)))

abbrev tail_of : List ℕ → List ℕ
tail_of [] = []
tail_of (size ∷ sizes) = sizes

targets_from : (number to : ℕ) (stands : List Stand) (sizes : List ℕ) → AreNumberedFrom number stands → sizes_of stands ≡ sizes
    → (lines : List Move) → ((low : ℕ) → number ≤ low → line_target lines low ≡ line_target (packing_moves number to sizes) low)
    → line_targets lines stands ≡ targets_of to sizes
targets_from number to [] [] are same lines like = refl
targets_from number to [] (size ∷ sizes) are same lines like = absurd (let n : 0 ≡ suc (length sizes) = ap length same in omega (arith, n))
targets_from number to (stand ∷ stands) [] are same lines like = absurd (let n : suc (length (sizes_of stands)) ≡ 0 = ap length same in omega (arith, n))
targets_from number to (stand ∷ stands) (size ∷ sizes) are same lines like =
    let own : stand.number ≡ number = first_number number stand stands are in
    let here : line_target lines stand.number ≡ Some to = rw own (like number (omega arith) ∙ rw (eq-eqb number number refl) refl) in
    let more : line_targets lines stands ≡ targets_of (to + size) sizes =
    targets_from (number + 1) (to + size) stands sizes (rest_numbered number stand stands are) (ap tail_of same) lines
    (λ low above. like low (omega (arith, above)) ∙ rw (ne_eqb number low (λ e. let no : ⊥ = omega (arith, e, above) in no)) refl) in
    rw (here, more) refl

all_flipped : (at to : ℕ) (stands : List Stand) → flipped at stands (targets_of to (sizes_of stands)) ≡ targets_of to (sizes_of stands)
all_flipped at to [] = refl
all_flipped at to (stand ∷ stands) = ap (λ ts. Some to ∷ ts) (all_flipped at (to + stand.size) stands)

flips_none : (flip : Option ℕ) (to : ℕ) (stands : List Stand) → flipped_at flip stands (targets_of to (sizes_of stands)) ≡ targets_of to (sizes_of stands)
flips_none None to stands = refl
flips_none (Some event) to stands = all_flipped (flip_start event) to stands

-- ---- they are legal

exist_from : (count number to : ℕ) (sizes : List ℕ) → 0 < number → number + length sizes ≤ count + 1
    → list_all (λ (line : Move). ltb 0 line.obj && leb line.obj count) (packing_moves number to sizes) ≡ true
exist_from count number to [] some within = refl
exist_from count number to (size ∷ sizes) some within =
    rw (lt-ltb 0 number some, le-leb number count (omega (arith, within))) (exist_from count (number + 1) (to + size) sizes (omega (arith, some)) (omega (arith, within)))

differ_from : (number to : ℕ) (sizes : List ℕ) → differ (packing_moves number to sizes) ≡ true
differ_from number to [] = refl
differ_from number to (size ∷ sizes) = rw (named_above (number + 1) (to + size) number sizes (omega arith)) (differ_from (number + 1) (to + size) sizes)

whole_sum : (to size : ℕ) → to % 8 ≡ 0 → size % 8 ≡ 0 → (to + size) % 8 ≡ 0
whole_sum to size one other = omega (arith, one, other)

-- what each object's size is
pub record HasSize (stand : Stand) : Type 0 where
  pub whole : stand.size % 8 ≡ 0
  pub some : 8 ≤ stand.size

fit_from : (to : ℕ) (stands : List Stand) → All HasSize stands → to % 8 ≡ 0 → 1099511627776 ≤ to → to + sum_by (λ (stand : Stand). stand.size) stands ≤ 70368744177664
    → all_fit stands (targets_of to (sizes_of stands)) ≡ true
fit_from to [] sized whole high low = refl
fit_from to (stand ∷ stands) sized whole high low =
    let own = All-head HasSize stand stands sized in
    let sum = sum_by-cons (λ (s : Stand). s.size) stand stands in
    rw (eq-eqb (to % 8) 0 whole, le-leb 1099511627776 to high, le-leb (to + stand.size) 70368744177664 (omega (arith, low, sum)))
    (fit_from (to + stand.size) stands (All-tail HasSize stand stands sized) (whole_sum to stand.size whole own.whole) (omega (arith, high)) (omega (arith, low, sum)))

moved_are : (to : ℕ) (stands : List Stand) → moved stands (targets_of to (sizes_of stands)) ≡ laid to stands
moved_are to [] = refl
moved_are to (stand ∷ stands) = ap (λ ss. record stand { address = to } ∷ ss) (moved_are (to + stand.size) stands)

clear_behind : (one : Stand) (to : ℕ) (stands : List Stand) → one.address + one.size ≤ to → list_all (clear one) (laid to stands) ≡ true
clear_behind one to [] before = refl
clear_behind one to (stand ∷ stands) before =
    rw (le-leb (one.address + one.size) to before) (clear_behind one (to + stand.size) stands (omega (arith, before)))

apart_laid : (to : ℕ) (stands : List Stand) → apart (laid to stands) ≡ true
apart_laid to [] = refl
apart_laid to (stand ∷ stands) =
    rw (clear_behind (record stand { address = to }) (to + stand.size) stands (omega arith)) (apart_laid (to + stand.size) stands)

sizes_known : (stands : List Stand) → AreSettled stands → All HasSize stands
sizes_known stands settled k d within = let own = settled.each k d within in record { whole = own.whole; some = own.size }

legal_is : (stands : List Stand) (lines : List Move) (targets : List (Option ℕ)) → exist stands lines ≡ true → differ lines ≡ true → all_fit stands targets ≡ true
    → apart (moved stands targets) ≡ true → is_legal stands lines targets ≡ true
legal_is stands lines targets there apart_lines fit clear = rw (there, apart_lines, fit, clear) refl

-- ---- together

pub sides : (stands : List Stand) (flip : Option ℕ) → AreSettled stands
    → group_targets stands (packing_moves 1 1099511627776 (sizes_of stands)) flip ≡ targets_of 1099511627776 (sizes_of stands)
sides stands flip settled =
    let numbered : AreNumberedFrom 1 stands = λ k d within. omega (arith, settled.numbered.at k d within) in
    ap (flipped_at flip stands) (targets_from 1 1099511627776 stands (sizes_of stands) numbered refl (packing_moves 1 1099511627776 (sizes_of stands)) (λ low above. refl))
    ∙ flips_none flip 1099511627776 stands

verdict_some : (stand : Stand) (stands : List Stand) (flip : Option ℕ) → AreSettled (stand ∷ stands)
    → verdict (stand ∷ stands) (packing_moves 1 1099511627776 (sizes_of (stand ∷ stands))) flip ≡ Legal
verdict_some stand stands flip settled =
    let all = stand ∷ stands in
    let lines = packing_moves 1 1099511627776 (sizes_of all) in
    let targets = targets_of 1099511627776 (sizes_of all) in
    let count : length (sizes_of all) ≡ length all = length_sizes all in
    let legal : is_legal all lines targets ≡ true = legal_is all lines targets
    (exist_from (length all) 1 1099511627776 (sizes_of all) (omega arith) (omega (arith, count)))
    (differ_from 1 1099511627776 (sizes_of all))
    (fit_from 1099511627776 all (sizes_known all settled) refl (omega arith) (omega (arith, settled.within)))
    (ap apart (moved_are 1099511627776 all) ∙ apart_laid 1099511627776 all) in
    ap (verdict_of all lines) (sides all flip settled) ∙ ap (λ b. cond b Legal Illegal) legal
  where
    length_sizes : (ss : List Stand) → length (sizes_of ss) ≡ length ss
    length_sizes [] = refl
    length_sizes (s ∷ ss) = ap suc (length_sizes ss)

verdict_none : (flip : Option ℕ) → verdict [] [] flip ≡ Empty
verdict_none None = refl
verdict_none (Some event) = refl

lays : (stands : List Stand) (flip : Option ℕ) → AreSettled stands → (moves : List Move) → moves ≡ packing_moves 1 1099511627776 (sizes_of stands)
    → (verdict stands moves flip ≡ packing_verdict stands) × (map (carried (group_moves stands moves flip)) stands ≡ laid 1099511627776 stands)
lays [] flip settled moves same = (ap (λ ms. verdict [] ms flip) same ∙ verdict_none flip, refl)
lays (stand ∷ stands) flip settled moves same =
    let all = stand ∷ stands in
    let lines = packing_moves 1 1099511627776 (sizes_of all) in
    let is = verdict_some stand stands flip settled in
    let moved_by : group_moves all lines flip ≡ moves_of all (targets_of 1099511627776 (sizes_of all)) =
    ap (λ v. due_moves v (moves_of all (group_targets all lines flip))) is ∙ ap (moves_of all) (sides all flip settled) in (
      ap (λ ms. verdict all ms flip) same ∙ is,
      ap (λ ms. map (carried (group_moves all ms flip)) all) same ∙ ap (λ ms. map (carried ms) all) moved_by
          ∙ sym (carried_all all (targets_of 1099511627776 (sizes_of all)) (different all settled)) ∙ moved_are 1099511627776 all,
    )

pub event_compacts : EventCompacts
event_compacts plan made event flip stands settled before =
    let both = lays stands flip settled (group (compacted plan made event) event) (group_is plan made event stands before) in
    record { verdict = both.0; places = both.1 }
