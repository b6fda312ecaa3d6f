-- Objects, their places and the verdicts, event by event.
use Rattle.std.proofs.Common.{◌≡◌, ◌≢◌, ℕ, suc, ◌+◌, ◌^◌, ◌≤◌, ◌<◌, Bool, List, [], ◌∷◌, ◌++◌, length, map, refl, sym, ap, subst, ◌∙◌, cond, Option, Some, None, arith, append_assoc, append-nil}
use Rattle.std.specs.List.{All, sum, sum_by}
use Rattle.std.proofs.lemmas.List.{map-append}
use Rattle.std.proofs.lemmas.List.Elements.{All-cons, All-head, All-nil, All-tail}
use Rattle.std.proofs.lemmas.List.Sums.{sum-map, sum_by-append}
use Rattle.tool_io.specs.Counts.{raised}
use Rattle.move_plan.specs.declared.plan_lines.Move.{Move}
use Rattle.moving_heap.specs.declared.stands.Moved.{Moved}
use Rattle.moving_heap.specs.declared.stands.Stand.{Stand}
use Rattle.moving_heap.specs.declared.stands.Verdict.{Verdict}
use Rattle.moving_heap.specs.Places.{carried, group_moves, new_stand, verdict}
use Rattle.moving_heap.specs.Settled.{AreSettled}
use Rattle.moving_heap.proofs.PlaceLemmas.{group_settled, settled_added}
use Rattle.object_meaning.specs.Traces.{Event, at_poll, at_new}
use Rattle.machine_meaning.specs.EventPlaces.{MovePlan, Occasion, flip_of, made_at, makes, moved_at, polls, stands_at_event}
use Rattle.machine_meaning.proofs.PlaceLaws.{still}
use Rattle.made_objects.specs.declared.makes.Made.{Made}
use Rattle.made_objects.specs.Makings.{counted_from, makings_from, sizes_made}
use Rattle.made_objects.specs.Packed.{IsFootprint}
use Rattle.made_objects.proofs.MakingLaws.{none_made}
use Rattle.rewritten_runs.specs.Places.{occasions, stands_behind, verdicts_behind}

-- ---- events, and what is left of footprints behind them

abbrev pub left_of : List Event → List ℕ → List ℕ
left_of [] sizes = sizes
left_of (at_poll ∷ events) sizes = left_of events sizes
left_of (at_new ∷ events) [] = left_of events []
left_of (at_new ∷ events) (size ∷ sizes) = left_of events sizes

left_none : (events : List Event) → left_of events [] ≡ []
left_none [] = refl
left_none (at_poll ∷ events) = left_none events
left_none (at_new ∷ events) = left_none events

pub occasions_split : (first later : List Event) (sizes : List ℕ) → occasions (first ++ later) sizes ≡ occasions first sizes ++ occasions later (left_of first sizes)
occasions_split [] later sizes = refl
occasions_split (at_poll ∷ first) later sizes = ap (λ (list : List Occasion). polls ∷ list) (occasions_split first later sizes)
occasions_split (at_new ∷ first) later [] = ap (λ (list : List Occasion). polls ∷ list) (occasions_split first later [])
occasions_split (at_new ∷ first) later (size ∷ sizes) = ap (λ (list : List Occasion). makes size ∷ list) (occasions_split first later sizes)

pub occasions_count : (events : List Event) (sizes : List ℕ) → length (occasions events sizes) ≡ length events
occasions_count [] sizes = refl
occasions_count (at_poll ∷ events) sizes = ap suc (occasions_count events sizes)
occasions_count (at_new ∷ events) [] = ap suc (occasions_count events [])
occasions_count (at_new ∷ events) (size ∷ sizes) = ap suc (occasions_count events sizes)

-- what happens at the first of these events
pub record First (event : Event) (later : List Event) (sizes : List ℕ) : Type 0 where
  pub occasion : Occasion
  pub is : occasions (event ∷ later) sizes ≡ occasion ∷ occasions later (left_of (event ∷ []) sizes)

pub first_of : (event : Event) (later : List Event) (sizes : List ℕ) → First event later sizes
first_of at_poll later sizes = record { occasion = polls; is = refl }
first_of at_new later [] = record { occasion = polls; is = refl }
first_of at_new later (size ∷ sizes) = record { occasion = makes size; is = refl }

pub first_alone : (event : Event) (later : List Event) (sizes : List ℕ) → (first_of event [] sizes).occasion ≡ (first_of event later sizes).occasion
unfolding first_of
first_alone at_poll later sizes = refl
first_alone at_new later [] = refl
first_alone at_new later (size ∷ sizes) = refl

pub makings_split : (before : ℕ) (first later : List Event) (sizes : List ℕ)
    → makings_from before (first ++ later) sizes ≡ makings_from before first sizes ++ makings_from (counted_from before first) later (left_of first sizes)
makings_split before [] later sizes = refl
makings_split before (at_poll ∷ first) later sizes = makings_split (raised before) first later sizes
makings_split before (at_new ∷ first) later [] =
    sym (ap (makings_from (counted_from (raised before) first) later) (left_none first) ∙ none_made (counted_from (raised before) first) later)
makings_split before (at_new ∷ first) later (size ∷ sizes) =
    ap (λ (list : List Made). record { event = raised before; footprint = size } ∷ list) (makings_split (raised before) first later sizes)

-- objects made at these events have events below any number behind them
pub made_below : (before below : ℕ) (events : List Event) (sizes : List ℕ) → before + length events < below → All (λ one. one.event < below) (makings_from before events sizes)
made_below before below [] sizes within = All-nil (λ one. one.event < below)
made_below before below (at_poll ∷ events) sizes within = made_below (raised before) below events sizes (omega (arith, within))
made_below before below (at_new ∷ events) [] within = All-nil (λ one. one.event < below)
made_below before below (at_new ∷ events) (size ∷ sizes) within =
    All-cons (λ one. one.event < below) (record { event = raised before; footprint = size }) (makings_from (raised before) events sizes) (omega (arith, within))
    (made_below (raised before) below events sizes (omega (arith, within)))

-- and from the first one on
pub made_from_on : (before least : ℕ) (events : List Event) (sizes : List ℕ) → least ≤ raised before → All (λ one. least ≤ one.event) (makings_from before events sizes)
made_from_on before least [] sizes within = All-nil (λ one. least ≤ one.event)
made_from_on before least (at_poll ∷ events) sizes within = made_from_on (raised before) least events sizes (omega (arith, within))
made_from_on before least (at_new ∷ events) [] within = All-nil (λ one. least ≤ one.event)
made_from_on before least (at_new ∷ events) (size ∷ sizes) within =
    All-cons (λ one. least ≤ one.event) (record { event = raised before; footprint = size }) (makings_from (raised before) events sizes) within
    (made_from_on (raised before) least events sizes (omega (arith, within)))

-- ---- places and verdicts, one part behind another

abbrev pub past : ℕ → List Occasion → ℕ
past before [] = before
past before (occasion ∷ rest) = past (raised before) rest

pub past_is : (before : ℕ) (events : List Event) (sizes : List ℕ) → past before (occasions events sizes) ≡ counted_from before events
past_is before [] sizes = refl
past_is before (at_poll ∷ events) sizes = past_is (raised before) events sizes
past_is before (at_new ∷ events) [] = past_is (raised before) events []
past_is before (at_new ∷ events) (size ∷ sizes) = past_is (raised before) events sizes

module _ (plan : MovePlan) where
  pub stands_split : (before : ℕ) (stands : List Stand) (first later : List Occasion)
      → stands_behind plan before stands (first ++ later) ≡ stands_behind plan (past before first) (stands_behind plan before stands first) later
  stands_split before stands [] later = refl
  stands_split before stands (occasion ∷ first) later = stands_split (raised before) (stands_at_event plan (raised before) stands occasion) first later

  pub verdicts_split : (before : ℕ) (stands : List Stand) (first later : List Occasion)
      → verdicts_behind plan before stands (first ++ later)
      ≡ verdicts_behind plan before stands first ++ verdicts_behind plan (past before first) (stands_behind plan before stands first) later
  verdicts_split before stands [] later = refl
  verdicts_split before stands (occasion ∷ first) later =
      ap (λ (list : List Verdict). verdict stands (plan.group (raised before)) (flip_of plan (raised before)) ∷ list)
      (verdicts_split (raised before) (stands_at_event plan (raised before) stands occasion) first later)

  pub verdicts_count : (before : ℕ) (stands : List Stand) (list : List Occasion) → length (verdicts_behind plan before stands list) ≡ length list
  verdicts_count before stands [] = refl
  verdicts_count before stands (occasion ∷ rest) = ap suc (verdicts_count (raised before) (stands_at_event plan (raised before) stands occasion) rest)

  -- ---- footprints

  sizes_carried : (moves : List Moved) (stands : List Stand) → map (λ (stand : Stand). stand.size) (map (carried moves) stands) ≡ map (λ (stand : Stand). stand.size) stands
  sizes_carried moves [] = refl
  sizes_carried moves (stand ∷ stands) = ap (λ (rest : List ℕ). stand.size ∷ rest) (sizes_carried moves stands)

  abbrev sizes_at : List Stand → List ℕ
  sizes_at stands = map (λ (stand : Stand). stand.size) stands

  sizes_moved : (event : ℕ) (stands : List Stand) → sizes_at (moved_at plan event stands) ≡ sizes_at stands
  sizes_moved event stands = sizes_carried (group_moves stands (plan.group event) (flip_of plan event)) stands

  pub sizes_behind : (before : ℕ) (stands : List Stand) (events : List Event) (sizes : List ℕ)
      → sizes_at (stands_behind plan before stands (occasions events sizes)) ≡ sizes_at stands ++ sizes_made (makings_from before events sizes)
  sizes_behind before stands [] sizes = sym (append-nil (sizes_at stands))
  sizes_behind before stands (at_poll ∷ events) sizes =
      sizes_behind (raised before) (moved_at plan (raised before) stands) events sizes
      ∙ ap (λ (list : List ℕ). list ++ sizes_made (makings_from (raised before) events sizes)) (sizes_moved (raised before) stands)
  sizes_behind before stands (at_new ∷ events) [] =
      sizes_behind (raised before) (moved_at plan (raised before) stands) events []
      ∙ (ap (λ (list : List Made). sizes_at (moved_at plan (raised before) stands) ++ sizes_made list) (none_made (raised before) events)
      ∙ ap (λ (list : List ℕ). list ++ []) (sizes_moved (raised before) stands))
  sizes_behind before stands (at_new ∷ events) (size ∷ sizes) =
      let moved = moved_at plan (raised before) stands in
      sizes_behind (raised before) (moved ++ new_stand moved size ∷ []) events sizes
      ∙ (ap (λ (list : List ℕ). list ++ sizes_made (makings_from (raised before) events sizes))
      (map-append (λ (stand : Stand). stand.size) moved (new_stand moved size ∷ []) ∙ ap (λ (list : List ℕ). list ++ size ∷ []) (sizes_moved (raised before) stands))
      ∙ append_assoc (sizes_at stands) (size ∷ []) (sizes_made (makings_from (raised before) events sizes)))

  -- ---- places that a heap can have

  settled_by : (event : ℕ) (stands : List Stand) (moves : List Moved) → group_moves stands (plan.group event) (flip_of plan event) ≡ moves → AreSettled stands
      → AreSettled (map (carried moves) stands)
  settled_by event stands [] is settled = subst AreSettled (sym (still stands)) settled
  settled_by event stands (move ∷ moves) is settled =
      subst (λ (list : List Moved). AreSettled (map (carried list) stands)) is
      (group_settled stands (plan.group event) (flip_of plan event) settled (λ none. (let no : move ∷ moves ≡ [] = sym is ∙ none in cc)))

  settled_moved : (event : ℕ) (stands : List Stand) → AreSettled stands → AreSettled (moved_at plan event stands)
  settled_moved event stands settled = settled_by event stands (group_moves stands (plan.group event) (flip_of plan event)) refl settled

  bytes_moved : (event : ℕ) (stands : List Stand) → sum_by (λ (stand : Stand). stand.size) (moved_at plan event stands) ≡ sum_by (λ (stand : Stand). stand.size) stands
  bytes_moved event stands =
      sym (sum-map (λ (stand : Stand). stand.size) (moved_at plan event stands)) ∙ (ap sum (sizes_moved event stands) ∙ sum-map (λ (stand : Stand). stand.size) stands)

  pub settled_behind : (before : ℕ) (stands : List Stand) (events : List Event) (sizes : List ℕ) → AreSettled stands → All IsFootprint sizes
      → sum_by (λ (stand : Stand). stand.size) stands + sum sizes ≤ 67108864 → AreSettled (stands_behind plan before stands (occasions events sizes))
  settled_behind before stands [] sizes settled whole room = settled
  settled_behind before stands (at_poll ∷ events) sizes settled whole room =
      settled_behind (raised before) (moved_at plan (raised before) stands) events sizes (settled_moved (raised before) stands settled) whole
      (subst (λ (bytes : ℕ). bytes + sum sizes ≤ 67108864) (sym (bytes_moved (raised before) stands)) room)
  settled_behind before stands (at_new ∷ events) [] settled whole room =
      settled_behind (raised before) (moved_at plan (raised before) stands) events [] (settled_moved (raised before) stands settled) whole
      (subst (λ (bytes : ℕ). bytes + sum [] ≤ 67108864) (sym (bytes_moved (raised before) stands)) room)
  settled_behind before stands (at_new ∷ events) (size ∷ sizes) settled whole room =
      let moved = moved_at plan (raised before) stands in
      let first = All-head IsFootprint size sizes whole in
      let bytes = bytes_moved (raised before) stands in
      let all = sum_by-append (λ (n : ℕ). n) (size ∷ []) sizes in
      let grown = sum_by-append (λ (stand : Stand). stand.size) moved (new_stand moved size ∷ []) in
      settled_behind (raised before) (moved ++ new_stand moved size ∷ []) events sizes
      (settled_added moved size (settled_moved (raised before) stands settled) first.0 first.1 (omega (arith, bytes, all, room)))
      (All-tail IsFootprint size sizes whole) (omega (arith, bytes, all, grown, room))

-- ---- two plans that differ at one event

module _ (plan other : MovePlan) (event : ℕ) (groups : (at : ℕ) → at ≢ event → plan.group at ≡ other.group at) (flips : (at : ℕ) → plan.flips at ≡ other.flips at) where
  pub same_flip : (at : ℕ) → flip_of plan at ≡ flip_of other at
  same_flip at = ap (λ (test : Bool). cond test (Some at) None) (flips at)

  same_at : (at : ℕ) (stands : List Stand) (occasion : Occasion) → at ≢ event → stands_at_event plan at stands occasion ≡ stands_at_event other at stands occasion
  same_at at stands occasion differs =
      ap (λ (lines : List Move). made_at (map (carried (group_moves stands lines (flip_of plan at))) stands) occasion) (groups at differs)
      ∙ ap (λ (flip : Option ℕ). made_at (map (carried (group_moves stands (other.group at) flip)) stands) occasion) (same_flip at)

  same_verdict : (at : ℕ) (stands : List Stand) → at ≢ event → verdict stands (plan.group at) (flip_of plan at) ≡ verdict stands (other.group at) (flip_of other at)
  same_verdict at stands differs =
      ap (λ (lines : List Move). verdict stands lines (flip_of plan at)) (groups at differs) ∙ ap (λ (flip : Option ℕ). verdict stands (other.group at) flip) (same_flip at)

  pub stands_same : (before : ℕ) (stands : List Stand) (list : List Occasion) → before + length list < event → event < 2 ^ 64
      → stands_behind plan before stands list ≡ stands_behind other before stands list
  stands_same before stands [] within few = refl
  stands_same before stands (occasion ∷ rest) within few =
      let differs : raised before ≢ event = λ is. (let no : ⊥ = omega (arith, is, within) in no) in
      stands_same (raised before) (stands_at_event plan (raised before) stands occasion) rest (omega (arith, within)) few
      ∙ ap (λ (now : List Stand). stands_behind other (raised before) now rest) (same_at (raised before) stands occasion differs)

  pub verdicts_same : (before : ℕ) (stands : List Stand) (list : List Occasion) → before + length list < event → event < 2 ^ 64
      → verdicts_behind plan before stands list ≡ verdicts_behind other before stands list
  verdicts_same before stands [] within few = refl
  verdicts_same before stands (occasion ∷ rest) within few =
      let differs : raised before ≢ event = λ is. (let no : ⊥ = omega (arith, is, within) in no) in
      ap (λ (one : Verdict). one ∷ verdicts_behind plan (raised before) (stands_at_event plan (raised before) stands occasion) rest) (same_verdict (raised before) stands differs)
      ∙ ap (λ (list : List Verdict). verdict stands (other.group (raised before)) (flip_of other (raised before)) ∷ list)
      (verdicts_same (raised before) (stands_at_event plan (raised before) stands occasion) rest (omega (arith, within)) few
      ∙ ap (λ (now : List Stand). verdicts_behind other (raised before) now rest) (same_at (raised before) stands occasion differs))
