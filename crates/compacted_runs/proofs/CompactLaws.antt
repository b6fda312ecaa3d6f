-- The plan that compacts, over a whole run.
use Rattle.std.proofs.Common.{◌≡◌, ℕ, suc, ◌+◌, ◌-◌, ◌^◌, ◌≤◌, ◌<◌, List, [], ◌∷◌, ◌++◌, length, map, take, drop, refl, sym, ap, subst, ◌∙◌, Option, Some, arith, length-take}
use Rattle.std.specs.Prelude.{filter, slice_get}
use Rattle.std.specs.List.{All, sum}
use Rattle.std.proofs.Math.Path.{fun_ext}
use Rattle.std.proofs.lemmas.Bool.{le-ltb, lt-ltb}
use Rattle.std.proofs.lemmas.List.Elements.{All-cons, All-head, All-nil, All-tail}
use Rattle.std.proofs.lemmas.List.Sums.{sum-map}
use Rattle.std.proofs.lemmas.Option.{get_or_from_slice_get}
use Rattle.list_laws.proofs.Places.{get_middle, get_some, split_at, take_front_of, take_item, take_whole}
use Rattle.tool_io.specs.Counts.{raised}
use Rattle.move_plan.specs.declared.plan_lines.PlanLine.{PlanLine}
use Rattle.move_plan.specs.Plans.{go, group}
use Rattle.moving_heap.specs.declared.stands.Stand.{Stand}
use Rattle.moving_heap.specs.declared.stands.Verdict.{Verdict}
use Rattle.moving_heap.specs.Places.{new_stand, verdict}
use Rattle.moving_heap.specs.Settled.{AreSettled}
use Rattle.object_meaning.specs.SourceRuns.{SourceGives, source_setting}
use Rattle.object_meaning.specs.Traces.{Event}
use Rattle.object_meaning.specs.Outcomes.{sizes_in}
use Rattle.machine_meaning.specs.EventPlaces.{MovePlan, Occasion, flip_of, made_at, makes, polls, stands_at_event}
use Rattle.made_objects.specs.declared.makes.Made.{Made}
use Rattle.made_objects.specs.Makings.{counted_from, makings, makings_from, sizes_made}
use Rattle.made_objects.specs.Packed.{IsFootprint, IsWhole}
use Rattle.made_objects.proofs.MakingLaws.{counted_is, runs_make_their_objects}
use Rattle.compact_plan.specs.Compacting.{compacted, stands_before}
use Rattle.compact_plan.specs.Packed.{laid, packing_verdict}
use Rattle.compact_plan.specs.Promises.{AreBefore, IsEvent, LaysSideBySide, SaysTheSame}
use Rattle.compact_plan.proofs.HeapLaws.{event_compacts}
use Rattle.compact_plan.proofs.LineLaws.{others_stay}
use Rattle.compact_plan.proofs.PlanLaws.{compacted_is_plan}
use Rattle.rewritten_runs.specs.Places.{moves_in, occasions, stands_behind, stands_by, verdicts_behind, verdicts_by}
use Rattle.compacted_runs.specs.Statements.{Compacts, RunsCompact, stands_until}
use Rattle.compacted_runs.proofs.EventLaws.{First, first_alone, first_of, left_of, made_below, made_from_on, makings_split, occasions_count, occasions_split, past, past_is, settled_behind, sizes_behind, stands_same, stands_split, verdicts_count, verdicts_same, verdicts_split}

-- ---- lists

none_settled : AreSettled []
none_settled = record {
  each = λ k d within. absurd (omega (arith, within));
  within = omega arith;
  numbered = record { at = λ k d within. absurd (omega (arith, within)) };
  apart = refl;
}

filter_late : (event : ℕ) (late : List Made) → All (λ one. event ≤ one.event) late → filter (stands_before event) late ≡ []
filter_late event [] behind = refl
filter_late event (one ∷ rest) behind =
    rw (le-ltb one.event event (All-head (λ one. event ≤ one.event) one rest behind)) (filter_late event rest (All-tail (λ one. event ≤ one.event) one rest behind))

filter_early : (event : ℕ) (early late : List Made) → All (λ one. one.event < event) early → All (λ one. event ≤ one.event) late
    → filter (stands_before event) (early ++ late) ≡ early
filter_early event [] late before behind = filter_late event late behind
filter_early event (one ∷ rest) late before behind =
    rw (lt-ltb one.event event (All-head (λ one. one.event < event) one rest before))
    (ap (λ (list : List Made). one ∷ list) (filter_early event rest late (All-tail (λ one. one.event < event) one rest before) behind))

laid_count : (to : ℕ) (stands : List Stand) → length (laid to stands) ≡ length stands
laid_count to [] = refl
laid_count to (stand ∷ stands) = ap suc (laid_count (to + stand.size) stands)

first_stands : (stands laid_so : List Stand) (occasion : Occasion) → length laid_so ≡ length stands → take (length stands) (made_at laid_so occasion) ≡ laid_so
first_stands stands laid_so polls count = ap (λ (n : ℕ). take n laid_so) (sym count) ∙ take_whole laid_so
first_stands stands laid_so (makes size) count =
    ap (λ (n : ℕ). take n (laid_so ++ new_stand laid_so size ∷ [])) (sym count) ∙ take_front_of laid_so (new_stand laid_so size ∷ [])

-- ---- an event of a run

module _ (plan : List PlanLine) (event : ℕ) (events : List Event) (sizes : List ℕ) (is_event : IsEvent event) (comes : event ≤ length events)
    (whole : All IsFootprint sizes) (room : sum sizes ≤ 67108864) where
  abbrev made : List Made
  made = makings events sizes

  abbrev now : List PlanLine
  now = compacted plan made event

  abbrev first : List Event
  first = take (event - 1) events

  abbrev stands : List Stand
  stands = stands_until plan event events sizes

  says : SaysTheSame plan now event
  says = others_stay plan made event

  taken_count : (earlier : ℕ) → earlier ≤ length events → length (take earlier events) ≡ earlier
  taken_count earlier within = length-take earlier events ∙ omega (arith, within)

  few_before : (earlier : ℕ) → earlier < event → 0 + length (occasions (take earlier events) sizes) < event
  few_before earlier before =
      let count = occasions_count (take earlier events) sizes in
      let taken = taken_count earlier (omega (arith, before, comes)) in
      omega (arith, count, taken, before)

  places_same : (earlier : ℕ) → earlier < event → stands_by now (take earlier events) sizes ≡ stands_by plan (take earlier events) sizes
  places_same earlier before =
      stands_same (moves_in now) (moves_in plan) event says.group says.flips 0 [] (occasions (take earlier events) sizes) (few_before earlier before) is_event.1

  one_before : event - 1 < event
  one_before = let some = is_event.0 in omega (arith, some)

  -- the event, and what comes behind it
  abbrev here : (event_is : Event) × (slice_get events (event - 1) ≡ Some event_is)
  here = get_some events (event - 1) (let some = is_event.0 in omega (arith, some, comes))

  abbrev behind : List Event
  behind = drop (event - 1 + 1) events

  split : events ≡ first ++ here.0 ∷ behind
  split = split_at events (event - 1) here.0 here.1

  first_count : length first ≡ event - 1
  first_count = taken_count (event - 1) (omega (arith, comes))

  counted : counted_from 0 first ≡ event - 1
  counted = counted_is 0 first (omega arith) ∙ (let most = is_event.1 in omega (arith, first_count, most))

  -- which objects stand
  are_before : AreBefore event made stands
  are_before = record {
    later = makings_from (counted_from 0 first) (here.0 ∷ behind) (left_of first sizes);
    early = makings_from 0 first sizes;
    split = ap (λ (list : List Event). makings list sizes) split ∙ makings_split 0 first (here.0 ∷ behind) sizes;
    before = made_below 0 event first sizes (let some = is_event.0 in omega (arith, first_count, some));
    behind = made_from_on (counted_from 0 first) event (here.0 ∷ behind) (left_of first sizes) (let most = is_event.1 in let some = is_event.0 in omega (arith, counted, most, some));
    sizes = sizes_behind (moves_in plan) 0 [] first sizes;
  }

  settled : AreSettled stands
  settled = settled_behind (moves_in plan) 0 [] first sizes none_settled whole (omega (arith, room))

  lays : LaysSideBySide now event (flip_of (moves_in now) event) stands
  lays = event_compacts plan made event (flip_of (moves_in now) event) stands settled are_before

  -- what happens at the event
  happens : First here.0 behind (left_of first sizes)
  happens = first_of here.0 behind (left_of first sizes)

  occasions_are : occasions events sizes ≡ occasions first sizes ++ happens.occasion ∷ occasions behind (left_of (here.0 ∷ []) (left_of first sizes))
  occasions_are =
      ap (λ (list : List Event). occasions list sizes) split
      ∙ (occasions_split first (here.0 ∷ behind) sizes ∙ ap (λ (list : List Occasion). occasions first sizes ++ list) happens.is)

  abbrev behind_it : List Occasion
  behind_it = occasions behind (left_of (here.0 ∷ []) (left_of first sizes))

  number_is : raised (past 0 (occasions first sizes)) ≡ event
  number_is =
      ap raised (past_is 0 first sizes ∙ counted) ∙ (let most = is_event.1 in let some = is_event.0 in omega (arith, most, some))

  stands_now : stands_behind (moves_in now) 0 [] (occasions first sizes) ≡ stands
  stands_now = places_same (event - 1) one_before

  verdicts_now : (own : MovePlan) → verdicts_behind own 0 [] (occasions events sizes)
      ≡ verdicts_behind own 0 [] (occasions first sizes)
      ++ verdicts_behind own (past 0 (occasions first sizes)) (stands_behind own 0 [] (occasions first sizes)) (happens.occasion ∷ behind_it)
  verdicts_now own =
      ap (verdicts_behind own 0 []) occasions_are ∙ verdicts_split own 0 [] (occasions first sizes) (happens.occasion ∷ behind_it)

  before_count : (own : MovePlan) → length (verdicts_behind own 0 [] (occasions first sizes)) ≡ event - 1
  before_count own = verdicts_count own 0 [] (occasions first sizes) ∙ (occasions_count first sizes ∙ first_count)

  first_verdicts : (own : MovePlan) → take (event - 1) (verdicts_behind own 0 [] (occasions events sizes)) ≡ verdicts_behind own 0 [] (occasions first sizes)
  first_verdicts own =
      let early = verdicts_behind own 0 [] (occasions first sizes) in
      let later = verdicts_behind own (past 0 (occasions first sizes)) (stands_behind own 0 [] (occasions first sizes)) (happens.occasion ∷ behind_it) in
      ap (take (event - 1)) (verdicts_now own) ∙ (ap (λ (n : ℕ). take n (early ++ later)) (sym (before_count own)) ∙ take_front_of early later)

  abbrev verdict_on : List Stand → ℕ → Verdict
  verdict_on own at = verdict own (group now at) (flip_of (moves_in now) at)

  verdict_here : slice_get (verdicts_by now events sizes) (event - 1) ≡ Some (packing_verdict stands)
  verdict_here =
      let own = moves_in now in
      let early = verdicts_behind own 0 [] (occasions first sizes) in
      let number = raised (past 0 (occasions first sizes)) in
      let there = stands_behind own 0 [] (occasions first sizes) in
      let later = verdicts_behind own number (stands_at_event own number there happens.occasion) behind_it in
      let is : verdict_on there number ≡ packing_verdict stands =
      ap (verdict_on there) number_is ∙ (ap (λ (s : List Stand). verdict_on s event) stands_now ∙ lays.verdict) in
      ap (λ (list : List Verdict). slice_get list (event - 1)) (verdicts_now own)
      ∙ (ap (λ (n : ℕ). slice_get (early ++ verdict_on there number ∷ later) n) (sym (before_count own))
      ∙ (get_middle early (verdict_on there number) later ∙ ap (λ (v : Verdict). Some v) is))

  places_here : stands_by now (take event events) sizes ≡ made_at (laid (2 ^ 40) stands) happens.occasion
  unfolding happens
  places_here =
      let own = moves_in now in
      let there = stands_behind own 0 [] (occasions first sizes) in
      let until : take event events ≡ first ++ here.0 ∷ [] =
      ap (λ (n : ℕ). take n events) (let some = is_event.0 in omega (arith, some))
      ∙ take_item events (event - 1) here.0 (let some = is_event.0 in omega (arith, some, comes)) (sym (get_or_from_slice_get events (event - 1) here.0 here.0 here.1)) in
      let one = first_of here.0 [] (left_of first sizes) in
      let list : occasions (take event events) sizes ≡ occasions first sizes ++ one.occasion ∷ [] =
      ap (λ (es : List Event). occasions es sizes) until
      ∙ (occasions_split first (here.0 ∷ []) sizes ∙ ap (λ (os : List Occasion). occasions first sizes ++ os) one.is) in
      ap (stands_behind own 0 []) list
      ∙ (stands_split own 0 [] (occasions first sizes) (one.occasion ∷ [])
      ∙ (ap (λ (at : ℕ). stands_at_event own at there one.occasion) number_is
      ∙ (ap (λ (s : List Stand). stands_at_event own event s one.occasion) stands_now
      ∙ (ap (λ (s : List Stand). made_at s one.occasion) lays.places ∙ ap (made_at (laid (2 ^ 40) stands)) (first_alone here.0 behind (left_of first sizes))))))

  pub compacts : Compacts now plan event events sizes
  compacts = record {
    places = places_same;
    verdicts = first_verdicts (moves_in now)
        ∙ (verdicts_same (moves_in now) (moves_in plan) event says.group says.flips 0 [] (occasions first sizes) (few_before (event - 1) one_before) is_event.1
        ∙ sym (first_verdicts (moves_in plan)));
    objects = subst (λ (own : List Stand). map (λ (stand : Stand). stand.size) own ≡ sizes_made (filter (stands_before event) made)) (sym stands_now)
        (are_before.sizes
        ∙ ap sizes_made (sym (ap (filter (stands_before event)) are_before.split ∙ filter_early event are_before.early are_before.later are_before.before are_before.behind)));
    verdict = subst (λ (own : List Stand). slice_get (verdicts_by now events sizes) (event - 1) ≡ Some (packing_verdict own)) (sym stands_now) verdict_here;
    side_by_side = subst (λ (own : List Stand). take (length own) (stands_by now (take event events) sizes) ≡ laid (2 ^ 40) own) (sym stands_now)
        (ap (take (length stands)) places_here ∙ first_stands stands (laid (2 ^ 40) stands) happens.occasion (laid_count (2 ^ 40) stands));
  }

-- ---- whole runs

whole_sizes : (made : List Made) → All IsWhole made → All IsFootprint (sizes_made made)
whole_sizes [] all = All-nil IsFootprint
whole_sizes (one ∷ rest) all =
    let own = All-head IsWhole one rest all in
    All-cons IsFootprint one.footprint (sizes_made rest) (own.some, own.whole) (whole_sizes rest (All-tail IsWhole one rest all))

pub runs_compact : RunsCompact
runs_compact content input plan bound event outcome is_plan is_event gives comes few =
    let sizes = sizes_in content.layouts outcome.objects in
    let made = makings outcome.happened sizes in
    let at_events = runs_make_their_objects (source_setting content (go plan) bound) input outcome gives in
    let same_go : go (compacted plan made event) ≡ go plan = fun_ext (others_stay plan made event).go in
    let whole : All IsFootprint sizes = subst (All IsFootprint) at_events.all (whole_sizes made at_events.packed.whole) in
    let room : sum sizes ≤ 67108864 =
    subst (λ (bytes : ℕ). bytes ≤ 67108864) (sym (sum-map (λ (one : Made). one.footprint) made) ∙ ap sum at_events.all) at_events.packed.within in
    let counted = at_events.counted in
    record {
      is_plan = compacted_is_plan plan made event is_plan at_events.packed is_event few;
      same_go = same_go;
      gives = subst (λ (lines : ℕ → Option ℕ). SourceGives content input lines bound outcome) (sym same_go) gives;
      compacts = compacts plan event outcome.happened sizes is_event (omega (arith, counted, comes)) whole room;
    }
