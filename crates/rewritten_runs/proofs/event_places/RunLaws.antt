-- The objects of a run stand where its events and its plan put them.
use Rattle.std.proofs.Common.{◌≡◌, ℕ, zero, suc, List, [], ◌∷◌, ◌++◌, map, refl, sym, ap, subst, ◌∙◌, append-nil, append_assoc}
use Rattle.std.proofs.lemmas.List.{map-append}
use Rattle.sp_ids.specs.declared.ends.End.{End}
use Rattle.sp_ids.specs.declared.ends.End.TheVariants.{LostFrame}
use Rattle.ir_ast.specs.declared.ops.Op.{Op}
use Rattle.ir_ast.specs.declared.ops.Op.TheVariants.{Call, Statepoint}
use Rattle.moving_heap.specs.declared.stands.Moved.{Moved}
use Rattle.moving_heap.specs.declared.stands.Stand.{Stand}
use Rattle.moving_heap.specs.declared.stands.Verdict.{Verdict}
use Rattle.moving_heap.specs.Places.{carried, new_stand, verdict}
use Rattle.object_meaning.specs.Effects.{Effect, Progress, goes_on, prints, ends, after}
use Rattle.object_meaning.specs.Lines.{Line}
use Rattle.object_meaning.specs.Runs.{Next, Go, End as Over, goes}
use Rattle.object_meaning.specs.Traces.{Event, at_poll, at_new, event_at, event_of, events_at, traced}
use Rattle.object_meaning.proofs.RunLaws.{goes_over, traced_over}
use Rattle.machine_meaning.specs.Code.{machinery_of}
use Rattle.machine_meaning.specs.EventPlaces.{MovePlan, Occasion, made_at, makes, moved_at, polls, stands_at_event, flip_of}
use Rattle.machine_meaning.specs.Happenings.{Happening, happening, happening_by, happenings_at}
use Rattle.machine_meaning.specs.MachineRuns.{MachineOutcome, machine_opening, machine_outcome, machine_proceeds}
use Rattle.machine_meaning.specs.MachineSteps.{machine_step}
use Rattle.machine_meaning.specs.Machines.{Machine, Machinery, spilled}
use Rattle.machine_meaning.specs.Moving.{verdict_at}
use Rattle.tool_io.specs.Counts.{raised}
use Rattle.rewritten_runs.specs.Places.{moves_in, occasions, stands_behind, verdicts_behind}
use Rattle.rewritten_runs.specs.PlacedRuns.{IsPlacedBy, PlacesAreByEvents, events_of, stand_sizes}
use Rattle.rewritten_runs.proofs.event_places.StepLaws.{Stays, Happens, GoesOn, EndsAt, Tells, step_tells}

event_in : Happening → Event
event_in happens = happens.event

verdict_in : Happening → Verdict
verdict_in happens = happens.verdict

size_in : Stand → ℕ
size_in stand = stand.size

-- ---- what happens at a line

module _ (machinery : Machinery) where
  abbrev now_verdict : Machine → Verdict
  now_verdict machine = verdict_at machinery machine.heap (raised machine.state.events)

  -- the events of a line are those of its operator, and each has the verdict on what stands before it
  record Shown (machine : Machine) (events : List Event) (happened : List Happening) : Type 0 where
    events_are : map event_in happened ≡ events
    verdicts_are : map verdict_in happened ≡ map (λ (event : Event). now_verdict machine) events

  all_shown : (machine from : Machine) (events : List Event) → now_verdict from ≡ now_verdict machine → Shown machine events (map (happening machinery from) events)
  unfolding event_in verdict_in
  all_shown machine from [] same = record { events_are = refl; verdicts_are = refl }
  all_shown machine from (event ∷ events) same =
      let rest = all_shown machine from events same in record {
        events_are = ap (λ (list : List Event). event ∷ list) rest.events_are;
        verdicts_are =
            ap (λ (one : Verdict). one ∷ map verdict_in (map (happening machinery from) events)) same ∙ ap (λ (list : List Verdict). now_verdict machine ∷ list) rest.verdicts_are;
      }

  by_operator : (machine : Machine) (line : Line) (op : Op) → Shown machine (event_of op) (happening_by machinery machine line op)
  unfolding event_in verdict_in
  by_operator machine line (Call callee types) = all_shown machine machine (event_at callee) refl
  by_operator machine line (Statepoint id callee types) = all_shown machine (spilled machine line.inst _) (event_at callee) refl
  by_operator machine line op = record { events_are = refl; verdicts_are = refl }

  at_lines : (machine : Machine) (lines : List Line) → Shown machine (events_at lines) (happenings_at machinery machine lines)
  unfolding event_in verdict_in
  at_lines machine [] = record { events_are = refl; verdicts_are = refl }
  at_lines machine (line ∷ rest) = by_operator machine line line.inst.op

-- ---- sizes

sizes_carried : (moves : List Moved) (stands : List Stand) → map size_in (map (carried moves) stands) ≡ map size_in stands
unfolding size_in
sizes_carried moves [] = refl
sizes_carried moves (stand ∷ stands) = ap (λ (rest : List ℕ). stand.size ∷ rest) (sizes_carried moves stands)

sizes_moved : (plan : MovePlan) (event : ℕ) (stands : List Stand) → map size_in (moved_at plan event stands) ≡ map size_in stands
sizes_moved plan event stands = sizes_carried _ stands

sizes_made : (stands : List Stand) (size : ℕ) → map size_in (made_at stands (makes size)) ≡ map size_in stands ++ size ∷ []
unfolding size_in
sizes_made stands size = map-append size_in stands (new_stand stands size ∷ [])

-- ---- runs

-- what the rest of a run does from a machine on at which this happens, up to the last one
record Comes (plan : MovePlan) (before last : Machine) (events : List Event) (verdicts : List Verdict) : Type 0 where
  sizes : List ℕ
  grown : map size_in last.heap.stands ≡ map size_in before.heap.stands ++ sizes
  stands : last.heap.stands ≡ stands_behind plan before.state.events before.heap.stands (occasions events sizes)
  verdicts_are : verdicts ≡ verdicts_behind plan before.state.events before.heap.stands (occasions events sizes)

module _ (plan : MovePlan) where
  same_stands : (one other : ℕ) (stands others : List Stand) (list : List Occasion) → one ≡ other → stands ≡ others → stands_behind plan one stands list ≡ stands_behind plan other others list
  same_stands one other stands others list counts same =
      ap (λ (count : ℕ). stands_behind plan count stands list) counts ∙ ap (λ (s : List Stand). stands_behind plan other s list) same

  same_verdicts : (one other : ℕ) (stands others : List Stand) (list : List Occasion) → one ≡ other → stands ≡ others → verdicts_behind plan one stands list ≡ verdicts_behind plan other others list
  same_verdicts one other stands others list counts same =
      ap (λ (count : ℕ). verdicts_behind plan count stands list) counts ∙ ap (λ (s : List Stand). verdicts_behind plan other s list) same

  stays_comes : (before now last : Machine) (events : List Event) (verdicts : List Verdict) → Stays before now → Comes plan now last events verdicts → Comes plan before last events verdicts
  stays_comes before now last events verdicts stays rest =
      let list = occasions events rest.sizes in record {
        sizes = rest.sizes;
        grown = rest.grown ∙ ap (λ (stands : List Stand). map size_in stands ++ rest.sizes) stays.stands;
        stands = rest.stands ∙ same_stands now.state.events before.state.events now.heap.stands before.heap.stands list stays.events stays.stands;
        verdicts_are = rest.verdicts_are ∙ same_verdicts now.state.events before.state.events now.heap.stands before.heap.stands list stays.events stays.stands;
      }

  abbrev own_verdict : Machine → Verdict
  own_verdict before = verdict before.heap.stands (plan.group (raised before.state.events)) (flip_of plan (raised before.state.events))

  -- an event at which the objects of these sizes are made
  happens_comes : (before now last : Machine) (event : Event) (occasion : Occasion) (own : List ℕ) (events : List Event) (verdicts : List Verdict) → Happens plan before now occasion
      → (rest : Comes plan now last events verdicts) → occasions (event ∷ events) (own ++ rest.sizes) ≡ occasion ∷ occasions events rest.sizes
      → map size_in now.heap.stands ≡ map size_in before.heap.stands ++ own → Comes plan before last (event ∷ events) (own_verdict before ∷ verdicts)
  happens_comes before now last event occasion own events verdicts happens rest list_is grows =
      let number = raised before.state.events in
      let list = occasions events rest.sizes in record {
        sizes = own ++ rest.sizes;
        grown =
            rest.grown ∙ (ap (λ (sizes : List ℕ). sizes ++ rest.sizes) grows ∙ append_assoc (map size_in before.heap.stands) own rest.sizes);
        stands =
            rest.stands
            ∙ (same_stands now.state.events number now.heap.stands (stands_at_event plan number before.heap.stands occasion) list happens.events happens.stands
            ∙ sym (ap (stands_behind plan before.state.events before.heap.stands) list_is));
        verdicts_are =
            ap (λ (later : List Verdict). own_verdict before ∷ later)
            (rest.verdicts_are ∙ same_verdicts now.state.events number now.heap.stands (stands_at_event plan number before.heap.stands occasion) list happens.events happens.stands)
            ∙ sym (ap (verdicts_behind plan before.state.events before.heap.stands) list_is);
      }

  goes_comes : (before now last : Machine) (here : List Event) (events : List Event) (verdicts : List Verdict) → GoesOn plan before here now → Comes plan now last events verdicts
      → Comes plan before last (here ++ events) (map (λ (event : Event). own_verdict before) here ++ verdicts)
  goes_comes before now last [] events verdicts goes_so rest = stays_comes before now last events verdicts goes_so rest
  goes_comes before now last (at_poll ∷ more) events verdicts goes_so rest =
      subst (λ (list : List Event). Comes plan before last (at_poll ∷ (list ++ events)) (own_verdict before ∷ (map (λ (event : Event). own_verdict before) list ++ verdicts))) (sym goes_so.1)
      (happens_comes before now last at_poll polls [] events verdicts goes_so.0 rest refl
      (ap (map size_in) goes_so.0.stands ∙ (sizes_moved plan (raised before.state.events) before.heap.stands ∙ sym (append-nil (map size_in before.heap.stands)))))
  goes_comes before now last (at_new ∷ more) events verdicts goes_so rest =
      subst (λ (list : List Event). Comes plan before last (at_new ∷ (list ++ events)) (own_verdict before ∷ (map (λ (event : Event). own_verdict before) list ++ verdicts))) (sym goes_so.2)
      (happens_comes before now last at_new (makes goes_so.0) (goes_so.0 ∷ []) events verdicts goes_so.1 rest refl
      (ap (map size_in) goes_so.1.stands
      ∙ (sizes_made (moved_at plan (raised before.state.events) before.heap.stands) goes_so.0
      ∙ ap (λ (sizes : List ℕ). sizes ++ goes_so.0 ∷ []) (sizes_moved plan (raised before.state.events) before.heap.stands))))

  ends_comes : (before last : Machine) (here : List Event) → EndsAt plan before here last → Comes plan before last here (map (λ (event : Event). own_verdict before) here)
  ends_comes before last [] same = record {
    sizes = [];
    grown = ap (map size_in) same ∙ sym (append-nil (map size_in before.heap.stands));
    stands = same;
    verdicts_are = refl;
  }
  ends_comes before last (at_poll ∷ more) never = absurd never
  ends_comes before last (at_new ∷ more) ends_so =
      subst (λ (list : List Event). Comes plan before last (at_new ∷ list) (own_verdict before ∷ map (λ (event : Event). own_verdict before) list)) (sym ends_so.1)
      (record {
        sizes = [];
        grown = ap (map size_in) ends_so.0 ∙ (sizes_moved plan (raised before.state.events) before.heap.stands ∙ sym (append-nil (map size_in before.heap.stands)));
        stands = ends_so.0;
        verdicts_are = refl;
      })

over_at : End → Progress Machine → Next End (Progress Machine)
over_at end last = Over end last

same_end : (end other : End) (last other_last : Progress Machine) → over_at end last ≡ over_at other other_last → end ≡ other
unfolding over_at
same_end end other last other_last is = cc

same_last : (end other : End) (last other_last : Progress Machine) → over_at end last ≡ over_at other other_last → last ≡ other_last
unfolding over_at
same_last end other last other_last is = cc

not_over : (progress : Progress Machine) (end : End) (last : Progress Machine) → Go progress ≡ over_at end last → ⊥
unfolding over_at
not_over progress end last is = cc

module _ (machinery : Machinery) (end : End) (last : Progress Machine) (way : end ≡ LostFrame → ⊥) where
  abbrev did : Progress Machine → List Happening
  did progress = happenings_at machinery progress.state progress.state.state.running.rest

  abbrev happened : ℕ → Next End (Progress Machine) → List Happening
  happened within next = traced did (machine_proceeds machinery) within next

  abbrev ComesOf : Machine → List Happening → Type 0
  ComesOf machine list = Comes machinery.plan machine last.state (map event_in list) (map verdict_in list)

  abbrev ComesOn : ℕ → Type 0
  ComesOn within = (machine : Machine) (lines : List (List ℕ)) → goes (machine_proceeds machinery) within (Go (record { state = machine; lines = lines })) ≡ over_at end last
      → ComesOf machine (happened within (Go (record { state = machine; lines = lines })))

  -- the rest of a run behind a step that does this
  by_effect : (within : ℕ) → ComesOn within → (before : Machine) (lines : List (List ℕ)) (events : List Event) (effect : Effect Machine) → Tells machinery.plan before events effect
      → goes (machine_proceeds machinery) within (after lines effect) ≡ over_at end last
      → Comes machinery.plan before last.state (events ++ map event_in (happened within (after lines effect)))
      (map (λ (event : Event). own_verdict machinery.plan before) events ++ map verdict_in (happened within (after lines effect)))
  unfolding over_at
  by_effect within again before lines events (goes_on now) tells by =
      goes_comes machinery.plan before now last.state events _ _ tells (again now lines by)
  by_effect within again before lines events (prints word now) tells by =
      goes_comes machinery.plan before now last.state events _ _ tells (again now _ by)
  by_effect within again before lines events (ends own machine) tells by =
      let stopped : Progress Machine = record { state = machine; lines = lines } in
      let none = traced_over did (machine_proceeds machinery) within own stopped in
      let over : over_at own stopped ≡ over_at end last = sym (goes_over (machine_proceeds machinery) within own stopped) ∙ by in
      let at_end = ends_comes machinery.plan before machine events (tells (λ lost. way (sym (same_end own end stopped last over) ∙ lost))) in
      subst (λ (list : List Happening). Comes machinery.plan before last.state (events ++ map event_in list) (map (λ (event : Event). own_verdict machinery.plan before) events ++ map verdict_in list)) (sym none)
      (subst (λ (list : List Event). Comes machinery.plan before last.state list (map (λ (event : Event). own_verdict machinery.plan before) events ++ [])) (sym (append-nil events))
      (subst (λ (list : List Verdict). Comes machinery.plan before last.state events list) (sym (append-nil (map (λ (event : Event). own_verdict machinery.plan before) events)))
      (subst (λ (p : Progress Machine). Comes machinery.plan before p.state events (map (λ (event : Event). own_verdict machinery.plan before) events)) (same_last own end stopped last over) at_end)))

  comes : (within : ℕ) → ComesOn within
  unfolding machine_proceeds
  comes zero machine lines by = absurd (not_over _ end last by)
  comes (suc within) machine lines by =
      let lines_here = machine.state.running.rest in
      let shown = at_lines machinery machine lines_here in
      let here = happenings_at machinery machine lines_here in
      let later = happened within (after lines (machine_step machinery machine)) in
      let found = by_effect within (comes within) machine lines (events_at lines_here) (machine_step machinery machine) (step_tells machinery machine) by in
      subst (λ (list : List Event). Comes machinery.plan machine last.state list (map verdict_in (here ++ later))) (sym (map-append event_in here later))
      (subst (λ (list : List Verdict). Comes machinery.plan machine last.state (map event_in here ++ map event_in later) list) (sym (map-append verdict_in here later))
      (subst (λ (list : List Event). Comes machinery.plan machine last.state (list ++ map event_in later) (map verdict_in here ++ map verdict_in later)) (sym shown.events_are)
      (subst (λ (list : List Verdict). Comes machinery.plan machine last.state (events_at lines_here ++ map event_in later) (list ++ map verdict_in later)) (sym shown.verdicts_are) found)))

pub places_are_by_events : PlacesAreByEvents
unfolding event_in verdict_in size_in over_at
places_are_by_events content stack_map input plan bound machine gives way =
    let machinery = machinery_of content stack_map plan bound in
    let start = machine_opening machinery input in
    let found = comes machinery machine.end gives.last way gives.run.within start.state start.lines gives.run.by in
    let made : MachineOutcome = machine_outcome machinery input gives.run.within machine.end gives.last in
    subst (λ (m : MachineOutcome). IsPlacedBy plan (events_of m) (stand_sizes m) m) (sym gives.is)
    (record {
      stands = found.stands ∙ ap (λ (sizes : List ℕ). stands_behind (moves_in plan) 0 [] (occasions (events_of made) sizes)) (sym found.grown);
      verdicts = found.verdicts_are ∙ ap (λ (sizes : List ℕ). verdicts_behind (moves_in plan) 0 [] (occasions (events_of made) sizes)) (sym found.grown);
    })
