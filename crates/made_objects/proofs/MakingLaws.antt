-- What a run makes, from step to step.
use Rattle.std.proofs.Common.{◌≡◌, ℕ, zero, suc, ◌+◌, ◌-◌, ◌^◌, ◌≤◌, min, List, [], ◌∷◌, ◌++◌, ◌⊎◌, inl, inr, length, refl, sym, ap, subst, ◌∙◌, arith, append-nil, append_assoc}
use Rattle.std.specs.List.{All, sum}
use Rattle.std.proofs.Math.Nat.{suc-add, zero-add}
use Rattle.std.proofs.lemmas.List.{append_cancel_left, map-append}
use Rattle.std.proofs.lemmas.List.Elements.{All-append, All-cons, All-head, All-nil, All-tail}
use Rattle.std.proofs.lemmas.List.Sums.{sum-map}
use Rattle.tool_io.specs.Counts.{raised}
use Rattle.sp_ids.specs.declared.ends.End.{End}
use Rattle.ir_ast.specs.Layouts.{ObjectLayout}
use Rattle.object_meaning.specs.Effects.{Effect, Progress, goes_on, prints, ends, after, printed_line}
use Rattle.object_meaning.specs.Outcomes.{events_from, opening, proceeds, sizes_in}
use Rattle.object_meaning.specs.Runs.{Go, Next, Reaches, End as Over, advance, goes}
use Rattle.object_meaning.specs.States.{State, Setting}
use Rattle.object_meaning.specs.Steps.{step}
use Rattle.object_meaning.specs.Traces.{Event, at_poll, at_new, done_at, events_at}
use Rattle.object_meaning.proofs.RunLaws.{goes_over, not_over, same_over, traced_over, gone}
use Rattle.object_meaning.proofs.SimulationLaws.{goes_on as goes_add}
use Rattle.made_objects.specs.declared.makes.Made.{Made}
use Rattle.made_objects.specs.Makings.{counted_from, makings, makings_from, sizes_made}
use Rattle.made_objects.specs.Packed.{ArePacked, HaveRoom, IsFootprint, IsWhole}
use Rattle.made_objects.specs.Runs.{HasMade, Makes, MakesAll, MakesLast}
use Rattle.made_objects.specs.Statements.{IsMadeAtEvents, RunsMakeTheirObjects}
use Rattle.made_objects.proofs.NewLaws.{all_made}
use Rattle.made_objects.proofs.StepLaws.{EndsAt, GoesOn, Stays, Tells, step_tells}

-- ---- lists

-- without a footprint nothing is made
pub none_made : (before : ℕ) (events : List Event) → makings_from before events [] ≡ []
none_made before [] = refl
none_made before (at_poll ∷ events) = none_made (raised before) events
none_made before (at_new ∷ events) = refl

counted_on : (before : ℕ) (one other : List Event) → counted_from before (one ++ other) ≡ counted_from (counted_from before one) other
counted_on before [] other = refl
counted_on before (event ∷ one) other = counted_on (raised before) one other

pub counted_is : (before : ℕ) (events : List Event) → before ≤ 2 ^ 64 - 1 → counted_from before events ≡ min (before + length events) (2 ^ 64 - 1)
counted_is before [] within = omega (arith, within)
counted_is before (event ∷ events) within =
    let rest = counted_is (raised before) events (omega arith) in
    let raised_so : raised before ≡ min (before + 1) (2 ^ 64 - 1) = refl in
    rest ∙ omega (arith, raised_so, within)

room_more : (sizes : List ℕ) (size : ℕ) → IsFootprint size → sum (sizes ++ size ∷ []) ≤ 67108864 → HaveRoom sizes → HaveRoom (sizes ++ size ∷ [])
room_more sizes size whole within room = record {
  each = All-append IsFootprint sizes (size ∷ []) room.each (All-cons IsFootprint size [] whole (All-nil IsFootprint));
  within = within;
}

all_whole : (made : List Made) → All IsFootprint (sizes_made made) → All IsWhole made
all_whole [] all = All-nil IsWhole
all_whole (one ∷ rest) all =
    let first = All-head IsFootprint one.footprint (sizes_made rest) all in
    All-cons IsWhole one rest (record { some = first.0; whole = first.1 }) (all_whole rest (All-tail IsFootprint one.footprint (sizes_made rest) all))

pub packed_made : (made : List Made) → HaveRoom (sizes_made made) → ArePacked made
packed_made made room = record {
  whole = all_whole made room.each;
  within = subst (λ (bytes : ℕ). bytes ≤ 67108864) (sum-map (λ (one : Made). one.footprint) made) room.within;
}

-- ---- parts of a run, one behind another

module _ (layouts : List ObjectLayout) where
  abbrev sizes_of : State → List ℕ
  sizes_of state = sizes_in layouts state.objects

  pub makes_none : (before now : State) → Stays layouts before now → Makes layouts before now [] []
  makes_none before now stays = record {
    grown = stays.sizes ∙ sym (append-nil (sizes_of before));
    room = λ room. subst HaveRoom (sym stays.sizes) room;
    counted = stays.events;
    first = λ later sizes. ap (λ (count : ℕ). makings_from count later sizes) (sym stays.events);
  }

  pub makes_then : (before middle now : State) (events more : List Event) (made rest : List Made) → Makes layouts before middle events made
      → Makes layouts middle now more rest → Makes layouts before now (events ++ more) (made ++ rest)
  makes_then before middle now events more made rest one other = record {
    grown =
        other.grown ∙ (ap (λ (sizes : List ℕ). sizes ++ sizes_made rest) one.grown
        ∙ (append_assoc (sizes_of before) (sizes_made made) (sizes_made rest)
        ∙ ap (λ (sizes : List ℕ). sizes_of before ++ sizes) (sym (map-append (λ (m : Made). m.footprint) made rest))));
    room = λ room. other.room (one.room room);
    counted =
        other.counted ∙ (ap (λ (count : ℕ). counted_from count more) one.counted ∙ sym (counted_on before.events events more));
    first = λ later sizes.
        ap (λ (list : List Event). makings_from before.events list (sizes_made (made ++ rest) ++ sizes)) (append_assoc events more later)
        ∙ (ap (makings_from before.events (events ++ (more ++ later)))
        (ap (λ (list : List ℕ). list ++ sizes) (map-append (λ (m : Made). m.footprint) made rest) ∙ append_assoc (sizes_made made) (sizes_made rest) sizes)
        ∙ (one.first (more ++ later) (sizes_made rest ++ sizes)
        ∙ (ap (λ (list : List Made). made ++ list) (other.first later sizes) ∙ sym (append_assoc made rest (makings_from now.events later sizes)))));
  }

  -- what one step makes: nothing, or an object at the last event
  pub record MakesAtMostOne (before now : State) (events : List Event) : Type 0 where
    pub made : List Made
    pub makes : Makes layouts before now events made
    pub one : (made ≡ []) ⊎ ((size : ℕ) × (8 ≤ size) × (made ≡ record { event = now.events; footprint = size } ∷ []))

  goes_makes : (before now : State) (events : List Event) → GoesOn layouts before events now → MakesAtMostOne before now events
  goes_makes before now [] stays = record { made = []; makes = makes_none before now stays; one = inl refl }
  goes_makes before now (at_poll ∷ rest) tells =
      let comes = tells.0 in
      subst (λ (list : List Event). MakesAtMostOne before now (at_poll ∷ list)) (sym tells.1)
      (record {
        made = [];
        makes = record {
          grown = comes.sizes ∙ sym (append-nil (sizes_of before));
          room = λ room. subst HaveRoom (sym comes.sizes) room;
          counted = comes.events;
          first = λ later sizes. ap (λ (count : ℕ). makings_from count later sizes) (sym comes.events);
        };
        one = inl refl;
      })
  goes_makes before now (at_new ∷ rest) tells =
      let size = tells.0 in
      let gains = tells.1 in
      subst (λ (list : List Event). MakesAtMostOne before now (at_new ∷ list)) (sym tells.2)
      (record {
        made = record { event = now.events; footprint = size } ∷ [];
        makes = record {
          grown = gains.sizes;
          room = λ room. subst HaveRoom (sym gains.sizes) (room_more (sizes_of before) size gains.whole (subst (λ (sizes : List ℕ). sum sizes ≤ 67108864) gains.sizes gains.within) room);
          counted = gains.events;
          first = λ later sizes.
              ap (λ (count : ℕ). record { event = count; footprint = size } ∷ makings_from count later sizes) (sym gains.events);
        };
        one = inr (size, gains.whole.0, refl);
      })

  -- the last step makes nothing
  ends_last : (before last : State) (events : List Event) → EndsAt layouts before events last → MakesLast layouts before last events []
  ends_last before last [] stays = record {
    grown = stays.sizes ∙ sym (append-nil (sizes_of before));
    room = λ room. subst HaveRoom (sym stays.sizes) room;
    counted = stays.events;
    all = refl;
  }
  ends_last before last (at_poll ∷ rest) never = absurd never
  ends_last before last (at_new ∷ rest) tells =
      let comes = tells.0 in
      subst (λ (list : List Event). MakesLast layouts before last (at_new ∷ list) []) (sym tells.1)
      (record {
        grown = comes.sizes ∙ sym (append-nil (sizes_of before));
        room = λ room. subst HaveRoom (sym comes.sizes) room;
        counted = comes.events;
        all = refl;
      })

  pub last_then : (before middle last : State) (events more : List Event) (made rest : List Made) → Makes layouts before middle events made
      → MakesLast layouts middle last more rest → MakesLast layouts before last (events ++ more) (made ++ rest)
  last_then before middle last events more made rest one other = record {
    grown =
        other.grown ∙ (ap (λ (sizes : List ℕ). sizes ++ sizes_made rest) one.grown
        ∙ (append_assoc (sizes_of before) (sizes_made made) (sizes_made rest)
        ∙ ap (λ (sizes : List ℕ). sizes_of before ++ sizes) (sym (map-append (λ (m : Made). m.footprint) made rest))));
    room = λ room. other.room (one.room room);
    counted =
        other.counted ∙ (ap (λ (count : ℕ). counted_from count more) one.counted ∙ sym (counted_on before.events events more));
    all =
        ap (makings_from before.events (events ++ more)) (map-append (λ (m : Made). m.footprint) made rest)
        ∙ (one.first more (sizes_made rest) ∙ ap (λ (list : List Made). made ++ list) other.all);
  }

-- ---- steps

module _ (setting : Setting) where
  abbrev here : Progress State → List Event
  here progress = events_at progress.state.running.rest

  effect_makes : (before : State) (lines : List (List ℕ)) (events : List Event) (effect : Effect State) (next : Progress State) → Tells setting.layouts before events effect
      → after lines effect ≡ Go next → MakesAtMostOne setting.layouts before next.state events
  effect_makes before lines events (goes_on now) next tells is =
      subst (λ (p : Progress State). MakesAtMostOne setting.layouts before p.state events) (gone (record { state = now; lines = lines }) next is)
      (goes_makes setting.layouts before now events tells)
  effect_makes before lines events (prints word now) next tells is =
      subst (λ (p : Progress State). MakesAtMostOne setting.layouts before p.state events) (gone (record { state = now; lines = printed_line word ∷ lines }) next is)
      (goes_makes setting.layouts before now events tells)
  effect_makes before lines events (ends end last) next tells is = absurd (not_over end (record { state = last; lines = lines }) next is)

  -- a step that goes on makes one object at most
  pub step_makes : (now next : Progress State) → proceeds setting now ≡ Go next → MakesAtMostOne setting.layouts now.state next.state (here now)
  unfolding proceeds
  step_makes now next is = effect_makes now.state now.lines (here now) (step setting now.state) next (step_tells setting now.state) is

  effect_ends : (before : State) (lines : List (List ℕ)) (events : List Event) (effect : Effect State) (end : End) (last : Progress State) → Tells setting.layouts before events effect
      → after lines effect ≡ Over end last → MakesLast setting.layouts before last.state events []
  effect_ends before lines events (goes_on now) end last tells is = absurd (not_over end last (record { state = now; lines = lines }) (sym is))
  effect_ends before lines events (prints word now) end last tells is =
      absurd (not_over end last (record { state = now; lines = printed_line word ∷ lines }) (sym is))
  effect_ends before lines events (ends other now) end last tells is =
      subst (λ (p : Progress State). MakesLast setting.layouts before p.state events []) (same_over other end (record { state = now; lines = lines }) last is).last
      (ends_last setting.layouts before now events tells)

  -- the step that ends a run makes none
  pub end_makes : (now last : Progress State) (end : End) → proceeds setting now ≡ Over end last → MakesLast setting.layouts now.state last.state (here now) []
  unfolding proceeds
  end_makes now last end is = effect_ends now.state now.lines (here now) (step setting now.state) end last (step_tells setting now.state) is

  -- ---- runs

  abbrev traces : ℕ → Next End (Progress State) → List Event
  traces count next = events_from setting count next

  -- what some steps make
  pub record Parts (before now : State) (events : List Event) : Type 0 where
    pub made : List Made
    pub makes : Makes setting.layouts before now events made

  parts_next : (count : ℕ) (start now : Progress State) (after_it : Next End (Progress State)) → proceeds setting start ≡ after_it → goes (proceeds setting) count after_it ≡ Go now
      → ((next : Progress State) → goes (proceeds setting) count (Go next) ≡ Go now → Parts next.state now.state (traces count (Go next)))
      → Parts start.state now.state (here start ++ traces count after_it)
  parts_next count start now (Go next) is by rest =
      let one = step_makes start next is in
      let later = rest next by in
      record { made = one.made ++ later.made; makes = makes_then setting.layouts start.state next.state now.state (here start) (traces count (Go next)) one.made later.made one.makes later.makes }
  parts_next count start now (Over end last) is by rest = absurd (not_over end last now (sym (goes_over (proceeds setting) count end last) ∙ by))

  -- whatever steps a run takes, they make objects at their events
  pub steps_make : (count : ℕ) (start now : Progress State) → goes (proceeds setting) count (Go start) ≡ Go now → Parts start.state now.state (traces count (Go start))
  steps_make zero start now by =
      subst (λ (p : Progress State). Parts start.state p.state []) (gone start now by)
      (record { made = []; makes = makes_none setting.layouts start.state start.state (record { sizes = refl; events = refl }) })
  steps_make (suc count) start now by = parts_next count start now (proceeds setting start) refl by (λ next more. steps_make count next now more)

  pub record Rest (before last : State) (events : List Event) : Type 0 where
    pub made : List Made
    pub makes : MakesLast setting.layouts before last events made

  rest_next : (count : ℕ) (start last : Progress State) (end : End) (after_it : Next End (Progress State)) → proceeds setting start ≡ after_it → goes (proceeds setting) count after_it ≡ Over end last
      → ((next : Progress State) → goes (proceeds setting) count (Go next) ≡ Over end last → Rest next.state last.state (traces count (Go next)))
      → Rest start.state last.state (here start ++ traces count after_it)
  rest_next count start last end (Go next) is by rest =
      let one = step_makes start next is in
      let later = rest next by in
      record { made = one.made ++ later.made; makes = last_then setting.layouts start.state next.state last.state (here start) (traces count (Go next)) one.made later.made one.makes later.makes }
  rest_next count start last end (Over other stopped) is by rest =
      let same = same_over other end stopped last (sym (goes_over (proceeds setting) count other stopped) ∙ by) in
      let none = traced_over here (proceeds setting) count other stopped in
      subst (λ (list : List Event). Rest start.state last.state (here start ++ list)) (sym none)
      (subst (λ (list : List Event). Rest start.state last.state list) (sym (append-nil (here start)))
      (subst (λ (p : Progress State). Rest start.state p.state (here start)) same.last (record { made = []; makes = end_makes start stopped other is })))

  pub run_makes : (count : ℕ) (start last : Progress State) (end : End) → goes (proceeds setting) count (Go start) ≡ Over end last → Rest start.state last.state (traces count (Go start))
  run_makes zero start last end by = absurd (not_over end last start (sym by))
  run_makes (suc count) start last end by = rest_next count start last end (proceeds setting start) refl by (λ next more. run_makes count next last end more)

  -- ---- a run that is followed

  traced_on : (count more : ℕ) (next : Next End (Progress State)) → traces (count + more) next ≡ traces count next ++ traces more (goes (proceeds setting) count next)
  traced_on zero more next = rw (zero-add more) refl
  traced_on (suc count) more next =
      rw (suc-add count more)
      (ap (λ rest. done_at here next ++ rest) (traced_on count more (advance (proceeds setting) next))
      ∙ sym (append_assoc (done_at here next) (traces count (advance (proceeds setting) next)) (traces more (goes (proceeds setting) count (advance (proceeds setting) next)))))

  pub made_none : (start : Progress State) → HasMade setting start start []
  made_none start = record {
    reached = record { after = 0; by = refl };
    makes = makes_none setting.layouts start.state start.state (record { sizes = refl; events = refl });
  }

  -- further steps, which make these
  pub made_then : (start now next : Progress State) (made more : List Made) → HasMade setting start now made → (further : Reaches {E = End} (proceeds setting) now next)
      → Makes setting.layouts now.state next.state (traces further.after (Go now)) more → HasMade setting start next (made ++ more)
  made_then start now next made more has further makes =
      let count = has.reached.after in
      let events : traces (count + further.after) (Go start) ≡ traces count (Go start) ++ traces further.after (Go now) =
      traced_on count further.after (Go start) ∙ ap (λ (at : Next End (Progress State)). traces count (Go start) ++ traces further.after at) has.reached.by in
      record {
        reached = record {
          after = count + further.after;
          by = goes_add (proceeds setting) count further.after (Go start) ∙ (ap (goes (proceeds setting) further.after) has.reached.by ∙ further.by);
        };
        makes = subst (λ (list : List Event). Makes setting.layouts start.state next.state list (made ++ more)) (sym events)
            (makes_then setting.layouts start.state now.state next.state (traces count (Go start)) (traces further.after (Go now)) made more has.makes makes);
      }

  -- steps behind which objects have the footprints that they had before made none
  pub made_still : (start now next : Progress State) (made : List Made) → HasMade setting start now made → Reaches {E = End} (proceeds setting) now next
      → sizes_in setting.layouts next.state.objects ≡ sizes_in setting.layouts now.state.objects → HasMade setting start next made
  made_still start now next made has further same =
      let part = steps_make further.after now next further.by in
      let none : sizes_made part.made ≡ [] =
      append_cancel_left (sizes_in setting.layouts now.state.objects) (sizes_made part.made) []
      (sym part.makes.grown ∙ (same ∙ sym (append-nil (sizes_in setting.layouts now.state.objects)))) in
      subst (HasMade setting start next) (ap (λ (more : List Made). made ++ more) (no_sizes part.made none) ∙ append-nil made)
      (made_then start now next made part.made has further part.makes)
    where
      no_sizes : (list : List Made) → sizes_made list ≡ [] → list ≡ []
      no_sizes [] is = refl
      no_sizes (one ∷ rest) is = cc

  abbrev one_step : (now next : Progress State) → proceeds setting now ≡ Go next → Reaches {E = End} (proceeds setting) now next
  one_step now next is = record { after = 1; by = is }

  -- one step further
  pub made_step : (start now next : Progress State) (made : List Made) → HasMade setting start now made → (is : proceeds setting now ≡ Go next)
      → HasMade setting start next (made ++ (step_makes now next is).made)
  made_step start now next made has is =
      let one = step_makes now next is in
      made_then start now next made one.made has (one_step now next is)
      (subst (λ (list : List Event). Makes setting.layouts now.state next.state list one.made) (sym (append-nil (here now))) one.makes)

  -- and the last one
  pub made_all : (start now last : Progress State) (end : End) (made : List Made) → HasMade setting start now made → proceeds setting now ≡ Over end last
      → MakesAll setting start end last made
  made_all start now last end made has is =
      let count = has.reached.after in
      let events : traces (count + 1) (Go start) ≡ traces count (Go start) ++ here now =
      traced_on count 1 (Go start)
      ∙ (ap (λ (at : Next End (Progress State)). traces count (Go start) ++ traces 1 at) has.reached.by ∙ ap (λ (list : List Event). traces count (Go start) ++ list) (append-nil (here now))) in
      record {
        run = record {
          within = count + 1;
          by = goes_add (proceeds setting) count 1 (Go start) ∙ (ap (goes (proceeds setting) 1) has.reached.by ∙ is);
        };
        makes = subst (MakesLast setting.layouts start.state last.state (traces (count + 1) (Go start))) (append-nil made)
            (subst (λ (list : List Event). MakesLast setting.layouts start.state last.state list (made ++ [])) (sym events)
            (last_then setting.layouts start.state now.state last.state (traces count (Go start)) (here now) made [] has.makes (end_makes now last end is)));
      }

-- ---- what is made is what there is in the end

no_room : HaveRoom []
no_room = record { each = All-nil IsFootprint; within = omega arith }

pub runs_make_their_objects : RunsMakeTheirObjects
runs_make_their_objects setting input outcome gives =
    let start = opening setting input in
    let found = run_makes setting gives.run.within start gives.last outcome.end gives.run.by in
    let new = all_made setting outcome.end gives.last gives.run.within start gives.run.by in
    let events = events_from setting gives.run.within (Go start) in
    let sizes = sizes_in setting.layouts gives.last.state.objects in
    let makings_are : makings events sizes ≡ found.made = ap (makings events) found.makes.grown ∙ found.makes.all in
    subst (IsMadeAtEvents setting) (sym gives.is)
    (record {
      counted = found.makes.counted ∙ (counted_is 0 events (omega arith) ∙ ap (λ (count : ℕ). min count (2 ^ 64 - 1)) (zero-add (length events)));
      new = elim new [ inl all ↦ inl (omega (arith, all)) | inr most ↦ inr (let count = most.0 in omega (arith, count), most.1) ];
      all = ap sizes_made makings_are ∙ sym found.makes.grown;
      packed = subst ArePacked (sym makings_are) (packed_made found.made (subst HaveRoom found.makes.grown (found.makes.room no_room)));
    })
