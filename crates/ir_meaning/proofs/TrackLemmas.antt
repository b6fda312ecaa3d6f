-- The objects that a run makes, from turn to turn.
use Rattle.std.proofs.Common.{◌≡◌, ℕ, suc, ◌+◌, ◌-◌, ◌≤◌, ◌<◌, ◌^◌, min, List, [], ◌∷◌, ◌++◌, ◌⊎◌, inl, inr, Option, Some, None, length, refl, sym, ap, subst, ◌∙◌, ℤ, arith}
use Rattle.std.specs.List.{sum, sum_by}
use Rattle.std.proofs.lemmas.Bool.{le-ltb, lt-ltb}
use Rattle.std.proofs.lemmas.List.Sums.{sum-map, sum_by-append}
use Rattle.sp_ids.specs.declared.ends.End.{End}
use Rattle.ir_ast.specs.Modules.{ModuleContent}
use Rattle.ir_ast.specs.Objects.{footprint}
use Rattle.run_tasks.specs.declared.printing.Did.{Did}
use Rattle.run_tasks.specs.declared.printing.Did.TheVariants.{GoesOn, Prints, Ends as Finishes}
use Rattle.run_tasks.specs.declared.runs.Ran.{Ran}
use Rattle.run_tasks.specs.Dids.{effect_of, ended_of}
use Rattle.run_tasks.proofs.RunLemmas.{ran_is}
use Rattle.made_objects.specs.declared.makes.Made.{Made}
use Rattle.made_objects.specs.Makings.{makings, sizes_made}
use Rattle.made_objects.specs.Packed.{ArePacked}
use Rattle.made_objects.specs.Runs.{HasMade}
use Rattle.made_objects.proofs.MakingLaws.{made_all, made_none, made_step, made_still, runs_make_their_objects, step_makes}
use Rattle.object_meaning.specs.Effects.{Progress, after, ends, line_count, printed_line}
use Rattle.object_meaning.specs.Outcomes.{events_from, opening, outcome_of, proceeds, sizes_in}
use Rattle.object_meaning.specs.Runs.{Go, End as Over}
use Rattle.object_meaning.specs.SourceRuns.{source_setting}
use Rattle.object_meaning.specs.States.{State, Setting}
use Rattle.object_meaning.specs.Steps.{step}
use Rattle.object_meaning.proofs.OutcomeLaws.{gives_end}
use Rattle.flat_code.specs.Straight.{IsAlike}
use Rattle.ir_meaning.specs.Machines.{Turned}
use Rattle.ir_meaning.specs.Makings.{IsMakingRun, MakesFrom, Tracks, lines_after, newly}
use Rattle.ir_meaning.specs.References.{unprinted}
use Rattle.ir_meaning.proofs.RunLemmas.{after_effect}

-- ---- one turn

-- the object of a step is there when the bytes have risen
newly_is : (event before now : ℕ) (made : List Made) → now ≡ before + sum (sizes_made made)
    → (made ≡ []) ⊎ ((size : ℕ) × (8 ≤ size) × (made ≡ record { event = event; footprint = size } ∷ [])) → made ≡ newly event before now
newly_is event before now made bytes (inl none) =
    let same : now ≤ before = let all : now ≡ before + 0 = bytes ∙ ap (λ (list : List Made). before + sum (sizes_made list)) none in omega (arith, all) in
    none ∙ rw (le-ltb before now same) refl
newly_is event before now made bytes (inr one) =
    let size = one.0 in
    let all : now ≡ before + (size + 0) = bytes ∙ (ap (λ (list : List Made). before + sum (sizes_made list)) one.2 ∙ omega arith) in
    let less : before < now = let some = one.1 in omega (arith, all, some) in
    let size_is : size ≡ now - before = omega (arith, all) in
    one.2 ∙ (ap (λ (bytes : ℕ). record { event = event; footprint = bytes } ∷ []) size_is ∙ rw (lt-ltb before now less) refl)

counted_more : (length : ℕ) → min (suc length) (2 ^ 64 - 1) ≡ min (min length (2 ^ 64 - 1) + 1) (2 ^ 64 - 1)
counted_more length = omega arith

-- what a step that did this makes of the lines
record Prints_so (setting : Setting) (middle next : State) (did : Did) (lines : List (List ℕ)) : Type 0 where
  more : List (List ℕ)
  goes : proceeds setting (record { state = middle; lines = lines }) ≡ Go (record { state = next; lines = more })
  counted : line_count more ≡ lines_after did (line_count lines)

goes_so : (setting : Setting) (middle next : State) (did : Did) (lines : List (List ℕ)) → ended_of did ≡ None → effect_of did next ≡ step setting middle
    → Prints_so setting middle next did lines
unfolding proceeds
goes_so setting middle next GoesOn lines on is = record { more = lines; goes = ap (after lines) (sym is); counted = refl }
goes_so setting middle next (Prints word) lines on is = record {
  more = printed_line word ∷ lines;
  goes = ap (after lines) (sym is);
  counted = counted_more (length lines);
}
goes_so setting middle next (Finishes end) lines on is = cc

module _ (setting : Setting) (start : Progress State) where
  pub tracks_start : (state : State) → start ≡ unprinted state → Tracks setting start state 0 []
  tracks_start state is = record {
    lines = [];
    has = subst (λ (now : Progress State). HasMade setting start now []) is (made_none setting start);
    counted = refl;
  }

  abbrev bytes : State → ℕ
  bytes state = sum_by (footprint setting.layouts) state.objects

  bytes_are : (state : State) → sum (sizes_in setting.layouts state.objects) ≡ bytes state
  bytes_are state = sum-map (footprint setting.layouts) state.objects

  -- up to the last step of a turn
  to_middle : (state next : State) (did : Did) (count : ℕ) (made : List Made) → (tracks : Tracks setting start state count made) → (turned : Turned setting state did next)
      → HasMade setting start (record { state = turned.middle; lines = tracks.lines }) made
  to_middle state next did count made tracks turned =
      made_still setting start (record { state = state; lines = tracks.lines }) (record { state = turned.middle; lines = tracks.lines }) made tracks.has
      (turned.passes.by tracks.lines) turned.still

  -- a turn that isn't the last makes an object where the bytes of all have risen
  pub tracks_turned : (state next : State) (did : Did) (count : ℕ) (made : List Made) → Tracks setting start state count made → Turned setting state did next → ended_of did ≡ None
      → Tracks setting start next (lines_after did count) (made ++ newly next.events (bytes state) (bytes next))
  tracks_turned state next did count made tracks turned on =
      let middle : Progress State = record { state = turned.middle; lines = tracks.lines } in
      let stepped = goes_so setting turned.middle next did tracks.lines on (after_effect did turned.last next (step setting turned.middle) on turned.after turned.effect) in
      let there : Progress State = record { state = next; lines = stepped.more } in
      let one = step_makes setting middle there stepped.goes in
      let grown : bytes next ≡ bytes state + sum (sizes_made one.made) =
      sym (bytes_are next) ∙ (ap sum one.makes.grown ∙ (sum_by-append (λ (n : ℕ). n) (sizes_in setting.layouts turned.middle.objects) (sizes_made one.made)
      ∙ ap (λ (sizes : List ℕ). sum sizes + sum (sizes_made one.made)) turned.still ∙ ap (λ (n : ℕ). n + sum (sizes_made one.made)) (bytes_are state))) in
      record {
        lines = stepped.more;
        has = subst (λ (more : List Made). HasMade setting start there (made ++ more)) (newly_is next.events (bytes state) (bytes next) one.made grown one.one)
            (made_step setting start middle there made (to_middle state next did count made tracks turned) stepped.goes);
        counted = ap (lines_after did) tracks.counted ∙ sym stepped.counted;
      }

  -- the last one makes none
  pub tracks_ended : (state next : State) (did : Did) (end : End) (count : ℕ) (made : List Made) (ran : Ran) → Tracks setting start state count made → Turned setting state did next
      → ended_of did ≡ Some end → ran ≡ record { end = end; func = record { 0 = next.running.func }; steps = next.steps; events = next.events; lines = count }
      → MakesFrom setting start ran made
  unfolding proceeds
  tracks_ended state next GoesOn end count made ran tracks turned ended is = cc
  tracks_ended state next (Prints word) end count made ran tracks turned ended is = cc
  tracks_ended state next (Finishes over) end count made ran tracks turned ended is =
      let same : over ≡ end = cc in
      let last : Progress State = record { state = turned.last; lines = tracks.lines } in
      let middle : Progress State = record { state = turned.middle; lines = tracks.lines } in
      let alike : IsAlike turned.last next = turned.after in
      let ends_so : proceeds setting middle ≡ Over end last =
      ap (after tracks.lines) (sym (ap (λ (how : End). ends how turned.last) (sym same) ∙ turned.effect)) in
      rw is (record {
        last = last;
        all = made_all setting start middle last end made (to_middle state next (Finishes over) count made tracks turned) ends_so;
        func = sym alike.func;
        steps = sym alike.steps;
        events = sym alike.events;
        lines = tracks.counted;
      })

-- ---- whole runs

module _ (content : ModuleContent) (input : List ℤ) (go : ℕ → Option ℕ) (bound : ℕ) where
  pub making_is : (ran : Ran) (made : List Made) → MakesFrom (source_setting content go bound) (opening (source_setting content go bound) input) ran made
      → IsMakingRun content input go bound ran made
  making_is ran made makes =
      let setting = source_setting content go bound in
      let within = makes.all.run.within in
      let events = events_from setting within (Go (opening setting input)) in
      record {
        outcome = outcome_of setting input within ran.end makes.last;
        gives = gives_end setting input ran.end makes.last makes.all.run;
        answer = ran_is ran makes.last.state.running.func makes.last.state.steps makes.last.state.events (line_count makes.last.lines) makes.func makes.steps makes.events makes.lines;
        made_are = sym (ap (makings events) makes.all.makes.grown ∙ makes.all.makes.all);
      }

  pub making_packed : (ran : Ran) (made : List Made) → IsMakingRun content input go bound ran made → ArePacked made
  making_packed ran made is =
      subst ArePacked (sym is.made_are) (runs_make_their_objects (source_setting content go bound) input is.outcome is.gives).packed
