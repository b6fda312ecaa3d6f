-- A run of the kept blocks gives what the run gives.
use Rattle.std.proofs.Common.{◌≡◌, ℕ, ◌+◌, List, [], ◌∷◌, ◌++◌, map, refl, sym, ap, subst, ◌∙◌, append-nil, arith}
use Rattle.std.specs.Prelude.{ℤ, ◌↔◌, codes, decimal}
use Rattle.std.specs.List.{All, flat_map}
use Rattle.std.proofs.lemmas.List.Elements.{All-cons, All-nil, All-head, All-tail}
use Rattle.sp_ids.specs.declared.ends.End.{End}
use Rattle.sp_ids.specs.declared.ends.End.TheVariants as ended
use Rattle.ir_ast.specs.declared.types.Ty.{Ty}
use Rattle.ir_ast.specs.declared.ops.Operand.{Operand}
use Rattle.ir_ast.specs.Objects.{Datum}
use Rattle.ir_cfg.specs.Unreached.{kept_of, operand_kept}
use Rattle.object_meaning.specs.Effects.{Effect, Progress, after, newline, printed_line}
use Rattle.object_meaning.specs.Lines.{Line}
use Rattle.object_meaning.specs.Outcomes.{Gives, Outcome, opening, proceeds}
use Rattle.object_meaning.specs.Registers.{value}
use Rattle.object_meaning.specs.Runs.{Next, Go, End as Over}
use Rattle.object_meaning.specs.States.{Frame, State, Setting}
use Rattle.object_meaning.specs.Steps.{step, steps_at}
use Rattle.object_meaning.specs.Texts.{bundle_line, bundle_lines, bundle_of, closing_lines, shown}
use Rattle.object_meaning.specs.Traces.{Access, Event}
use Rattle.object_meaning.proofs.SimulationLaws.{FollowsIn, LeadsOn, LeadsOut, Leads, SameLast, accessing, gives_here, gives_there, happens}
use Rattle.unreached_laws.proofs.RegisterLaws.{OperandStays, value_kept}
use Rattle.unreached_laws.proofs.Keepings.{Keeping, KeepsBlocks, LineStays, Takes, line_kept, numbers, with_lines}
use Rattle.unreached_laws.proofs.Related.{EffectKept, FrameStays, Goes, Stays, TaskStays, both_end, both_go, both_print, image, image_of}
use Rattle.unreached_laws.proofs.FrameLaws.{entered_is, entered_stays}
use Rattle.unreached_laws.proofs.StepLaws.{accesses_kept, events_kept, step_kept}

-- ---- what waiting frames show

module _ (keeping : Keeping) (registers : List Datum) where
  abbrev entry_kept : (Ty × Operand) → (Ty × Operand)
  entry_kept entry = (entry.0, operand_kept (numbers keeping) entry.1)

  abbrev EntryStays : (Ty × Operand) → Type 0
  EntryStays entry = OperandStays keeping.values entry.1

  shown_kept : (bundle : List (Ty × Operand)) → All EntryStays bundle
      → flat_map (λ (each : Ty × Operand). codes " " ++ shown each.0 (value (kept_of keeping.values registers) each.1)) (map entry_kept bundle)
      ≡ flat_map (λ (each : Ty × Operand). codes " " ++ shown each.0 (value registers each.1)) bundle
  shown_kept [] stay = refl
  shown_kept (entry ∷ bundle) stay =
      rw (value_kept keeping.values (numbers keeping) refl registers entry.1 (All-head EntryStays entry bundle stay))
      (ap (λ rest. (codes " " ++ shown entry.0 (value registers entry.1)) ++ rest) (shown_kept bundle (All-tail EntryStays entry bundle stay)))

abbrev text_line : ℕ → List ℕ → List ℕ → List (List ℕ)
text_line place name text = (codes "! " ++ decimal place ++ codes " @" ++ name ++ text ++ newline) ∷ []

module _ (keepings : ℕ → Keeping) (names : ℕ → List ℕ) where
  bundle_kept : (place : ℕ) (frame : Frame) (bundle : List (Ty × Operand)) → All (EntryStays (keepings frame.func) frame.registers) bundle
      → bundle_line names place (image keepings frame) (map (entry_kept (keepings frame.func) frame.registers) bundle) ≡ bundle_line names place frame bundle
  bundle_kept place frame [] stay = refl
  bundle_kept place frame (entry ∷ bundle) stay = ap (text_line place (names frame.func)) (shown_kept (keepings frame.func) frame.registers (entry ∷ bundle) stay)

  bundle_same : (place : ℕ) (frame : Frame) (lines : List Line) → All (LineStays keepings frame.func) lines
      → bundle_line names place (image keepings frame) (bundle_of (map (line_kept (keepings frame.func)) lines)) ≡ bundle_line names place frame (bundle_of lines)
  bundle_same place frame [] stay = refl
  bundle_same place frame (call ∷ rest) stay = bundle_kept place frame call.inst.bundle (All-head (LineStays keepings frame.func) call rest stay).bundle

  frames_show : (place : ℕ) (frames : List Frame) → TaskStays keepings frames → bundle_lines names place (map (image keepings) frames) ≡ bundle_lines names place frames
  frames_show place [] stay = refl
  frames_show place (frame ∷ frames) stay =
      ap (λ first. first ++ bundle_lines names (place + 1) (map (image keepings) frames)) (bundle_same place frame frame.rest (All-head (FrameStays keepings) frame frames stay).rest)
      ∙ ap (λ behind. bundle_line names place frame (bundle_of frame.rest) ++ behind) (frames_show (place + 1) frames (All-tail (FrameStays keepings) frame frames stay))

  closing_same : (end : End) (state : State) → Stays keepings state → closing_lines names end (image_of keepings state) ≡ closing_lines names end state
  closing_same (ended.Trap trap) state stays = frames_show 1 state.below stays.below
  closing_same _ state stays = refl

-- ---- one run follows the other

module _ (keepings : ℕ → Keeping) (one : Setting) (lines : ℕ → ℕ → List Line) (registers : ℕ → ℕ) (law : KeepsBlocks keepings one lines registers) where
  abbrev other : Setting
  other = with_lines one lines registers

  -- the other run is at the image
  pub record Related (progress there : Progress State) : Type 0 where
    pub stays : Stays keepings progress.state
    pub is : there ≡ record { state = image_of keepings progress.state; lines = progress.lines }

  abbrev image_progress : Progress State → Progress State
  image_progress progress = record { state = image_of keepings progress.state; lines = progress.lines }

  data NextKept : Next End (Progress State) → Next End (Progress State) → Type 0 where
    next_go : (progress there : Progress State) → Related progress there → NextKept (Go progress) (Go there)
    next_over : (end : End) (progress there : Progress State) → SameLast one other end progress there → NextKept (Over end progress) (Over end there)

  related : (state there : State) (printed : List (List ℕ)) → Goes keepings state there → Related (record { state = state; lines = printed }) (record { state = there; lines = printed })
  related state there printed goes = record { stays = goes.stays; is = ap (λ at. record { state = at; lines = printed }) goes.is }

  last_same : (end : End) (state there : State) (printed : List (List ℕ)) → Goes keepings state there
      → SameLast one other end (record { state = state; lines = printed }) (record { state = there; lines = printed })
  last_same end state there printed goes = record {
    lines = refl;
    shown = ap (closing_lines one.names end) goes.is ∙ closing_same keepings one.names end state goes.stays;
    func = ap (λ (at : State). at.running.func) goes.is;
    steps = ap (λ (at : State). at.steps) goes.is;
    events = ap (λ (at : State). at.events) goes.is;
    objects = ap (λ (at : State). at.objects) goes.is;
  }

  after_kept : (printed : List (List ℕ)) (effect there : Effect State) → EffectKept keepings effect there → NextKept (after printed effect) (after printed there)
  after_kept printed _ _ (both_go state there goes) = next_go _ _ (related state there printed goes)
  after_kept printed _ _ (both_print word state there goes) = next_go _ _ (related state there (printed_line word ∷ printed) goes)
  after_kept printed _ _ (both_end end state there goes) = next_over end _ _ (last_same end state there printed goes)

  proceeds_kept : (now : Progress State) → Stays keepings now.state → NextKept (proceeds one now) (proceeds other (image_progress now))
  unfolding proceeds step
  proceeds_kept now stays =
      after_kept now.lines (steps_at one now.state now.state.running.rest) (steps_at other (image_of keepings now.state) (image_of keepings now.state).running.rest)
      (step_kept keepings one lines registers law now.state stays)

  -- where a run goes on or ends
  on_from : (next there : Next End (Progress State)) → NextKept next there → (progress : Progress State) → next ≡ Go progress
      → (onto : Progress State) × (there ≡ Go onto) × Related progress onto
  on_from _ _ (next_go from there kept) progress is =
      let same : from ≡ progress = cc in
      (there, refl, subst (λ p. Related p there) same kept)
  on_from _ _ (next_over end from there last) progress is = absurd cc

  out_from : (next there : Next End (Progress State)) → NextKept next there → (end : End) (progress : Progress State) → next ≡ Over end progress
      → (onto : Progress State) × (there ≡ Over end onto) × SameLast one other end progress onto
  out_from _ _ (next_go from there kept) end progress is = absurd cc
  out_from _ _ (next_over its_end from there last) end progress is =
      let same_end : its_end ≡ end = cc in
      let same : from ≡ progress = cc in (
        there,
        ap (λ (e : End). Over e there) same_end,
        subst (λ (e : End). SameLast one other e progress there) same_end (subst (λ (p : Progress State). SameLast one other its_end p there) same last),
      )

  leads_once : {next : Next End (Progress State)} (does : List Event) (sees : List Access) (there : Progress State) → proceeds other there ≡ next
      → happens there ≡ does → accessing other there ≡ sees → Leads (proceeds other) happens (accessing other) there does sees next
  leads_once does sees there steps events seen = record {
    count = 1;
    by = steps;
    does_so = append-nil (happens there) ∙ events;
    sees_so = append-nil (accessing other there) ∙ seen;
  }

  on_step : (now : Progress State) → Stays keepings now.state → (next : Progress State) → proceeds one now ≡ Go next
      → LeadsOn {E = End} (proceeds other) happens (accessing other) Related (image_progress now) (happens now) (accessing one now) next
  on_step now stays next is =
      let found = on_from (proceeds one now) (proceeds other (image_progress now)) (proceeds_kept now stays) next is in
      record {
        there = found.0;
        leads = leads_once (happens now) (accessing one now) (image_progress now) found.1
            (events_kept keepings one lines registers law now.state stays) (accesses_kept keepings one lines registers law now.state stays);
        holds = found.2;
      }

  out_step : (now : Progress State) → Stays keepings now.state → (end : End) (last : Progress State) → proceeds one now ≡ Over end last
      → LeadsOut (proceeds other) happens (accessing other) (SameLast one other) (image_progress now) (happens now) (accessing one now) end last
  out_step now stays end last is =
      let found = out_from (proceeds one now) (proceeds other (image_progress now)) (proceeds_kept now stays) end last is in
      record {
        there = found.0;
        leads = leads_once (happens now) (accessing one now) (image_progress now) found.1
            (events_kept keepings one lines registers law now.state stays) (accesses_kept keepings one lines registers law now.state stays);
        holds = found.2;
      }

  follows : FollowsIn one other Related
  follows = record {
    on = λ now there kept next is.
        subst (λ (at : Progress State). LeadsOn {E = End} (proceeds other) happens (accessing other) Related at (happens now) (accessing one now) next) (sym kept.is)
        (on_step now kept.stays next is);
    out = λ now there kept end last is.
        subst (λ (at : Progress State). LeadsOut (proceeds other) happens (accessing other) (SameLast one other) at (happens now) (accessing one now) end last) (sym kept.is)
        (out_step now kept.stays end last is);
  }

  opens : (input : List ℤ) → Related (opening one input) (opening other input)
  opens input =
      let takes : Takes (keepings one.main) 0 = record { entry = law.main; few = omega arith } in
      record {
        stays = record {
          running = entered_stays keepings one lines registers law one.main [] takes;
          below = All-nil (FrameStays keepings);
          tasks = All-cons (TaskStays keepings) [] [] (All-nil (FrameStays keepings)) (All-nil (TaskStays keepings));
        };
        is = ap (λ running. record (opening other input) { state = record (opening other input).state { running = running } }) (entered_is keepings one lines registers law one.main [] takes);
      }

  -- so both give the same
  pub same_outcome : (input : List ℤ) (outcome : Outcome) → Gives one input outcome ↔ Gives other input outcome
  same_outcome input outcome = (
    gives_there one other Related follows input (opens input) outcome,
    gives_here one other Related follows input (opens input) outcome,
  )
