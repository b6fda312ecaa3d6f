-- A run some of whose lines went gives what the run gives.
use Rattle.std.proofs.Common.{◌≡◌, ℕ, suc, ◌+◌, List, [], ◌∷◌, ◌++◌, map, refl, sym, ap, subst, ◌∙◌, append-nil, arith}
use Rattle.std.specs.Prelude.{ℤ, ◌↔◌, codes, decimal}
use Rattle.std.specs.List.{All, flat_map}
use Rattle.std.proofs.lemmas.List.Elements.{All-head, All-tail}
use Rattle.sp_ids.specs.declared.ends.End.{End}
use Rattle.sp_ids.specs.declared.ends.End.TheVariants as ended
use Rattle.ir_ast.specs.declared.types.Ty.{Ty}
use Rattle.ir_ast.specs.declared.ops.Operand.{Operand}
use Rattle.ir_ast.specs.Objects.{Datum}
use Rattle.object_meaning.specs.Effects.{Effect, Progress, after, goes_on, newline, printed_line}
use Rattle.object_meaning.specs.Lines.{Line}
use Rattle.object_meaning.specs.Outcomes.{Gives, Outcome, opening, proceeds}
use Rattle.object_meaning.specs.Registers.{value}
use Rattle.object_meaning.specs.Runs.{Next, Go, End as Over, Reaches, goes}
use Rattle.object_meaning.specs.States.{Frame, State, Setting}
use Rattle.object_meaning.specs.Steps.{step, steps_at}
use Rattle.object_meaning.specs.Texts.{bundle_line, bundle_lines, bundle_of, closing_lines, shown}
use Rattle.object_meaning.specs.Traces.{Access, Event, traced}
use Rattle.object_meaning.proofs.RunLaws.{reaches_more}
use Rattle.object_meaning.proofs.SimulationLaws.{FollowsIn, LeadsOn, LeadsOut, Leads, SameLast, accessing, gives_here, gives_there, goes_on as steps_after, happens}
use Rattle.trimmed_laws.specs.Statements.{TrimmedGiveTheSame}
use Rattle.trimmed_laws.specs.Groups.{lines_in, lines_now}
use Rattle.trimmed_laws.specs.Trims.{Agree, Trim, now_operand, trimmed_line}
use Rattle.trimmed_laws.specs.Trimmed.{IsTrimmed}
use Rattle.trimmed_laws.proofs.Pairs.{Goes, SameEffect, Stacks, both_end, both_go, both_print, more_frames, more_tasks, no_frames, no_tasks, paired}
use Rattle.trimmed_laws.proofs.PairLaws.{with_lines}
use Rattle.trimmed_laws.proofs.TrimFrames.{Runs, Waits, pairs, waits, waits_grouped}
use Rattle.trimmed_laws.proofs.TrimRegisters.{Numbered, of_bundle, value_now}
use Rattle.trimmed_laws.proofs.TrimSteps.{Behind, PassesBy, StepKept, at_it, at_once, behind_further, by_one, silent, state_kept}

-- ---- what waiting frames show

abbrev Entry : Type 0
Entry = Ty × Operand

module _ {trim : Trim} {registers now : List Datum} (kept : Agree trim registers now) where
  abbrev EntryReads : Entry → Type 0
  EntryReads entry = value registers (trim.stands entry.1) ≡ value registers entry.1

  abbrev EntryNumbered : Entry → Type 0
  EntryNumbered entry = Numbered trim entry.1

  shown_kept : (bundle : List Entry) → All EntryNumbered bundle → All EntryReads bundle
      → flat_map (λ (each : Entry). codes " " ++ shown each.0 (value now each.1)) (map (λ (entry : Entry). (entry.0, now_operand trim entry.1)) bundle)
      ≡ flat_map (λ (each : Entry). codes " " ++ shown each.0 (value registers each.1)) bundle
  shown_kept [] inside same = refl
  shown_kept (entry ∷ bundle) inside same =
      rw (value_now kept entry.1 (All-head EntryNumbered entry bundle inside) (All-head EntryReads entry bundle same))
      (ap (λ rest. (codes " " ++ shown entry.0 (value registers entry.1)) ++ rest) (shown_kept bundle (All-tail EntryNumbered entry bundle inside) (All-tail EntryReads entry bundle same)))

abbrev line_of : ℕ → List ℕ → List ℕ → List (List ℕ)
line_of place name text = (codes "! " ++ decimal place ++ codes " @" ++ name ++ text ++ newline) ∷ []

bundle_same : {trim : Trim} (names other_names : ℕ → List ℕ) (place : ℕ) (frame there : Frame) (bundle : List Entry) → other_names there.func ≡ names frame.func
    → All (λ (entry : Entry). Numbered trim entry.1) bundle → All (λ (entry : Entry). value frame.registers (trim.stands entry.1) ≡ value frame.registers entry.1) bundle
    → Agree trim frame.registers there.registers
    → bundle_line other_names place there (map (λ (entry : Entry). (entry.0, now_operand trim entry.1)) bundle) ≡ bundle_line names place frame bundle
bundle_same names other_names place frame there [] same inside reads kept = refl
bundle_same {trim} names other_names place frame there (entry ∷ bundle) same inside reads kept =
    ap (λ name. line_of place name (flat_map (λ (each : Entry). codes " " ++ shown each.0 (value there.registers each.1)) (map (λ (each : Entry). (each.0, now_operand trim each.1)) (entry ∷ bundle)))) same
    ∙ ap (line_of place (names frame.func)) (shown_kept kept (entry ∷ bundle) inside reads)

module _ (trims : ℕ → Trim) (one : Setting) (lines : ℕ → ℕ → List Line) (front : List Line) (registers : ℕ → ℕ) (names : ℕ → List ℕ)
    (law : IsTrimmed trims one (with_lines one lines front registers names)) where
  abbrev other : Setting
  other = with_lines one lines front registers names

  abbrev GoesSo : State → State → Type 0
  GoesSo = Goes (Runs one.layouts trims) (Waits one.layouts trims)

  frame_shows : (place : ℕ) (frame there : Frame) → Waits one.layouts trims frame there
      → bundle_line names place there (bundle_of there.rest) ≡ bundle_line one.names place frame (bundle_of frame.rest)
  frame_shows place _ _ (waits frame line name rest others now kept) =
      bundle_same one.names names place (record frame { rest = line ∷ rest }) (record frame { rest = trimmed_line (trims frame.func) name line ∷ others; registers = now }) line.inst.bundle
      (law.names frame.func) (of_bundle (Numbered (trims frame.func)) line.inst kept.of.operands)
      (of_bundle (λ (o : Operand). value frame.registers ((trims frame.func).stands o) ≡ value frame.registers o) line.inst kept.reads) kept.kept
  frame_shows place _ _ (waits_grouped frame group now kept) =
      ap (bundle_line names place (record frame { rest = lines_now group; registers = now })) kept.is.bundle
      ∙ bundle_same one.names names place (record frame { rest = lines_in group }) (record frame { rest = lines_now group; registers = now }) group.statepoint.inst.bundle
      (law.names frame.func) kept.is.shown kept.reads kept.kept

  frames_show : (place : ℕ) (frames others : List Frame) → Stacks (Runs one.layouts trims) (Waits one.layouts trims) frames others
      → bundle_lines names place others ≡ bundle_lines one.names place frames
  frames_show place _ _ no_frames = refl
  frames_show place _ _ (more_frames frame there frames others pair further) =
      ap (λ first. first ++ bundle_lines names (place + 1) others) (frame_shows place frame there pair)
      ∙ ap (λ behind. bundle_line one.names place frame (bundle_of frame.rest) ++ behind) (frames_show (place + 1) frames others further)

  closing_same : (end : End) (state there : State) → Stacks (Runs one.layouts trims) (Waits one.layouts trims) state.below there.below
      → closing_lines names end there ≡ closing_lines one.names end state
  closing_same (ended.Trap trap) state there waiting = frames_show 1 state.below there.below waiting
  closing_same _ state there waiting = refl

  -- ---- one run follows the other

  pub record Related (input : List ℤ) (progress there : Progress State) : Type 0 where
    pub printed : there.lines ≡ progress.lines
    pub states : GoesSo progress.state there.state
    pub reached : Reaches {E = End} (proceeds one) (opening one input) progress
    pub reached_there : Reaches {E = End} (proceeds other) (opening other input) there

  data NextSame : Next End (Progress State) → Next End (Progress State) → Type 0 where
    next_go : (progress there : Progress State) → there.lines ≡ progress.lines → GoesSo progress.state there.state → NextSame (Go progress) (Go there)
    next_over : (end : End) (progress there : Progress State) → SameLast one other end progress there → NextSame (Over end progress) (Over end there)

  after_same : (printed : List (List ℕ)) (effect there : Effect State) → SameEffect (Runs one.layouts trims) (Waits one.layouts trims) effect there
      → NextSame (after printed effect) (after printed there)
  after_same printed _ _ (both_go state there related) =
      next_go (record { state = state; lines = printed }) (record { state = there; lines = printed }) refl related
  after_same printed _ _ (both_print word state there related) =
      next_go (record { state = state; lines = printed_line word ∷ printed }) (record { state = there; lines = printed_line word ∷ printed }) refl related
  after_same printed _ _ (both_end end state there last) =
      next_over end (record { state = state; lines = printed }) (record { state = there; lines = printed })
      (record {
        lines = refl;
        shown = closing_same end state there last.below;
        func = last.func;
        steps = last.steps;
        events = last.events;
        objects = last.objects;
      })

  -- where a run goes on or ends
  on_from : (next there : Next End (Progress State)) → NextSame next there → (progress : Progress State) → next ≡ Go progress
      → (image : Progress State) × (there ≡ Go image) × (image.lines ≡ progress.lines) × GoesSo progress.state image.state
  on_from _ _ (next_go from there printed states) progress is =
      let same : from ≡ progress = cc in
      (there, refl, subst (λ (p : Progress State). there.lines ≡ p.lines) same printed, subst (λ (p : Progress State). GoesSo p.state there.state) same states)
  on_from _ _ (next_over end from there last) progress is = absurd cc

  out_from : (next there : Next End (Progress State)) → NextSame next there → (end : End) (progress : Progress State) → next ≡ Over end progress
      → (image : Progress State) × (there ≡ Over end image) × SameLast one other end progress image
  out_from _ _ (next_go from there printed states) end progress is = absurd cc
  out_from _ _ (next_over its_end from there last) end progress is =
      let same_end : its_end ≡ end = cc in
      let same : from ≡ progress = cc in (
        there,
        ap (λ (e : End). Over e there) same_end,
        subst (λ (e : End). SameLast one other e progress there) same_end (subst (λ (p : Progress State). SameLast one other its_end p there) same last),
      )

  leads_once : {next : Next End (Progress State)} (does : List Event) (sees : List Access) (there : Progress State) → proceeds other there ≡ next
      → happens there ≡ does → accessing other there ≡ sees → Leads (proceeds other) happens (accessing other) there does sees next
  leads_once does sees there steps events seen = record {
    count = 1;
    by = steps;
    does_so = append-nil (happens there) ∙ events;
    sees_so = append-nil (accessing other there) ∙ seen;
  }

  -- no step
  leads_none : (does : List Event) (sees : List Access) (there : Progress State) → does ≡ [] → sees ≡ [] → Leads {E = End} (proceeds other) happens (accessing other) there does sees (Go there)
  leads_none does sees there none unseen = record { count = 0; by = refl; does_so = sym none; sees_so = sym unseen }

  proceeds_same : (now there : Progress State) → there.lines ≡ now.lines
      → SameEffect (Runs one.layouts trims) (Waits one.layouts trims) (steps_at one now.state now.state.running.rest) (steps_at other there.state there.state.running.rest)
      → NextSame (proceeds one now) (proceeds other there)
  unfolding proceeds step
  proceeds_same now there printed effect =
      subst (λ (all : List (List ℕ)). NextSame (after now.lines (steps_at one now.state now.state.running.rest)) (after all (steps_at other there.state there.state.running.rest)))
      (sym printed) (after_same now.lines (steps_at one now.state now.state.running.rest) (steps_at other there.state there.state.running.rest) effect)

  proceeds_to_here : (now : Progress State) (next : State) → steps_at one now.state now.state.running.rest ≡ goes_on next → proceeds one now ≡ Go (record { state = next; lines = now.lines })
  unfolding proceeds step
  proceeds_to_here now next steps = ap (after now.lines) steps

  proceeds_to : (there : Progress State) (next : State) → steps_at other there.state there.state.running.rest ≡ goes_on next → proceeds other there ≡ Go (record { state = next; lines = there.lines })
  unfolding proceeds step
  proceeds_to there next steps = ap (after there.lines) steps

  -- some steps that only compute, and then others
  lead_on : {next : Next End (Progress State)} (does : List Event) (sees : List Access) (lines_there : List (List ℕ)) (start between : State) → PassesBy other start between
      → Leads (proceeds other) happens (accessing other) (record { state = between; lines = lines_there }) does sees next
      → Leads (proceeds other) happens (accessing other) (record { state = start; lines = lines_there }) does sees next
  lead_on does sees lines_there _ _ (at_it state) leads = leads
  lead_on does sees lines_there _ _ (by_one start after_one last steps none unseen further) leads =
      let rest = lead_on does sees lines_there after_one last further leads in
      let first = proceeds_to (record { state = start; lines = lines_there }) after_one steps in
      record {
        count = suc rest.count;
        by = ap (goes (proceeds other) rest.count) first ∙ rest.by;
        does_so =
            ap (λ (head : List Event). head ++ traced happens (proceeds other) rest.count (proceeds other (record { state = start; lines = lines_there }))) none
            ∙ (ap (traced happens (proceeds other) rest.count) first ∙ rest.does_so);
        sees_so =
            ap (λ (head : List Access). head ++ traced (accessing other) (proceeds other) rest.count (proceeds other (record { state = start; lines = lines_there }))) unseen
            ∙ (ap (traced (accessing other) (proceeds other) rest.count) first ∙ rest.sees_so);
      }

  module _ (input : List ℤ) where
    abbrev Comes : Progress State → Type 0
    Comes progress = Reaches {E = End} (proceeds other) (opening other input) progress

    -- a run that comes to a state comes to those to which it leads
    comes_on : {does : List Event} {sees : List Access} (there onto : Progress State) → Comes there → Leads {E = End} (proceeds other) happens (accessing other) there does sees (Go onto) → Comes onto
    comes_on there onto reached leads = record {
      after = reached.after + leads.count;
      by = steps_after (proceeds other) reached.after leads.count (Go (opening other input)) ∙ (ap (goes (proceeds other) leads.count) reached.by ∙ leads.by);
    }

    module _ (now there : Progress State) (related : Related input now there) where
      abbrev behind : Behind trims one lines front registers names law now.state there.state
      behind = behind_further trims one lines front registers names law now.state there.state related.states

      abbrev at : Progress State
      at = record { state = behind.between; lines = there.lines }

      comes_there : Comes at
      comes_there = comes_on there at related.reached_there (lead_on [] [] there.lines there.state behind.between behind.passes (leads_none [] [] at refl refl))

      step_kept : StepKept trims one other now.state behind.between
      step_kept =
          state_kept trims one lines front registers names law now.state behind.between behind.pair (law.reads input now related.reached)
          (law.groups input now at related.reached comes_there)

      on_step : StepKept trims one other now.state behind.between → (next : Progress State) → proceeds one now ≡ Go next
          → LeadsOn {E = End} (proceeds other) happens (accessing other) (Related input) there (happens now) (accessing one now) next
      on_step (at_once effect events seen) next is =
          let found = on_from (proceeds one now) (proceeds other at) (proceeds_same now at related.printed effect) next is in
          let leads = leads_once (happens now) (accessing one now) at found.1 events seen in
          record {
            there = found.0;
            leads = lead_on (happens now) (accessing one now) there.lines there.state behind.between behind.passes leads;
            holds = record {
              printed = found.2;
              states = found.3;
              reached = reaches_more (proceeds one) (opening one input) now next related.reached is;
              reached_there = comes_on at found.0 comes_there leads;
            };
          }
      on_step (silent state steps states events seen) next is =
          let goes_to : Go (record { state = state; lines = now.lines }) ≡ Go next = sym (proceeds_to_here now state steps) ∙ is in
          let same : record { state = state; lines = now.lines } ≡ next = cc in
          record {
            there = at;
            leads = lead_on (happens now) (accessing one now) there.lines there.state behind.between behind.passes (leads_none (happens now) (accessing one now) at events seen);
            holds = record {
              printed = related.printed ∙ ap (λ (p : Progress State). p.lines) same;
              states = subst (λ (p : Progress State). GoesSo p.state behind.between) same states;
              reached = reaches_more (proceeds one) (opening one input) now next related.reached is;
              reached_there = comes_there;
            };
          }

      out_step : StepKept trims one other now.state behind.between → (end : End) (last : Progress State) → proceeds one now ≡ Over end last
          → LeadsOut (proceeds other) happens (accessing other) (SameLast one other) there (happens now) (accessing one now) end last
      out_step (at_once effect events seen) end last is =
          let found = out_from (proceeds one now) (proceeds other at) (proceeds_same now at related.printed effect) end last is in
          record {
            there = found.0;
            leads = lead_on (happens now) (accessing one now) there.lines there.state behind.between behind.passes (leads_once (happens now) (accessing one now) at found.1 events seen);
            holds = found.2;
          }
      out_step (silent state steps states events seen) end last is =
          absurd (let goes_to : Go (record { state = state; lines = now.lines }) ≡ Over end last = sym (proceeds_to_here now state steps) ∙ is in cc)

    follows : FollowsIn one other (Related input)
    follows = record {
      on = λ now there related next is. on_step now there related (step_kept now there related) next is;
      out = λ now there related end last is. out_step now there related (step_kept now there related) end last is;
    }

    opens : Related input (opening one input) (opening other input)
    opens = record {
      printed = refl;
      states = paired (opening one input).state (opening other input).state.running [] ([] ∷ [])
          ((pairs trims one lines front registers names law).enters one.main [] (record { called = law.main_called; few = omega arith })) no_frames (more_tasks [] [] [] [] no_frames no_tasks);
      reached = record { after = 0; by = refl };
      reached_there = record { after = 0; by = refl };
    }

    pub same_outcome : (outcome : Outcome) → Gives one input outcome ↔ Gives other input outcome
    same_outcome outcome = (
      gives_there one other (Related input) follows input opens outcome,
      gives_here one other (Related input) follows input opens outcome,
    )

-- ---- settings that agree in all else

setting_same : (trims : ℕ → Trim) (one other : Setting) → IsTrimmed trims one other → with_lines one other.lines other.front other.registers other.names ≡ other
setting_same trims one other law =
    λ i. record {
      lines = other.lines;
      front = other.front;
      registers = other.registers;
      layouts = sym law.layouts i;
      main = sym law.main i;
      names = other.names;
      go = λ event. sym (law.go event) i;
      bound = sym law.bound i;
    }

pub trimmed_give_the_same : TrimmedGiveTheSame
trimmed_give_the_same trims one other law input outcome =
    subst (λ (there : Setting). Gives one input outcome ↔ Gives there input outcome) (setting_same trims one other law)
    (same_outcome trims one other.lines other.front other.registers other.names
    (record {
      trim = law.trim;
      front = law.front;
      blocks = law.blocks;
      room = law.room;
      now_room = law.now_room;
      names = law.names;
      layouts = refl;
      main = refl;
      main_called = law.main_called;
      go = λ event. refl;
      bound = refl;
      reads = law.reads;
      groups = λ input now there reached reached_there. law.groups input now there reached (subst (λ (setting : Setting). Reaches {E = End} (proceeds setting) (opening setting input) there) (setting_same trims one other law) reached_there);
    }) input outcome)
