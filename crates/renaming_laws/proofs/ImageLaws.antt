-- A run of the images gives what the run gives.
use Rattle.std.proofs.Common.{◌≡◌, ℕ, ◌+◌, List, [], ◌∷◌, ◌++◌, map, refl, sym, ap, subst, ◌∙◌, append-nil, arith}
use Rattle.std.specs.Prelude.{ℤ, ◌↔◌, codes, decimal}
use Rattle.std.specs.List.{All, flat_map}
use Rattle.std.proofs.lemmas.List.Elements.{All-head, All-tail}
use Rattle.sp_ids.specs.declared.ends.End.{End}
use Rattle.sp_ids.specs.declared.ends.End.TheVariants as ended
use Rattle.ir_ast.specs.declared.types.Ty.{Ty}
use Rattle.ir_ast.specs.declared.ops.Operand.{Operand}
use Rattle.ir_ast.specs.Objects.{Datum}
use Rattle.object_meaning.specs.Effects.{Effect, Progress, after, goes_on, newline, printed_line}
use Rattle.object_meaning.specs.Lines.{Line}
use Rattle.object_meaning.specs.Outcomes.{Gives, Outcome, opening, proceeds}
use Rattle.object_meaning.specs.Registers.{value}
use Rattle.object_meaning.specs.Runs.{Next, Go, End as Over, advance}
use Rattle.object_meaning.specs.States.{Frame, State, Setting}
use Rattle.object_meaning.specs.Steps.{step, steps_at}
use Rattle.object_meaning.specs.Texts.{bundle_line, bundle_lines, closing_lines, shown}
use Rattle.object_meaning.specs.Traces.{Access, Event, done_at}
use Rattle.object_meaning.proofs.SimulationLaws.{FollowsIn, LeadsOn, LeadsOut, Leads, SameLast, accessing, gives_here, gives_there, happens}
use Rattle.renaming_laws.specs.Renamed.{InRoom, IsLineOf, Renaming, renamed}
use Rattle.renaming_laws.specs.Inserted.{alone}
use Rattle.renaming_laws.specs.Images.{HasImages, Images, more_lines, no_lines, renumbered, renumbered_setting}
use Rattle.renaming_laws.specs.Statements.{ImagesGiveTheSame, RenumberingGivesTheSame}
use Rattle.renaming_laws.proofs.RegisterLaws.{Kept, value_kept}
use Rattle.renaming_laws.proofs.Related.{EffectKept, FramesKept, Goes, at_line, both_end, both_go, both_print, goes, image, line_there, more_frames, more_tasks, no_frames, no_tasks}
use Rattle.renaming_laws.proofs.CallLaws.{entered_goes, with_lines}
use Rattle.renaming_laws.proofs.StepLaws.{StepKept, after_one, at_once, state_kept}

-- ---- what waiting frames show

shown_kept : {function : Renaming} {registers now : List Datum} (bundle : List (Ty × Operand)) → All (λ (entry : Ty × Operand). InRoom function.room entry.1) bundle → Kept function registers now
    → flat_map (λ (each : Ty × Operand). codes " " ++ shown each.0 (value now each.1)) (map (λ (entry : Ty × Operand). (entry.0, renamed function.number entry.1)) bundle)
    ≡ flat_map (λ (each : Ty × Operand). codes " " ++ shown each.0 (value registers each.1)) bundle
shown_kept [] inside kept = refl
shown_kept {function} {registers} {now} (entry ∷ bundle) inside kept =
    rw (value_kept entry.1 (All-head (λ (each : Ty × Operand). InRoom function.room each.1) entry bundle inside) kept)
    (ap (λ rest. (codes " " ++ shown entry.0 (value registers entry.1)) ++ rest) (shown_kept bundle (All-tail (λ (each : Ty × Operand). InRoom function.room each.1) entry bundle inside) kept))

abbrev line_of : ℕ → List ℕ → List ℕ → List (List ℕ)
line_of place name text = (codes "! " ++ decimal place ++ codes " @" ++ name ++ text ++ newline) ∷ []

bundle_kept : {function : Renaming} (names other_names : ℕ → List ℕ) (place : ℕ) (frame there : Frame) (bundle : List (Ty × Operand)) → other_names there.func ≡ names frame.func
    → All (λ (entry : Ty × Operand). InRoom function.room entry.1) bundle → Kept function frame.registers there.registers
    → bundle_line other_names place there (map (λ (entry : Ty × Operand). (entry.0, renamed function.number entry.1)) bundle) ≡ bundle_line names place frame bundle
bundle_kept names other_names place frame there [] same inside kept = refl
bundle_kept {function} names other_names place frame there (entry ∷ bundle) same inside kept =
    ap (λ name. line_of place name (flat_map (λ (each : Ty × Operand). codes " " ++ shown each.0 (value there.registers each.1)) (map (λ (each : Ty × Operand). (each.0, renamed function.number each.1)) (entry ∷ bundle)))) same
    ∙ ap (line_of place (names frame.func)) (shown_kept (entry ∷ bundle) inside kept)

module _ (functions : ℕ → Renaming) (names other_names : ℕ → List ℕ) (same : (func : ℕ) → other_names func ≡ names func) where
  frames_show : (place : ℕ) (frames images : List Frame) → FramesKept functions frames images → bundle_lines other_names place images ≡ bundle_lines names place frames
  frames_show place _ _ no_frames = refl
  frames_show place _ _ (more_frames frame line name rest others now frames images kept further) =
      ap (λ first. first ++ bundle_lines other_names (place + 1) images)
      (bundle_kept names other_names place (at_line frame line rest) (image frame (line_there functions frame name line ∷ others) now) line.inst.bundle (same frame.func) kept.of.bundle kept.kept)
      ∙ ap (λ behind. bundle_line names place (at_line frame line rest) line.inst.bundle ++ behind) (frames_show (place + 1) frames images further)

  closing_same : (end : End) (state there : State) → FramesKept functions state.below there.below → closing_lines other_names end there ≡ closing_lines names end state
  closing_same (ended.Trap trap) state there waiting = frames_show 1 state.below there.below waiting
  closing_same _ state there waiting = refl

-- ---- one run follows the other

module _ (functions : ℕ → Renaming) (one : Setting) (lines : ℕ → ℕ → List Line) (front : List Line) (registers : ℕ → ℕ) (names : ℕ → List ℕ)
    (law : HasImages functions one (with_lines one lines front registers names)) where
  abbrev other : Setting
  other = with_lines one lines front registers names

  pub record Related (progress there : Progress State) : Type 0 where
    pub printed : there.lines ≡ progress.lines
    pub states : Goes functions progress.state there.state

  data NextKept : Next End (Progress State) → Next End (Progress State) → Type 0 where
    next_go : (progress there : Progress State) → Related progress there → NextKept (Go progress) (Go there)
    next_over : (end : End) (progress there : Progress State) → SameLast one other end progress there → NextKept (Over end progress) (Over end there)

  after_kept : (printed : List (List ℕ)) (effect there : Effect State) → EffectKept functions effect there → NextKept (after printed effect) (after printed there)
  after_kept printed _ _ (both_go state there related) =
      next_go (record { state = state; lines = printed }) (record { state = there; lines = printed }) (record { printed = refl; states = related })
  after_kept printed _ _ (both_print word state there related) =
      next_go (record { state = state; lines = printed_line word ∷ printed }) (record { state = there; lines = printed_line word ∷ printed }) (record { printed = refl; states = related })
  after_kept printed _ _ (both_end end state there last) =
      next_over end (record { state = state; lines = printed }) (record { state = there; lines = printed })
      (record {
        lines = refl;
        shown = closing_same functions one.names names law.names end state there last.below;
        func = last.func;
        steps = last.steps;
        events = last.events;
        objects = last.objects;
      })

  -- where a run goes on or ends
  on_from : (next there : Next End (Progress State)) → NextKept next there → (progress : Progress State) → next ≡ Go progress
      → (image : Progress State) × (there ≡ Go image) × Related progress image
  on_from _ _ (next_go from there related) progress is =
      let same : from ≡ progress = cc in
      (there, refl, subst (λ p. Related p there) same related)
  on_from _ _ (next_over end from there last) progress is = absurd cc

  out_from : (next there : Next End (Progress State)) → NextKept next there → (end : End) (progress : Progress State) → next ≡ Over end progress
      → (image : Progress State) × (there ≡ Over end image) × SameLast one other end progress image
  out_from _ _ (next_go from there related) end progress is = absurd cc
  out_from _ _ (next_over its_end from there last) end progress is =
      let same_end : its_end ≡ end = cc in
      let same : from ≡ progress = cc in (
        there,
        ap (λ (e : End). Over e there) same_end,
        subst (λ (e : End). SameLast one other e progress there) same_end (subst (λ (p : Progress State). SameLast one other its_end p there) same last),
      )

  -- one step or two
  leads_once : {next : Next End (Progress State)} (does : List Event) (sees : List Access) (there : Progress State) → proceeds other there ≡ next
      → happens there ≡ does → accessing other there ≡ sees → Leads (proceeds other) happens (accessing other) there does sees next
  leads_once does sees there steps events seen = record {
    count = 1;
    by = steps;
    does_so = append-nil (happens there) ∙ events;
    sees_so = append-nil (accessing other there) ∙ seen;
  }

  leads_twice : {next : Next End (Progress State)} (does : List Event) (sees : List Access) (there between : Progress State) → proceeds other there ≡ Go between
      → happens there ≡ [] → accessing other there ≡ [] → proceeds other between ≡ next → happens between ≡ does → accessing other between ≡ sees
      → Leads (proceeds other) happens (accessing other) there does sees next
  leads_twice does sees there between first none unseen second events seen = record {
    count = 2;
    by = ap (advance (proceeds other)) first ∙ second;
    does_so =
        ap (λ head. head ++ (done_at happens (proceeds other there) ++ [])) none
        ∙ (ap (λ step. done_at happens step ++ []) first ∙ (append-nil (happens between) ∙ events));
    sees_so =
        ap (λ head. head ++ (done_at (accessing other) (proceeds other there) ++ [])) unseen
        ∙ (ap (λ step. done_at (accessing other) step ++ []) first ∙ (append-nil (accessing other between) ∙ seen));
  }

  proceeds_kept : (now there : Progress State) → there.lines ≡ now.lines
      → EffectKept functions (steps_at one now.state now.state.running.rest) (steps_at other there.state there.state.running.rest)
      → NextKept (proceeds one now) (proceeds other there)
  unfolding proceeds step
  proceeds_kept now there printed effect =
      subst (λ (all : List (List ℕ)). NextKept (after now.lines (steps_at one now.state now.state.running.rest)) (after all (steps_at other there.state there.state.running.rest)))
      (sym printed) (after_kept now.lines (steps_at one now.state now.state.running.rest) (steps_at other there.state there.state.running.rest) effect)

  proceeds_to : (there : Progress State) (between : State) → steps_at other there.state there.state.running.rest ≡ goes_on between
      → proceeds other there ≡ Go (record { state = between; lines = there.lines })
  unfolding proceeds step
  proceeds_to there between steps = ap (after there.lines) steps

  on_step : (now there : Progress State) → Related now there → StepKept functions one other now.state there.state
      → (next : Progress State) → proceeds one now ≡ Go next → LeadsOn {E = End} (proceeds other) happens (accessing other) Related there (happens now) (accessing one now) next
  on_step now there related (at_once effect events seen) next is =
      let found = on_from (proceeds one now) (proceeds other there) (proceeds_kept now there related.printed effect) next is in
      record { there = found.0; leads = leads_once (happens now) (accessing one now) there found.1 events seen; holds = found.2 }
  on_step now there related (after_one between steps none unseen effect events seen) next is =
      let at : Progress State = record { state = between; lines = there.lines } in
      let found = on_from (proceeds one now) (proceeds other at) (proceeds_kept now at related.printed effect) next is in
      record {
        there = found.0;
        leads = leads_twice (happens now) (accessing one now) there at (proceeds_to there between steps) none unseen found.1 events seen;
        holds = found.2;
      }

  out_step : (now there : Progress State) → Related now there → StepKept functions one other now.state there.state
      → (end : End) (last : Progress State) → proceeds one now ≡ Over end last
      → LeadsOut (proceeds other) happens (accessing other) (SameLast one other) there (happens now) (accessing one now) end last
  out_step now there related (at_once effect events seen) end last is =
      let found = out_from (proceeds one now) (proceeds other there) (proceeds_kept now there related.printed effect) end last is in
      record { there = found.0; leads = leads_once (happens now) (accessing one now) there found.1 events seen; holds = found.2 }
  out_step now there related (after_one between steps none unseen effect events seen) end last is =
      let at : Progress State = record { state = between; lines = there.lines } in
      let found = out_from (proceeds one now) (proceeds other at) (proceeds_kept now at related.printed effect) end last is in
      record {
        there = found.0;
        leads = leads_twice (happens now) (accessing one now) there at (proceeds_to there between steps) none unseen found.1 events seen;
        holds = found.2;
      }

  follows : FollowsIn one other Related
  follows = record {
    on = λ now there related next is. on_step now there related (state_kept functions one lines front registers names law now.state there.state related.states) next is;
    out = λ now there related end last is. out_step now there related (state_kept functions one lines front registers names law now.state there.state related.states) end last is;
  }

  opens : (input : List ℤ) → Related (opening one input) (opening other input)
  opens input = record {
    printed = refl;
    states = goes (opening one input).state (opening other input).state.running [] ([] ∷ [])
        (entered_goes functions one lines front registers names law one.main [] (record { called = law.main_called; few = omega arith })) no_frames (more_tasks [] [] [] [] no_frames no_tasks);
  }

  pub same_outcome : (input : List ℤ) (outcome : Outcome) → Gives one input outcome ↔ Gives other input outcome
  same_outcome input outcome = (
    gives_there one other Related follows input (opens input) outcome,
    gives_here one other Related follows input (opens input) outcome,
  )

-- ---- settings that agree in all else

setting_same : (functions : ℕ → Renaming) (one other : Setting) → HasImages functions one other
    → with_lines one other.lines other.front other.registers other.names ≡ other
setting_same functions one other law =
    λ i. record {
      lines = other.lines;
      front = other.front;
      registers = other.registers;
      layouts = sym law.layouts i;
      main = sym law.main i;
      names = other.names;
      go = λ event. sym (law.go event) i;
      bound = sym law.bound i;
    }

pub images_give_the_same : ImagesGiveTheSame
images_give_the_same functions one other law input outcome =
    subst (λ (there : Setting). Gives one input outcome ↔ Gives there input outcome) (setting_same functions one other law)
    (same_outcome functions one other.lines other.front other.registers other.names
    (record {
      renaming = law.renaming;
      front = law.front;
      blocks = law.blocks;
      room = law.room;
      now_room = law.now_room;
      names = law.names;
      layouts = refl;
      main = refl;
      main_called = law.main_called;
      go = λ event. refl;
      bound = refl;
    }) input outcome)

-- ---- numbers alone

images_of : (functions : ℕ → Renaming) (func : ℕ) (lines : List Line) → All (IsLineOf functions func) lines → Images functions func lines (map (renumbered (functions func).number) lines)
images_of functions func [] all = no_lines
images_of functions func (line ∷ lines) all =
    more_lines line (renumbered (functions func).number line ∷ []) lines (map (renumbered (functions func).number) lines) (All-head (IsLineOf functions func) line lines all) (alone line.inst.result)
    (images_of functions func lines (All-tail (IsLineOf functions func) line lines all))

images_after : (functions : ℕ → Renaming) (func : ℕ) (front lines images : List Line) → All (IsLineOf functions func) front → Images functions func lines images
    → Images functions func (front ++ lines) (map (renumbered (functions func).number) front ++ images)
images_after functions func [] lines images all further = further
images_after functions func (line ∷ front) lines images all further =
    more_lines line (renumbered (functions func).number line ∷ []) (front ++ lines) (map (renumbered (functions func).number) front ++ images)
    (All-head (IsLineOf functions func) line front all) (alone line.inst.result)
    (images_after functions func front lines images (All-tail (IsLineOf functions func) line front all) further)

pub renumbering_gives_the_same : RenumberingGivesTheSame
renumbering_gives_the_same functions setting can input outcome =
    images_give_the_same functions setting (renumbered_setting functions setting)
    (record {
      renaming = can.renaming;
      front = λ func called. subst (λ (front : List Line). Images functions func (setting.front ++ setting.lines func 0) (front ++ map (renumbered (functions func).number) (setting.lines func 0)))
          (can.front_stays func)
          (images_after functions func setting.front (setting.lines func 0) (map (renumbered (functions func).number) (setting.lines func 0)) (can.front func)
          (images_of functions func (setting.lines func 0) (can.lines func 0)));
      blocks = λ func block entered. images_of functions func (setting.lines func block) (can.lines func block);
      room = can.room;
      now_room = λ func. refl;
      names = λ func. refl;
      layouts = refl;
      main = refl;
      main_called = can.main;
      go = λ event. refl;
      bound = refl;
    }) input outcome
