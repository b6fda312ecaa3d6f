-- One step at a time, both runs do and see the same: the machine's run follows that of the target meaning.
use Rattle.std.proofs.Common.{◌≡◌, ℕ, List, [], ◌∷◌, map, refl, sym, ap, ◌∙◌, subst, append-nil}
use Rattle.std.specs.Prelude.{ℤ}
use Rattle.sp_ids.specs.declared.ends.End.{End}
use Rattle.sp_ids.specs.declared.ends.End.TheVariants.{Trap}
use Rattle.sp_ids.specs.declared.ends.Trap.TheVariants.{Unreachable}
use Rattle.ir_ast.specs.Modules.{ModuleContent}
use Rattle.move_plan.specs.declared.plan_lines.PlanLine.{PlanLine}
use Rattle.move_plan.specs.Plans.{go}
use Rattle.object_meaning.specs.Effects.{Effect, goes_on, prints, ends, Progress, after, printed_line}
use Rattle.object_meaning.specs.Lines.{Line}
use Rattle.object_meaning.specs.Outcomes.{opening, proceeds}
use Rattle.object_meaning.specs.Runs.{Go, End as Over}
use Rattle.object_meaning.specs.States.{State, Setting}
use Rattle.object_meaning.specs.Steps.{step}
use Rattle.object_meaning.specs.TargetRuns.{target_setting}
use Rattle.object_meaning.specs.Traces.{Access, Event, accesses_at}
use Rattle.object_meaning.proofs.RunLaws.{gone, not_over, same_over}
use Rattle.object_meaning.proofs.SimulationLaws.{LeadsOn, LeadsOut, accessing, happens}
use Rattle.object_meaning.proofs.SimulationLaws.{Follows as Simulates}
use Rattle.object_meaning.proofs.StandingLaws.{AllStand, after_step}
use Rattle.object_meaning.proofs.StepLaws.{step_at_end}
use Rattle.stackmap_write.specs.ModuleMaps.{map_of}
use Rattle.machine_meaning.specs.Code.{machinery_of}
use Rattle.machine_meaning.specs.Happenings.{accesses_by, happenings_at}
use Rattle.machine_meaning.specs.MachineRuns.{machine_opening, machine_proceeds}
use Rattle.machine_meaning.specs.Machines.{Machine, Machinery}
use Rattle.machine_meaning.specs.MachineSteps.{machine_at, machine_step}
use Rattle.machine_meaning.specs.Words.{worded}
use Rattle.moves_unseen.specs.States.{Extra, Follows, IsRelated, machine_of}
use Rattle.moves_unseen.specs.Steps.{IsLast, StepFollows, both_end, both_go, both_print}
use Rattle.moves_unseen.specs.Waits.{IsSound}
use Rattle.moves_unseen.proofs.OpeningLaws.{openings_follow}
use Rattle.moves_unseen.proofs.LastLaws.{last_of}
use Rattle.runs_unseen.specs.Runs.{event_in}
use Rattle.runs_unseen.proofs.EventLaws.{events_are}
use Rattle.runs_unseen.proofs.LineCases.{accesses_are, all_lines_follow}

-- ---- states with what they have printed

-- each frame of the target meaning stands in its block, at the end too, where nothing is said of words
pub record IsFollowed (content : ModuleContent) (machinery : Machinery) (setting : Setting) (now : Progress State) (there : Progress Machine) : Type 0 where
  pub lines : there.lines ≡ now.lines
  pub follows : Follows content machinery now.state there.state
  pub stand : AllStand setting now.state

pub record IsLastFollowed (content : ModuleContent) (machinery : Machinery) (setting : Setting) (end : End) (last : Progress State) (there : Progress Machine) : Type 0 where
  pub lines : there.lines ≡ last.lines
  pub is_last : IsLast content machinery last.state there.state
  pub stand : AllStand setting last.state

-- what the machine does and sees where it stands
abbrev pub happens_there : Machinery → Progress Machine → List Event
happens_there machinery progress = map event_in (happenings_at machinery progress.state progress.state.state.running.rest)

abbrev pub accessing_there : Progress Machine → List Access
accessing_there progress = accesses_by progress.state progress.state.state.running.rest

-- ---- effects

-- what a step leaves, which stands too
abbrev Stands : Setting → Effect State → Type 0
Stands setting (goes_on state) = AllStand setting state
Stands setting (prints word state) = AllStand setting state
Stands setting (ends end state) = AllStand setting state

record GoesThere (content : ModuleContent) (machinery : Machinery) (setting : Setting) (lines : List (List ℕ)) (effect : Effect Machine) (next : Progress State) : Type 0 where
  onto : Progress Machine
  by : after lines effect ≡ Go onto
  holds : IsFollowed content machinery setting next onto

record EndsThere (content : ModuleContent) (machinery : Machinery) (setting : Setting) (lines : List (List ℕ)) (effect : Effect Machine) (end : End) (last : Progress State) : Type 0 where
  onto : Progress Machine
  by : after lines effect ≡ Over end onto
  holds : IsLastFollowed content machinery setting end last onto

module _ (content : ModuleContent) (machinery : Machinery) (setting : Setting) (lines there_lines : List (List ℕ)) (same : there_lines ≡ lines) where
  goes_there : (effect : Effect State) (other : Effect Machine) → StepFollows content machinery effect other → Stands setting effect
      → (next : Progress State) → after lines effect ≡ Go next → GoesThere content machinery setting there_lines other next
  goes_there _ _ (both_go state machine follows) stand next is = record {
    onto = record { state = machine; lines = there_lines };
    by = refl;
    holds = subst (λ (p : Progress State). IsFollowed content machinery setting p (record { state = machine; lines = there_lines }))
        (gone (record { state = state; lines = lines }) next is) (record { lines = same; follows = follows; stand = stand });
  }
  goes_there _ _ (both_print word state machine follows) stand next is = record {
    onto = record { state = machine; lines = printed_line word ∷ there_lines };
    by = refl;
    holds = subst (λ (p : Progress State). IsFollowed content machinery setting p (record { state = machine; lines = printed_line word ∷ there_lines }))
        (gone (record { state = state; lines = printed_line word ∷ lines }) next is)
        (record { lines = ap (λ (all : List (List ℕ)). printed_line word ∷ all) same; follows = follows; stand = stand });
  }
  goes_there _ _ (both_end end state machine last) stand next is = absurd (not_over end (record { state = state; lines = lines }) next is)

  ends_there : (effect : Effect State) (other : Effect Machine) → StepFollows content machinery effect other → Stands setting effect
      → (end : End) (last : Progress State) → after lines effect ≡ Over end last → EndsThere content machinery setting there_lines other end last
  ends_there _ _ (both_go state machine follows) stand end last is = absurd (not_over end last (record { state = state; lines = lines }) (sym is))
  ends_there _ _ (both_print word state machine follows) stand end last is =
      absurd (not_over end last (record { state = state; lines = printed_line word ∷ lines }) (sym is))
  ends_there _ _ (both_end other state machine is_last) stand end last is =
      let ended = same_over other end (record { state = state; lines = lines }) last is in record {
        onto = record { state = machine; lines = there_lines };
        by = ap (λ (e : End). Over e (record { state = machine; lines = there_lines })) ended.end;
        holds = subst (λ (p : Progress State). IsLastFollowed content machinery setting end p (record { state = machine; lines = there_lines })) ended.last
            (record { lines = same; is_last = is_last; stand = stand });
      }

-- ---- steps

module _ (content : ModuleContent) (sound : IsSound content) (plan : List PlanLine) (bound : ℕ) where
  abbrev machinery : Machinery
  machinery = machinery_of content (map_of content) plan bound

  abbrev setting : Setting
  setting = target_setting content (go plan) bound

  abbrev Related : Progress State → Progress Machine → Type 0
  Related = IsFollowed content machinery setting

  abbrev LastRelated : End → Progress State → Progress Machine → Type 0
  LastRelated = IsLastFollowed content machinery setting

  step_at : (state : State) (extra : Extra) → IsRelated content state extra → (lines : List Line) → state.running.rest ≡ lines
      → StepFollows content machinery (step setting state) (machine_step machinery (machine_of machinery state extra))
  unfolding machine_step
  step_at state extra related [] is =
      subst (λ (effect : Effect State). StepFollows content machinery effect (machine_step machinery (machine_of machinery state extra))) (sym (step_at_end setting state is))
      (subst (StepFollows content machinery (ends (Trap Unreachable) state))
      (sym (ap (machine_at machinery (machine_of machinery state extra)) (ap (map worded) is)))
      (both_end (Trap Unreachable) state (machine_of machinery state extra) (last_of content machinery state extra related)))
  step_at state extra related (line ∷ rest) is = all_lines_follow content sound plan bound state extra related line rest is tt

  step_both : (state : State) (machine : Machine) → Follows content machinery state machine → StepFollows content machinery (step setting state) (machine_step machinery machine)
  step_both state machine follows =
      subst (λ (m : Machine). StepFollows content machinery (step setting state) (machine_step machinery m)) (sym follows.is)
      (step_at state follows.extra follows.related state.running.rest refl)

  seen_at : (state : State) (extra : Extra) → IsRelated content state extra → (lines : List Line) → state.running.rest ≡ lines
      → accesses_by (machine_of machinery state extra) (machine_of machinery state extra).state.running.rest ≡ accesses_at setting state state.running.rest
  seen_at state extra related [] is = ap (accesses_by (machine_of machinery state extra)) (ap (map worded) is) ∙ sym (ap (accesses_at setting state) is)
  seen_at state extra related (line ∷ rest) is = accesses_are content sound plan bound state extra related line rest is

  does_both : (now : Progress State) (there : Progress Machine) → Related now there → happens_there machinery there ≡ happens now
  does_both now there holds =
      ap (λ (m : Machine). map event_in (happenings_at machinery m m.state.running.rest)) holds.follows.is
      ∙ events_are machinery (machine_of machinery now.state holds.follows.extra) now.state.running.rest

  sees_both : (now : Progress State) (there : Progress Machine) → Related now there → accessing_there there ≡ accessing setting now
  sees_both now there holds =
      ap (λ (m : Machine). accesses_by m m.state.running.rest) holds.follows.is
      ∙ seen_at now.state holds.follows.extra holds.follows.related now.state.running.rest refl

  leads_on : (now : Progress State) (there : Progress Machine) → Related now there → (next : Progress State) → proceeds setting now ≡ Go next
      → LeadsOn {E = End} (machine_proceeds machinery) (happens_there machinery) accessing_there Related there (happens now) (accessing setting now) next
  unfolding proceeds machine_proceeds
  leads_on now there holds next is =
      let goes = goes_there content machinery setting now.lines there.lines holds.lines (step setting now.state) (machine_step machinery there.state)
      (step_both now.state there.state holds.follows) (after_step setting now.state holds.stand) next is in record {
        there = goes.onto;
        leads = record {
          count = 1;
          by = goes.by;
          does_so = append-nil (happens_there machinery there) ∙ does_both now there holds;
          sees_so = append-nil (accessing_there there) ∙ sees_both now there holds;
        };
        holds = goes.holds;
      }

  leads_out : (now : Progress State) (there : Progress Machine) → Related now there → (end : End) (last : Progress State) → proceeds setting now ≡ Over end last
      → LeadsOut (machine_proceeds machinery) (happens_there machinery) accessing_there LastRelated there (happens now) (accessing setting now) end last
  unfolding proceeds machine_proceeds
  leads_out now there holds end last is =
      let out = ends_there content machinery setting now.lines there.lines holds.lines (step setting now.state) (machine_step machinery there.state)
      (step_both now.state there.state holds.follows) (after_step setting now.state holds.stand) end last is in record {
        there = out.onto;
        leads = record {
          count = 1;
          by = out.by;
          does_so = append-nil (happens_there machinery there) ∙ does_both now there holds;
          sees_so = append-nil (accessing_there there) ∙ sees_both now there holds;
        };
        holds = out.holds;
      }

  -- each step of the target meaning is one of the machine
  pub simulates : Simulates (proceeds setting) (machine_proceeds machinery) happens (happens_there machinery) (accessing setting) accessing_there Related LastRelated
  simulates = record { on = leads_on; out = leads_out }

  -- from the opening on
  pub opens : (input : List ℤ) → Related (opening setting input) (machine_opening machinery input)
  opens input = record {
    lines = refl;
    follows = openings_follow content sound.target (map_of content) input plan bound;
    stand = record { running = record { behind = 0; is = refl }; below = tt; tasks = (tt, tt) };
  }
