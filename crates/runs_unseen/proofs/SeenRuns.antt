-- Whole runs: what the machine gives over the map of a verified module is what the target meaning gives.
use Rattle.std.proofs.Common.{◌≡◌, ℕ, List, [], ◌∷◌, ◌++◌, map, reverse, refl, sym, ap, ◌∙◌, subst, append_assoc}
use Rattle.std.specs.Prelude.{ℤ, Option}
use Rattle.std.specs.List.{concat}
use Rattle.std.proofs.lemmas.List.{reverse-append}
use Rattle.std.proofs.lemmas.List.Folds.{concat-append}
use Rattle.std.proofs.Math.Path.{fun_ext}
use Rattle.tool_io.specs.Sink.{AppendsFront, append_known}
use Rattle.sp_ids.specs.declared.ends.End.{End}
use Rattle.sp_ids.specs.declared.ends.End.TheVariants.{LostFrame, Poison}
use Rattle.ir_ast.specs.Modules.{ModuleContent}
use Rattle.move_plan.specs.declared.plan_lines.PlanLine.{PlanLine}
use Rattle.move_plan.specs.Plans.{go}
use Rattle.object_meaning.specs.Effects.{Progress, line_count, text_of}
use Rattle.object_meaning.specs.Outcomes.{Outcome, accesses_from, events_from, opening, outcome_of, proceeds, whole_text}
use Rattle.object_meaning.specs.Runs.{Go, Reaches}
use Rattle.object_meaning.specs.States.{State, Setting}
use Rattle.object_meaning.specs.TargetRuns.{TargetGives, target_setting}
use Rattle.object_meaning.specs.Texts.{closing_lines}
use Rattle.object_meaning.proofs.EndLaws.{IsFinal}
use Rattle.object_meaning.proofs.OutcomeLaws.{gives_final, gives_one, gives_some, concat-reverse}
use Rattle.object_meaning.proofs.SimulationLaws.{accessing, followed, happens}
use Rattle.stackmap_write.specs.ModuleMaps.{map_of}
use Rattle.stackmap_write.proofs.FitLaws.{target_map_fits}
use Rattle.machine_meaning.specs.Code.{machinery_of}
use Rattle.machine_meaning.specs.Happenings.{happenings_at}
use Rattle.machine_meaning.specs.MachineRuns.{MachineGives, MachineOutcome, happenings_from, machine_opening, machine_outcome, machine_proceeds}
use Rattle.machine_meaning.specs.MachineRuns.{accesses_from as accesses_there}
use Rattle.machine_meaning.specs.Machines.{Machine, Machinery}
use Rattle.machine_meaning.specs.TrapLines.{closing_of}
use Rattle.machine_meaning.proofs.OutcomeLaws.{gives_one as machine_gives_one}
use Rattle.runs_unseen.proofs.machine_ends.PrintLaws.{printed_first}
use Rattle.moves_unseen.specs.Objects.{AreHeld}
use Rattle.moves_unseen.specs.Statements.{IsSeen, MovesAreUnseen}
use Rattle.moves_unseen.specs.Waits.{IsSound}
use Rattle.runs_unseen.specs.Runs.{IsSameRun, IsSeenFront, IsSeenRun, event_in}
use Rattle.runs_unseen.specs.Statements.{IsSeenOf}
use Rattle.runs_unseen.proofs.ShownLaws.{closing_same}
use Rattle.runs_unseen.proofs.RunSteps.{IsLastFollowed, accessing_there, happens_there, opens, simulates}
use Rattle.runs_unseen.proofs.TraceLaws.{traced_mapped}

module _ (content : ModuleContent) (sound : IsSound content) (input : List ℤ) (plan : List PlanLine) (bound : ℕ) where
  abbrev machinery : Machinery
  machinery = machinery_of content (map_of content) plan bound

  abbrev setting : Setting
  setting = target_setting content (go plan) bound

  -- the machine's run has come to its end, and did and saw the same
  seen_end : (within : ℕ) (end : End) (last : Progress State) (more : ℕ) (there : Progress Machine)
      → IsLastFollowed content machinery setting end last there
      → events_from setting within (Go (opening setting input)) ≡ map event_in (happenings_from machinery more (Go (machine_opening machinery input)))
      → accesses_from setting within (Go (opening setting input)) ≡ accesses_there machinery more (Go (machine_opening machinery input))
      → IsSeen content (outcome_of setting input within end last) (machine_outcome machinery input more end there)
  seen_end within end last more there holds does sees = record {
    lines = ap (λ (all : List (List ℕ)). reverse all ++ closing_of machinery end there.state) holds.lines
        ∙ ap (λ (shown : List (List ℕ)). reverse last.lines ++ shown) (closing_same content sound (target_map_fits content sound.target).few_constants plan bound end last.state there.state holds.is_last);
    end = refl;
    func = ap (λ (m : Machine). m.state.running.func) holds.is_last.is;
    steps = ap (λ (m : Machine). m.state.steps) holds.is_last.is;
    events = ap (λ (m : Machine). m.state.events) holds.is_last.is;
    printed = ap line_count holds.lines;
    happened = sym does;
    accesses = sym sees;
    objects = subst (λ (m : Machine). AreHeld content.layouts last.state.objects m.heap.stands m.heap.contents) (sym holds.is_last.is) holds.is_last.objects;
  }

  pub seen_there : (outcome : Outcome) → TargetGives content input (go plan) bound outcome
      → (machine : MachineOutcome) × (MachineGives content (map_of content) input plan bound machine × IsSeen content outcome machine)
  seen_there outcome gives =
      let there = followed (proceeds setting) (machine_proceeds machinery) happens (happens_there machinery) (accessing setting) accessing_there _ _
      (simulates content sound plan bound) gives.run.within (opening setting input) (machine_opening machinery input) outcome.end gives.last
      (opens content sound plan bound input) gives.run.by in
      let does = there.does ∙ traced_mapped event_in (λ (progress : Progress Machine). happenings_at machinery progress.state progress.state.state.running.rest) (machine_proceeds machinery) there.within (Go (machine_opening machinery input)) in (
        machine_outcome machinery input there.within outcome.end there.last_there,
        (
          record { last = there.last_there; run = record { within = there.within; by = there.by }; is = refl },
          subst (λ (o : Outcome). IsSeen content o (machine_outcome machinery input there.within outcome.end there.last_there)) (sym gives.is)
              (seen_end gives.run.within outcome.end gives.last there.within there.last_there there.holds does there.sees),
        ),
      )

  -- the other way round
  pub seen_here : (machine : MachineOutcome) → MachineGives content (map_of content) input plan bound machine → IsSeenOf content input plan bound machine
  seen_here machine gives =
      let given = gives_some setting input in
      let there = seen_there given.outcome given.gives in record {
        outcome = given.outcome;
        gives = given.gives;
        seen = subst (IsSeen content given.outcome) (machine_gives_one machinery input there.0 machine there.1.0 gives) there.1.1;
      }

  pub keeps_way : (machine : MachineOutcome) → MachineGives content (map_of content) input plan bound machine → (machine.end ≡ Poison → ⊥) × (machine.end ≡ LostFrame → ⊥)
  keeps_way machine gives =
      let seen = seen_here machine gives in
      let final = gives_final setting input seen.outcome seen.gives in (
        λ poison. subst IsFinal (sym seen.seen.end ∙ poison) final,
        λ lost. subst IsFinal (sym seen.seen.end ∙ lost) final,
      )

  pub answer_seen : (machine : MachineOutcome) → MachineGives content (map_of content) input plan bound machine → (old new : Option (List ℕ)) → new ≡ append_known old (concat machine.lines)
      → IsSeenRun content input (go plan) bound machine.end machine.func machine.steps machine.events machine.printed old new
  answer_seen machine gives old new written =
      let seen = seen_here machine gives in record {
        outcome = seen.outcome;
        gives = seen.gives;
        end_is = seen.seen.end;
        func_is = seen.seen.func;
        steps_are = seen.seen.steps;
        events_are = seen.seen.events;
        printed_is = seen.seen.printed;
        written = written ∙ ap (λ (lines : List (List ℕ)). append_known old (concat lines)) seen.seen.lines;
      }

  -- what was written when a run was cut off
  pub front_seen : (now : Progress Machine) → Reaches {E = End} (machine_proceeds machinery) (machine_opening machinery input) now
      → (old new : Option (List ℕ)) → AppendsFront old new (text_of now.lines) → IsSeenFront content input (go plan) bound old new
  front_seen now reached old new written =
      let given = gives_some setting input in
      let there = seen_there given.outcome given.gives in
      let gives = there.1.0 in
      let printed = printed_first machinery input now there.0 reached gives in
      let shown = concat (closing_of machinery there.0.end gives.last.state) in
      let whole : whole_text given.outcome ≡ text_of now.lines ++ (printed.more ++ shown) =
      ap concat (sym there.1.1.lines)
      ∙ (ap (λ (outcome : MachineOutcome). concat outcome.lines) gives.is
      ∙ (concat-append (reverse gives.last.lines) (closing_of machinery there.0.end gives.last.state)
      ∙ (ap (λ (text : List ℕ). text ++ shown) (concat-reverse gives.last.lines ∙ printed.text) ∙ append_assoc (text_of now.lines) printed.more shown))) in record {
        outcome = given.outcome;
        gives = given.gives;
        front = record {
          front = written.front;
          rest = written.rest ++ (printed.more ++ shown);
          whole = whole ∙ (ap (λ (text : List ℕ). text ++ (printed.more ++ shown)) written.whole ∙ append_assoc written.front written.rest (printed.more ++ shown));
          added = written.added;
        };
      }

-- ---- two runs that give what one outcome says

same_run : (content : ModuleContent) (outcome : Outcome) (one other : MachineOutcome) → IsSeen content outcome one → IsSeen content outcome other → IsSameRun one other
same_run content outcome one other first second = record {
  lines = first.lines ∙ sym second.lines;
  end = first.end ∙ sym second.end;
  func = first.func ∙ sym second.func;
  steps = first.steps ∙ sym second.steps;
  events = first.events ∙ sym second.events;
  printed = first.printed ∙ sym second.printed;
  happened = first.happened ∙ sym second.happened;
  accesses = first.accesses ∙ sym second.accesses;
}

pub moves_are_free : (content : ModuleContent) → IsSound content → (input : List ℤ) (plan other : List PlanLine) → ((event : ℕ) → go plan event ≡ go other event)
    → (bound : ℕ) (one two : MachineOutcome) → MachineGives content (map_of content) input plan bound one
    → MachineGives content (map_of content) input other bound two → IsSameRun one two
moves_are_free content sound input plan other same bound one two gives_one_so gives_two =
    let first = seen_here content sound input plan bound one gives_one_so in
    let second = seen_here content sound input other bound two gives_two in
    let lines : go plan ≡ go other = fun_ext same in
    let there = subst (λ (go_line : ℕ → Option ℕ). TargetGives content input go_line bound first.outcome) lines first.gives in
    let outcomes = gives_one (target_setting content (go other) bound) input first.outcome second.outcome there second.gives in
    same_run content second.outcome one two (subst (λ (o : Outcome). IsSeen content o one) outcomes first.seen) second.seen

pub moves_are_unseen : MovesAreUnseen
moves_are_unseen = λ content target verified input plan bound outcome gives.
    seen_there content (record { target = target; verified = verified }) input plan bound outcome gives
