-- Runs on the machine, as a phase of the work.
use Rattle.std.specs.List.{All}
use Rattle.piece_writer.specs.LinePuts.{IsShort}
use Rattle.std.proofs.Common.{◌≡◌, ◌++◌, ℕ, Bool, List, Option, Some, None, Result, refl, sym, ap, subst, ◌∙◌}
use Rattle.std.specs.Prelude.{ℤ}
use Rattle.sp_ids.specs.declared.ends.End.{End}
use Rattle.ir_ast.specs.Modules.{ModuleContent}
use Rattle.map_bytes.specs.Maps.{StackMap, IsMapOf}
use Rattle.map_bytes.specs.Faults.{IsFirstFault}
use Rattle.map_bytes.specs.declared.rules.MapFault.{MapFault}
use Rattle.map_bytes.proofs.MapLaws as map_laws
use Rattle.move_plan.specs.declared.plan_lines.PlanLine.{PlanLine}
use Rattle.move_plan.specs.Plans.{go}
use Rattle.object_meaning.specs.Outcomes.{Outcome}
use Rattle.object_meaning.specs.SourceRuns.{SourceGives}
use Rattle.machine_meaning.specs.Code.{machinery_of}
use Rattle.machine_meaning.specs.Machines.{Machine as MachineState}
use Rattle.machine_meaning.specs.MachineRuns.{MachineOutcome, MachineGives, machine_opening, machine_proceeds}
use Rattle.machine_meaning.proofs.OutcomeLaws.{gives_one}
use Rattle.object_meaning.specs.Effects.{Progress}
use Rattle.object_meaning.specs.Runs.{Go as Onward}
use Rattle.object_meaning.proofs.RunLaws.{one_end, traced_more}
use Rattle.run_texts.specs.RunTexts.{RunWrites, last_lines, lines_from, run_lines, step_lines}
use Rattle.run_texts.proofs.TextLaws.{one_text}
use Rattle.run_tasks.specs.declared.runs.Ran.{Ran}
use Rattle.ir_machine.specs.declared.run.Shows.{Shows}
use Rattle.ir_machine.specs.Answers.{IsRun, PutsRun, PutsRunOver, WritesFront}
use Rattle.moves_unseen.specs.Waits.{IsSound}
use Rattle.runs_unseen.proofs.SeenRuns.{seen_here}
use Rattle.sp_rewrite.proofs.RewrittenLaws.{rewriting_is_verified, rewriting_keeps_meaning}
use Rattle.stackmap_write.specs.ModuleMaps.{map_of}
use Rattle.statepoint_tool.specs.Answers.{IsBegun, IsDone, PutEach, SinkSeen, Works}
use Rattle.statepoint_tool.specs.Closings.{status_of_end}
use Rattle.statepoint_tool.specs.Steps.{Step, Go, Stop, Then, goes_on, stops, comes_to}
use Rattle.statepoint_tool.specs.Runners.{IsItself, IsRewrittenOf, engine_of, module_in}
use Rattle.statepoint_tool.specs.Taken.{FilesSeen, file_phase}
use Rattle.statepoint_tool.specs.Work.{MayGiveFile, MayGiveMap, map_phase, run_phase, Executing, executes, ended_with, lines_of_run, Output, ReadingMap, has_map, no_map, Rewriting, rewritten, RunningRewritten, comes_rewritten}
use Rattle.statepoint_tool.specs.declared.engine.Engine.TheVariants.{Rewriter}
use Rattle.statepoint_tool.specs.declared.refusal.Cause.{Cause}
use Rattle.statepoint_tool.specs.declared.refusal.Cause.TheVariants.{Map}
use Rattle.statepoint_tool.specs.declared.refusal.Refusal.{Refusal}
use Rattle.statepoint_tool.specs.declared.runner.Executable.{Executable}
use Rattle.statepoint_tool.specs.declared.runner.Executable.TheVariants.{Trusted, Checked}
use Rattle.statepoint_tool.specs.declared.runner.Runner.TheVariants.{Machine}
use Rattle.statepoint_tool.specs.declared.status.Status.{Status}
use Rattle.statepoint_tool.proofs.StepLaws.{Once, stop_in, same-value, not_both}
use Rattle.statepoint_tool.proofs.WorksLaws.{Came-goes_on, Came-like}

-- ---- a run has one output

-- the lines of two runs of a module are the same
pub run_lines_same : (content : ModuleContent) (map : StackMap) (input : List ℤ) (plan : List PlanLine) (bound : ℕ) (places trace : Bool) (one other : MachineOutcome)
    → (first : MachineGives content map input plan bound one) (second : MachineGives content map input plan bound other)
    → run_lines content (machinery_of content map plan bound) places trace input first.run.within one.end first.last.state
    ≡ run_lines content (machinery_of content map plan bound) places trace input second.run.within other.end second.last.state
run_lines_same content map input plan bound places trace one other first second =
    let machinery = machinery_of content map plan bound in
    let start = machine_opening machinery input in
    let same = one_end (machine_proceeds machinery) start one.end other.end first.last second.last first.run second.run in
    let steps = traced_more (λ progress. step_lines machinery trace progress.state) (machine_proceeds machinery) first.run.within second.run.within (Onward start)
    one.end other.end first.last second.last first.run.by second.run.by in
    let before = lines_from machinery trace second.run.within (Onward start) in
    ap (λ lines. lines ++ last_lines content machinery places one.end first.last.state) steps
    ∙ ap (λ (end : End). before ++ last_lines content machinery places end first.last.state) same.end
    ∙ ap (λ (last : Progress MachineState). before ++ last_lines content machinery places other.end last.state) same.last

pub same_lines_of_run : (content : ModuleContent) (map : StackMap) (input : List ℤ) (plan : List PlanLine) (bound : ℕ) (places trace : Bool) (one other : MachineOutcome) (text other_text : List ℕ)
    → (first : RunWrites content map input plan bound places trace one text) (second : RunWrites content map input plan bound places trace other other_text)
    → lines_of_run first ≡ lines_of_run second
same_lines_of_run content map input plan bound places trace one other text other_text first second =
    run_lines_same content map input plan bound places trace one other first.gives second.gives

ended_as : (content : ModuleContent) (input : List ℤ) (plan : List PlanLine) (steps : ℕ) (shows : Shows) (map : StackMap) (one other : MachineOutcome) (text other_text : List ℕ)
    → (first : RunWrites content map input plan steps shows.places shows.trace one text) (second : RunWrites content map input plan steps shows.places shows.trace other other_text)
    → ended_with text (lines_of_run first) one.end ≡ ended_with other_text (lines_of_run second) other.end
ended_as content input plan steps shows map one other text other_text first second =
    ap (λ (t : List ℕ). ended_with t (lines_of_run first) one.end) (one_text content map input plan steps shows.places shows.trace one other text other_text first second)
    ∙ ap (λ (lines : List (List ℕ)). ended_with other_text lines one.end) (same_lines_of_run content map input plan steps shows.places shows.trace one other text other_text first second)
    ∙ ap (λ (outcome : MachineOutcome). ended_with other_text (lines_of_run second) outcome.end) (gives_one (machinery_of content map plan steps) input one other first.gives second.gives)

pub Once-Executing : (content : ModuleContent) (input : List ℤ) (plan : List PlanLine) (steps : ℕ) (shows : Shows) (map : StackMap) → Once (Executing content input plan steps shows map)
Once-Executing content input plan steps shows map _ _ (executes one text first) (executes other other_text second) =
    ap Go (ended_as content input plan steps shows map one other text other_text first second)

-- ---- bytes are one stack map, or have one first fault

pub Once-ReadingMap : (bytes : List ℕ) → Once (ReadingMap bytes)
Once-ReadingMap bytes _ _ (has_map one is) (has_map other also) = ap Go (map_laws.one_map bytes one other is also)
Once-ReadingMap bytes _ _ (has_map map is) (no_map fault first) = absurd (map_laws.not_both bytes map fault is first)
Once-ReadingMap bytes _ _ (no_map fault first) (has_map map is) = absurd (map_laws.not_both bytes map fault is first)
Once-ReadingMap bytes _ _ (no_map one first) (no_map other second) =
    ap (λ (fault : MapFault). stop_in StackMap (Map fault)) (map_laws.one_fault bytes one other first second)

pub record RefusesMap (bytes : List ℕ) (cause : Cause) : Type 0 where
  pub fault : MapFault
  pub is : cause ≡ Map fault
  pub first : IsFirstFault bytes fault

no_map_by : (bytes : List ℕ) (step : Step StackMap) (cause : Cause) → step ≡ Stop cause → ReadingMap bytes step → RefusesMap bytes cause
no_map_by bytes _ cause same (has_map map is) = absurd (not_both map cause same)
no_map_by bytes _ cause same (no_map fault first) =
    record { fault = fault; is = (let s : stop_in StackMap (Map fault) ≡ Stop cause = same in cc); first = first }

pub map-refused : (bytes : List ℕ) (cause : Cause) → ReadingMap bytes (Stop cause) → RefusesMap bytes cause
map-refused bytes cause reading = no_map_by bytes (Stop cause) cause refl reading

-- bytes that are a map come to it alone
reads_own : (bytes : List ℕ) (map : StackMap) → IsMapOf bytes map → (step : Step StackMap) → ReadingMap bytes step → step ≡ Go map
reads_own bytes map is step reading = Once-ReadingMap bytes step (Go map) reading (has_map map is)

pub own_map : (bytes : List ℕ) (map : StackMap) (next : StackMap → Step Output → Type 0) → IsMapOf bytes map → (step : Step Output)
    → Then (ReadingMap bytes) next step → Then (comes_to (Go map)) next step
own_map bytes map next is _ (goes_on value step first rest) = goes_on value step (reads_own bytes map is (Go value) first) rest
own_map bytes map next is _ (stops cause first) = stops cause (reads_own bytes map is (Stop cause) first)

-- ---- what a run writes

-- a front of what the run writes is one of the output
pub begun-machine : (content : ModuleContent) (bytes : List ℕ) (input : List ℤ) (plan : List PlanLine) (steps : ℕ) (shows : Shows) (out : SinkSeen)
    → WritesFront content bytes input plan steps shows out.old out.new → IsBegun (λ output. Then (ReadingMap bytes) (Executing content input plan steps shows) (Go output)) out
begun-machine content bytes input plan steps shows out writes = record {
  output = ended_with writes.front.text (lines_of_run writes.front.writes) writes.front.outcome.end;
  defined =
      goes_on writes.map (Go (ended_with writes.front.text (lines_of_run writes.front.writes) writes.front.outcome.end)) (has_map writes.map writes.is_map) (executes writes.front.outcome writes.front.text writes.front.writes);
  front = writes.front.front;
}

-- all of it is the output
pub done-machine : (content : ModuleContent) (bytes : List ℕ) (input : List ℤ) (plan : List PlanLine) (steps : ℕ) (shows : Shows) (ran : Ran) (out : SinkSeen)
    → IsRun content bytes input plan steps shows ran out.old out.new
    → PutsRun content bytes input plan steps shows (record { written = out.old; puts = out.puts_before }) (record { written = out.new; puts = out.puts_after })
    → (status : Status) → status ≡ status_of_end ran.end → IsDone status (Then (ReadingMap bytes) (Executing content input plan steps shows)) out
done-machine content bytes input plan steps shows ran out run puts status is =
    let whole = ended_with run.over.text (lines_of_run run.over.writes) run.over.outcome.end in
    let same_map = map_laws.one_map bytes puts.map run.map puts.is_map run.is_map in
    let over = subst (λ (m : StackMap). PutsRunOver content m input plan steps shows (record { written = out.old; puts = out.puts_before }) (record { written = out.new; puts = out.puts_after })) same_map puts.over in
    record {
      output = whole;
      defined = goes_on run.map (Go whole) (has_map run.map run.is_map) (executes run.over.outcome run.over.text run.over.writes);
      status_is = is ∙ ap (λ (answer : Ran). status_of_end answer.end) run.over.answer;
      written = run.over.written;
      by_line = λ short.
          let same = run_lines_same content run.map input plan steps shows.places shows.trace over.outcome run.over.outcome over.gives run.over.writes.gives in
          subst (PutEach out) same (over.puts (subst (All IsShort) (sym same) short));
    }

-- ---- what runs for a module that is asked for

-- the machine's run of a rewritten module of a source module, over its own stack map, is the source meaning
pub record IsMeant (content : ModuleContent) (input : List ℤ) (plan : List PlanLine) (steps : ℕ) (machine : MachineOutcome) : Type 0 where
  pub meant : Outcome
  pub means : SourceGives content input (go plan) steps meant
  pub end : machine.end ≡ meant.end

pub meant_by : (content after : ModuleContent) → IsRewrittenOf content after → (input : List ℤ) (plan : List PlanLine) (steps : ℕ) (machine : MachineOutcome)
    → MachineGives after (map_of after) input plan steps machine → IsMeant content input plan steps machine
meant_by content after is input plan steps machine gives =
    let sound : IsSound after = record {
      target = is.executable.target;
      verified = rewriting_is_verified content after is.source is.rewritten;
    } in
    let found = seen_here after sound input plan steps machine gives in record {
      meant = found.outcome;
      means = (rewriting_keeps_meaning content after is.source is.rewritten input (go plan) steps found.outcome).1 found.gives;
      end = found.seen.end;
    }

module _ (content after : ModuleContent) (is : IsRewrittenOf content after) (input : List ℤ) (plan : List PlanLine) (steps : ℕ) (shows : Shows) where
  rewritten_step : (step : Step Output) → Executing after input plan steps shows (map_of after) step → RunningRewritten content input plan steps shows step
  rewritten_step _ (executes machine text writes) =
      let found = meant_by content after is input plan steps machine writes.gives in
      subst (λ (end : End). RunningRewritten content input plan steps shows (Go (ended_with text (lines_of_run writes) end))) (sym found.end)
      (comes_rewritten found.meant found.means after is.rewritten machine text writes)

  rewritten_own : (step : Step Output) → Then (comes_to (Go (map_of after))) (Executing after input plan steps shows) step → RunningRewritten content input plan steps shows step
  rewritten_own _ (goes_on map step first rest) =
      rewritten_step step (subst (λ (m : StackMap). Executing after input plan steps shows m step) (same-value map (map_of after) first) rest)
  rewritten_own _ (stops cause first) = absurd (not_both (map_of after) cause (sym first))

  -- so its run on the machine is what `run` is to do
  pub works_rewritten : (map_file : Option (List ℕ)) (files : FilesSeen) (result : Result Status Refusal) (out : SinkSeen)
      → Works (MayGiveFile files map_file) (λ given. Then (map_phase after map_file given) (Executing after input plan steps shows)) result out
      → Works (MayGiveMap files (Rewriter map_file shows)) (run_phase (Rewriter map_file shows) content input plan steps) result out
  works_rewritten None files result out works = record {
    given = works.given;
    may = works.may;
    came = Came-like _ (RunningRewritten content input plan steps shows) result out rewritten_own works.came;
  }
  works_rewritten (Some name) files result out works = record {
    given = works.given;
    may = works.may;
    came = Came-goes_on (Rewriting content) (λ (code : ModuleContent). Then (file_phase name ReadingMap works.given) (Executing code input plan steps shows)) after result out
        (rewritten after is.rewritten is.few) works.came;
  }

-- and that of a rewritten module that was read
pub works_machine : (content : ModuleContent) (executable : Executable) → IsItself content (module_in executable).content → (map_file : Option (List ℕ)) (shows : Shows)
    → (input : List ℤ) (plan : List PlanLine) (steps : ℕ) (files : FilesSeen) (result : Result Status Refusal) (out : SinkSeen)
    → Works (MayGiveFile files map_file) (λ given. Then (map_phase (module_in executable).content map_file given) (Executing (module_in executable).content input plan steps shows)) result out
    → Works (MayGiveMap files (engine_of (Machine executable map_file shows))) (run_phase (engine_of (Machine executable map_file shows)) content input plan steps) result out
works_machine content (Trusted whole) itself map_file shows input plan steps files result out works =
    subst (λ (c : ModuleContent). Works (MayGiveFile files map_file) (λ given. Then (map_phase c map_file given) (Executing c input plan steps shows)) result out) (sym itself.same) works
works_machine content (Checked whole) itself map_file shows input plan steps files result out works =
    subst (λ (c : ModuleContent). Works (MayGiveFile files map_file) (λ given. Then (map_phase c map_file given) (Executing c input plan steps shows)) result out) (sym itself.same) works
