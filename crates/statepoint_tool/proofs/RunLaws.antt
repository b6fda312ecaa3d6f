-- Runs by the source meaning, as a phase of the work.
use Rattle.std.proofs.Common.{◌≡◌, ℕ, List, Option, refl, sym, ap, subst, ◌∙◌}
use Rattle.std.specs.Prelude.{ℤ}
use Rattle.move_plan.specs.declared.plan_lines.PlanLine.{PlanLine}
use Rattle.move_plan.specs.Plans.{go}
use Rattle.std.specs.Prelude.{length, ◌≤◌, [], ◌∷◌}
use Rattle.std.specs.List.{All}
use Rattle.list_laws.proofs.Contents.{all_at, all_back, all_front}
use Rattle.piece_writer.specs.LinePuts.{IsShort, PutsLines, SinkTold}
use Rattle.piece_writer.proofs.LineLaws.{puts_both, puts_one}
use Rattle.machine_meaning.specs.MachineRuns.{MachineOutcome}
use Rattle.tool_io.specs.Told.{add_told}
use Rattle.tool_io.specs.Sink.{append_known, AppendsFront}
use Rattle.tool_io.proofs.AppendLaws.{append_known-then, AppendsFront-front, AppendsFront-same, AppendsFront-second}
use Rattle.ir_ast.specs.Modules.{ModuleContent}
use Rattle.run_tasks.specs.declared.runs.Ran.{Ran}
use Rattle.ir_meaning.specs.References.{IsRun, PutsRun, WritesFrontOfRun}
use Rattle.ir_machine.specs.declared.run.Shows.{Shows}
use Rattle.object_meaning.specs.Outcomes.{Outcome, whole_text}
use Rattle.object_meaning.specs.SourceRuns.{source_setting}
use Rattle.object_meaning.proofs.OutcomeLaws.{gives_one}
use Rattle.run_texts.specs.RunTexts.{RunWrites}
use Rattle.run_texts.proofs.TextLaws.{one_text}
use Rattle.sp_rewrite.proofs.RewrittenLaws.{rewriting_is_one}
use Rattle.stackmap_write.specs.ModuleMaps.{map_of}
use Rattle.statepoint_tool.specs.Answers.{IsBegun, IsDone, SinkSeen, sink_seen}
use Rattle.statepoint_tool.specs.Closings.{closing_line, status_of_end}
use Rattle.statepoint_tool.specs.Steps.{Go}
use Rattle.statepoint_tool.specs.Work.{Running, comes, ended_with, lines_of_run, output_of, RunningRewritten, comes_rewritten}
use Rattle.statepoint_tool.specs.declared.status.Status.{Status}
use Rattle.statepoint_tool.proofs.MachineLaws.{same_lines_of_run}
use Rattle.statepoint_tool.proofs.StepLaws.{Once}

-- a run has one output
pub Once-Running : (content : ModuleContent) (input : List ℤ) (plan : List PlanLine) (steps : ℕ) → Once (Running content input plan steps)
Once-Running content input plan steps _ _ (comes one first) (comes other second) =
    ap (λ (outcome : Outcome). Go (output_of content outcome)) (gives_one (source_setting content (go plan) steps) input one other first second)

closing_of : ModuleContent → Outcome → List ℕ
closing_of content outcome = closing_line content outcome.end outcome.func outcome.steps outcome.events

-- a front of what the run writes is one of the output
pub begun-run : (content : ModuleContent) (input : List ℤ) (plan : List PlanLine) (steps : ℕ) (out : SinkSeen) →
    WritesFrontOfRun content input (go plan) steps out.old out.new → IsBegun (λ output. Running content input plan steps (Go output)) out
unfolding closing_of
begun-run content input plan steps out writes = record {
  output = output_of content writes.outcome;
  defined = comes writes.outcome writes.gives;
  front = AppendsFront-front writes.front (closing_of content writes.outcome) (output_of content writes.outcome).text refl;
}

module _ (content : ModuleContent) (input : List ℤ) (plan : List PlanLine) (steps : ℕ) (ran : Ran) (old mid new : SinkTold) (before after : ℕ) (run : IsRun content input (go plan) steps ran old.written mid.written) where
  closes : closing_line content ran.end ran.func.0 ran.steps ran.events ≡ closing_of content run.outcome
  unfolding closing_of
  closes = ap (λ (answer : Ran). closing_line content answer.end answer.func.0 answer.steps answer.events) run.answer

  -- the whole of the output is written once the closing line is
  pub done-run : (status : Status) → status ≡ status_of_end ran.end → new.written ≡ append_known mid.written (closing_line content ran.end ran.func.0 ran.steps ran.events)
      → PutsRun content input (go plan) steps old mid
      → (length (closing_line content ran.end ran.func.0 ran.steps ran.events) ≤ 8192 → new.puts ≡ add_told mid.puts (closing_line content ran.end ran.func.0 ran.steps ran.events))
      → IsDone status (Running content input plan steps) (sink_seen old new before after)
  unfolding closing_of
  done-run status is closed puts closing = record {
    output = output_of content run.outcome;
    defined = comes run.outcome run.gives;
    status_is = is ∙ ap (λ (answer : Ran). status_of_end answer.end) run.answer;
    written =
        append_known-then old.written mid.written new.written (whole_text run.outcome) (closing_of content run.outcome) run.written
        (closed ∙ ap (append_known mid.written) closes);
    by_line = λ short.
        let line = closing_of content run.outcome in
        let same = gives_one (source_setting content (go plan) steps) input puts.outcome run.outcome puts.gives run.gives in
        let before = subst (λ (o : Outcome). All IsShort o.lines → PutsLines old mid o.lines) same puts.puts (all_front IsShort run.outcome.lines (line ∷ []) short) in
        let shorter : length line ≤ 8192 = all_at IsShort (line ∷ []) 0 line (all_back IsShort run.outcome.lines (line ∷ []) short) refl in
        let put = subst (λ (l : List ℕ). length l ≤ 8192 → new.puts ≡ add_told mid.puts l) closes closing shorter in
        puts_both old mid new run.outcome.lines (line ∷ []) before (puts_one mid new line (closed ∙ ap (append_known mid.written) closes) put);
  }

  -- and before that a front of it
  pub begun-closing : AppendsFront mid.written new.written (closing_line content ran.end ran.func.0 ran.steps ran.events)
      → IsBegun (λ output. Running content input plan steps (Go output)) (sink_seen old new before after)
  unfolding closing_of
  begun-closing front = record {
    output = output_of content run.outcome;
    defined = comes run.outcome run.gives;
    front = AppendsFront-second old.written (whole_text run.outcome) run.written (AppendsFront-same front (closing_of content run.outcome) (sym closes));
  }

-- and so has that of its rewritten module
pub Once-RunningRewritten : (content : ModuleContent) (input : List ℤ) (plan : List PlanLine) (steps : ℕ) (shows : Shows) → Once (RunningRewritten content input plan steps shows)
Once-RunningRewritten content input plan steps shows _ _ (comes_rewritten one first after is machine text writes) (comes_rewritten other second again also machine_too other_text other_writes) =
    let same_after = rewriting_is_one content after again is also in
    let writes_again = subst (λ (code : ModuleContent). RunWrites code (map_of code) input plan steps shows.places shows.trace machine text) same_after writes in
    let same_text = one_text again (map_of again) input plan steps shows.places shows.trace machine machine_too text other_text writes_again other_writes in
    let same_lines =
    subst (λ (code : ModuleContent). (own : RunWrites code (map_of code) input plan steps shows.places shows.trace machine text) → lines_of_run own ≡ lines_of_run other_writes) (sym same_after)
    (λ own. same_lines_of_run again (map_of again) input plan steps shows.places shows.trace machine machine_too text other_text own other_writes) writes in
    ap (λ (t : List ℕ). Go (ended_with t (lines_of_run writes) one.end)) same_text
    ∙ ap (λ (lines : List (List ℕ)). Go (ended_with other_text lines one.end)) same_lines
    ∙ ap (λ (outcome : Outcome). Go (ended_with other_text (lines_of_run other_writes) outcome.end)) (gives_one (source_setting content (go plan) steps) input one other first second)
