-- Each status of the work comes exactly by its cause.
use Rattle.std.proofs.Common.{◌≡◌, ◌≤◌, ℕ, true, false, List, [], length, Option, Some, None, refl, sym, ap, subst, ◌∙◌}
use Rattle.std.specs.Prelude.{ℤ}
use Rattle.sp_ids.specs.declared.ends.End.{End}
use Rattle.sp_ids.specs.declared.ends.End.TheVariants as ended
use Rattle.ir_ast.specs.declared.modules.Form.{Form as TextForm}
use Rattle.ir_ast.specs.declared.modules.Form.TheVariants as text_forms
use Rattle.ir_ast.specs.Modules.{ModuleContent, LinedModule}
use Rattle.ir_lines.specs.Modules.{module_of}
use Rattle.ir_lines.specs.Statements.{Line}
use Rattle.statepoint_verify.specs.declared.faults.Fault.{Fault as CheckFault}
use Rattle.move_plan.specs.declared.plan_lines.PlanLine.{PlanLine}
use Rattle.map_bytes.specs.Maps.{StackMap}
use Rattle.pair_facts.specs.Faults.{IsVerified, IsLeastFault as IsLeastCheckFault}
use Rattle.stackmap_write.specs.ModuleMaps.{map_of}
use Rattle.tool_io.specs.Counts.{Rose}
use Rattle.statepoint_tool.specs.Causes.{IsAccepted, AsksToShow, AsksToCheck, AsksToRewrite, AsksToGenerate, IsAskedFor, by_source, by_run, by_exec, AsksForRun, ReadsToRewrite, ReadsModule, ReadsInput, ReadsPlan, Runs, Executes, IsExecuted, shown_by, ReadsForMap, IsTrusted, engine_asked, module_run, steps_asked, Ends, by_showing, by_checking, by_rewriting, by_running, by_running_rewritten, by_executing, by_generating, EndsWith, NoCommand, NamesModule, to_show, to_check, to_rewrite, to_run, NamesJudged, to_judge, to_run_judged, HasSomeCheckFault, NamesSource, to_write, to_run_rewritten, HasModuleFault, in_text, too_many, HasSomeModuleFault, HasSomeInputFault, HasSomePlanFault, HasSomeMapFault, FileGives, module_gives, input_gives, plan_gives, map_gives, CannotRead, IsTooLong, StopsBy}
use Rattle.ir_cfg.specs.TypedModules.{IsModuleOf}
use Rattle.sp_rewrite.specs.Relocates.{HasManyRelocates}
use Rattle.sp_rewrite.specs.Statements.{IsRewritten}
use Rattle.sp_rewrite.proofs.RewrittenLaws.{rewriting_is_one, source_is_rewritten}
use Rattle.object_meaning.specs.Outcomes.{Outcome}
use Rattle.object_meaning.specs.SourceRuns.{source_setting}
use Rattle.object_meaning.proofs.OutcomeLaws.{gives_one}
use Rattle.move_plan.specs.Plans.{go}
use Rattle.generated_forms.specs.Modules.{generated}
use Rattle.gen_report.specs.Summaries.{flipping, summary_of}
use Rattle.ir_machine.specs.declared.run.Shows.{Shows}
use Rattle.statepoint_tool.specs.Statuses.{CauseOf, status_of_step}
use Rattle.statepoint_tool.specs.Steps.{Step, Go, Stop, Then, goes_on, stops}
use Rattle.statepoint_tool.specs.Taken.{Taken, Bytes, Longer, Faulty, FilesSeen, MayGive, file_phase}
use Rattle.tool_words.specs.Words.{command_of}
use Rattle.statepoint_tool.specs.Work.{Output, Given, Generating, generates, MayGiveFile, MayGiveAll, MayGiveNamed, form_of, map_named, map_phase, showing, ReadingMap, no_map, Executing, executes, ended_with, run_phase, RunningRewritten, comes_rewritten, content_of, shown, passed, written_of, module_phase, Judging, verified, said_no, judged, checked_phase, run_module_phase, after_check, Rewriting, rewritten, too_many as has_too_many, after_rewriting, rewrite_phase, ReadingInput, has_numbers, no_input, ReadingPlan, planned, no_plan, show_phase, after_input, after_module, Running, run_work, comes, output_of, command_work, work, lines_of_run, told_with}
use Rattle.statepoint_tool.specs.Closings.{status_of_end}
use Rattle.statepoint_tool.specs.declared.refusal.Cause.{Cause}
use Rattle.statepoint_tool.specs.declared.refusal.Cause.TheVariants as cause
use Rattle.statepoint_tool.specs.declared.refusal.ModuleFault.{ModuleFault}
use Rattle.statepoint_tool.specs.declared.refusal.ModuleFault.TheVariants.{TooManyRelocations}
use Rattle.statepoint_tool.specs.declared.engine.Engine.{Engine}
use Rattle.statepoint_tool.specs.declared.engine.Engine.TheVariants.{Meaning, Rewriter, Machine}
use Rattle.tool_words.specs.declared.request.RunRequest.{RunRequest}
use Rattle.tool_words.specs.declared.request.Command.{Command}
use Rattle.tool_words.specs.declared.request.Command.TheVariants.{Show, Rewrite, Check, Source, Run, Exec, Gen}
use Rattle.statepoint_tool.specs.declared.status.Status.{Status}
use Rattle.statepoint_tool.specs.declared.status.Status.TheVariants.{ModuleRefused, WordsRefused, ReadFault, PlanRefused, InputRefused, MapRefused, CheckSaidNo, TooLong}
use Rattle.statepoint_tool.proofs.AcceptedLaws.{module_of_accepted, within_given}
use Rattle.statepoint_tool.proofs.RewriteLaws.{Once-Rewriting, Once-rewrite_phase}
use Rattle.statepoint_tool.proofs.InputLaws.{Once-ReadingInput, Once-ReadingPlan, input-gives, input-refused, plan-gives, plan-refused}
use Rattle.statepoint_tool.proofs.RunLaws.{Once-Running, Once-RunningRewritten}
use Rattle.statepoint_tool.proofs.JudgeLaws.{Once-checked_phase, Once-run_module_phase, passes, says_no, large, trusted_of, as-trusted, file-stops}
use Rattle.statepoint_tool.proofs.MachineLaws.{Once-Executing, Once-ReadingMap, map-refused}
use Rattle.statepoint_tool.proofs.StepLaws.{Once, stop_in, same-value, not_both, Once-comes_to, Once-Then, Once-file_phase}
use Rattle.statepoint_tool.proofs.TextLaws.{Accepts, accepts, StopsByText, refuses, as-accepted, as-refused, Once-module_phase}

-- ---- names of stack maps

none_named : (name : List ℕ) → None ≡ Some name → ⊥
none_named name is = cc

one_named : (one other : List ℕ) → Some one ≡ Some other → one ≡ other
one_named one other is = cc

-- ---- the work comes to one step

Once-map_phase : (content : ModuleContent) (map_file : Option (List ℕ)) (taken : Taken) → Once (map_phase content map_file taken)
Once-map_phase content None taken = Once-comes_to (Go (map_of content))
Once-map_phase content (Some name) taken = Once-file_phase name ReadingMap Once-ReadingMap taken

Once-run_phase : (engine : Engine) (content : ModuleContent) (numbers : List ℤ) (lines : List PlanLine) (steps : ℕ) (taken : Taken) →
    Once (run_phase engine content numbers lines steps taken)
Once-run_phase Meaning content numbers lines steps taken = Once-Running content numbers lines steps
Once-run_phase (Rewriter None shows) content numbers lines steps taken = Once-RunningRewritten content numbers lines steps shows
Once-run_phase (Rewriter (Some name) shows) content numbers lines steps taken =
    Once-Then (Rewriting content) (λ (after : ModuleContent). Then (file_phase name ReadingMap taken) (Executing after numbers lines steps shows)) (Once-Rewriting content)
    (λ (after : ModuleContent). Once-Then (file_phase name ReadingMap taken) (Executing after numbers lines steps shows) (Once-file_phase name ReadingMap Once-ReadingMap taken)
    (Once-Executing after numbers lines steps shows))
Once-run_phase (Machine map_file trust shows) content numbers lines steps taken =
    Once-Then (map_phase content map_file taken) (Executing content numbers lines steps shows) (Once-map_phase content map_file taken)
    (Once-Executing content numbers lines steps shows)

Once-after_input : (plan : List ℕ) (engine : Engine) (content : ModuleContent) (numbers : List ℤ) (steps : ℕ) (given : Taken × Taken) →
    Once (after_input plan engine content numbers steps given)
Once-after_input plan engine content numbers steps given =
    Once-Then (file_phase plan ReadingPlan given.0) (λ lines. run_phase engine content numbers lines steps given.1)
    (Once-file_phase plan ReadingPlan Once-ReadingPlan given.0) (λ lines. Once-run_phase engine content numbers lines steps given.1)

Once-after_module : (input plan : List ℕ) (engine : Engine) (content : ModuleContent) (steps : ℕ) (given : Taken × (Taken × Taken)) →
    Once (after_module input plan engine content steps given)
Once-after_module input plan engine content steps given =
    Once-Then (file_phase input ReadingInput given.0) (λ numbers. after_input plan engine content numbers steps given.1)
    (Once-file_phase input ReadingInput Once-ReadingInput given.0) (λ numbers. Once-after_input plan engine content numbers steps given.1)

Once-run_work : (engine : Engine) (request : RunRequest) (given : Given) → Once (run_work engine request given)
Once-run_work engine request given =
    Once-Then (file_phase request.code (run_module_phase engine) given.module_file)
    (λ (whole : LinedModule). after_module request.input request.plan engine whole.content request.steps (given.input, (given.plan, given.map_file)))
    (Once-file_phase request.code (run_module_phase engine) (Once-run_module_phase engine) given.module_file)
    (λ (whole : LinedModule). Once-after_module request.input request.plan engine whole.content request.steps (given.input, (given.plan, given.map_file)))

Once-Generating : (seed size steps : ℕ) → Once (Generating seed size steps)
Once-Generating seed size steps _ _ (generates after is one first) (generates again also other second) =
    ap (λ (code : ModuleContent). Go (told_with (summary_of (generated seed size) code one) one.end)) (rewriting_is_one (generated seed size) after again is also)
    ∙ ap (λ (outcome : Outcome). Go (told_with (summary_of (generated seed size) again outcome) outcome.end))
    (gives_one (source_setting (generated seed size) (go flipping) steps) [] one other first second)

Once-command : (command : Option Command) (given : Given) → Once (command_work command given)
Once-command None given = Once-comes_to (Stop cause.Words)
Once-command (Some (Show module_file)) given =
    Once-Then (file_phase module_file (module_phase text_forms.Source) given.module_file) show_phase
    (Once-file_phase module_file (module_phase text_forms.Source) (Once-module_phase text_forms.Source) given.module_file) (λ (whole : LinedModule). Once-comes_to (Go (shown whole.content)))
Once-command (Some (Rewrite module_file part)) given =
    Once-Then (file_phase module_file (module_phase text_forms.Source) given.module_file) (rewrite_phase part)
    (Once-file_phase module_file (module_phase text_forms.Source) (Once-module_phase text_forms.Source) given.module_file) (Once-rewrite_phase part)
Once-command (Some (Check module_file)) given =
    Once-Then (file_phase module_file checked_phase given.module_file) after_check
    (Once-file_phase module_file checked_phase Once-checked_phase given.module_file) (λ (whole : LinedModule). Once-comes_to (Go passed))
Once-command (Some (Source request)) given = Once-run_work Meaning request given
Once-command (Some (Run request map_file places trace)) given = Once-run_work (Rewriter map_file (showing places trace)) request given
Once-command (Some (Exec request map_file trust places trace)) given = Once-run_work (Machine map_file trust (showing places trace)) request given
Once-command (Some (Gen seed size steps)) given = Once-Generating seed size steps

pub Once-work : (words : List (List ℕ)) (given : Given) → Once (work words given)
Once-work words given = Once-command (command_of words) given

-- ---- what a step of the work tells of the words and of what the files gave

abbrev pub Explains : Step Output → List (List ℕ) → Given → Type 0
Explains (Go output) words given = Ends words given output
Explains (Stop reason) words given = StopsBy reason words given

module _ (words : List (List ℕ)) (given : Given) where
  explains-at : (step due : Step Output) → step ≡ due → Explains due words given → Explains step words given
  explains-at step due is explained = subst (λ (s : Step Output). Explains s words given) (sym is) explained

  stop-at : {A : Type 0} (one other : Cause) → stop_in A one ≡ Stop other → Explains (Stop other) words given → Explains (Stop one) words given
  stop-at {A} one other is explained =
      let same : one ≡ other = cc in subst (λ (c : Cause). Explains (Stop c) words given) (sym same) explained

  -- showing

  shows_text : (asks : AsksToShow words) (text : List ℕ) → given.module_file ≡ Bytes text → (whole : LinedModule) → Accepts text_forms.Source text whole →
      Explains (Go (shown whole.content)) words given
  shows_text asks text taken whole accepted =
      subst (λ (w : LinedModule). Ends words given (shown w.content)) (sym accepted.is)
      (by_showing (record { asks = asks; text = text; taken = taken; lines = accepted.lines; accepted = accepted.accepted }))

  stops_text : (form : TextForm) (name text : List ℕ) (cause : Cause) → NamesModule words form name → given.module_file ≡ Bytes text → StopsByText form text cause →
      Explains (Stop cause) words given
  stops_text form name text reason names taken stopped =
      stop-at {A = Output} reason (cause.Module stopped.fault) (ap Stop stopped.is)
      (in_text stopped.fault (record { form = form; name = name; names = names; text = text; taken = taken; has = stopped.has }))

  show_explains : (asks : AsksToShow words) (taken : Taken) → given.module_file ≡ taken → (step : Step Output) →
      Then (file_phase asks.module_file (module_phase text_forms.Source) taken) show_phase step → Explains step words given
  show_explains asks (Bytes text) is _ (goes_on whole step first rest) =
      explains-at step (Go (shown whole.content)) rest (shows_text asks text is whole (accepts text_forms.Source text whole first))
  show_explains asks (Bytes text) is _ (stops reason first) = stops_text text_forms.Source asks.module_file text reason (to_show asks) is (refuses text_forms.Source text reason first)
  show_explains asks Longer is _ (goes_on whole step first rest) = absurd (not_both whole (cause.TooLong asks.module_file) first)
  show_explains asks Longer is _ (stops reason first) = stop-at reason (cause.TooLong asks.module_file) first (module_gives text_forms.Source asks.module_file (to_show asks) is)
  show_explains asks Faulty is _ (goes_on whole step first rest) = absurd (not_both whole (cause.ReadFault asks.module_file) first)
  show_explains asks Faulty is _ (stops reason first) = stop-at reason (cause.ReadFault asks.module_file) first (module_gives text_forms.Source asks.module_file (to_show asks) is)

  -- checking

  said_no_stops : (name text : List ℕ) → NamesJudged words name → given.module_file ≡ Bytes text → (whole : LinedModule) → Accepts text_forms.Rewritten text whole → (reason : Cause)
      → Judging whole (Stop reason) → Explains (Stop reason) words given
  said_no_stops name text names taken whole accepted reason judging =
      let told = says_no whole reason judging in
      stop-at {A = Output} reason (cause.Check told.fault) (ap Stop told.is)
      (record {
        name = name;
        names = names;
        text = text;
        taken = taken;
        lines = accepted.lines;
        accepted = accepted.accepted;
        least = subst (λ (w : LinedModule). IsLeastCheckFault w told.fault.line told.fault.code) accepted.is told.least;
      })

  checks_text : (asks : AsksToCheck words) (text : List ℕ) → given.module_file ≡ Bytes text → (whole : LinedModule) → Accepts text_forms.Rewritten text whole → IsVerified whole.content
      → Explains (Go passed) words given
  checks_text asks text taken whole accepted none =
      by_checking (record {
        asks = asks;
        text = text;
        taken = taken;
        lines = accepted.lines;
        accepted = accepted.accepted;
        verified = subst (λ (w : LinedModule). IsVerified w.content) accepted.is none;
      })

  checked_goes : (asks : AsksToCheck words) (text : List ℕ) → given.module_file ≡ Bytes text → (after : LinedModule) (step : Step LinedModule) → step ≡ Go after → checked_phase text step
      → Explains (Go passed) words given
  checked_goes asks text taken after _ is (goes_on whole step first judging) =
      checks_text asks text taken whole (accepts text_forms.Rewritten text whole first) (passes whole after (subst (Judging whole) is judging)).verified
  checked_goes asks text taken after _ is (stops reason first) = absurd (not_both after reason (sym is))

  checked_stops : (asks : AsksToCheck words) (text : List ℕ) → given.module_file ≡ Bytes text → (reason : Cause) (step : Step LinedModule) → step ≡ Stop reason → checked_phase text step
      → Explains (Stop reason) words given
  checked_stops asks text taken reason _ is (goes_on whole step first judging) =
      said_no_stops asks.module_file text (to_judge asks) taken whole (accepts text_forms.Rewritten text whole first) reason (subst (Judging whole) is judging)
  checked_stops asks text taken reason _ is (stops own first) =
      stop-at {A = LinedModule} reason own (sym is) (stops_text text_forms.Rewritten asks.module_file text own (to_check asks) taken (refuses text_forms.Rewritten text own first))

  check_explains : (asks : AsksToCheck words) (taken : Taken) → given.module_file ≡ taken → (step : Step Output) →
      Then (file_phase asks.module_file checked_phase taken) after_check step → Explains step words given
  check_explains asks (Bytes text) is _ (goes_on after step first rest) =
      explains-at step (Go passed) rest (checked_goes asks text is after (Go after) refl first)
  check_explains asks (Bytes text) is _ (stops reason first) = checked_stops asks text is reason (Stop reason) refl first
  check_explains asks Longer is _ (goes_on whole step first rest) = absurd (not_both whole (cause.TooLong asks.module_file) first)
  check_explains asks Longer is _ (stops reason first) = stop-at reason (cause.TooLong asks.module_file) first (module_gives text_forms.Rewritten asks.module_file (to_check asks) is)
  check_explains asks Faulty is _ (goes_on whole step first rest) = absurd (not_both whole (cause.ReadFault asks.module_file) first)
  check_explains asks Faulty is _ (stops reason first) = stop-at reason (cause.ReadFault asks.module_file) first (module_gives text_forms.Rewritten asks.module_file (to_check asks) is)

  -- rewriting

  rewrites_output : (reads : ReadsToRewrite words given) (step : Step ModuleContent) (after : ModuleContent) → step ≡ Go after
      → Rewriting (content_of text_forms.Source reads.lines) step → Ends words given (written_of reads.asks.part after)
  rewrites_output reads _ after is (rewritten own own_is few) =
      subst (λ (c : ModuleContent). Ends words given (written_of reads.asks.part c)) (same-value own after is)
      (by_rewriting (record { reads = reads; after = own; is = own_is; few = few }))
  rewrites_output reads _ after is (has_too_many many) = absurd (not_both after (cause.Module TooManyRelocations) (sym is))

  rewriting_stops : (reads : ReadsToRewrite words given) (step : Step ModuleContent) (reason : Cause) → step ≡ Stop reason
      → Rewriting (content_of text_forms.Source reads.lines) step → Explains (Stop reason) words given
  rewriting_stops reads _ reason is (rewritten own own_is few) = absurd (not_both own reason is)
  rewriting_stops reads _ reason is (has_too_many many) =
      stop-at reason (cause.Module TooManyRelocations) (sym is)
      (too_many (record {
        name = reads.asks.module_file;
        names = to_write reads.asks;
        text = reads.text;
        taken = reads.taken;
        lines = reads.lines;
        accepted = reads.accepted;
        many = many;
      }))

  rewriting_explains : (reads : ReadsToRewrite words given) (step : Step Output) → Then (Rewriting (content_of text_forms.Source reads.lines)) (after_rewriting reads.asks.part) step → Explains step words given
  rewriting_explains reads _ (goes_on after step first rest) =
      explains-at step (Go (written_of reads.asks.part after)) rest (rewrites_output reads (Go after) after refl first)
  rewriting_explains reads _ (stops reason first) = rewriting_stops reads (Stop reason) reason refl first

  rewrites_text : (asks : AsksToRewrite words) (text : List ℕ) → given.module_file ≡ Bytes text → (whole : LinedModule) → Accepts text_forms.Source text whole →
      (step : Step Output) → rewrite_phase asks.part whole step → Explains step words given
  rewrites_text asks text taken whole accepted step rest =
      rewriting_explains (record { asks = asks; text = text; taken = taken; lines = accepted.lines; accepted = accepted.accepted }) step
      (subst (λ (w : LinedModule). rewrite_phase asks.part w step) accepted.is rest)

  rewrite_explains : (asks : AsksToRewrite words) (taken : Taken) → given.module_file ≡ taken → (step : Step Output) →
      Then (file_phase asks.module_file (module_phase text_forms.Source) taken) (rewrite_phase asks.part) step → Explains step words given
  rewrite_explains asks (Bytes text) is _ (goes_on whole step first rest) = rewrites_text asks text is whole (accepts text_forms.Source text whole first) step rest
  rewrite_explains asks (Bytes text) is _ (stops reason first) = stops_text text_forms.Source asks.module_file text reason (to_rewrite asks) is (refuses text_forms.Source text reason first)
  rewrite_explains asks Longer is _ (goes_on whole step first rest) = absurd (not_both whole (cause.TooLong asks.module_file) first)
  rewrite_explains asks Longer is _ (stops reason first) = stop-at reason (cause.TooLong asks.module_file) first (module_gives text_forms.Source asks.module_file (to_rewrite asks) is)
  rewrite_explains asks Faulty is _ (goes_on whole step first rest) = absurd (not_both whole (cause.ReadFault asks.module_file) first)
  rewrite_explains asks Faulty is _ (stops reason first) = stop-at reason (cause.ReadFault asks.module_file) first (module_gives text_forms.Source asks.module_file (to_rewrite asks) is)

  -- running

  running_explains : (runs : Runs words given) (step : Step Output) →
      Running (module_run runs.reads) runs.reads.reads.numbers runs.reads.plan (steps_asked runs.reads) step → Explains step words given
  running_explains runs _ (comes outcome gives) = by_running runs outcome gives

  rewritten_explains : (reads : ReadsPlan words given) (shows : Shows) → engine_asked reads ≡ Rewriter None shows → (step : Step Output) →
      RunningRewritten (module_run reads) reads.reads.numbers reads.plan (steps_asked reads) shows step → Explains step words given
  rewritten_explains reads shows engine _ (comes_rewritten meant means after is machine text writes) =
      by_running_rewritten (record {
        reads = reads;
        shows = shows;
        engine = engine;
        meant = meant;
        means = means;
        after = after;
        rewritten = is;
        machine = machine;
        text = text;
        writes = writes;
      })

  executing_explains : (runs : Executes words given) (step : Step Output) →
      Executing runs.code runs.reads.reads.numbers runs.reads.plan (steps_asked runs.reads) (shown_by (engine_asked runs.reads)) runs.map step → Explains step words given
  executing_explains runs _ (executes outcome text writes) = by_executing runs outcome text writes

  map_stops : (reads : ReadsForMap words given) (taken : Taken) → given.map_file ≡ taken → (reason : Cause) → file_phase reads.map_file ReadingMap taken (Stop reason) →
      Explains (Stop reason) words given
  map_stops reads (Bytes bytes) is reason first =
      let refused = map-refused bytes reason first in
      stop-at {A = Output} reason (cause.Map refused.fault) (ap Stop refused.is)
      (record { reads = reads; bytes = bytes; taken = is; first = refused.first })
  map_stops reads Longer is reason first = stop-at reason (cause.TooLong reads.map_file) first (map_gives reads is)
  map_stops reads Faulty is reason first = stop-at reason (cause.ReadFault reads.map_file) first (map_gives reads is)

  no_map_stops : (reads : ReadsPlan words given) (map_file : Option (List ℕ)) → map_named (engine_asked reads) ≡ map_file → (code : ModuleContent) (reason : Cause) →
      map_phase code map_file given.map_file (Stop reason) → Explains (Stop reason) words given
  no_map_stops reads None named code reason first = absurd (not_both (map_of code) reason (sym first))
  no_map_stops reads (Some name) named code reason first = map_stops (record { reads = reads; map_file = name; named = named }) given.map_file refl reason first

  -- a module runs on the machine over a stack map
  over_map_explains : (reads : ReadsPlan words given) (engine : Engine) → engine_asked reads ≡ engine → (code : ModuleContent) → IsExecuted engine (module_run reads) code → (step : Step Output) →
      Then (map_phase code (map_named engine) given.map_file) (Executing code reads.reads.numbers reads.plan (steps_asked reads) (shown_by engine)) step → Explains step words given
  over_map_explains reads engine is code runs _ (goes_on map step first rest) =
      executing_explains (record {
        reads = reads;
        code = code;
        runs = subst (λ (e : Engine). IsExecuted e (module_run reads) code) (sym is) runs;
        map = map;
        takes = subst (λ (e : Engine). map_phase code (map_named e) given.map_file (Go map)) (sym is) first;
      }) step
      (subst (λ (e : Engine). Executing code reads.reads.numbers reads.plan (steps_asked reads) (shown_by e) map step) (sym is) rest)
  over_map_explains reads engine is code runs _ (stops reason first) = no_map_stops reads (map_named engine) (ap map_named is) code reason first

  is_rewritten : (content after : ModuleContent) (step : Step ModuleContent) → step ≡ Go after → Rewriting content step → IsRewritten content after
  is_rewritten content after _ is (rewritten own own_is few) = subst (IsRewritten content) (same-value own after is) own_is
  is_rewritten content after _ is (has_too_many many) = absurd (not_both after (cause.Module TooManyRelocations) (sym is))

  few_stops : (content : ModuleContent) → ¬ HasManyRelocates content → (reason : Cause) (step : Step ModuleContent) → step ≡ Stop reason → Rewriting content step → ⊥
  few_stops content few reason _ is (rewritten own own_is own_few) = not_both own reason is
  few_stops content few reason _ is (has_too_many many) = few many

  -- the rewritten module runs over the stack map in a file
  given_map_explains : (reads : ReadsPlan words given) (name : List ℕ) (shows : Shows) → engine_asked reads ≡ Rewriter (Some name) shows → (step : Step Output) →
      run_phase (Rewriter (Some name) shows) (module_run reads) reads.reads.numbers reads.plan (steps_asked reads) given.map_file step → Explains step words given
  given_map_explains reads name shows is _ (goes_on after step first rest) =
      over_map_explains reads (Rewriter (Some name) shows) is after (is_rewritten (module_run reads) after (Go after) refl first) step rest
  given_map_explains reads name shows is _ (stops reason first) =
      absurd (few_stops (module_run reads) (subst (λ (e : Engine). IsTrusted e (module_run reads)) is reads.reads.accepts.trusted) reason (Stop reason) refl first)

  phase_explains : (reads : ReadsPlan words given) (engine : Engine) → engine_asked reads ≡ engine → (step : Step Output) →
      run_phase engine (module_run reads) reads.reads.numbers reads.plan (steps_asked reads) given.map_file step → Explains step words given
  phase_explains reads Meaning is step due = running_explains (record { reads = reads; engine = is }) step due
  phase_explains reads (Rewriter None shows) is step due = rewritten_explains reads shows is step due
  phase_explains reads (Rewriter (Some name) shows) is step due = given_map_explains reads name shows is step due
  phase_explains reads (Machine map_file trust shows) is step due = over_map_explains reads (Machine map_file trust shows) is (module_run reads) refl step due

  plan_explains : (reads : ReadsInput words given) (plan : Taken) → given.plan ≡ plan → (step : Step Output) →
      after_input reads.accepts.asks.request.plan reads.accepts.asks.engine (content_of (form_of reads.accepts.asks.engine) reads.accepts.lines) reads.numbers reads.accepts.asks.request.steps
      (plan, given.map_file) step → Explains step words given
  plan_explains reads (Bytes text) is _ (goes_on lines step first rest) =
      let gives = plan-gives text lines first in
      phase_explains (record { reads = reads; text = text; taken = is; plan = lines; is = gives.is; faultless = gives.faultless }) reads.accepts.asks.engine refl step rest
  plan_explains reads (Bytes text) is _ (stops reason first) =
      let refused = plan-refused text reason first in
      stop-at {A = Output} reason (cause.Plan refused.fault) (ap Stop refused.is)
      (record { reads = reads; text = text; taken = is; least = refused.least })
  plan_explains reads Longer is _ (goes_on value step first rest) = absurd (not_both value (cause.TooLong reads.accepts.asks.request.plan) first)
  plan_explains reads Longer is _ (stops reason first) = stop-at reason (cause.TooLong reads.accepts.asks.request.plan) first (plan_gives reads is)
  plan_explains reads Faulty is _ (goes_on value step first rest) = absurd (not_both value (cause.ReadFault reads.accepts.asks.request.plan) first)
  plan_explains reads Faulty is _ (stops reason first) = stop-at reason (cause.ReadFault reads.accepts.asks.request.plan) first (plan_gives reads is)

  input_explains : (accepted : ReadsModule words given) (input : Taken) → given.input ≡ input → (step : Step Output) →
      after_module accepted.asks.request.input accepted.asks.request.plan accepted.asks.engine (content_of (form_of accepted.asks.engine) accepted.lines) accepted.asks.request.steps
      (input, (given.plan, given.map_file)) step → Explains step words given
  input_explains accepted (Bytes text) is _ (goes_on numbers step first rest) =
      let gives = input-gives text numbers first in
      plan_explains (record { accepts = accepted; text = text; taken = is; numbers = numbers; are = gives.are; faultless = gives.faultless }) given.plan refl step rest
  input_explains accepted (Bytes text) is _ (stops reason first) =
      let refused = input-refused text reason first in
      stop-at {A = Output} reason (cause.Input refused.line) (ap Stop refused.is)
      (record { accepts = accepted; text = text; taken = is; first = refused.first })
  input_explains accepted Longer is _ (goes_on value step first rest) = absurd (not_both value (cause.TooLong accepted.asks.request.input) first)
  input_explains accepted Longer is _ (stops reason first) = stop-at reason (cause.TooLong accepted.asks.request.input) first (input_gives accepted is)
  input_explains accepted Faulty is _ (goes_on value step first rest) = absurd (not_both value (cause.ReadFault accepted.asks.request.input) first)
  input_explains accepted Faulty is _ (stops reason first) = stop-at reason (cause.ReadFault accepted.asks.request.input) first (input_gives accepted is)

  runs_text : (asks : AsksForRun words) (text : List ℕ) → given.module_file ≡ Bytes text → (whole : LinedModule) → Accepts (form_of asks.engine) text whole → IsTrusted asks.engine whole.content
      → (step : Step Output) →
      after_module asks.request.input asks.request.plan asks.engine whole.content asks.request.steps (given.input, (given.plan, given.map_file)) step → Explains step words given
  runs_text asks text taken whole accepted trusted step rest =
      input_explains (record {
        asks = asks;
        text = text;
        taken = taken;
        lines = accepted.lines;
        accepted = accepted.accepted;
        trusted = subst (λ (w : LinedModule). IsTrusted asks.engine w.content) accepted.is trusted;
      })
      given.input refl step
      (subst (λ (w : LinedModule). after_module asks.request.input asks.request.plan asks.engine w.content asks.request.steps (given.input, (given.plan, given.map_file)) step) accepted.is rest)

  run_goes : (asks : AsksForRun words) (text : List ℕ) → given.module_file ≡ Bytes text → (after : LinedModule) (came : Step LinedModule) → came ≡ Go after → run_module_phase asks.engine text came
      → (step : Step Output) →
      after_module asks.request.input asks.request.plan asks.engine after.content asks.request.steps (given.input, (given.plan, given.map_file)) step → Explains step words given
  run_goes asks text taken after _ is (goes_on whole came first judging) step rest =
      let found = trusted_of asks.engine whole after (subst (judged asks.engine whole) is judging) in
      runs_text asks text taken whole (accepts (form_of asks.engine) text whole first) found.trusted step
      (subst (λ (w : LinedModule). after_module asks.request.input asks.request.plan asks.engine w.content asks.request.steps (given.input, (given.plan, given.map_file)) step) found.is rest)
  run_goes asks text taken after _ is (stops reason first) step rest = absurd (not_both after reason (sym is))

  judged_stops : (engine : Engine) (request : RunRequest) → IsAskedFor words engine request → (text : List ℕ) → given.module_file ≡ Bytes text → (whole : LinedModule) → Accepts (form_of engine) text whole
      → (reason : Cause) → judged engine whole (Stop reason) → Explains (Stop reason) words given
  judged_stops _ _ (by_source request is) text taken whole accepted reason stopped = absurd (not_both whole reason (sym stopped))
  judged_stops _ _ (by_run request map_file places trace is) text taken whole accepted reason stopped =
      let found = large whole reason (Stop reason) refl stopped in
      stop-at {A = Output} reason (cause.Module TooManyRelocations) (ap Stop found.is)
      (too_many (record {
        name = request.code;
        names = to_run_rewritten request map_file places trace is;
        text = text;
        taken = taken;
        lines = accepted.lines;
        accepted = accepted.accepted;
        many = subst (λ (w : LinedModule). HasManyRelocates w.content) accepted.is found.many;
      }))
  judged_stops _ _ (by_exec request map_file true places trace is) text taken whole accepted reason stopped = absurd (not_both whole reason (sym stopped))
  judged_stops _ _ (by_exec request map_file false places trace is) text taken whole accepted reason stopped =
      said_no_stops request.code text (to_run_judged request map_file places trace is) taken whole accepted reason stopped

  run_stops : (asks : AsksForRun words) (text : List ℕ) → given.module_file ≡ Bytes text → (reason : Cause) (came : Step LinedModule) → came ≡ Stop reason → run_module_phase asks.engine text came
      → Explains (Stop reason) words given
  run_stops asks text taken reason _ is (goes_on whole came first judging) =
      judged_stops asks.engine asks.request asks.asked text taken whole (accepts (form_of asks.engine) text whole first) reason (subst (judged asks.engine whole) is judging)
  run_stops asks text taken reason _ is (stops own first) =
      stop-at {A = LinedModule} reason own (sym is) (stops_text (form_of asks.engine) asks.request.code text own (to_run asks) taken (refuses (form_of asks.engine) text own first))

  run_explains : (asks : AsksForRun words) (taken : Taken) → given.module_file ≡ taken → (step : Step Output) →
      Then (file_phase asks.request.code (run_module_phase asks.engine) taken)
      (λ (whole : LinedModule). after_module asks.request.input asks.request.plan asks.engine whole.content asks.request.steps (given.input, (given.plan, given.map_file))) step → Explains step words given
  run_explains asks (Bytes text) is _ (goes_on whole step first rest) = run_goes asks text is whole (Go whole) refl first step rest
  run_explains asks (Bytes text) is _ (stops reason first) = run_stops asks text is reason (Stop reason) refl first
  run_explains asks Longer is _ (goes_on whole step first rest) = absurd (not_both whole (cause.TooLong asks.request.code) first)
  run_explains asks Longer is _ (stops reason first) = stop-at reason (cause.TooLong asks.request.code) first (module_gives (form_of asks.engine) asks.request.code (to_run asks) is)
  run_explains asks Faulty is _ (goes_on whole step first rest) = absurd (not_both whole (cause.ReadFault asks.request.code) first)
  run_explains asks Faulty is _ (stops reason first) = stop-at reason (cause.ReadFault asks.request.code) first (module_gives (form_of asks.engine) asks.request.code (to_run asks) is)

  generating_explains : (asks : AsksToGenerate words) (step : Step Output) → Generating asks.seed asks.size asks.steps step → Explains step words given
  generating_explains asks _ (generates after is meant means) = by_generating asks _ (generates after is meant means)

  command_explains : (command : Option Command) → command_of words ≡ command → (step : Step Output) → command_work command given step → Explains step words given
  command_explains None is step due = explains-at step (Stop cause.Words) due is
  command_explains (Some (Show module_file)) is step due = show_explains (record { module_file = module_file; command = is }) given.module_file refl step due
  command_explains (Some (Rewrite module_file part)) is step due = rewrite_explains (record { module_file = module_file; part = part; command = is }) given.module_file refl step due
  command_explains (Some (Check module_file)) is step due = check_explains (record { module_file = module_file; command = is }) given.module_file refl step due
  command_explains (Some (Source request)) is step due = run_explains (record { engine = Meaning; request = request; asked = by_source request is }) given.module_file refl step due
  command_explains (Some (Run request map_file places trace)) is step due =
      run_explains (record { engine = Rewriter map_file (showing places trace); request = request; asked = by_run request map_file places trace is }) given.module_file refl step due
  command_explains (Some (Exec request map_file trust places trace)) is step due =
      run_explains (record { engine = Machine map_file trust (showing places trace); request = request; asked = by_exec request map_file trust places trace is }) given.module_file refl step due
  command_explains (Some (Gen seed size steps)) is step due = generating_explains (record { seed = seed; size = size; steps = steps; command = is }) step due

  -- each step of the work has its cause
  pub Explains-work : (step : Step Output) → work words given step → Explains step words given
  Explains-work step due = command_explains (command_of words) refl step due

  cause_at_end : (output : Output) (end : End) → output.status ≡ status_of_end end → Ends words given output → CauseOf (status_of_end end) words given
  cause_at_end output (ended.Return number) is ends = (output, ends, is)
  cause_at_end output (ended.Trap trap) is ends = (output, ends, is)
  cause_at_end output ended.OutOfSteps is ends = (output, ends, is)
  cause_at_end output ended.Poison is ends = (output, ends, is)
  cause_at_end output ended.LostFrame is ends = (output, ends, is)

  cause_of_generated : (asks : AsksToGenerate words) (output : Output) (step : Step Output) → step ≡ Go output → Generating asks.seed asks.size asks.steps step → CauseOf output.status words given
  cause_of_generated asks output _ is (generates after own meant means) =
      let made = told_with (summary_of (generated asks.seed asks.size) after meant) meant.end in
      subst (λ (o : Output). CauseOf o.status words given) (same-value made output is)
      (cause_at_end made meant.end refl (by_generating asks made (generates after own meant means)))

  cause_of_output : (output : Output) → Ends words given output → CauseOf output.status words given
  cause_of_output _ (by_showing shows) = (shown (content_of text_forms.Source shows.lines), by_showing shows, refl)
  cause_of_output _ (by_checking checks) = (passed, by_checking checks, refl)
  cause_of_output _ (by_rewriting rewrites) = (written_of rewrites.reads.asks.part rewrites.after, by_rewriting rewrites, refl)
  cause_of_output _ (by_running runs outcome gives) =
      cause_at_end (output_of (module_run runs.reads) outcome) outcome.end refl (by_running runs outcome gives)
  cause_of_output _ (by_running_rewritten runs) = cause_at_end (ended_with runs.text (lines_of_run runs.writes) runs.meant.end) runs.meant.end refl (by_running_rewritten runs)
  cause_of_output _ (by_executing runs outcome text writes) = cause_at_end (ended_with text (lines_of_run writes) outcome.end) outcome.end refl (by_executing runs outcome text writes)
  cause_of_output output (by_generating asks _ generating) = cause_of_generated asks output (Go output) refl generating

  -- and so has its status
  pub CauseOf-explained : (step : Step Output) → Explains step words given → CauseOf (status_of_step step) words given
  CauseOf-explained (Go output) explained = cause_of_output output explained
  CauseOf-explained (Stop cause.Words) explained = explained
  CauseOf-explained (Stop (cause.ReadFault name)) explained = (name, explained)
  CauseOf-explained (Stop (cause.TooLong name)) explained = (name, explained)
  CauseOf-explained (Stop (cause.Module fault)) explained = (fault, explained)
  CauseOf-explained (Stop (cause.Input line)) explained = (line, explained)
  CauseOf-explained (Stop (cause.Plan fault)) explained = (fault, explained)
  CauseOf-explained (Stop (cause.Map fault)) explained = (fault, explained)
  CauseOf-explained (Stop (cause.Check fault)) explained = (fault, explained)

  -- ---- and each cause its step

  commanded : (command : Option Command) (step : Step Output) → command_of words ≡ command → command_work command given step → work words given step
  commanded command step is due = subst (λ (c : Option Command). command_work c given step) (sym is) due

  commanded_as : (engine : Engine) (request : RunRequest) (step : Step Output) → IsAskedFor words engine request → run_work engine request given step → work words given step
  commanded_as _ _ step (by_source request is) due = commanded (Some (Source request)) step is due
  commanded_as _ _ step (by_run request map_file places trace is) due = commanded (Some (Run request map_file places trace)) step is due
  commanded_as _ _ step (by_exec request map_file trust places trace is) due = commanded (Some (Exec request map_file trust places trace)) step is due

  commanded_run : (asks : AsksForRun words) (step : Step Output) → run_work asks.engine asks.request given step → work words given step
  commanded_run asks step due = commanded_as asks.engine asks.request step asks.asked due

  -- the work comes to a step of this status
  abbrev pub ComesWith : Status → Type 0
  ComesWith status = (step : Step Output) × work words given step × (status_of_step step ≡ status)

  pub comes-NoCommand : NoCommand words given → ComesWith WordsRefused
  comes-NoCommand none = (Stop cause.Words, commanded None (Stop cause.Words) none refl, refl)

-- the text of the module that the words name is within the limit
abbrev pub IsWithin : List (List ℕ) → Given → Type 0
IsWithin words given = (form : TextForm) (name text : List ℕ) → NamesModule words form name → given.module_file ≡ Bytes text → length text ≤ 16777216

module _ (words : List (List ℕ)) (given : Given) (within : IsWithin words given) where
  -- the module that is to run is one of its form
  pub module_is : (accepted : ReadsModule words given) → IsModuleOf (form_of accepted.asks.engine) (content_of (form_of accepted.asks.engine) accepted.lines)
  module_is accepted =
      let form = form_of accepted.asks.engine in
      module_of_accepted form accepted.text accepted.lines (within form accepted.asks.request.code accepted.text (to_run accepted.asks) accepted.taken) accepted.accepted

  with_module : (accepted : ReadsModule words given) (step : Step Output) →
      after_module accepted.asks.request.input accepted.asks.request.plan accepted.asks.engine (content_of (form_of accepted.asks.engine) accepted.lines) accepted.asks.request.steps
      (given.input, (given.plan, given.map_file)) step → work words given step
  with_module accepted step rest =
      let form = form_of accepted.asks.engine in
      commanded_run words given accepted.asks step
      (goes_on (module_of form accepted.lines) step
      (subst (λ (taken : Taken). file_phase accepted.asks.request.code (run_module_phase accepted.asks.engine) taken (Go (module_of form accepted.lines))) (sym accepted.taken)
      (goes_on (module_of form accepted.lines) (Go (module_of form accepted.lines)) (as-accepted form accepted.text accepted.lines accepted.accepted)
      (as-trusted accepted.asks.engine (module_of form accepted.lines) (module_is accepted) accepted.trusted)))
      rest)

  with_source : (reads : ReadsToRewrite words given) (step : Step Output) → Then (Rewriting (content_of text_forms.Source reads.lines)) (after_rewriting reads.asks.part) step → work words given step
  with_source reads step rest =
      commanded words given (Some (Rewrite reads.asks.module_file reads.asks.part)) step reads.asks.command
      (goes_on (module_of text_forms.Source reads.lines) step
      (subst (λ (taken : Taken). file_phase reads.asks.module_file (module_phase text_forms.Source) taken (Go (module_of text_forms.Source reads.lines))) (sym reads.taken)
      (as-accepted text_forms.Source reads.text reads.lines reads.accepted))
      rest)

  with_input : (reads : ReadsInput words given) (step : Step Output) →
      after_input reads.accepts.asks.request.plan reads.accepts.asks.engine (content_of (form_of reads.accepts.asks.engine) reads.accepts.lines) reads.numbers reads.accepts.asks.request.steps
      (given.plan, given.map_file) step → work words given step
  with_input reads step rest =
      with_module reads.accepts step
      (goes_on reads.numbers step
      (subst (λ (taken : Taken). file_phase reads.accepts.asks.request.input ReadingInput taken (Go reads.numbers)) (sym reads.taken)
      (has_numbers reads.numbers reads.are reads.faultless))
      rest)

  with_plan : (reads : ReadsPlan words given) (step : Step Output) →
      run_phase (engine_asked reads) (module_run reads) reads.reads.numbers reads.plan (steps_asked reads) given.map_file step → work words given step
  with_plan reads step rest =
      with_input reads.reads step
      (goes_on reads.plan step
      (subst (λ (taken : Taken). file_phase reads.reads.accepts.asks.request.plan ReadingPlan taken (Go reads.plan)) (sym reads.taken)
      (planned reads.plan reads.is reads.faultless))
      rest)

  phase_by : (reads : ReadsPlan words given) (engine : Engine) (step : Step Output) → engine_asked reads ≡ engine →
      run_phase engine (module_run reads) reads.reads.numbers reads.plan (steps_asked reads) given.map_file step → work words given step
  phase_by reads engine step is due =
      with_plan reads step
      (subst (λ (e : Engine). run_phase e (module_run reads) reads.reads.numbers reads.plan (steps_asked reads) given.map_file step) (sym is) due)

  -- what runs on the machine over a stack map
  over_map_phase : (reads : ReadsPlan words given) (engine : Engine) → engine_asked reads ≡ engine → (code : ModuleContent) → IsExecuted engine (module_run reads) code → (step : Step Output) →
      Then (map_phase code (map_named engine) given.map_file) (Executing code reads.reads.numbers reads.plan (steps_asked reads) (shown_by engine)) step → work words given step
  over_map_phase reads Meaning is code runs step due = absurd runs
  over_map_phase reads (Rewriter None shows) is code runs step due = absurd runs
  over_map_phase reads (Rewriter (Some name) shows) is code runs step due =
      phase_by reads (Rewriter (Some name) shows) step is
      (goes_on code step (rewritten code runs (subst (λ (e : Engine). IsTrusted e (module_run reads)) is reads.reads.accepts.trusted)) due)
  over_map_phase reads (Machine map_file trust shows) is code runs step due =
      phase_by reads (Machine map_file trust shows) step is
      (subst (λ (c : ModuleContent). Then (map_phase c map_file given.map_file) (Executing c reads.reads.numbers reads.plan (steps_asked reads) shows) step) runs due)

  -- the work of a run is the source meaning, or the machine's run
  pub work-ends : (output : Output) → Ends words given output → work words given (Go output)
  work-ends _ (by_showing shows) =
      commanded words given (Some (Show shows.asks.module_file)) (Go (shown (content_of text_forms.Source shows.lines))) shows.asks.command
      (goes_on (module_of text_forms.Source shows.lines) (Go (shown (content_of text_forms.Source shows.lines)))
      (subst (λ (taken : Taken). file_phase shows.asks.module_file (module_phase text_forms.Source) taken (Go (module_of text_forms.Source shows.lines))) (sym shows.taken)
      (as-accepted text_forms.Source shows.text shows.lines shows.accepted))
      refl)
  work-ends _ (by_checking checks) =
      let whole = module_of text_forms.Rewritten checks.lines in
      commanded words given (Some (Check checks.asks.module_file)) (Go passed) checks.asks.command
      (goes_on whole (Go passed)
      (subst (λ (taken : Taken). file_phase checks.asks.module_file checked_phase taken (Go whole)) (sym checks.taken)
      (goes_on whole (Go whole) (as-accepted text_forms.Rewritten checks.text checks.lines checks.accepted) (verified checks.verified)))
      refl)
  work-ends _ (by_rewriting rewrites) =
      let output = written_of rewrites.reads.asks.part rewrites.after in
      with_source rewrites.reads (Go output) (goes_on rewrites.after (Go output) (rewritten rewrites.after rewrites.is rewrites.few) refl)
  work-ends _ (by_running runs outcome gives) =
      phase_by runs.reads Meaning (Go (output_of (module_run runs.reads) outcome)) runs.engine (comes outcome gives)
  work-ends _ (by_running_rewritten runs) =
      phase_by runs.reads (Rewriter None runs.shows) (Go (ended_with runs.text (lines_of_run runs.writes) runs.meant.end)) runs.engine
      (comes_rewritten runs.meant runs.means runs.after runs.rewritten runs.machine runs.text runs.writes)
  work-ends _ (by_executing runs outcome text writes) =
      let output = ended_with text (lines_of_run writes) outcome.end in
      over_map_phase runs.reads (engine_asked runs.reads) refl runs.code runs.runs (Go output) (goes_on runs.map (Go output) runs.takes (executes outcome text writes))
  work-ends output (by_generating asks _ generating) = commanded words given (Some (Gen asks.seed asks.size asks.steps)) (Go output) asks.command generating

  pub comes-EndsWith : (status : Status) → EndsWith status words given → ComesWith words given status
  comes-EndsWith status ends = (Go ends.0, work-ends ends.0 ends.1, ends.2)

  module_stops : (form : TextForm) (name : List ℕ) (reason : Cause) → NamesModule words form name → file_phase name (module_phase form) given.module_file (Stop reason) →
      work words given (Stop reason)
  module_stops _ _ reason (to_show asks) stopped = commanded words given (Some (Show asks.module_file)) (Stop reason) asks.command (stops reason stopped)
  module_stops _ _ reason (to_rewrite asks) stopped = commanded words given (Some (Rewrite asks.module_file asks.part)) (Stop reason) asks.command (stops reason stopped)
  module_stops _ _ reason (to_check asks) stopped =
      commanded words given (Some (Check asks.module_file)) (Stop reason) asks.command
      (stops reason (file-stops asks.module_file (module_phase text_forms.Rewritten) Judging given.module_file reason stopped))
  module_stops _ _ reason (to_run asks) stopped =
      commanded_run words given asks (Stop reason)
      (stops reason (file-stops asks.request.code (module_phase (form_of asks.engine)) (judged asks.engine) given.module_file reason stopped))

  large_stops : (name text : List ℕ) → NamesSource words name → given.module_file ≡ Bytes text → (lines : List Line) → IsAccepted text_forms.Source text lines
      → HasManyRelocates (content_of text_forms.Source lines) → work words given (Stop (cause.Module TooManyRelocations))
  large_stops _ text (to_write asks) taken lines accepted many =
      let reason = cause.Module TooManyRelocations in
      with_source (record { asks = asks; text = text; taken = taken; lines = lines; accepted = accepted }) (Stop reason) (stops reason (has_too_many many))
  large_stops _ text (to_run_rewritten request map_file places trace is) taken lines accepted many =
      let reason = cause.Module TooManyRelocations in
      let whole = module_of text_forms.Source lines in
      commanded words given (Some (Run request map_file places trace)) (Stop reason) is
      (stops reason (subst (λ (t : Taken). file_phase request.code (run_module_phase (Rewriter map_file (showing places trace))) t (Stop reason)) (sym taken)
      (goes_on whole (Stop reason) (as-accepted text_forms.Source text lines accepted) (stops reason (has_too_many many)))))

  stops-HasModuleFault : (fault : ModuleFault) → HasModuleFault words given fault → work words given (Stop (cause.Module fault))
  stops-HasModuleFault _ (in_text fault has) =
      let reason = cause.Module fault in
      module_stops has.form has.name reason has.names
      (subst (λ (t : Taken). file_phase has.name (module_phase has.form) t (Stop reason)) (sym has.taken) (as-refused has.form has.text fault has.has))
  stops-HasModuleFault _ (too_many large) = large_stops large.name large.text large.names large.taken large.lines large.accepted large.many

  pub comes-HasSomeModuleFault : HasSomeModuleFault words given → ComesWith words given ModuleRefused
  comes-HasSomeModuleFault has = (Stop (cause.Module has.0), stops-HasModuleFault has.0 has.1, refl)

  judge_stops : (name text : List ℕ) → NamesJudged words name → given.module_file ≡ Bytes text → (lines : List Line) → IsAccepted text_forms.Rewritten text lines → (fault : CheckFault)
      → IsLeastCheckFault (module_of text_forms.Rewritten lines) fault.line fault.code → work words given (Stop (cause.Check fault))
  judge_stops _ text (to_judge asks) taken lines accepted fault least =
      let reason = cause.Check fault in
      let whole = module_of text_forms.Rewritten lines in
      commanded words given (Some (Check asks.module_file)) (Stop reason) asks.command
      (stops reason (subst (λ (t : Taken). file_phase asks.module_file checked_phase t (Stop reason)) (sym taken)
      (goes_on whole (Stop reason) (as-accepted text_forms.Rewritten text lines accepted) (said_no fault least))))
  judge_stops _ text (to_run_judged request map_file places trace is) taken lines accepted fault least =
      let reason = cause.Check fault in
      let whole = module_of text_forms.Rewritten lines in
      commanded words given (Some (Exec request map_file false places trace)) (Stop reason) is
      (stops reason (subst (λ (t : Taken). file_phase request.code (run_module_phase (Machine map_file false (showing places trace))) t (Stop reason)) (sym taken)
      (goes_on whole (Stop reason) (as-accepted text_forms.Rewritten text lines accepted) (said_no fault least))))

  pub comes-HasSomeCheckFault : HasSomeCheckFault words given → ComesWith words given CheckSaidNo
  comes-HasSomeCheckFault has =
      let fault = has.1 in
      (Stop (cause.Check has.0), judge_stops fault.name fault.text fault.names fault.taken fault.lines fault.accepted has.0 fault.least, refl)

  pub comes-HasSomeInputFault : HasSomeInputFault words given → ComesWith words given InputRefused
  comes-HasSomeInputFault has =
      let reason = cause.Input has.0 in
      let fault = has.1 in (
        Stop reason,
        with_module fault.accepts (Stop reason)
            (stops reason (subst (λ (t : Taken). file_phase fault.accepts.asks.request.input ReadingInput t (Stop reason)) (sym fault.taken)
            (no_input has.0 fault.first))),
        refl,
      )

  pub comes-HasSomePlanFault : HasSomePlanFault words given → ComesWith words given PlanRefused
  comes-HasSomePlanFault has =
      let reason = cause.Plan has.0 in
      let fault = has.1 in (
        Stop reason,
        with_input fault.reads (Stop reason)
            (stops reason (subst (λ (t : Taken). file_phase fault.reads.accepts.asks.request.plan ReadingPlan t (Stop reason)) (sym fault.taken)
            (no_plan has.0 fault.least))),
        refl,
      )

  -- where the stack map stops the work
  map_stops_by : (reads : ReadsPlan words given) (engine : Engine) → engine_asked reads ≡ engine → (name : List ℕ) → map_named engine ≡ Some name → (reason : Cause)
      → file_phase name ReadingMap given.map_file (Stop reason) → work words given (Stop reason)
  map_stops_by reads Meaning is name named reason stopped = absurd (none_named name named)
  map_stops_by reads (Rewriter None shows) is name named reason stopped = absurd (none_named name named)
  map_stops_by reads (Rewriter (Some own) shows) is name named reason stopped =
      let few = subst (λ (e : Engine). IsTrusted e (module_run reads)) is reads.reads.accepts.trusted in
      let made = source_is_rewritten (module_run reads) (subst (λ (e : Engine). IsModuleOf (form_of e) (module_run reads)) is (module_is reads.reads.accepts)) in
      phase_by reads (Rewriter (Some own) shows) (Stop reason) is
      (goes_on made.0 (Stop reason) (rewritten made.0 made.1 few)
      (stops reason (subst (λ (n : List ℕ). file_phase n ReadingMap given.map_file (Stop reason)) (sym (one_named own name named)) stopped)))
  map_stops_by reads (Machine None trust shows) is name named reason stopped = absurd (none_named name named)
  map_stops_by reads (Machine (Some own) trust shows) is name named reason stopped =
      phase_by reads (Machine (Some own) trust shows) (Stop reason) is
      (stops reason (subst (λ (n : List ℕ). file_phase n ReadingMap given.map_file (Stop reason)) (sym (one_named own name named)) stopped))

  map_phase_stops : (reads : ReadsForMap words given) (reason : Cause) → file_phase reads.map_file ReadingMap given.map_file (Stop reason) → work words given (Stop reason)
  map_phase_stops reads reason stopped = map_stops_by reads.reads (engine_asked reads.reads) refl reads.map_file reads.named reason stopped

  pub comes-HasSomeMapFault : HasSomeMapFault words given → ComesWith words given MapRefused
  comes-HasSomeMapFault has =
      let reason = cause.Map has.0 in
      let fault = has.1 in (
        Stop reason,
        map_phase_stops fault.reads reason
            (subst (λ (t : Taken). file_phase fault.reads.map_file ReadingMap t (Stop reason)) (sym fault.taken) (no_map has.0 fault.first)),
        refl,
      )

  file_stops : (what : Taken) (reason : List ℕ → Cause) → ((A : Type 0) (name : List ℕ) (read : List ℕ → Step A → Type 0) → file_phase name read what (Stop (reason name))) →
      (name : List ℕ) → FileGives words given what name → work words given (Stop (reason name))
  file_stops what reason stopping _ (module_gives form name names is) =
      module_stops form name (reason name) names
      (subst (λ (t : Taken). file_phase name (module_phase form) t (Stop (reason name))) (sym is) (stopping LinedModule name (module_phase form)))
  file_stops what reason stopping _ (input_gives accepted is) =
      let name = accepted.asks.request.input in
      with_module accepted (Stop (reason name))
      (stops (reason name) (subst (λ (t : Taken). file_phase name ReadingInput t (Stop (reason name))) (sym is) (stopping (List ℤ) name ReadingInput)))
  file_stops what reason stopping _ (plan_gives reads is) =
      let name = reads.accepts.asks.request.plan in
      with_input reads (Stop (reason name))
      (stops (reason name) (subst (λ (t : Taken). file_phase name ReadingPlan t (Stop (reason name))) (sym is) (stopping (List PlanLine) name ReadingPlan)))
  file_stops what reason stopping _ (map_gives reads is) =
      let name = reads.map_file in
      map_phase_stops reads (reason name) (subst (λ (t : Taken). file_phase name ReadingMap t (Stop (reason name))) (sym is) (stopping StackMap name ReadingMap))

  pub comes-CannotRead : CannotRead words given → ComesWith words given ReadFault
  comes-CannotRead cannot =
      (Stop (cause.ReadFault cannot.0), file_stops Faulty cause.ReadFault (λ A name read. refl) cannot.0 cannot.1, refl)

  pub comes-IsTooLong : IsTooLong words given → ComesWith words given TooLong
  comes-IsTooLong long = (Stop (cause.TooLong long.0), file_stops Longer cause.TooLong (λ A name read. refl) long.0 long.1, refl)

-- a file that could not be read had its fault counted
module _ (words : List (List ℕ)) (given : Given) (files : FilesSeen) (may : MayGiveNamed files (command_of words) given) where
  may_as : (engine : Engine) (request : RunRequest) → IsAskedFor words engine request → MayGiveAll files engine request given
  may_as _ _ (by_source request is) = subst (λ (command : Option Command). MayGiveNamed files command given) is may
  may_as _ _ (by_run request map_file places trace is) = subst (λ (command : Option Command). MayGiveNamed files command given) is may
  may_as _ _ (by_exec request map_file trust places trace is) = subst (λ (command : Option Command). MayGiveNamed files command given) is may

  may_of_run : (asks : AsksForRun words) → MayGiveAll files asks.engine asks.request given
  may_of_run asks = may_as asks.engine asks.request asks.asked

  may_of_module : (form : TextForm) (name : List ℕ) → NamesModule words form name → MayGive files name given.module_file
  may_of_module _ _ (to_show asks) = subst (λ (command : Option Command). MayGiveNamed files command given) asks.command may
  may_of_module _ _ (to_rewrite asks) = subst (λ (command : Option Command). MayGiveNamed files command given) asks.command may
  may_of_module _ _ (to_check asks) = subst (λ (command : Option Command). MayGiveNamed files command given) asks.command may
  may_of_module _ _ (to_run asks) = (may_of_run asks).0

  pub within_may : IsWithin words given
  within_may form name text names is = within_given files name text given.module_file is (may_of_module form name names)

  rose_at : (name : List ℕ) (taken : Taken) → taken ≡ Faulty → MayGive files name taken → Rose (files.faults_before name) (files.faults_after name)
  rose_at name taken is gave = subst (λ (t : Taken). MayGive files name t) is gave

  pub Rose-gives : (name : List ℕ) → FileGives words given Faulty name → Rose (files.faults_before name) (files.faults_after name)
  Rose-gives _ (module_gives form name names is) = rose_at name given.module_file is (may_of_module form name names)
  Rose-gives _ (input_gives accepted is) = rose_at accepted.asks.request.input given.input is (may_of_run accepted.asks).1.0
  Rose-gives _ (plan_gives reads is) = rose_at reads.accepts.asks.request.plan given.plan is (may_of_run reads.accepts.asks).1.1.0
  Rose-gives _ (map_gives reads is) =
      rose_at reads.map_file given.map_file is
      (subst (λ (file : Option (List ℕ)). MayGiveFile files file given.map_file) reads.named (may_of_run reads.reads.reads.accepts.asks).1.1.1)
