-- The work over texts without a fault comes to its end.
use Rattle.std.proofs.Common.{◌≡◌, ℕ, inl, inr, List, [], Bool, Option, Some, None, refl, sym, subst}
use Rattle.std.specs.Prelude.{ℤ}
use Rattle.std.specs.List.{concat}
use Rattle.ir_ast.specs.declared.modules.Form.TheVariants as text_forms
use Rattle.ir_ast.specs.Modules.{ModuleContent}
use Rattle.ir_cfg.specs.TypedModules.{IsModuleOf}
use Rattle.map_bytes.specs.Maps.{StackMap}
use Rattle.stackmap_write.specs.ModuleMaps.{map_of}
use Rattle.move_plan.specs.declared.plan_lines.PlanLine.{PlanLine}
use Rattle.move_plan.specs.Inputs.{HasNoInputFault, IsInputOf}
use Rattle.move_plan.specs.PlanFaults.{HasNoFault as HasNoPlanFault}
use Rattle.move_plan.specs.Plans.{IsPlanOf, go}
use Rattle.move_plan.proofs.EitherLaws.{input_or_fault, plan_or_fault}
use Rattle.object_meaning.specs.SourceRuns.{source_setting}
use Rattle.object_meaning.proofs.OutcomeLaws.{gives_some}
use Rattle.machine_meaning.specs.Code.{machinery_of}
use Rattle.machine_meaning.specs.MachineRuns.{MachineOutcome, MachineGives}
use Rattle.runs_unseen.proofs.machine_ends.EndLaws.{each_run_ends}
use Rattle.run_texts.specs.RunTexts.{RunWrites, run_lines}
use Rattle.sp_rewrite.specs.Statements.{IsRewritten}
use Rattle.sp_rewrite.proofs.RewrittenLaws.{source_is_rewritten}
use Rattle.generated_forms.specs.Modules.{generated}
use Rattle.generated_source.proofs.Whole.{generated_is_source}
use Rattle.gen_report.specs.Summaries.{flipping, summary_of}
use Rattle.ir_machine.specs.declared.run.Shows.{Shows}
use Rattle.statepoint_tool.specs.Causes.{Ends, IsExecuted, ReadsPlan, by_checking, by_executing, by_generating, by_rewriting, by_running, by_running_rewritten, by_showing, engine_asked, module_run, shown_by, steps_asked, to_rewrite}
use Rattle.statepoint_tool.specs.Complete.{GivesMap, IsFaultless, MapIsGood, ReadsAll, may_check, may_generate, may_rewrite, may_run, may_show}
use Rattle.statepoint_tool.specs.Steps.{Go}
use Rattle.statepoint_tool.specs.Taken.{Taken, file_phase}
use Rattle.statepoint_tool.specs.Work.{Given, Output, ReadingMap, content_of, ended_with, form_of, generates, has_map, map_named, map_phase, output_of, passed, shown, written_of, lines_of_run, told_with}
use Rattle.statepoint_tool.specs.declared.engine.Engine.{Engine}
use Rattle.statepoint_tool.specs.declared.engine.Engine.TheVariants.{Meaning, Rewriter, Machine}
use Rattle.statepoint_tool.proofs.AcceptedLaws.{module_of_accepted}
use Rattle.statepoint_tool.proofs.CauseLaws.{IsWithin, module_is}
use Rattle.statepoint_tool.proofs.SizeLaws.{size_fits}

-- ---- a text without a fault stands for something

input_of : (text : List ℕ) → HasNoInputFault text → (numbers : List ℤ) × IsInputOf text numbers
input_of text faultless = elim (input_or_fault text) [
  | inl stands ↦ (stands.0, stands.1)
  | inr fault ↦ absurd (faultless fault.0 fault.1.is)
]

plan_of : (text : List ℕ) → HasNoPlanFault text → (plan : List PlanLine) × IsPlanOf text plan
plan_of text faultless = elim (plan_or_fault text) [
  | inl stands ↦ (stands.0, stands.1)
  | inr fault ↦ absurd (faultless fault.0 fault.1 fault.2.is)
]

-- ---- a run on the machine has a text

pub record Texted (content : ModuleContent) (map : StackMap) (input : List ℤ) (plan : List PlanLine) (bound : ℕ) (places trace : Bool) (machine : MachineOutcome) : Type 0 where
  pub text : List ℕ
  pub writes : RunWrites content map input plan bound places trace machine text

pub texted : (content : ModuleContent) (map : StackMap) (input : List ℤ) (plan : List PlanLine) (bound : ℕ) (places trace : Bool) (machine : MachineOutcome)
    → MachineGives content map input plan bound machine → Texted content map input plan bound places trace machine
texted content map input plan bound places trace machine gives = record {
  text = concat (run_lines content (machinery_of content map plan bound) places trace input gives.run.within machine.end gives.last.state);
  writes = record { gives = gives; is = refl };
}

-- ---- the work

abbrev pub ComesToEnd : List (List ℕ) → Given → Type 0
ComesToEnd words given = (output : Output) × Ends words given output

module _ (words : List (List ℕ)) (given : Given) (within : IsWithin words given) where
  abbrev reads_of : (all : ReadsAll words given) → (numbers : List ℤ) → IsInputOf all.input_text numbers → (plan : List PlanLine) → IsPlanOf all.plan_text plan → ReadsPlan words given
  reads_of all numbers are plan is = record {
    reads = record { accepts = all.accepts; text = all.input_text; taken = all.input_taken; numbers = numbers; are = are; faultless = all.input_faultless };
    text = all.plan_text;
    taken = all.plan_taken;
    plan = plan;
    is = is;
    faultless = all.plan_faultless;
  }

  rewritten_of : (reads : ReadsPlan words given) (map_file : Option (List ℕ)) (shows : Shows) → engine_asked reads ≡ Rewriter map_file shows
      → (after : ModuleContent) × IsRewritten (module_run reads) after
  rewritten_of reads map_file shows is =
      source_is_rewritten (module_run reads) (subst (λ (e : Engine). IsModuleOf (form_of e) (module_run reads)) is (module_is words given within reads.reads.accepts))

  map_taken : (name : List ℕ) (good : GivesMap given.map_file) → file_phase name ReadingMap given.map_file (Go good.map)
  map_taken name good = subst (λ (taken : Taken). file_phase name ReadingMap taken (Go good.map)) (sym good.taken) (has_map good.map good.is)

  -- a module runs on the machine over this stack map
  executed : (reads : ReadsPlan words given) (code : ModuleContent) → IsExecuted (engine_asked reads) (module_run reads) code → (map : StackMap)
      → map_phase code (map_named (engine_asked reads)) given.map_file (Go map) → ComesToEnd words given
  executed reads code runs map takes =
      let shows = shown_by (engine_asked reads) in
      let ended = each_run_ends (machinery_of code map reads.plan (steps_asked reads)) reads.reads.numbers in
      let own = texted code map reads.reads.numbers reads.plan (steps_asked reads) shows.places shows.trace ended.outcome ended.gives in
      (ended_with own.text (lines_of_run own.writes) ended.outcome.end, by_executing (record { reads = reads; code = code; runs = runs; map = map; takes = takes }) ended.outcome own.text own.writes)

  runs_by : (reads : ReadsPlan words given) (engine : Engine) → engine_asked reads ≡ engine → MapIsGood (map_named engine) given.map_file → ComesToEnd words given
  runs_by reads Meaning is good =
      let found = gives_some (source_setting (module_run reads) (go reads.plan) (steps_asked reads)) reads.reads.numbers in
      (output_of (module_run reads) found.outcome, by_running (record { reads = reads; engine = is }) found.outcome found.gives)
  runs_by reads (Rewriter None shows) is good =
      let made = rewritten_of reads None shows is in
      let found = gives_some (source_setting (module_run reads) (go reads.plan) (steps_asked reads)) reads.reads.numbers in
      let ended = each_run_ends (machinery_of made.0 (map_of made.0) reads.plan (steps_asked reads)) reads.reads.numbers in
      let own = texted made.0 (map_of made.0) reads.reads.numbers reads.plan (steps_asked reads) shows.places shows.trace ended.outcome ended.gives in (
        ended_with own.text (lines_of_run own.writes) found.outcome.end,
        by_running_rewritten (record {
          reads = reads;
          shows = shows;
          engine = is;
          meant = found.outcome;
          means = found.gives;
          after = made.0;
          rewritten = made.1;
          machine = ended.outcome;
          text = own.text;
          writes = own.writes;
        }),
      )
  runs_by reads (Rewriter (Some name) shows) is good =
      let made = rewritten_of reads (Some name) shows is in
      executed reads made.0 (subst (λ (e : Engine). IsExecuted e (module_run reads) made.0) (sym is) made.1) good.map
      (subst (λ (e : Engine). map_phase made.0 (map_named e) given.map_file (Go good.map)) (sym is) (map_taken name good))
  runs_by reads (Machine None trust shows) is good =
      let code = module_run reads in
      executed reads code (subst (λ (e : Engine). IsExecuted e code code) (sym is) refl) (map_of code)
      (subst (λ (e : Engine). map_phase code (map_named e) given.map_file (Go (map_of code))) (sym is) refl)
  runs_by reads (Machine (Some name) trust shows) is good =
      let code = module_run reads in
      executed reads code (subst (λ (e : Engine). IsExecuted e code code) (sym is) refl) good.map
      (subst (λ (e : Engine). map_phase code (map_named e) given.map_file (Go good.map)) (sym is) (map_taken name good))

  pub faultless_ends : IsFaultless words given → ComesToEnd words given
  faultless_ends (may_show shows) = (shown (content_of text_forms.Source shows.lines), by_showing shows)
  faultless_ends (may_check checks) = (passed, by_checking checks)
  faultless_ends (may_rewrite reads few) =
      let is = module_of_accepted text_forms.Source reads.text reads.lines (within text_forms.Source reads.asks.module_file reads.text (to_rewrite reads.asks) reads.taken) reads.accepted in
      let made = source_is_rewritten (content_of text_forms.Source reads.lines) is in
      (written_of reads.asks.part made.0, by_rewriting (record { reads = reads; after = made.0; is = made.1; few = few }))
  faultless_ends (may_run all) =
      let numbers = input_of all.input_text all.input_faultless in
      let plan = plan_of all.plan_text all.plan_faultless in
      runs_by (reads_of all numbers.0 numbers.1 plan.0 plan.1) all.accepts.asks.engine refl all.map_is
  faultless_ends (may_generate asks) =
      let content = generated asks.seed asks.size in
      let made = source_is_rewritten content (generated_is_source asks.seed asks.size (size_fits words asks.seed asks.size asks.steps asks.command).1) in
      let found = gives_some (source_setting content (go flipping) asks.steps) [] in
      let output = told_with (summary_of content made.0 found.outcome) found.outcome.end in
      (output, by_generating asks output (generates made.0 made.1 found.outcome found.gives))
