-- What the run of a generated module answers is what the source meaning says of it.
use Rattle.std.proofs.Common.{◌≡◌, ℕ, List, [], ◌++◌, length, ap, subst, ◌∙◌}
use Rattle.sp_ids.specs.declared.ends.End.{End}
use Rattle.ir_ast.specs.Faults.GroupShape.{is_statepoint}
use Rattle.ir_ast.specs.Modules.{ModuleContent}
use Rattle.ir_cfg.specs.SourceModules.{IsSourceModule}
use Rattle.ir_cfg.specs.TargetModules.{IsTargetModule}
use Rattle.generated_forms.specs.Modules.{generated}
use Rattle.run_tasks.specs.declared.runs.Ran.{Ran}
use Rattle.map_bytes.specs.Maps.{map_bytes}
use Rattle.move_plan.specs.Plans.{go}
use Rattle.moves_unseen.specs.Waits.{IsSound}
use Rattle.object_meaning.specs.Texts.{function_name}
use Rattle.runs_unseen.proofs.SeenRuns.{seen_here}
use Rattle.rewritten_runs.proofs.NameLaws.{names_are_kept}
use Rattle.sp_rewrite.specs.Statements.{IsRewritten}
use Rattle.sp_rewrite.proofs.RewrittenLaws.{rewriting_is_verified, rewriting_keeps_meaning}
use Rattle.stackmap_write.specs.ModuleMaps.{map_of}
use Rattle.tool_report.specs.Closings.{closing_line}
use Rattle.gen_report.specs.Runs.{IsFlippingRun, told_of}
use Rattle.gen_report.specs.Summaries.{IsSummary, IsSummaryOf, count_lines, flipping, instructions_with, is_relocate}

-- the counts of a summary are those of the modules, and its closing line is that of the run
pub summarized : (seed size steps : ℕ) (content after : ModuleContent) (ran : Ran) (functions statepoints relocates bytes : ℕ) → content ≡ generated seed size → IsSourceModule content → IsRewritten content after
    → IsTargetModule after → IsFlippingRun after steps ran → functions ≡ length content.funcs → statepoints ≡ instructions_with is_statepoint after
    → relocates ≡ instructions_with is_relocate after → bytes ≡ length (map_bytes (map_of after)) → IsSummary seed size steps (told_of functions statepoints relocates bytes after ran)
summarized seed size steps content after ran functions statepoints relocates bytes made source is target run f s r b =
    let sound : IsSound after = record { target = target; verified = rewriting_is_verified content after source is } in
    let seen = seen_here after sound [] flipping steps run.machine run.gives in
    let meant = seen.outcome in
    let machine = run.machine in
    let means = (rewriting_keeps_meaning content after source is [] (go flipping) steps meant).1 seen.gives in
    let counts : count_lines functions statepoints relocates bytes ran.lines
    ≡ count_lines (length content.funcs) (instructions_with is_statepoint after) (instructions_with is_relocate after) (length (map_bytes (map_of after))) meant.printed =
    ap (λ (n : ℕ). count_lines n statepoints relocates bytes ran.lines) f
    ∙ (ap (λ (n : ℕ). count_lines (length content.funcs) n relocates bytes ran.lines) s
    ∙ (ap (λ (n : ℕ). count_lines (length content.funcs) (instructions_with is_statepoint after) n bytes ran.lines) r
    ∙ (ap (λ (n : ℕ). count_lines (length content.funcs) (instructions_with is_statepoint after) (instructions_with is_relocate after) n ran.lines) b
    ∙ ap (count_lines (length content.funcs) (instructions_with is_statepoint after) (instructions_with is_relocate after) (length (map_bytes (map_of after))))
    (ap (λ (answer : Ran). answer.lines) run.answer ∙ seen.seen.printed)))) in
    let closes : closing_line ran.end (function_name after ran.func.0) ran.steps ran.events ≡ closing_line meant.end (function_name content meant.func) meant.steps meant.events =
    ap (λ (answer : Ran). closing_line answer.end (function_name after answer.func.0) answer.steps answer.events) run.answer
    ∙ (ap (λ (e : End). closing_line e (function_name after machine.func) machine.steps machine.events) seen.seen.end
    ∙ (ap (λ (f : ℕ). closing_line meant.end (function_name after f) machine.steps machine.events) seen.seen.func
    ∙ (ap (λ (name : List ℕ). closing_line meant.end name machine.steps machine.events) (names_are_kept content after is meant.func)
    ∙ (ap (λ (s : ℕ). closing_line meant.end (function_name content meant.func) s machine.events) seen.seen.steps
    ∙ ap (closing_line meant.end (function_name content meant.func) meant.steps) seen.seen.events)))) in
    let closing = closing_line ran.end (function_name after ran.func.0) ran.steps ran.events in
    subst (λ (c : ModuleContent). IsSummaryOf c steps (told_of functions statepoints relocates bytes after ran)) made
    (record {
      after = after;
      rewritten = is;
      meant = meant;
      means = means;
      text =
          ap (λ (lines : List ℕ). lines ++ closing) counts
          ∙ ap (λ (line : List ℕ). count_lines (length content.funcs) (instructions_with is_statepoint after) (instructions_with is_relocate after) (length (map_bytes (map_of after))) meant.printed ++ line) closes;
      end = ap (λ (answer : Ran). answer.end) run.answer ∙ seen.seen.end;
    })
