-- Runs over a module's own stack map, as the meaning on objects has them.
use Rattle.std.proofs.Common.{◌≡◌, ℕ, ℤ, suc, Bool, true, false, List, [], ◌∷◌, ◌++◌, map, length, Some, refl, ap, ◌∙◌, arith}
use Rattle.std.specs.Prelude.{slice_get}
use Rattle.std.specs.List.{concat}
use Rattle.ir_ast.specs.Layouts.{ObjectLayout}
use Rattle.ir_ast.specs.Modules.{ModuleContent}
use Rattle.ir_ast.specs.Objects.{Object, footprint}
use Rattle.move_plan.specs.declared.plan_lines.PlanLine.{PlanLine}
use Rattle.moving_heap.specs.declared.stands.Stand.{Stand}
use Rattle.object_meaning.specs.Outcomes.{Outcome, sizes_in}
use Rattle.object_meaning.specs.Texts.{function_name}
use Rattle.stackmap_write.specs.ModuleMaps.{map_of}
use Rattle.machine_meaning.specs.MachineRuns.{MachineOutcome}
use Rattle.moves_unseen.specs.Statements.{IsSeen}
use Rattle.moves_unseen.specs.Waits.{IsSound}
use Rattle.runs_unseen.proofs.SeenRuns.{keeps_way}
use Rattle.sp_rewrite.specs.Statements.{IsRewritten}
use Rattle.rewritten_runs.proofs.NameLaws.{names_are_kept}
use Rattle.tool_report.specs.Closings.{closing_line}
use Rattle.run_texts.specs.RunTexts.{RunWrites}
use Rattle.rewritten_runs.specs.Places.{stands_by}
use Rattle.rewritten_runs.specs.ShownTexts.{object_lines, places_shown}
use Rattle.rewritten_runs.specs.ShownStatements.{IsAlike, SourcesAreShown, VerifiedAreShown}
use Rattle.rewritten_runs.proofs.shown_runs.ShownLaws.{shown_text}

pub same_sizes : (layouts : List ObjectLayout) (objects : List Object) (stands : List Stand) → length stands ≡ length objects
    → ((place : ℕ) (object : Object) (stand : Stand) → slice_get objects place ≡ Some object → slice_get stands place ≡ Some stand → stand.size ≡ footprint layouts object)
    → map (λ (stand : Stand). stand.size) stands ≡ sizes_in layouts objects
same_sizes layouts [] [] count sizes = refl
same_sizes layouts [] (stand ∷ stands) count sizes = absurd (omega (arith, count))
same_sizes layouts (object ∷ objects) [] count sizes = absurd (omega (arith, count))
same_sizes layouts (object ∷ objects) (stand ∷ stands) count sizes =
    ap (λ (size : ℕ). size ∷ map (λ (s : Stand). s.size) stands) (sizes 0 object stand refl refl)
    ∙ ap (λ (rest : List ℕ). footprint layouts object ∷ rest) (same_sizes layouts objects stands (omega (arith, count)) (λ place o s one two. sizes (suc place) o s one two))

alike : (content : ModuleContent) (input : List ℤ) (plan : List PlanLine) (bound : ℕ) (places trace : Bool) (meant : Outcome) (machine : MachineOutcome) (text : List ℕ) → IsSound content
    → RunWrites content (map_of content) input plan bound places trace machine text → IsSeen content meant machine → IsAlike content meant machine
alike content input plan bound places trace meant machine text sound writes seen = record {
  lines = seen.lines;
  end = seen.end;
  func = seen.func;
  steps = seen.steps;
  events = seen.events;
  happened = seen.happened;
  sizes = same_sizes content.layouts meant.objects machine.heap.stands seen.objects.stands_count seen.objects.sizes;
  count = seen.objects.contents_count;
  each = λ place object held one two. let same = seen.objects.each place object held one two in (same.layout, same.count);
  way = (keeps_way content sound input plan bound machine writes.gives).1;
}

pub verified_are_shown : VerifiedAreShown
verified_are_shown content sound input plan bound places trace meant machine text writes seen =
    shown_text content (map_of content) input plan bound places trace machine text writes meant (alike content input plan bound places trace meant machine text sound writes seen)

-- ---- sources

places_named : (shown : Bool) (content after : ModuleContent) (plan : List PlanLine) (meant : Outcome) → after.layouts ≡ content.layouts
    → places_shown shown after plan meant ≡ places_shown shown content plan meant
places_named false content after plan meant same = refl
places_named true content after plan meant same =
    ap (λ (layouts : List ObjectLayout). object_lines layouts meant.objects (stands_by plan meant.happened (sizes_in layouts meant.objects))) same

layouts_kept : (content after : ModuleContent) → IsRewritten content after → after.layouts ≡ content.layouts
layouts_kept content after is = ap (λ (c : ModuleContent). c.layouts) is.rest ∙ is.drops.layouts

pub sources_are_shown : SourcesAreShown
sources_are_shown content after is plan places trace meant text shown = record {
  lines = shown.lines;
  program = shown.program;
  untraced = shown.untraced;
  whole =
      shown.whole
      ∙ (ap (λ (name : List ℕ). concat shown.lines ++ (closing_line meant.end name meant.steps meant.events ++ concat (places_shown places after plan meant))) (names_are_kept content after is meant.func)
      ∙ ap (λ (lines : List (List ℕ)). concat shown.lines ++ (closing_line meant.end (function_name content meant.func) meant.steps meant.events ++ concat lines))
      (places_named places content after plan meant (layouts_kept content after is)));
}
