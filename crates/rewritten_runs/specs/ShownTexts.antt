-- The text of a run that shows its trace and the places of its objects, in words of the meaning on objects alone.
use Rattle.std.specs.Prelude.{◌≡◌, ℕ, ◌==◌, Bool, true, false, not, List, [], ◌∷◌, ◌++◌, filter}
use Rattle.std.specs.List.{concat}
use Rattle.ir_ast.specs.Layouts.{ObjectLayout}
use Rattle.ir_ast.specs.Modules.{ModuleContent}
use Rattle.ir_ast.specs.Objects.{Object}
use Rattle.move_plan.specs.declared.plan_lines.PlanLine.{PlanLine}
use Rattle.moving_heap.specs.declared.stands.Stand.{Stand}
use Rattle.object_meaning.specs.Outcomes.{Outcome, sizes_in}
use Rattle.object_meaning.specs.Texts.{function_name}
use Rattle.tool_report.specs.Closings.{closing_line}
use Rattle.tool_report.specs.RunLines.{place_line}
use Rattle.run_texts.specs.RunTexts.{layout_name}
use Rattle.rewritten_runs.specs.Places.{stands_by}

-- a line of a trace begins with `#`; the others are the program's
abbrev pub is_traced : List ℕ → Bool
is_traced [] = false
is_traced (byte ∷ rest) = byte == 35

abbrev pub program_lines : List (List ℕ) → List (List ℕ)
program_lines lines = filter (λ line. not (is_traced line)) lines

-- the lines of objects that stand so, by number
abbrev pub object_lines : List ObjectLayout → List Object → List Stand → List (List ℕ)
object_lines layouts (object ∷ objects) (stand ∷ stands) =
    place_line stand.number (layout_name layouts object.layout) object.count stand.address ∷ object_lines layouts objects stands
object_lines layouts _ _ = []

-- where the objects of a run stand that gives this: its events, its objects and the plan say so, and the run's addresses don't come in
abbrev pub places_meant : ModuleContent → List PlanLine → Outcome → List (List ℕ)
places_meant content plan meant =
    object_lines content.layouts meant.objects (stands_by plan meant.happened (sizes_in content.layouts meant.objects))

abbrev pub places_shown : Bool → ModuleContent → List PlanLine → Outcome → List (List ℕ)
places_shown true content plan meant = places_meant content plan meant
places_shown false content plan meant = []

-- a text is that of a run of a module that gives this: what the program prints and its waiting frames show, with the lines of the
-- trace between if it is shown, then the line that closes the run, then the places of the objects if they are shown
pub record IsShownText (content : ModuleContent) (plan : List PlanLine) (places trace : Bool) (meant : Outcome) (text : List ℕ) : Type 0 where
  pub lines : List (List ℕ)
  pub program : program_lines lines ≡ meant.lines
  pub untraced : trace ≡ false → lines ≡ meant.lines
  pub whole : text ≡ concat lines ++ (closing_line meant.end (function_name content meant.func) meant.steps meant.events
      ++ concat (places_shown places content plan meant))
