-- What is told of a generated module: how large its rewritten module and its stack map are, and how its run closes.
use Rattle.std.specs.Prelude.{◌≡◌, ℕ, Bool, true, false, List, [], ◌∷◌, ◌++◌, length, codes, decimal}
use Rattle.std.specs.List.{count_by, sum_by}
use Rattle.sp_ids.specs.declared.ends.End.{End}
use Rattle.ir_ast.specs.declared.ops.Op.{Op}
use Rattle.ir_ast.specs.Faults.GroupShape.{is_statepoint}
use Rattle.ir_ast.specs.declared.ops.Op.TheVariants.{GcRelocate}
use Rattle.ir_ast.specs.Funcs.{instructions_of}
use Rattle.ir_ast.specs.Modules.{ModuleContent}
use Rattle.generated_forms.specs.Modules.{generated}
use Rattle.map_bytes.specs.Maps.{map_bytes}
use Rattle.move_plan.specs.declared.plan_lines.PlanLine.{PlanLine}
use Rattle.move_plan.specs.declared.plan_lines.PlanLine.TheVariants.{Every}
use Rattle.move_plan.specs.Plans.{go}
use Rattle.object_meaning.specs.Outcomes.{Outcome}
use Rattle.object_meaning.specs.SourceRuns.{SourceGives}
use Rattle.object_meaning.specs.Texts.{function_name}
use Rattle.sp_rewrite.specs.Statements.{IsRewritten}
use Rattle.stackmap_write.specs.ModuleMaps.{map_of}
use Rattle.tool_report.specs.Closings.{closing_line}

-- the plan `every 1 flip`: all objects move at every event
abbrev pub flipping : List PlanLine
flipping = Every 1 ∷ []

abbrev pub is_relocate : Op → Bool
is_relocate GcRelocate = true
is_relocate op = false

-- how many instructions of a module have such an operator
abbrev pub instructions_with : (Op → Bool) → ModuleContent → ℕ
instructions_with test content = sum_by (λ func. count_by (λ inst. test inst.op) (instructions_of func.blocks)) content.funcs

abbrev pub count_line : List ℕ → ℕ → List ℕ
count_line name number = name ++ (decimal number ++ codes "\n")

abbrev pub count_lines : (functions statepoints relocates bytes lines : ℕ) → List ℕ
count_lines functions statepoints relocates bytes lines =
    count_line (codes "functions ") functions
    ++ (count_line (codes "statepoints ") statepoints
    ++ (count_line (codes "relocates ") relocates
    ++ (count_line (codes "map bytes ") bytes ++ count_line (codes "lines ") lines)))

-- of a module, its rewritten module, and the run by the source meaning that gives this
abbrev pub summary_of : ModuleContent → ModuleContent → Outcome → List ℕ
summary_of content after meant =
    count_lines (length content.funcs) (instructions_with is_statepoint after) (instructions_with is_relocate after) (length (map_bytes (map_of after)))
    meant.printed
    ++ closing_line meant.end (function_name content meant.func) meant.steps meant.events

-- what a summary tells, and the end of the run
pub record Told : Type 0 where
  pub text : List ℕ
  pub end : End

-- it is that of a source module, which runs over no input by the source meaning
pub record IsSummaryOf (content : ModuleContent) (steps : ℕ) (told : Told) : Type 0 where
  pub after : ModuleContent
  pub rewritten : IsRewritten content after
  pub meant : Outcome
  pub means : SourceGives content [] (go flipping) steps meant
  pub text : told.text ≡ summary_of content after meant
  pub end : told.end ≡ meant.end

-- and that is the generated module of this seed and size
abbrev pub IsSummary : (seed size steps : ℕ) → Told → Type 0
IsSummary seed size steps told = IsSummaryOf (generated seed size) steps told
