-- What is proved of runs of rewritten modules.
use Rattle.std.specs.Prelude.{◌≡◌, ℕ, ℤ, List, Option}
use Rattle.sp_ids.specs.declared.ends.End.{End}
use Rattle.ir_ast.specs.Modules.{ModuleContent}
use Rattle.ir_cfg.specs.SourceModules.{IsSourceModule}
use Rattle.ir_cfg.specs.Unreached.{ModuleDropsUnreached}
use Rattle.move_plan.specs.declared.plan_lines.PlanLine.{PlanLine}
use Rattle.move_plan.specs.Plans.{go}
use Rattle.object_meaning.specs.Effects.{Progress}
use Rattle.object_meaning.specs.Outcomes.{Outcome}
use Rattle.object_meaning.specs.Runs.{Reaches}
use Rattle.object_meaning.specs.SourceRuns.{SourceGives}
use Rattle.object_meaning.specs.Texts.{function_name}
use Rattle.stackmap_write.specs.ModuleMaps.{map_of}
use Rattle.machine_meaning.specs.Code.{machinery_of}
use Rattle.machine_meaning.specs.MachineRuns.{machine_opening, machine_proceeds}
use Rattle.machine_meaning.specs.Machines.{Machine}
use Rattle.sp_rewrite.specs.Statements.{IsRewritten}
use Rattle.runs_unseen.specs.Runs.{IsSeenRun}
use Rattle.rewritten_runs.specs.Runs.{IsRunOnMachine, IsSourceFront, IsSourceRun}

-- whatever a source module's run gives, its rewritten module's run on the machine gives
abbrev pub SourcesRunOnMachine : Type 0
SourcesRunOnMachine = (content reached : ModuleContent) → IsSourceModule content → ModuleDropsUnreached content reached
    → (input : List ℤ) (plan : List PlanLine) (bound : ℕ) (outcome : Outcome) → SourceGives content input (go plan) bound outcome → IsRunOnMachine content input plan bound outcome

-- and the other way round, as a run of the rewritten module answers
abbrev pub SeenRunsAreSource : Type 0
SeenRunsAreSource = (content after : ModuleContent) → IsSourceModule content → IsRewritten content after → (input : List ℤ) (go_line : ℕ → Option ℕ) (bound : ℕ)
    → (end : End) (func steps events printed : ℕ) (old new : Option (List ℕ)) → IsSeenRun after input go_line bound end func steps events printed old new
    → IsSourceRun content input go_line bound end func steps events old new

-- and what it has printed by some state
abbrev pub FrontsAreSource : Type 0
FrontsAreSource = (content after : ModuleContent) → IsSourceModule content → IsRewritten content after
    → (input : List ℤ) (plan : List PlanLine) (bound : ℕ) (now : Progress Machine)
    → Reaches {E = End} (machine_proceeds (machinery_of after (map_of after) plan bound)) (machine_opening (machinery_of after (map_of after) plan bound) input) now
    → IsSourceFront content input (go plan) bound now.lines

-- functions keep their names
abbrev pub NamesAreKept : Type 0
NamesAreKept = (content after : ModuleContent) → IsRewritten content after → (func : ℕ) → function_name after func ≡ function_name content func
