-- The law of whole runs, the other way round and as code that runs a module has it. `AllLinesFollow` and `MovesAreUnseen` stand in
-- `moves_unseen`.
use Rattle.std.specs.Prelude.{◌≡◌, ℕ, ℤ, List, Option}
use Rattle.std.specs.List.{concat}
use Rattle.sp_ids.specs.declared.ends.End.{End}
use Rattle.sp_ids.specs.declared.ends.End.TheVariants.{LostFrame, Poison}
use Rattle.ir_ast.specs.Modules.{ModuleContent}
use Rattle.tool_io.specs.Sink.{AppendsFront, append_known}
use Rattle.move_plan.specs.declared.plan_lines.PlanLine.{PlanLine}
use Rattle.move_plan.specs.Plans.{go}
use Rattle.object_meaning.specs.Effects.{Progress, text_of}
use Rattle.object_meaning.specs.Outcomes.{Outcome}
use Rattle.object_meaning.specs.Runs.{Reaches}
use Rattle.object_meaning.specs.TargetRuns.{TargetGives}
use Rattle.stackmap_write.specs.ModuleMaps.{map_of}
use Rattle.machine_meaning.specs.Code.{machinery_of}
use Rattle.machine_meaning.specs.Machines.{Machine}
use Rattle.machine_meaning.specs.MachineRuns.{MachineGives, MachineOutcome, machine_opening, machine_proceeds}
use Rattle.moves_unseen.specs.Statements.{IsSeen}
use Rattle.moves_unseen.specs.Waits.{IsSound}
use Rattle.runs_unseen.specs.Runs.{IsSameRun, IsSeenFront, IsSeenRun}

-- what the target meaning gives, to which a run of the machine is the same
pub record IsSeenOf (content : ModuleContent) (input : List ℤ) (plan : List PlanLine) (bound : ℕ) (machine : MachineOutcome) : Type 0 where
  pub outcome : Outcome
  pub gives : TargetGives content input (go plan) bound outcome
  pub seen : IsSeen content outcome machine

-- the other way round: whatever the machine gives is what the target meaning gives
abbrev pub MachineRunsAreSeen : Type 0
MachineRunsAreSeen = (content : ModuleContent) → IsSound content → (input : List ℤ) (plan : List PlanLine) (bound : ℕ) (machine : MachineOutcome)
    → MachineGives content (map_of content) input plan bound machine → IsSeenOf content input plan bound machine

-- no run comes to a word that is no object's address, or loses a frame
abbrev pub RunsKeepTheirWay : Type 0
RunsKeepTheirWay = (content : ModuleContent) → IsSound content → (input : List ℤ) (plan : List PlanLine) (bound : ℕ) (machine : MachineOutcome)
    → MachineGives content (map_of content) input plan bound machine → (machine.end ≡ Poison → ⊥) × (machine.end ≡ LostFrame → ⊥)

-- two plans with the same `go` lines give the same, whatever they move
abbrev pub MovesAreFree : Type 0
MovesAreFree = (content : ModuleContent) → IsSound content → (input : List ℤ) (plan other : List PlanLine) → ((event : ℕ) → go plan event ≡ go other event)
    → (bound : ℕ) (one two : MachineOutcome) → MachineGives content (map_of content) input plan bound one
    → MachineGives content (map_of content) input other bound two → IsSameRun one two

-- what a run answers and puts into a sink is that of the target meaning
abbrev pub AnswersAreSeen : Type 0
AnswersAreSeen = (content : ModuleContent) → IsSound content → (input : List ℤ) (plan : List PlanLine) (bound : ℕ) (machine : MachineOutcome)
    → MachineGives content (map_of content) input plan bound machine → (old new : Option (List ℕ)) → new ≡ append_known old (concat machine.lines)
    → IsSeenRun content input (go plan) bound machine.end machine.func machine.steps machine.events machine.printed old new

-- what a run has printed in a state that it comes to is a front of what the target meaning writes
abbrev pub FrontsAreSeen : Type 0
FrontsAreSeen = (content : ModuleContent) → IsSound content → (input : List ℤ) (plan : List PlanLine) (bound : ℕ) (now : Progress Machine)
    → Reaches {E = End} (machine_proceeds (machinery_of content (map_of content) plan bound)) (machine_opening (machinery_of content (map_of content) plan bound) input) now
    → (old new : Option (List ℕ)) → AppendsFront old new (text_of now.lines) → IsSeenFront content input (go plan) bound old new
