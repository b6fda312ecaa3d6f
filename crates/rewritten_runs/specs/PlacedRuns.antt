-- What is proved of places.
use Rattle.std.specs.Prelude.{◌≡◌, ℕ, ℤ, List, map}
use Rattle.sp_ids.specs.declared.ends.End.TheVariants.{LostFrame}
use Rattle.ir_ast.specs.Modules.{ModuleContent}
use Rattle.move_plan.specs.declared.plan_lines.PlanLine.{PlanLine}
use Rattle.map_bytes.specs.Maps.{StackMap}
use Rattle.moving_heap.specs.declared.stands.Stand.{Stand}
use Rattle.object_meaning.specs.Traces.{Event}
use Rattle.machine_meaning.specs.Happenings.{Happening}
use Rattle.machine_meaning.specs.MachineRuns.{MachineOutcome, MachineGives}
use Rattle.rewritten_runs.specs.Places.{stands_by, verdicts_by}

abbrev pub events_of : MachineOutcome → List Event
events_of machine = map (λ (happening : Happening). happening.event) machine.happened

abbrev pub stand_sizes : MachineOutcome → List ℕ
stand_sizes machine = map (λ (stand : Stand). stand.size) machine.heap.stands

-- objects stand, and each event has the verdict, as these events and sizes say under this plan
pub record IsPlacedBy (plan : List PlanLine) (events : List Event) (sizes : List ℕ) (machine : MachineOutcome) : Type 0 where
  pub stands : machine.heap.stands ≡ stands_by plan events sizes
  pub verdicts : map (λ (happening : Happening). happening.verdict) machine.happened ≡ verdicts_by plan events sizes

-- whatever the module and the stack map are, where no frame is lost
abbrev pub PlacesAreByEvents : Type 0
PlacesAreByEvents = (content : ModuleContent) (map : StackMap) (input : List ℤ) (plan : List PlanLine) (bound : ℕ) (machine : MachineOutcome)
    → MachineGives content map input plan bound machine → (machine.end ≡ LostFrame → ⊥) → IsPlacedBy plan (events_of machine) (stand_sizes machine) machine
