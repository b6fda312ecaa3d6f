-- What the plan that compacts does to a run of a source module.
use Rattle.std.specs.Prelude.{◌≡◌, ℕ, ◌-◌, ◌<◌, ◌≤◌, ◌^◌, ℤ, List, filter, length, map, take, slice_get, Some}
use Rattle.ir_ast.specs.Modules.{ModuleContent}
use Rattle.ir_cfg.specs.SourceModules.{IsSourceModule}
use Rattle.move_plan.specs.declared.plan_lines.PlanLine.{PlanLine}
use Rattle.move_plan.specs.Plans.{IsPlan, go}
use Rattle.moving_heap.specs.declared.stands.Stand.{Stand}
use Rattle.object_meaning.specs.Outcomes.{Outcome, sizes_in}
use Rattle.object_meaning.specs.SourceRuns.{SourceGives}
use Rattle.object_meaning.specs.Traces.{Event}
use Rattle.made_objects.specs.Makings.{makings, sizes_made}
use Rattle.compact_plan.specs.Compacting.{compacted, stands_before}
use Rattle.compact_plan.specs.Packed.{laid, packing_verdict}
use Rattle.compact_plan.specs.Promises.{IsEvent}
use Rattle.stackmap_write.specs.ModuleMaps.{map_of}
use Rattle.machine_meaning.specs.MachineRuns.{MachineGives, MachineOutcome}
use Rattle.sp_rewrite.specs.Statements.{IsRewritten}
use Rattle.rewritten_runs.specs.PlacedRuns.{IsPlacedBy}
use Rattle.rewritten_runs.specs.Places.{stands_by, verdicts_by}

-- where objects stand when an event comes, of a run with these events and, in the end, objects of these sizes
abbrev pub stands_until : List PlanLine → ℕ → List Event → List ℕ → List Stand
stands_until plan event events sizes = stands_by plan (take (event - 1) events) sizes

-- an event compacts under this plan, and until it comes all is as under another
pub record Compacts (plan other : List PlanLine) (event : ℕ) (events : List Event) (sizes : List ℕ) : Type 0 where
  -- after earlier events objects stand where they stood, and these have the verdicts that they had
  pub places : (earlier : ℕ) → earlier < event → stands_by plan (take earlier events) sizes ≡ stands_by other (take earlier events) sizes
  pub verdicts : take (event - 1) (verdicts_by plan events sizes) ≡ take (event - 1) (verdicts_by other events sizes)
  -- when the event comes, those objects stand that were made before it
  pub objects : map (λ (stand : Stand). stand.size) (stands_until plan event events sizes)
      ≡ sizes_made (filter (stands_before event) (makings events sizes))
  -- the moves of the event are legal, or none where nothing stands
  pub verdict : slice_get (verdicts_by plan events sizes) (event - 1) ≡ Some (packing_verdict (stands_until plan event events sizes))
  -- and these objects come to lie side by side from 2^40, in the order of their numbers
  pub side_by_side : take (length (stands_until plan event events sizes)) (stands_by plan (take event events) sizes)
      ≡ laid (2 ^ 40) (stands_until plan event events sizes)

-- the plan that compacts the run of a module at an event
abbrev pub compacting : ModuleContent → List PlanLine → ℕ → Outcome → List PlanLine
compacting content plan event outcome = compacted plan (makings outcome.happened (sizes_in content.layouts outcome.objects)) event

pub record IsCompactedRun (content : ModuleContent) (input : List ℤ) (plan : List PlanLine) (bound event : ℕ) (outcome : Outcome) : Type 0 where
  pub is_plan : IsPlan (compacting content plan event outcome)
  pub same_go : go (compacting content plan event outcome) ≡ go plan
  pub gives : SourceGives content input (go (compacting content plan event outcome)) bound outcome
  pub compacts : Compacts (compacting content plan event outcome) plan event outcome.happened (sizes_in content.layouts outcome.objects)

-- for every module, so for every source module; where the plan isn't too long, and the event comes
abbrev pub RunsCompact : Type 0
RunsCompact = (content : ModuleContent) (input : List ℤ) (plan : List PlanLine) (bound event : ℕ) (outcome : Outcome) → IsPlan plan → IsEvent event
    → SourceGives content input (go plan) bound outcome → event ≤ outcome.events → length (compacting content plan event outcome) ≤ 262144
    → IsCompactedRun content input plan bound event outcome

-- the machine's run of the rewritten module under that plan, over that module's own stack map: its objects stand, and its events have
-- the verdicts, as the plan says of the events and objects of the source's run
pub record CompactsOnMachine (content : ModuleContent) (input : List ℤ) (plan : List PlanLine) (bound event : ℕ) (outcome : Outcome) : Type 0 where
  pub after : ModuleContent
  pub rewritten : IsRewritten content after
  pub machine : MachineOutcome
  pub gives : MachineGives after (map_of after) input (compacting content plan event outcome) bound machine
  pub placed : IsPlacedBy (compacting content plan event outcome) outcome.happened (sizes_in content.layouts outcome.objects) machine

-- for every source module
abbrev pub MachinesCompact : Type 0
MachinesCompact = (content : ModuleContent) → IsSourceModule content
    → (input : List ℤ) (plan : List PlanLine) (bound event : ℕ) (outcome : Outcome) → SourceGives content input (go plan) bound outcome
    → CompactsOnMachine content input plan bound event outcome
