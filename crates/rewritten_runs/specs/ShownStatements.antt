-- What is proved of shown runs.
use Rattle.std.specs.Prelude.{◌≡◌, ℕ, ℤ, Bool, List, length, slice_get, Some}
use Rattle.sp_ids.specs.declared.ends.End.TheVariants.{LostFrame}
use Rattle.ir_ast.specs.Modules.{ModuleContent}
use Rattle.ir_ast.specs.Objects.{Object}
use Rattle.move_plan.specs.declared.plan_lines.PlanLine.{PlanLine}
use Rattle.moving_heap.specs.Contents.{Content}
use Rattle.object_meaning.specs.Outcomes.{Outcome, sizes_in}
use Rattle.machine_meaning.specs.MachineRuns.{MachineOutcome}
use Rattle.rewritten_runs.specs.PlacedRuns.{events_of, stand_sizes}
use Rattle.stackmap_write.specs.ModuleMaps.{map_of}
use Rattle.moves_unseen.specs.Statements.{IsSeen}
use Rattle.moves_unseen.specs.Waits.{IsSound}
use Rattle.sp_rewrite.specs.Statements.{IsRewritten}
use Rattle.run_texts.specs.RunTexts.{RunWrites}
use Rattle.rewritten_runs.specs.ShownTexts.{IsShownText}

-- the machine's run gives what the meaning on objects does, as far as a text shows it, and loses no frame
pub record IsAlike (content : ModuleContent) (meant : Outcome) (machine : MachineOutcome) : Type 0 where
  pub lines : machine.lines ≡ meant.lines
  pub end : machine.end ≡ meant.end
  pub func : machine.func ≡ meant.func
  pub steps : machine.steps ≡ meant.steps
  pub events : machine.events ≡ meant.events
  pub happened : events_of machine ≡ meant.happened
  pub sizes : stand_sizes machine ≡ sizes_in content.layouts meant.objects
  pub count : length machine.heap.contents ≡ length meant.objects
  pub each : (place : ℕ) (object : Object) (held : Content) → slice_get meant.objects place ≡ Some object → slice_get machine.heap.contents place ≡ Some held
      → (held.layout ≡ object.layout) × (held.count ≡ object.count)
  pub way : machine.end ≡ LostFrame → ⊥

-- the text of the machine's run of a verified module over its own stack map, by what the target meaning gives
abbrev pub VerifiedAreShown : Type 0
VerifiedAreShown = (content : ModuleContent) → IsSound content → (input : List ℤ) (plan : List PlanLine) (bound : ℕ) (places trace : Bool) (meant : Outcome) (machine : MachineOutcome) (text : List ℕ)
    → RunWrites content (map_of content) input plan bound places trace machine text → IsSeen content meant machine → IsShownText content plan places trace meant text

-- a text of a run of the rewritten module is one of its source
abbrev pub SourcesAreShown : Type 0
SourcesAreShown = (content after : ModuleContent) → IsRewritten content after → (plan : List PlanLine) (places trace : Bool) (meant : Outcome) (text : List ℕ)
    → IsShownText after plan places trace meant text → IsShownText content plan places trace meant text
