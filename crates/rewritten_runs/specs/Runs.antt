-- The run of a source module on objects that never move, beside the run of its rewritten module on the machine.
use Rattle.std.specs.Prelude.{◌≡◌, ℕ, ℤ, List, ◌++◌, map, Option}
use Rattle.sp_ids.specs.declared.ends.End.{End}
use Rattle.sp_ids.specs.declared.ends.End.TheVariants.{LostFrame, Poison}
use Rattle.ir_ast.specs.Modules.{ModuleContent}
use Rattle.tool_io.specs.Sink.{append_known}
use Rattle.move_plan.specs.declared.plan_lines.PlanLine.{PlanLine}
use Rattle.object_meaning.specs.Effects.{text_of}
use Rattle.object_meaning.specs.Outcomes.{Outcome, whole_text}
use Rattle.object_meaning.specs.SourceRuns.{SourceGives}
use Rattle.object_meaning.specs.Texts.{function_name}
use Rattle.stackmap_write.specs.ModuleMaps.{map_of}
use Rattle.machine_meaning.specs.MachineRuns.{MachineGives, MachineOutcome}
use Rattle.sp_rewrite.specs.Statements.{IsRewritten}
use Rattle.runs_unseen.specs.Runs.{event_in}

-- what a source module's run gives, its rewritten module's run on the machine gives, over that module's own stack map and under all
-- moves of the plan: the same lines, end, function, steps, events and accesses; and it never loses its way
pub record IsRunOnMachine (content : ModuleContent) (input : List ℤ) (plan : List PlanLine) (bound : ℕ) (outcome : Outcome) : Type 0 where
  pub after : ModuleContent
  pub rewritten : IsRewritten content after
  pub machine : MachineOutcome
  pub gives : MachineGives after (map_of after) input plan bound machine
  pub lines : machine.lines ≡ outcome.lines
  pub end : machine.end ≡ outcome.end
  pub func : machine.func ≡ outcome.func
  pub name : function_name after outcome.func ≡ function_name content outcome.func
  pub steps : machine.steps ≡ outcome.steps
  pub events : machine.events ≡ outcome.events
  pub happened : map event_in machine.happened ≡ outcome.happened
  pub accesses : machine.accesses ≡ outcome.accesses
  pub poison : machine.end ≡ Poison → ⊥
  pub lost : machine.end ≡ LostFrame → ⊥

-- a run answered so and a sink grew by all of its lines, as the source meaning says under these `go` lines
pub record IsSourceRun (content : ModuleContent) (input : List ℤ) (go_line : ℕ → Option ℕ) (bound : ℕ) (end : End) (func steps events : ℕ) (old new : Option (List ℕ)) : Type 0 where
  pub outcome : Outcome
  pub gives : SourceGives content input go_line bound outcome
  pub end_is : end ≡ outcome.end
  pub func_is : func ≡ outcome.func
  pub steps_are : steps ≡ outcome.steps
  pub events_are : events ≡ outcome.events
  pub written : new ≡ append_known old (whole_text outcome)

-- these lines, newest first, are a front of what the source meaning writes
pub record IsSourceFront (content : ModuleContent) (input : List ℤ) (go_line : ℕ → Option ℕ) (bound : ℕ) (printed : List (List ℕ)) : Type 0 where
  pub outcome : Outcome
  pub gives : SourceGives content input go_line bound outcome
  pub more : List ℕ
  pub is : whole_text outcome ≡ text_of printed ++ more
