-- The run of a rewritten module over its own stack map, over no input and while every event moves all objects.
use Rattle.std.specs.Prelude.{◌≡◌, ℕ, [], ◌++◌}
use Rattle.ir_ast.specs.Modules.{ModuleContent}
use Rattle.run_tasks.specs.declared.runs.Ran.{Ran}
use Rattle.run_tasks.specs.Runs.{ran_of}
use Rattle.machine_meaning.specs.MachineRuns.{MachineOutcome, MachineGives}
use Rattle.object_meaning.specs.Texts.{function_name}
use Rattle.stackmap_write.specs.ModuleMaps.{map_of}
use Rattle.tool_report.specs.Closings.{closing_line}
use Rattle.gen_report.specs.Summaries.{Told, count_lines, flipping}

-- a run of this module answers so
pub record IsFlippingRun (after : ModuleContent) (steps : ℕ) (ran : Ran) : Type 0 where
  pub machine : MachineOutcome
  pub gives : MachineGives after (map_of after) [] flipping steps machine
  pub answer : ran ≡ ran_of machine.end machine.func machine.steps machine.events machine.printed

-- what is told of a rewritten module, by these numbers and by what its run answers
abbrev pub told_of : (functions statepoints relocates bytes : ℕ) → ModuleContent → Ran → Told
told_of functions statepoints relocates bytes after ran = record {
  text = count_lines functions statepoints relocates bytes ran.lines
      ++ closing_line ran.end (function_name after ran.func.0) ran.steps ran.events;
  end = ran.end;
}
