-- The line that closes a run of a module, and the status of each end.
use Rattle.std.specs.Prelude.{ℕ, List}
use Rattle.sp_ids.specs.declared.ends.End.{End}
use Rattle.sp_ids.specs.declared.ends.End.TheVariants.{Return, Trap as Traps, OutOfSteps as RanOut, Poison, LostFrame}
use Rattle.ir_ast.specs.Modules.{ModuleContent}
use Rattle.object_meaning.specs.Texts.{function_name}
use Rattle.tool_report.specs.Closings.{closing_line as line_of_end}
use Rattle.statepoint_tool.specs.declared.status.Status.{Status}
use Rattle.statepoint_tool.specs.declared.status.Status.TheVariants.{Done, Trapped, OutOfSteps, Stray}

abbrev pub status_of_end : End → Status
status_of_end (Return number) = Done
status_of_end (Traps trap) = Trapped
status_of_end RanOut = OutOfSteps
status_of_end Poison = Stray
status_of_end LostFrame = Stray

-- a run ended so, where this function ran, after so many steps and events
abbrev pub closing_line : ModuleContent → End → (func steps events : ℕ) → List ℕ
closing_line content end func steps events = line_of_end end (function_name content func) steps events
