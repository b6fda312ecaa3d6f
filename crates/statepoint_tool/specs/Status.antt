-- The exit status of each way to end.
use Rattle.std.specs.Prelude.{ℕ}
use Rattle.statepoint_tool.specs.declared.status.Status.{Status}
use Rattle.statepoint_tool.specs.declared.status.Status.TheVariants.{Done, ModuleRefused, WordsRefused, ReadFault, WriteFault, WantOfMemory, Trapped, OutOfSteps, PlanRefused, InputRefused, CheckSaidNo, MapRefused, TooLong, Stray}

abbrev pub code_of : Status → ℕ
code_of Done = 0
code_of ModuleRefused = 1
code_of WordsRefused = 2
code_of ReadFault = 3
code_of WriteFault = 4
code_of WantOfMemory = 5
code_of Trapped = 6
code_of OutOfSteps = 7
code_of PlanRefused = 8
code_of InputRefused = 9
code_of CheckSaidNo = 10
code_of MapRefused = 11
code_of TooLong = 12
code_of Stray = 13
