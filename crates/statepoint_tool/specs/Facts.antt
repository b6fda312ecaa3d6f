-- What is known of a call of the program, fact by fact.
use Rattle.std.specs.Prelude.{◌≡◌, ◌⊎◌, ℕ, List}
use Rattle.statepoint_tool.specs.Answers.{SinkFailed, SinkSeen}
use Rattle.statepoint_tool.specs.Causes.{CannotRead, EndsWith, HasSomeCheckFault, HasSomeInputFault, HasSomeMapFault, HasSomeModuleFault, HasSomePlanFault, IsTooLong, NoCommand}
use Rattle.statepoint_tool.specs.Complete.{IsComplete}
use Rattle.statepoint_tool.specs.Headline.{IsHeadline, RunsVerified, StrayIsAsked}
use Rattle.statepoint_tool.specs.Statuses.{Exactly, ReadFaultCounted, Says, Writes}
use Rattle.statepoint_tool.specs.Taken.{FilesSeen}
use Rattle.statepoint_tool.specs.declared.status.Status.{Status}
use Rattle.statepoint_tool.specs.declared.status.Status.TheVariants.{Done, ModuleRefused, WordsRefused, ReadFault, WriteFault, Trapped, OutOfSteps, PlanRefused, InputRefused, CheckSaidNo, MapRefused, TooLong, Stray}

pub record Facts (words : List (List ℕ)) (files : FilesSeen) (out notes : SinkSeen) (status : Status) : Type 0 where
  -- The headline. For every module text that the profile accepts, every input, plan and bound, `run` writes what the source
  -- meaning prints on objects that never move, and ends with its return, trap or want of steps. This is also the address
  -- machine's run of the emitted module, whose frames are found through the emitted map bytes, under that plan, with its trace and
  -- the places of its objects where they are asked for; no moved-away address is read.
  pub headline : IsHeadline words files out notes status
  -- What the verifier's yes means: `exec` of a module without a fault, over its own map, writes what the target meaning prints
  -- on objects that never move, whatever the plan moves; and only a run that is trusted, or over a given map, goes astray.
  pub verified_runs : RunsVerified words files out notes status
  pub stray_asked : StrayIsAsked words status
  -- Told files without fault, and no fault counted: the work comes to one end. The whole text that is defined, the module's or the
  -- run's, with its status and nothing said; or want of memory after a front of that text.
  pub complete : IsComplete words files out notes status
  -- Each status with its cause.
  pub done : Exactly words files out notes status Done (EndsWith Done)
  pub out_of_steps : Exactly words files out notes status OutOfSteps (EndsWith OutOfSteps)
  pub trapped : Exactly words files out notes status Trapped (EndsWith Trapped)
  pub stray : Exactly words files out notes status Stray (EndsWith Stray)
  pub words_refused : Exactly words files out notes status WordsRefused NoCommand
  pub module_refused : Exactly words files out notes status ModuleRefused HasSomeModuleFault
  pub input_refused : Exactly words files out notes status InputRefused HasSomeInputFault
  pub plan_refused : Exactly words files out notes status PlanRefused HasSomePlanFault
  pub map_refused : Exactly words files out notes status MapRefused HasSomeMapFault
  pub said_no : Exactly words files out notes status CheckSaidNo HasSomeCheckFault
  pub too_long : Exactly words files out notes status TooLong IsTooLong
  pub read_fault : Exactly words files out notes status ReadFault CannotRead
  pub read_fault_counted : status ≡ ReadFault → ReadFaultCounted words files
  pub write_fault_counted : status ≡ WriteFault → SinkFailed out ⊎ SinkFailed notes
  -- What the call leaves on its sinks.
  pub writes : Writes status words files out
  pub says : Says status words files out notes
