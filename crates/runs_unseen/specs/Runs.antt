-- What a run of a verified module over its own map answers, in words of the target meaning alone: nothing here has an address.
use Rattle.std.specs.Prelude.{◌≡◌, ℕ, ℤ, List, map, Option}
use Rattle.tool_io.specs.Sink.{AppendsFront, append_known}
use Rattle.sp_ids.specs.declared.ends.End.{End}
use Rattle.ir_ast.specs.Modules.{ModuleContent}
use Rattle.object_meaning.specs.Outcomes.{Outcome, whole_text}
use Rattle.object_meaning.specs.TargetRuns.{TargetGives}
use Rattle.object_meaning.specs.Traces.{Event}
use Rattle.machine_meaning.specs.Happenings.{Happening}
use Rattle.machine_meaning.specs.MachineRuns.{MachineOutcome}

abbrev pub event_in : Happening → Event
event_in happening = happening.event

-- two runs of the machine of which nothing differs but where objects stand
pub record IsSameRun (one other : MachineOutcome) : Type 0 where
  pub lines : one.lines ≡ other.lines
  pub end : one.end ≡ other.end
  pub func : one.func ≡ other.func
  pub steps : one.steps ≡ other.steps
  pub events : one.events ≡ other.events
  pub printed : one.printed ≡ other.printed
  pub happened : map event_in one.happened ≡ map event_in other.happened
  pub accesses : one.accesses ≡ other.accesses

-- a run over the map of a verified module: it ended so, in this function, after these steps and events, with so many numbers
-- printed, and a sink grew by all of its lines, as the target meaning says for the `go` lines of its plan
pub record IsSeenRun (content : ModuleContent) (input : List ℤ) (go_line : ℕ → Option ℕ) (bound : ℕ) (end : End) (func steps events printed : ℕ) (old new : Option (List ℕ)) : Type 0 where
  pub outcome : Outcome
  pub gives : TargetGives content input go_line bound outcome
  pub end_is : end ≡ outcome.end
  pub func_is : func ≡ outcome.func
  pub steps_are : steps ≡ outcome.steps
  pub events_are : events ≡ outcome.events
  pub printed_is : printed ≡ outcome.printed
  pub written : new ≡ append_known old (whole_text outcome)

-- a run over the map of a verified module that was cut off: a sink grew by a front of what the target meaning writes
pub record IsSeenFront (content : ModuleContent) (input : List ℤ) (go_line : ℕ → Option ℕ) (bound : ℕ) (old new : Option (List ℕ)) : Type 0 where
  pub outcome : Outcome
  pub gives : TargetGives content input go_line bound outcome
  pub front : AppendsFront old new (whole_text outcome)
