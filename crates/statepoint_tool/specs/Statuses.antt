-- Each status, exactly where its cause holds, and what the call leaves on its sinks.
use Rattle.std.specs.Prelude.{◌≡◌, ℕ, ⊤, ◌⊎◌, List, []}
use Rattle.tool_io.specs.Counts.{Rose}
use Rattle.statepoint_tool.specs.Answers.{SinkSeen, Gained, GainedFront, SinkFailed, IsBegun, PutByLine}
use Rattle.statepoint_tool.specs.Causes.{Ends, EndsWith, NoCommand, HasSomeModuleFault, HasSomeInputFault, HasSomePlanFault, HasSomeMapFault, HasSomeCheckFault, CannotRead, IsTooLong, StopsBy}
use Rattle.statepoint_tool.specs.Notes.{refusal_line, status_of_cause}
use Rattle.statepoint_tool.specs.Steps.{Step, Go, Stop}
use Rattle.statepoint_tool.specs.Taken.{FilesSeen}
use Rattle.tool_words.specs.Words.{command_of}
use Rattle.statepoint_tool.specs.Work.{Output, Given, MayGiveNamed}
use Rattle.statepoint_tool.specs.declared.refusal.Cause.TheVariants as cause
use Rattle.statepoint_tool.specs.declared.refusal.Refusal.{Refusal}
use Rattle.statepoint_tool.specs.declared.refusal.Refusal.TheVariants as refused
use Rattle.statepoint_tool.specs.declared.status.Status.{Status}
use Rattle.statepoint_tool.specs.declared.status.Status.TheVariants.{Done, ModuleRefused, WordsRefused, ReadFault, WriteFault, WantOfMemory, Trapped, OutOfSteps, PlanRefused, InputRefused, MapRefused, CheckSaidNo, TooLong, Stray}

-- the status that a step of the work defines
abbrev pub status_of_step : Step Output → Status
status_of_step (Go output) = output.status
status_of_step (Stop reason) = status_of_cause reason

-- this holds over something that the named files may have given
pub record OverSome (words : List (List ℕ)) (files : FilesSeen) (P : Given → Type 0) : Type 0 where
  pub given : Given
  pub may : MayGiveNamed files (command_of words) given
  pub holds : P given

-- this holds over whatever the named files may have given
abbrev pub OverAll : List (List ℕ) → FilesSeen → (Given → Type 0) → Type 0
OverAll words files P = (given : Given) → MayGiveNamed files (command_of words) given → P given

-- what stands behind a line that is due: the cause that stops the work, a failed output, or want of memory, which is
-- tied to nothing
abbrev pub IsDue : Refusal → List (List ℕ) → Given → SinkSeen → Type 0
IsDue (refused.Defined reason) words given out = StopsBy reason words given
IsDue refused.WriteFault words given out = SinkFailed out
IsDue refused.Memory words given out = ⊤

-- standard error failed where this line was due, after a front of it
pub record IsCutOff (words : List (List ℕ)) (out notes : SinkSeen) (given : Given) : Type 0 where
  pub refusal : Refusal
  pub due : IsDue refusal words given out
  pub front : GainedFront notes (refusal_line refusal)

abbrev pub NoteFailed : List (List ℕ) → FilesSeen → (out notes : SinkSeen) → Type 0
NoteFailed words files out notes = SinkFailed notes × OverSome words files (IsCutOff words out notes)

-- memory was wanted, standard output failed, or standard error did where a line was due
abbrev pub Yields : List (List ℕ) → FilesSeen → Status → (out notes : SinkSeen) → Type 0
Yields words files status out notes =
    (status ≡ WantOfMemory) ⊎ ((status ≡ WriteFault) × (SinkFailed out ⊎ NoteFailed words files out notes))

-- the status is `wanted` only where its cause holds; and where the cause holds it is, unless it yields to
-- want of memory or to a failed sink
pub record Exactly (words : List (List ℕ)) (files : FilesSeen) (out notes : SinkSeen) (status wanted : Status) (cause : List (List ℕ) → Given → Type 0) : Type 0 where
  pub only : status ≡ wanted → OverSome words files (cause words)
  pub wherever : OverAll words files (cause words) → (status ≡ wanted) ⊎ Yields words files status out notes

-- a file that could not be read had a fault counted for its name
abbrev pub ReadFaultCounted : List (List ℕ) → FilesSeen → Type 0
ReadFaultCounted words files =
    OverSome words files (λ given. (cannot : CannotRead words given) × Rose (files.faults_before cannot.0) (files.faults_after cannot.0))

-- the cause of each status that comes by the definition of the work
abbrev pub CauseOf : Status → List (List ℕ) → Given → Type 0
CauseOf Done = EndsWith Done
CauseOf Trapped = EndsWith Trapped
CauseOf OutOfSteps = EndsWith OutOfSteps
CauseOf Stray = EndsWith Stray
CauseOf ModuleRefused = HasSomeModuleFault
CauseOf WordsRefused = NoCommand
CauseOf ReadFault = CannotRead
CauseOf InputRefused = HasSomeInputFault
CauseOf PlanRefused = HasSomePlanFault
CauseOf MapRefused = HasSomeMapFault
CauseOf TooLong = IsTooLong
CauseOf CheckSaidNo = HasSomeCheckFault
CauseOf _ = λ words given. ⊥

-- nothing was written, or a front of what the work writes
abbrev pub WritesFront : List (List ℕ) → FilesSeen → SinkSeen → Type 0
WritesFront words files out = Gained out [] ⊎ OverSome words files (λ given. IsBegun (Ends words given) out)

-- the whole text of the work that ended so was written, a run's lines one by one
abbrev pub WritesAll : Status → List (List ℕ) → FilesSeen → SinkSeen → Type 0
WritesAll status words files out =
    OverSome words files (λ given. (ends : EndsWith status words given) × Gained out ends.0.text × PutByLine ends.0.lines out)

-- what is written to standard output: the whole text of the work where it came to its end, a front of it at want of
-- memory and where a sink failed, and else nothing
abbrev pub Writes : Status → List (List ℕ) → FilesSeen → SinkSeen → Type 0
Writes Done words files out = WritesAll Done words files out
Writes Trapped words files out = WritesAll Trapped words files out
Writes OutOfSteps words files out = WritesAll OutOfSteps words files out
Writes Stray words files out = WritesAll Stray words files out
Writes WriteFault words files out = WritesFront words files out
Writes WantOfMemory words files out = WritesFront words files out
Writes _ words files out = Gained out []

-- what is written to standard error: the line of the status, with the line of the text or the name of
-- the file that is at fault; nothing where the run ended; and where standard error failed, a front of
-- the line that was due
abbrev pub Says : Status → List (List ℕ) → FilesSeen → (out notes : SinkSeen) → Type 0
Says Done words files out notes = Gained notes []
Says Trapped words files out notes = Gained notes []
Says OutOfSteps words files out notes = Gained notes []
Says Stray words files out notes = Gained notes []
Says WordsRefused words files out notes = Gained notes (refusal_line (refused.Defined cause.Words))
Says WantOfMemory words files out notes = Gained notes (refusal_line refused.Memory)
Says ModuleRefused words files out notes =
    OverSome words files (λ given. (has : HasSomeModuleFault words given) × Gained notes (refusal_line (refused.Defined (cause.Module has.0))))
Says InputRefused words files out notes =
    OverSome words files (λ given. (has : HasSomeInputFault words given) × Gained notes (refusal_line (refused.Defined (cause.Input has.0))))
Says PlanRefused words files out notes =
    OverSome words files (λ given. (has : HasSomePlanFault words given) × Gained notes (refusal_line (refused.Defined (cause.Plan has.0))))
Says MapRefused words files out notes =
    OverSome words files (λ given. (has : HasSomeMapFault words given) × Gained notes (refusal_line (refused.Defined (cause.Map has.0))))
Says CheckSaidNo words files out notes =
    OverSome words files (λ given. (has : HasSomeCheckFault words given) × Gained notes (refusal_line (refused.Defined (cause.Check has.0))))
Says ReadFault words files out notes =
    OverSome words files (λ given. (cannot : CannotRead words given) × Gained notes (refusal_line (refused.Defined (cause.ReadFault cannot.0))))
Says TooLong words files out notes =
    OverSome words files (λ given. (long : IsTooLong words given) × Gained notes (refusal_line (refused.Defined (cause.TooLong long.0))))
Says WriteFault words files out notes =
    (SinkFailed out × Gained notes (refusal_line refused.WriteFault)) ⊎ NoteFailed words files out notes
