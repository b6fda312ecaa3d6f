-- What a call answers and writes, over what the files gave.
use Rattle.std.specs.Prelude.{◌≡◌, ℕ, ⊤, ◌⊎◌, List, [], Option, Some, None, Result, Ok, Err}
use Rattle.std.specs.List.{All}
use Rattle.tool_io.specs.Counts.{Rose}
use Rattle.tool_io.specs.Sink.{AppendsFront, append_known}
use Rattle.piece_writer.specs.LinePuts.{IsShort, PutsLines, SinkTold}
use Rattle.statepoint_tool.specs.Steps.{Step, Go, Stop}
use Rattle.statepoint_tool.specs.Taken.{Taken, FilesSeen, MayGive, file_phase}
use Rattle.statepoint_tool.specs.Notes.{refusal_line, status_of_refusal}
use Rattle.tool_words.specs.Words.{command_of}
use Rattle.statepoint_tool.specs.Work.{Output, MayGiveNamed, work}
use Rattle.statepoint_tool.specs.declared.refusal.Cause.{Cause}
use Rattle.statepoint_tool.specs.declared.refusal.Refusal.{Refusal}
use Rattle.statepoint_tool.specs.declared.refusal.Refusal.TheVariants.{Defined, WriteFault, Memory}
use Rattle.statepoint_tool.specs.declared.status.Status.{Status}
use Rattle.statepoint_tool.specs.declared.status.Status.TheVariants as ending

-- what a call sees of a sink: the list that was written and the pieces that were put, where they are told, and the count of faults,
-- before the call and after it
pub record SinkSeen : Type 0 where
  pub old : Option (List ℕ)
  pub new : Option (List ℕ)
  pub puts_before : Option (List (List ℕ))
  pub puts_after : Option (List (List ℕ))
  pub faults_before : ℕ
  pub faults_after : ℕ

abbrev pub sink_seen : (old new : SinkTold) (before after : ℕ) → SinkSeen
sink_seen old new before after = record {
  old = old.written;
  new = new.written;
  puts_before = old.puts;
  puts_after = new.puts;
  faults_before = before;
  faults_after = after;
}

-- the sink grew by exactly these bytes; by a front of them
abbrev pub Gained : SinkSeen → List ℕ → Type 0
Gained sink bytes = sink.new ≡ append_known sink.old bytes

abbrev pub GainedFront : SinkSeen → List ℕ → Type 0
GainedFront sink bytes = AppendsFront sink.old sink.new bytes

-- exactly these lines were put, each by one call
abbrev pub PutEach : SinkSeen → List (List ℕ) → Type 0
PutEach sink lines =
    PutsLines (record { written = sink.old; puts = sink.puts_before }) (record { written = sink.new; puts = sink.puts_after }) lines

-- the lines of such an output were put so, where none has more than 8,192 bytes; no other output has lines
abbrev pub PutByLine : Option (List (List ℕ)) → SinkSeen → Type 0
PutByLine None sink = ⊤
PutByLine (Some lines) sink = All IsShort lines → PutEach sink lines

abbrev pub SinkFailed : SinkSeen → Type 0
SinkFailed sink = Rose sink.faults_before sink.faults_after

-- a phase that reads comes to a value, or refuses by its cause, or wants memory
abbrev pub Agrees : {A B : Type 0} → (B → A) → Result B Refusal → (Step A → Type 0) → Type 0
Agrees view (Ok value) phase = phase (Go (view value))
Agrees view (Err (Defined cause)) phase = phase (Stop cause)
Agrees view (Err WriteFault) phase = ⊥
Agrees view (Err Memory) phase = ⊤

-- the file of this name was taken, and what it gave was read
pub record Reads {A B : Type 0} (files : FilesSeen) (name : List ℕ) (read : List ℕ → Step A → Type 0) (view : B → A) (result : Result B Refusal) : Type 0 where
  pub given : Taken
  pub may_give : MayGive files name given
  pub agrees : Agrees view result (file_phase name read given)

-- the work came to its end: its status is the output's, and all of the output's text was written, the lines of a run one by one
pub record IsDone (status : Status) (phase : Step Output → Type 0) (out : SinkSeen) : Type 0 where
  pub output : Output
  pub defined : phase (Go output)
  pub status_is : status ≡ output.status
  pub written : Gained out output.text
  pub by_line : PutByLine output.lines out

-- the work stops by this cause, and nothing was written
pub record IsRefused (cause : Cause) (phase : Step Output → Type 0) (out : SinkSeen) : Type 0 where
  pub defined : phase (Stop cause)
  pub unwritten : Gained out []

-- a front of the text of such an output was written
pub record IsBegun (due : Output → Type 0) (out : SinkSeen) : Type 0 where
  pub output : Output
  pub defined : due output
  pub front : GainedFront out output.text

-- how a call of the work ends; where memory is wanted, before the first byte or behind a front
abbrev pub Came : Result Status Refusal → (Step Output → Type 0) → SinkSeen → Type 0
Came (Ok status) phase out = IsDone status phase out
Came (Err (Defined cause)) phase out = IsRefused cause phase out
Came (Err WriteFault) phase out = SinkFailed out × IsBegun (λ output. phase (Go output)) out
Came (Err Memory) phase out = Gained out [] ⊎ IsBegun (λ output. phase (Go output)) out

-- the same, over something that the files may have given
pub record Works {G : Type 0} (may_give : G → Type 0) (phases : G → Step Output → Type 0) (result : Result Status Refusal) (out : SinkSeen) : Type 0 where
  pub given : G
  pub may : may_give given
  pub came : Came result (phases given) out

-- what is said of a refusal: its line, with its status; or standard error failed after a front of it
pub record IsSaid (refusal : Refusal) (status : Status) (notes : SinkSeen) : Type 0 where
  pub status_is : status ≡ status_of_refusal refusal
  pub line : Gained notes (refusal_line refusal)

pub record IsSaidInPart (refusal : Refusal) (status : Status) (notes : SinkSeen) : Type 0 where
  pub status_is : status ≡ ending.WriteFault
  pub failed : SinkFailed notes
  pub front : GainedFront notes (refusal_line refusal)

-- where the work came to its end nothing is said
abbrev pub IsTold : Result Status Refusal → Status → SinkSeen → Type 0
IsTold (Ok ended) status notes = (status ≡ ended) × Gained notes []
IsTold (Err refusal) status notes = IsSaid refusal status notes ⊎ IsSaidInPart refusal status notes

-- the whole of what a call answers: the work ended in some way over something that the files may have
-- given, and the status and the notes tell how
pub record IsAnswer (words : List (List ℕ)) (files : FilesSeen) (out notes : SinkSeen) (status : Status) : Type 0 where
  pub ended : Result Status Refusal
  pub works : Works (MayGiveNamed files (command_of words)) (work words) ended out
  pub told : IsTold ended status notes
