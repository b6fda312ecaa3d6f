-- What the reference interpreter answers.
use Rattle.std.specs.Prelude.{◌≡◌, ℕ, ◌+◌, ◌-◌, ◌^◌, min, ℤ, List, [], ◌++◌, reverse, Option}
use Rattle.std.specs.List.{All, concat}
use Rattle.tool_io.specs.Sink.{append_known, AppendsFront}
use Rattle.tool_io.specs.Told.{add_told}
use Rattle.piece_writer.specs.LinePuts.{IsShort, PutsFirst, PutsLines, SinkTold}
use Rattle.sp_ids.specs.declared.ends.End.{End}
use Rattle.ir_ast.specs.Modules.{ModuleContent}
use Rattle.flat_code.specs.Codes.{FlatModule}
use Rattle.ir_meaning.specs.Machines.{state_of}
use Rattle.ir_meaning.specs.declared.machine.Machine.{Machine}
use Rattle.run_tasks.specs.declared.printing.Did.{Did}
use Rattle.run_tasks.specs.declared.printing.Did.TheVariants.{Prints}
use Rattle.run_tasks.specs.declared.runs.Ran.{Ran}
use Rattle.run_tasks.specs.Runs.{ran_of}
use Rattle.object_meaning.specs.Runs.{Ends, Reaches}
use Rattle.object_meaning.specs.States.{State, Setting}
use Rattle.object_meaning.specs.Effects.{Progress, line_count, printed_line}
use Rattle.object_meaning.specs.Texts.{closing_lines, function_name}
use Rattle.object_meaning.specs.Outcomes.{Outcome, proceeds, whole_text}
use Rattle.object_meaning.specs.SourceRuns.{SourceGives}

-- the answer is that of the module's run, under the `go` lines of a plan, and all that the run writes was written: what it
-- prints, and what its waiting frames show at a trap
pub record IsRun (content : ModuleContent) (input : List ℤ) (go : ℕ → Option ℕ) (bound : ℕ) (ran : Ran) (old new : Option (List ℕ)) : Type 0 where
  pub outcome : Outcome
  pub gives : SourceGives content input go bound outcome
  pub answer : ran ≡ ran_of outcome.end outcome.func outcome.steps outcome.events outcome.printed
  pub written : new ≡ append_known old (whole_text outcome)

-- a front of what the module's run writes was written
pub record WritesFrontOfRun (content : ModuleContent) (input : List ℤ) (go : ℕ → Option ℕ) (bound : ℕ) (old new : Option (List ℕ)) : Type 0 where
  pub outcome : Outcome
  pub gives : SourceGives content input go bound outcome
  pub front : AppendsFront old new (whole_text outcome)

-- each line of what the module's run writes was put by one call, where none has more than 8,192 bytes
pub record PutsRun (content : ModuleContent) (input : List ℤ) (go : ℕ → Option ℕ) (bound : ℕ) (old new : SinkTold) : Type 0 where
  pub outcome : Outcome
  pub gives : SourceGives content input go bound outcome
  pub puts : All IsShort outcome.lines → PutsLines old new outcome.lines

-- the first ones of these lines were put so, and at most a front of the next one was written
pub record PutsFrontOfRun (content : ModuleContent) (input : List ℤ) (go : ℕ → Option ℕ) (bound : ℕ) (old new : SinkTold) : Type 0 where
  pub outcome : Outcome
  pub gives : SourceGives content input go bound outcome
  pub puts : All IsShort outcome.lines → PutsFirst old new outcome.lines

-- the lines of a run that comes to this end
abbrev pub lines_from : Setting → End → Progress State → List (List ℕ)
lines_from setting end last = reverse last.lines ++ closing_lines setting.names end last.state

-- the same of a run from a state on
pub record IsRunFrom (setting : Setting) (start : Progress State) (ran : Ran) (old new : SinkTold) : Type 0 where
  pub last : Progress State
  pub run : Ends (proceeds setting) start ran.end last
  pub func : ran.func.0 ≡ last.state.running.func
  pub steps : ran.steps ≡ last.state.steps
  pub events : ran.events ≡ last.state.events
  pub lines : ran.lines ≡ line_count last.lines
  pub written : new.written ≡ append_known old.written (concat (lines_from setting ran.end last))
  pub puts : All IsShort (lines_from setting ran.end last) → PutsLines old new (lines_from setting ran.end last)

-- a sink grew by a front of what a run from a state on writes in all
pub record WritesFrontFrom (setting : Setting) (start : Progress State) (old new : SinkTold) : Type 0 where
  pub end : End
  pub last : Progress State
  pub run : Ends (proceeds setting) start end last
  pub front : AppendsFront old.written new.written (concat (lines_from setting end last))
  pub puts : All IsShort (lines_from setting end last) → PutsFirst old new (lines_from setting end last)

-- what is written after the last printed line of a run that ends so
abbrev pub last_lines : FlatModule → End → Machine → List (List ℕ)
last_lines code end machine = closing_lines (function_name code.content) end (state_of code machine)

-- a run that has not printed yet
abbrev pub unprinted : State → Progress State
unprinted state = record { state = state; lines = [] }

-- a run from a start has come to this state, with so many lines, each of which was put by one call
pub record Follows (setting : Setting) (start : Progress State) (state : State) (count : ℕ) (old now : SinkTold) : Type 0 where
  pub lines : List (List ℕ)
  pub reached : Reaches {E = End} (proceeds setting) start (record { state = state; lines = lines })
  pub counted : count ≡ line_count lines
  pub puts : PutsLines old now (reverse lines)

-- what a step printed was put by one call, and counted
abbrev pub Wrote : Did → ℕ → ℕ → SinkTold → SinkTold → Type 0
Wrote (Prints word) count more old new =
    (more ≡ min (count + 1) (2 ^ 64 - 1)) × (new.written ≡ append_known old.written (printed_line word)) × (new.puts ≡ add_told old.puts (printed_line word))
Wrote _ count more old new = (more ≡ count) × (new ≡ old)

-- a call fails at a printed line alone
abbrev pub WroteFront : Did → SinkTold → SinkTold → Type 0
WroteFront (Prints word) old new = AppendsFront old.written new.written (printed_line word) × (new.puts ≡ old.puts)
WroteFront _ old new = ⊥
