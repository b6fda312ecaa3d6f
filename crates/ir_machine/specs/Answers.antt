-- What a run of the machine answers.
use Rattle.std.specs.Prelude.{◌≡◌, ℕ, ◌+◌, ◌-◌, ◌^◌, min, ℤ, Bool, true, false, List, [], ◌∷◌, ◌++◌, Option, Some, None, ◌⊎◌}
use Rattle.std.specs.List.{All, concat}
use Rattle.tool_io.specs.Sink.{append_known, AppendsFront}
use Rattle.piece_writer.specs.LinePuts.{IsShort, PutsFirst, PutsLines, SinkTold}
use Rattle.sp_ids.specs.declared.ends.End.{End}
use Rattle.ir_ast.specs.Modules.{ModuleContent}
use Rattle.move_plan.specs.declared.plan_lines.PlanLine.{PlanLine}
use Rattle.move_plan.specs.Plans.{go}
use Rattle.map_bytes.specs.Maps.{StackMap, IsMapOf}
use Rattle.moving_heap.specs.Settled.{AreSettled}
use Rattle.stackmap_write.specs.ModuleMaps.{map_of}
use Rattle.object_meaning.specs.Runs.{Ends, Go, Reaches}
use Rattle.object_meaning.specs.Effects.{Progress, line_count, printed_line}
use Rattle.object_meaning.specs.Outcomes.{Outcome, whole_text}
use Rattle.object_meaning.specs.TargetRuns.{TargetGives}
use Rattle.object_meaning.specs.Texts.{function_name}
use Rattle.machine_meaning.specs.Machines.{Machine, Machinery}
use Rattle.machine_meaning.specs.Code.{machinery_of}
use Rattle.machine_meaning.specs.MachineRuns.{MachineGives, MachineOutcome, machine_proceeds}
use Rattle.machine_meaning.specs.MachineSteps.{machine_step}
use Rattle.machine_meaning.specs.TrapLines.{waiting_lines}
use Rattle.moves_unseen.specs.Statements.{IsSeen}
use Rattle.tool_report.specs.Closings.{closing_line}
use Rattle.run_texts.specs.RunTexts.{RunWrites, lines_from, lines_to_end, run_lines}
use Rattle.run_tasks.specs.declared.runs.Ran.{Ran}
use Rattle.run_tasks.specs.Runs.{ran_of}
use Rattle.run_traces.specs.declared.happenings.Happening.{Happening}
use Rattle.ir_machine.specs.Executors.{told}
use Rattle.ir_machine.specs.Traces.{StepForeseen, did_lose, shown_lines}
use Rattle.ir_machine.specs.declared.run.Shows.{Shows}
use Rattle.ir_machine.specs.declared.run.SureFault.{SureFault}
use Rattle.ir_machine.specs.declared.run.SureFault.TheVariants as faults
use Rattle.run_traces.specs.declared.writing.Stopped.{Stopped}
use Rattle.run_traces.specs.declared.writing.Stopped.TheVariants as stops
use Rattle.run_tasks.specs.declared.printing.Did.{Did}
use Rattle.run_tasks.specs.declared.printing.Did.TheVariants.{GoesOn, Prints}
use Rattle.ir_machine.specs.declared.turns.Turn.{Turn}
use Rattle.run_tasks.specs.Dids.{effect_of}

-- the answer is that of the machine's run over a map, and its text was written, with places and trace or without
pub record IsRunOver (content : ModuleContent) (map : StackMap) (input : List ℤ) (plan : List PlanLine) (bound : ℕ) (shows : Shows) (ran : Ran) (old new : Option (List ℕ)) : Type 0 where
  pub outcome : MachineOutcome
  pub text : List ℕ
  pub writes : RunWrites content map input plan bound shows.places shows.trace outcome text
  pub answer : ran ≡ ran_of outcome.end outcome.func outcome.steps outcome.events outcome.printed
  pub written : new ≡ append_known old text

-- the same of the map that these bytes are
pub record IsRun (content : ModuleContent) (bytes : List ℕ) (input : List ℤ) (plan : List PlanLine) (bound : ℕ) (shows : Shows) (ran : Ran) (old new : Option (List ℕ)) : Type 0 where
  pub map : StackMap
  pub is_map : IsMapOf bytes map
  pub over : IsRunOver content map input plan bound shows ran old new

-- a sink grew by a front of the text of the machine's run over a map
pub record WritesFrontOver (content : ModuleContent) (map : StackMap) (input : List ℤ) (plan : List PlanLine) (bound : ℕ) (shows : Shows) (old new : Option (List ℕ)) : Type 0 where
  pub outcome : MachineOutcome
  pub text : List ℕ
  pub writes : RunWrites content map input plan bound shows.places shows.trace outcome text
  pub front : AppendsFront old new text

-- and over the map that these bytes are
pub record WritesFront (content : ModuleContent) (bytes : List ℕ) (input : List ℤ) (plan : List PlanLine) (bound : ℕ) (shows : Shows) (old new : Option (List ℕ)) : Type 0 where
  pub map : StackMap
  pub is_map : IsMapOf bytes map
  pub front : WritesFrontOver content map input plan bound shows old new

-- the lines of the machine's run over a map that gives this outcome, with places and trace or without
abbrev pub lines_over : (content : ModuleContent) (map : StackMap) (input : List ℤ) (plan : List PlanLine) (bound : ℕ) (shows : Shows) (outcome : MachineOutcome)
    → MachineGives content map input plan bound outcome → List (List ℕ)
lines_over content map input plan bound shows outcome gives =
    run_lines content (machinery_of content map plan bound) shows.places shows.trace input gives.run.within outcome.end gives.last.state

-- each of these lines was put by one call, where none has more than 8,192 bytes
pub record PutsRunOver (content : ModuleContent) (map : StackMap) (input : List ℤ) (plan : List PlanLine) (bound : ℕ) (shows : Shows) (old new : SinkTold) : Type 0 where
  pub outcome : MachineOutcome
  pub gives : MachineGives content map input plan bound outcome
  pub puts : All IsShort (lines_over content map input plan bound shows outcome gives)
      → PutsLines old new (lines_over content map input plan bound shows outcome gives)

-- the first ones of them were put so, and at most a front of the next one was written
pub record PutsFrontOver (content : ModuleContent) (map : StackMap) (input : List ℤ) (plan : List PlanLine) (bound : ℕ) (shows : Shows) (old new : SinkTold) : Type 0 where
  pub outcome : MachineOutcome
  pub gives : MachineGives content map input plan bound outcome
  pub puts : All IsShort (lines_over content map input plan bound shows outcome gives)
      → PutsFirst old new (lines_over content map input plan bound shows outcome gives)

-- the same of the map that these bytes are
pub record PutsRun (content : ModuleContent) (bytes : List ℕ) (input : List ℤ) (plan : List PlanLine) (bound : ℕ) (shows : Shows) (old new : SinkTold) : Type 0 where
  pub map : StackMap
  pub is_map : IsMapOf bytes map
  pub over : PutsRunOver content map input plan bound shows old new

pub record PutsFront (content : ModuleContent) (bytes : List ℕ) (input : List ℤ) (plan : List PlanLine) (bound : ℕ) (shows : Shows) (old new : SinkTold) : Type 0 where
  pub map : StackMap
  pub is_map : IsMapOf bytes map
  pub front : PutsFrontOver content map input plan bound shows old new

-- a run of a verified module over its own map: what the target meaning gives on objects that never move, the machine gives, and its
-- whole text was written; where nothing else is shown, this is the meaning's lines and the line that closes the run
pub record IsRunUnseen (content : ModuleContent) (input : List ℤ) (plan : List PlanLine) (bound : ℕ) (shows : Shows) (ran : Ran) (old new : Option (List ℕ)) : Type 0 where
  pub outcome : Outcome
  pub gives : TargetGives content input (go plan) bound outcome
  pub machine : MachineOutcome
  pub seen : IsSeen content outcome machine
  pub answer : ran ≡ ran_of machine.end machine.func machine.steps machine.events machine.printed
  pub text : List ℕ
  pub writes : RunWrites content (map_of content) input plan bound shows.places shows.trace machine text
  pub written : new ≡ append_known old text
  pub bare : shows.places ≡ false → shows.trace ≡ false
      → text ≡ whole_text outcome ++ closing_line outcome.end (function_name content outcome.func) outcome.steps outcome.events

-- ---- from a state on

-- the lines of a run that has come to this end within so many steps
abbrev pub lines_of_run : ModuleContent → Machinery → Shows → ℕ → Progress Machine → End → Machine → List (List ℕ)
lines_of_run content machinery shows = lines_to_end content machinery shows.places shows.trace

-- what waiting frames show of a run that trapped in a state
abbrev pub frames_shown : Machinery → Machine → List (List ℕ)
frames_shown machinery machine = waiting_lines machinery machine.heap.stands (machinery.frame_words machine.state.running.func) machine.stack

-- the answer is that of the run from a state on, and its text was written
pub record IsRunFrom (content : ModuleContent) (machinery : Machinery) (shows : Shows) (start : Progress Machine) (ran : Ran) (old new : SinkTold) : Type 0 where
  pub last : Progress Machine
  pub run : Ends (machine_proceeds machinery) start ran.end last
  pub func : ran.func.0 ≡ last.state.state.running.func
  pub steps : ran.steps ≡ last.state.state.steps
  pub events : ran.events ≡ last.state.state.events
  pub lines : ran.lines ≡ line_count last.lines
  pub written : new.written ≡ append_known old.written (concat (lines_of_run content machinery shows run.within start ran.end last.state))
  pub puts : All IsShort (lines_of_run content machinery shows run.within start ran.end last.state)
      → PutsLines old new (lines_of_run content machinery shows run.within start ran.end last.state)

-- the first ones of the lines that the first so many steps of a run write were put
pub record BeginsText (machinery : Machinery) (trace : Bool) (start : Progress Machine) (old new : SinkTold) : Type 0 where
  pub steps : ℕ
  pub puts : PutsFirst old new (lines_from machinery trace steps (Go start))

-- or of all lines of a run
pub record BeginsWhole (content : ModuleContent) (machinery : Machinery) (shows : Shows) (start : Progress Machine) (old new : SinkTold) : Type 0 where
  pub end : End
  pub last : Progress Machine
  pub run : Ends (machine_proceeds machinery) start end last
  pub front : AppendsFront old.written new.written (concat (lines_of_run content machinery shows run.within start end last.state))
  pub puts : All IsShort (lines_of_run content machinery shows run.within start end last.state)
      → PutsFirst old new (lines_of_run content machinery shows run.within start end last.state)

abbrev pub WritesFrontFrom : ModuleContent → Machinery → Shows → Progress Machine → SinkTold → SinkTold → Type 0
WritesFrontFrom content machinery shows start old new =
    BeginsText machinery shows.trace start old new ⊎ BeginsWhole content machinery shows start old new

abbrev pub unprinted : Machine → Progress Machine
unprinted machine = record { state = machine; lines = [] }

-- a run from a start has come to this state after so many steps, with so many lines printed, and each line that they write was put by
-- one call
pub record Follows (machinery : Machinery) (trace : Bool) (start : Progress Machine) (machine : Machine) (count : ℕ) (old now : SinkTold) : Type 0 where
  pub lines : List (List ℕ)
  pub reached : Reaches {E = End} (machine_proceeds machinery) start (record { state = machine; lines = lines })
  pub counted : count ≡ line_count lines
  pub puts : PutsLines old now (lines_from machinery trace reached.after (Go start))
  pub settled : AreSettled machine.heap.stands

-- a run that has come to one state comes to the other, and writes nothing on the way
abbrev pub LeadsOn : Machinery → Bool → Machine → Machine → Type 0
LeadsOn machinery trace old new =
    (start : Progress Machine) (one : Happening) (count : ℕ) (first now : SinkTold)
    → Follows machinery trace start old count first now → Follows machinery trace start new count first now

-- ---- steps

-- a run came on to a state, whose step was foreseen so, and then did this
pub record Turned (machinery : Machinery) (trace : Bool) (old : Machine) (event : Bool) (one : Happening) (did : Did) (new : Machine) : Type 0 where
  pub before : Machine
  pub later : Machine
  pub leads : LeadsOn machinery trace old before
  pub foreseen : StepForeseen machinery trace before event one
  pub same : machine_step machinery later ≡ machine_step machinery before
  pub does : told (effect_of did new) ≡ told (machine_step machinery later)

-- the same where nothing is shown
abbrev pub WentFar : Machinery → Machine → Turn → Machine → Type 0
WentFar machinery old turn new = (one : Happening) → Turned machinery false old turn.event one turn.did new

-- whether a step prints or ends
abbrev pub is_shown : Did → Bool
is_shown GoesOn = false
is_shown did = true

abbrev pub printed_of : Did → List (List ℕ)
printed_of (Prints word) = printed_line word ∷ []
printed_of _ = []

-- what a step writes that was foreseen so and did this
abbrev pub lines_of_step : Bool → Happening → Did → List (List ℕ)
lines_of_step event one did = shown_lines event (did_lose did) one ++ printed_of did

-- the count of printed lines after it
abbrev pub counted_by : Did → ℕ → ℕ
counted_by (Prints word) count = min (count + 1) (2 ^ 64 - 1)
counted_by _ count = count

-- why a run stops whose places are not written to their end
abbrev pub fault_of : Stopped → SureFault
fault_of stops.Memory = faults.Memory
fault_of stops.Write = faults.Write
