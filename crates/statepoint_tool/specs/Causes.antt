-- What brings each status about, over what the files gave.
use Rattle.std.specs.Prelude.{◌≡◌, ⊤, ℕ, ℤ, Bool, true, false, List, Option, Some, None, Ok, Err}
use Rattle.ir_reader.specs.Text.{Numbered, syntax_fault, limit_fault, readings_in}
use Rattle.ir_lines.specs.declared.faults.Fault.{Fault as TypeFault}
use Rattle.ir_lines.specs.Statements.{Line, lines_of}
use Rattle.ir_types.specs.FaultSet.{HasNoFault, IsLeastFault}
use Rattle.ir_ast.specs.declared.modules.Form.{Form as TextForm}
use Rattle.ir_ast.specs.declared.modules.Form.TheVariants as text_forms
use Rattle.ir_ast.specs.Modules.{ModuleContent}
use Rattle.ir_lines.specs.Modules.{module_of}
use Rattle.pair_facts.specs.Faults.{IsVerified, IsLeastFault as IsLeastCheckFault}
use Rattle.statepoint_verify.specs.declared.faults.Fault.{Fault as CheckFault}
use Rattle.sp_rewrite.specs.Relocates.{HasManyRelocates}
use Rattle.sp_rewrite.specs.Statements.{IsRewritten}
use Rattle.move_plan.specs.declared.plan_lines.PlanLine.{PlanLine}
use Rattle.move_plan.specs.Inputs.{HasNoInputFault, IsFirstInputFault, IsInputOf}
use Rattle.move_plan.specs.PlanFaults.{HasNoFault as HasNoPlanFault}
use Rattle.move_plan.specs.Plans.{IsPlanOf, go}
use Rattle.map_bytes.specs.Maps.{StackMap}
use Rattle.map_bytes.specs.Faults.{IsFirstFault}
use Rattle.map_bytes.specs.declared.rules.MapFault.{MapFault}
use Rattle.machine_meaning.specs.MachineRuns.{MachineOutcome}
use Rattle.run_texts.specs.RunTexts.{RunWrites}
use Rattle.stackmap_write.specs.ModuleMaps.{map_of}
use Rattle.ir_machine.specs.declared.run.Shows.{Shows}
use Rattle.object_meaning.specs.Outcomes.{Outcome}
use Rattle.object_meaning.specs.SourceRuns.{SourceGives}
use Rattle.statepoint_tool.specs.PlanFaults.{IsLeastPlanFault}
use Rattle.statepoint_tool.specs.Steps.{Go}
use Rattle.statepoint_tool.specs.Taken.{Taken, Bytes, Longer, Faulty}
use Rattle.tool_words.specs.Words.{command_of}
use Rattle.statepoint_tool.specs.Work.{Generating, Given, Output, content_of, ended_with, form_of, lines_of_run, map_named, map_phase, output_of, passed, showing, shown, written_of}
use Rattle.statepoint_tool.specs.declared.refusal.Cause.{Cause}
use Rattle.statepoint_tool.specs.declared.refusal.Cause.TheVariants as cause
use Rattle.statepoint_tool.specs.declared.refusal.ModuleFault.{ModuleFault}
use Rattle.statepoint_tool.specs.declared.refusal.ModuleFault.TheVariants.{Syntax, Limit, Typed, TooManyRelocations}
use Rattle.statepoint_tool.specs.declared.refusal.PlanFault.{PlanFault}
use Rattle.tool_words.specs.declared.request.Part.{Part}
use Rattle.statepoint_tool.specs.declared.engine.Engine.{Engine}
use Rattle.statepoint_tool.specs.declared.engine.Engine.TheVariants.{Meaning, Rewriter, Machine}
use Rattle.tool_words.specs.declared.request.RunRequest.{RunRequest}
use Rattle.tool_words.specs.declared.request.Command.TheVariants.{Show, Rewrite, Check, Source, Run, Exec, Gen}
use Rattle.statepoint_tool.specs.declared.status.Status.{Status}

-- ---- texts of modules

-- the lines of the text all have a reading and pass no limit
pub record IsReadAs (form : TextForm) (text : List ℕ) (lines : List Line) : Type 0 where
  pub readings : List Numbered
  pub read : readings_in form text ≡ Ok readings
  pub are : lines ≡ lines_of readings

-- and they have no fault
pub record IsAccepted (form : TextForm) (text : List ℕ) (lines : List Line) : Type 0 where
  pub read : IsReadAs form text lines
  pub faultless : HasNoFault form lines

-- the first line that has no reading or passes a limit; or else the least fault of the lines
pub data HasTextFault (form : TextForm) (text : List ℕ) : ModuleFault → Type 0 where
  unread : (line : ℕ) → readings_in form text ≡ Err (syntax_fault line) → HasTextFault form text (Syntax line)
  over_limit : (line : ℕ) → readings_in form text ≡ Err (limit_fault line) → HasTextFault form text (Limit line)
  faulty : (lines : List Line) (fault : TypeFault) → IsReadAs form text lines → IsLeastFault form lines fault.line fault.code
      → HasTextFault form text (Typed fault)

-- ---- how far the work goes

-- the words ask to show the module of this file
pub record AsksToShow (words : List (List ℕ)) : Type 0 where
  pub module_file : List ℕ
  pub command : command_of words ≡ Some (Show module_file)

-- the words ask to rewrite the module of this file, and for this of its rewritten module
pub record AsksToRewrite (words : List (List ℕ)) : Type 0 where
  pub module_file : List ℕ
  pub part : Part
  pub command : command_of words ≡ Some (Rewrite module_file part)

-- the words ask to check the module of this file
pub record AsksToCheck (words : List (List ℕ)) : Type 0 where
  pub module_file : List ℕ
  pub command : command_of words ≡ Some (Check module_file)

-- the words ask for this run: of a source module, by its meaning or rewritten, or of a rewritten one, on the machine
pub data IsAskedFor (words : List (List ℕ)) : Engine → RunRequest → Type 0 where
  by_source : (request : RunRequest) → command_of words ≡ Some (Source request) → IsAskedFor words Meaning request
  by_run : (request : RunRequest) (map_file : Option (List ℕ)) (places trace : Bool) → command_of words ≡ Some (Run request map_file places trace)
      → IsAskedFor words (Rewriter map_file (showing places trace)) request
  by_exec : (request : RunRequest) (map_file : Option (List ℕ)) (trust places trace : Bool) → command_of words ≡ Some (Exec request map_file trust places trace)
      → IsAskedFor words (Machine map_file trust (showing places trace)) request

pub record AsksForRun (words : List (List ℕ)) : Type 0 where
  pub engine : Engine
  pub request : RunRequest
  pub asked : IsAskedFor words engine request

-- the words ask for the summary of a generated module and its run
pub record AsksToGenerate (words : List (List ℕ)) : Type 0 where
  pub seed : ℕ
  pub size : ℕ
  pub steps : ℕ
  pub command : command_of words ≡ Some (Gen seed size steps)

-- the module to be shown is accepted
pub record ReadsToShow (words : List (List ℕ)) (given : Given) : Type 0 where
  pub asks : AsksToShow words
  pub text : List ℕ
  pub taken : given.module_file ≡ Bytes text
  pub lines : List Line
  pub accepted : IsAccepted text_forms.Source text lines

-- the module to be rewritten is accepted
pub record ReadsToRewrite (words : List (List ℕ)) (given : Given) : Type 0 where
  pub asks : AsksToRewrite words
  pub text : List ℕ
  pub taken : given.module_file ≡ Bytes text
  pub lines : List Line
  pub accepted : IsAccepted text_forms.Source text lines

-- and this is its rewritten module, which has no more relocates than may be
pub record Rewrites (words : List (List ℕ)) (given : Given) : Type 0 where
  pub reads : ReadsToRewrite words given
  pub after : ModuleContent
  pub is : IsRewritten (content_of text_forms.Source reads.lines) after
  pub few : ¬ HasManyRelocates (content_of text_forms.Source reads.lines)

-- the module to be checked is accepted, and has no fault of the verifier
pub record Checks (words : List (List ℕ)) (given : Given) : Type 0 where
  pub asks : AsksToCheck words
  pub text : List ℕ
  pub taken : given.module_file ≡ Bytes text
  pub lines : List Line
  pub accepted : IsAccepted text_forms.Rewritten text lines
  pub verified : IsVerified (content_of text_forms.Rewritten lines)

-- a module that is to be rewritten hasn't too many relocates, and a rewritten one that isn't trusted has no fault of the verifier
abbrev pub IsTrusted : Engine → ModuleContent → Type 0
IsTrusted Meaning content = ⊤
IsTrusted (Rewriter map_file shows) content = ¬ HasManyRelocates content
IsTrusted (Machine map_file true shows) content = ⊤
IsTrusted (Machine map_file false shows) content = IsVerified content

-- the module to be run is accepted, and trusted or verified
pub record ReadsModule (words : List (List ℕ)) (given : Given) : Type 0 where
  pub asks : AsksForRun words
  pub text : List ℕ
  pub taken : given.module_file ≡ Bytes text
  pub lines : List Line
  pub accepted : IsAccepted (form_of asks.engine) text lines
  pub trusted : IsTrusted asks.engine (content_of (form_of asks.engine) lines)

-- and the input's text has no fault, and these numbers
pub record ReadsInput (words : List (List ℕ)) (given : Given) : Type 0 where
  pub accepts : ReadsModule words given
  pub text : List ℕ
  pub taken : given.input ≡ Bytes text
  pub numbers : List ℤ
  pub are : IsInputOf text numbers
  pub faultless : HasNoInputFault text

-- and the plan's text has no fault, and stands for this plan
pub record ReadsPlan (words : List (List ℕ)) (given : Given) : Type 0 where
  pub reads : ReadsInput words given
  pub text : List ℕ
  pub taken : given.plan ≡ Bytes text
  pub plan : List PlanLine
  pub is : IsPlanOf text plan
  pub faultless : HasNoPlanFault text

-- the module that runs, on what, and the steps that it may take
abbrev pub module_run : {words : List (List ℕ)} {given : Given} → ReadsPlan words given → ModuleContent
module_run reads = content_of (form_of reads.reads.accepts.asks.engine) reads.reads.accepts.lines

abbrev pub engine_asked : {words : List (List ℕ)} {given : Given} → ReadsPlan words given → Engine
engine_asked reads = reads.reads.accepts.asks.engine

abbrev pub steps_asked : {words : List (List ℕ)} {given : Given} → ReadsPlan words given → ℕ
steps_asked reads = reads.reads.accepts.asks.request.steps

-- `source` runs a module by its meaning
pub record Runs (words : List (List ℕ)) (given : Given) : Type 0 where
  pub reads : ReadsPlan words given
  pub engine : engine_asked reads ≡ Meaning

-- a source module's run over that input and under that plan gives this
abbrev pub RunGives : {words : List (List ℕ)} {given : Given} → ReadsPlan words given → Outcome → Type 0
RunGives reads outcome = SourceGives (module_run reads) reads.reads.numbers (go reads.plan) (steps_asked reads) outcome

-- `run` runs the rewritten module of a source module over its own stack map: the source meaning gives this, and the machine's run writes
-- this text
pub record RunsRewritten (words : List (List ℕ)) (given : Given) : Type 0 where
  pub reads : ReadsPlan words given
  pub shows : Shows
  pub engine : engine_asked reads ≡ Rewriter None shows
  pub meant : Outcome
  pub means : RunGives reads meant
  pub after : ModuleContent
  pub rewritten : IsRewritten (module_run reads) after
  pub machine : MachineOutcome
  pub text : List ℕ
  pub writes : RunWrites after (map_of after) reads.reads.numbers reads.plan (steps_asked reads) shows.places shows.trace machine text

-- what the machine runs by itself, not as the source meaning: a rewritten module that was read, or over a given stack map the
-- rewritten module of a source module
abbrev pub IsExecuted : Engine → ModuleContent → ModuleContent → Type 0
IsExecuted Meaning content code = ⊥
IsExecuted (Rewriter None shows) content code = ⊥
IsExecuted (Rewriter (Some name) shows) content code = IsRewritten content code
IsExecuted (Machine map_file trust shows) content code = code ≡ content

abbrev pub shown_by : Engine → Shows
shown_by Meaning = showing false false
shown_by (Rewriter map_file shows) = shows
shown_by (Machine map_file trust shows) = shows

-- it runs over this stack map: its own, or that which the named file is
pub record Executes (words : List (List ℕ)) (given : Given) : Type 0 where
  pub reads : ReadsPlan words given
  pub code : ModuleContent
  pub runs : IsExecuted (engine_asked reads) (module_run reads) code
  pub map : StackMap
  pub takes : map_phase code (map_named (engine_asked reads)) given.map_file (Go map)

-- its run over that map and that input and under that plan gives this, and writes this text
abbrev pub MachineWrites : {words : List (List ℕ)} {given : Given} → Executes words given → MachineOutcome → List ℕ → Type 0
MachineWrites runs outcome text =
    RunWrites runs.code runs.map runs.reads.reads.numbers runs.reads.plan (steps_asked runs.reads)
    (shown_by (engine_asked runs.reads)).places (shown_by (engine_asked runs.reads)).trace outcome text

-- ---- the causes

-- the work comes to its end, with this output: a module is shown, or checked, or its rewritten module or the stack map of that is, or
-- it runs, and so ends by the source meaning or as the machine does, or one is generated
pub data Ends (words : List (List ℕ)) (given : Given) : Output → Type 0 where
  by_showing : (shows : ReadsToShow words given) → Ends words given (shown (content_of text_forms.Source shows.lines))
  by_checking : (checks : Checks words given) → Ends words given passed
  by_rewriting : (rewrites : Rewrites words given) → Ends words given (written_of rewrites.reads.asks.part rewrites.after)
  by_running : (runs : Runs words given) (outcome : Outcome) → RunGives runs.reads outcome → Ends words given (output_of (module_run runs.reads) outcome)
  by_running_rewritten : (runs : RunsRewritten words given) → Ends words given (ended_with runs.text (lines_of_run runs.writes) runs.meant.end)
  by_executing : (runs : Executes words given) (outcome : MachineOutcome) (text : List ℕ) → (writes : MachineWrites runs outcome text)
      → Ends words given (ended_with text (lines_of_run writes) outcome.end)
  by_generating : (asks : AsksToGenerate words) (output : Output) → Generating asks.seed asks.size asks.steps (Go output) → Ends words given output

abbrev pub EndsWith : Status → List (List ℕ) → Given → Type 0
EndsWith status words given = (output : Output) × Ends words given output × (output.status ≡ status)

abbrev pub NoCommand : List (List ℕ) → Given → Type 0
NoCommand words given = command_of words ≡ None

-- the words name this file as that of a module in this form
pub data NamesModule (words : List (List ℕ)) : TextForm → List ℕ → Type 0 where
  to_show : (asks : AsksToShow words) → NamesModule words text_forms.Source asks.module_file
  to_rewrite : (asks : AsksToRewrite words) → NamesModule words text_forms.Source asks.module_file
  to_check : (asks : AsksToCheck words) → NamesModule words text_forms.Rewritten asks.module_file
  to_run : (asks : AsksForRun words) → NamesModule words (form_of asks.engine) asks.request.code

-- the text of the module that the words name has this fault, its first
pub record TextHasFault (words : List (List ℕ)) (given : Given) (fault : ModuleFault) : Type 0 where
  pub form : TextForm
  pub name : List ℕ
  pub names : NamesModule words form name
  pub text : List ℕ
  pub taken : given.module_file ≡ Bytes text
  pub has : HasTextFault form text fault

-- the words name this file as that of a module to be rewritten: to be written, or run
pub data NamesSource (words : List (List ℕ)) : List ℕ → Type 0 where
  to_write : (asks : AsksToRewrite words) → NamesSource words asks.module_file
  to_run_rewritten : (request : RunRequest) (map_file : Option (List ℕ)) (places trace : Bool) → command_of words ≡ Some (Run request map_file places trace)
      → NamesSource words request.code

-- the module is accepted and, rewritten, would have too many relocates
pub record IsTooLarge (words : List (List ℕ)) (given : Given) : Type 0 where
  pub name : List ℕ
  pub names : NamesSource words name
  pub text : List ℕ
  pub taken : given.module_file ≡ Bytes text
  pub lines : List Line
  pub accepted : IsAccepted text_forms.Source text lines
  pub many : HasManyRelocates (content_of text_forms.Source lines)

-- the module has this fault: its text does, or it is too large
pub data HasModuleFault (words : List (List ℕ)) (given : Given) : ModuleFault → Type 0 where
  in_text : (fault : ModuleFault) → TextHasFault words given fault → HasModuleFault words given fault
  too_many : IsTooLarge words given → HasModuleFault words given TooManyRelocations

abbrev pub HasSomeModuleFault : List (List ℕ) → Given → Type 0
HasSomeModuleFault words given = (fault : ModuleFault) × HasModuleFault words given fault

-- the words name this file as that of a module to be verified: that of `check`, or of a run that isn't trusted
pub data NamesJudged (words : List (List ℕ)) : List ℕ → Type 0 where
  to_judge : (asks : AsksToCheck words) → NamesJudged words asks.module_file
  to_run_judged : (request : RunRequest) (map_file : Option (List ℕ)) (places trace : Bool) → command_of words ≡ Some (Exec request map_file false places trace)
      → NamesJudged words request.code

-- the module is accepted, and this is the least fault that the verifier tells
pub record HasCheckFault (words : List (List ℕ)) (given : Given) (fault : CheckFault) : Type 0 where
  pub name : List ℕ
  pub names : NamesJudged words name
  pub text : List ℕ
  pub taken : given.module_file ≡ Bytes text
  pub lines : List Line
  pub accepted : IsAccepted text_forms.Rewritten text lines
  pub least : IsLeastCheckFault (module_of text_forms.Rewritten lines) fault.line fault.code

abbrev pub HasSomeCheckFault : List (List ℕ) → Given → Type 0
HasSomeCheckFault words given = (fault : CheckFault) × HasCheckFault words given fault

-- the module is accepted, and this is the first line of the input's text with a fault
pub record HasInputFault (words : List (List ℕ)) (given : Given) (line : ℕ) : Type 0 where
  pub accepts : ReadsModule words given
  pub text : List ℕ
  pub taken : given.input ≡ Bytes text
  pub first : IsFirstInputFault text line

abbrev pub HasSomeInputFault : List (List ℕ) → Given → Type 0
HasSomeInputFault words given = (line : ℕ) × HasInputFault words given line

-- the input is read too, and this is the least fault of the plan's text
pub record HasPlanFault (words : List (List ℕ)) (given : Given) (fault : PlanFault) : Type 0 where
  pub reads : ReadsInput words given
  pub text : List ℕ
  pub taken : given.plan ≡ Bytes text
  pub least : IsLeastPlanFault text fault

abbrev pub HasSomePlanFault : List (List ℕ) → Given → Type 0
HasSomePlanFault words given = (fault : PlanFault) × HasPlanFault words given fault

-- the words name a stack map
pub record ReadsForMap (words : List (List ℕ)) (given : Given) : Type 0 where
  pub reads : ReadsPlan words given
  pub map_file : List ℕ
  pub named : map_named (engine_asked reads) ≡ Some map_file

-- the plan is read too, and this is the first fault of the stack map's bytes
pub record HasMapFault (words : List (List ℕ)) (given : Given) (fault : MapFault) : Type 0 where
  pub reads : ReadsForMap words given
  pub bytes : List ℕ
  pub taken : given.map_file ≡ Bytes bytes
  pub first : IsFirstFault bytes fault

abbrev pub HasSomeMapFault : List (List ℕ) → Given → Type 0
HasSomeMapFault words given = (fault : MapFault) × HasMapFault words given fault

-- the file of this name, which the words name, gave this, and nothing before it in the order of work refuses
pub data FileGives (words : List (List ℕ)) (given : Given) (what : Taken) : List ℕ → Type 0 where
  module_gives : (form : TextForm) (name : List ℕ) → NamesModule words form name → given.module_file ≡ what → FileGives words given what name
  input_gives : (accepts : ReadsModule words given) → given.input ≡ what → FileGives words given what accepts.asks.request.input
  plan_gives : (reads : ReadsInput words given) → given.plan ≡ what → FileGives words given what reads.accepts.asks.request.plan
  map_gives : (reads : ReadsForMap words given) → given.map_file ≡ what → FileGives words given what reads.map_file

abbrev pub CannotRead : List (List ℕ) → Given → Type 0
CannotRead words given = (name : List ℕ) × FileGives words given Faulty name

abbrev pub IsTooLong : List (List ℕ) → Given → Type 0
IsTooLong words given = (name : List ℕ) × FileGives words given Longer name

-- the work stops by this cause
abbrev pub StopsBy : Cause → List (List ℕ) → Given → Type 0
StopsBy cause.Words words given = NoCommand words given
StopsBy (cause.ReadFault name) words given = FileGives words given Faulty name
StopsBy (cause.TooLong name) words given = FileGives words given Longer name
StopsBy (cause.Module fault) words given = HasModuleFault words given fault
StopsBy (cause.Input line) words given = HasInputFault words given line
StopsBy (cause.Plan fault) words given = HasPlanFault words given fault
StopsBy (cause.Map fault) words given = HasMapFault words given fault
StopsBy (cause.Check fault) words given = HasCheckFault words given fault
