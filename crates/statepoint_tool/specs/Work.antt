-- The order of work: the words; then the module is taken, read and typed; to show it, its text is written; to check it, it is
-- verified; to rewrite it, that of its rewritten module, or that one's stack map; to run it, the input is taken and read, then the plan, and it
-- runs by the source meaning, or, a rewritten module, on the address machine over a stack map, its own or one that is taken. A generated
-- module takes no file.
use Rattle.std.specs.Prelude.{ℕ, ℤ, ⊤, Bool, true, false, codes, List, [], ◌∷◌, ◌++◌, Option, Some, None, Result, Ok, Err}
use Rattle.ir_ast.specs.declared.modules.Form.{Form as TextForm}
use Rattle.ir_ast.specs.declared.modules.Form.TheVariants as text_forms
use Rattle.ir_ast.specs.Modules.{ModuleContent, LinedModule}
use Rattle.ir_reader.specs.Text.{Numbered, Fault, syntax_fault, limit_fault, readings_in}
use Rattle.ir_lines.specs.declared.faults.Fault.{Fault as TypeFault}
use Rattle.ir_lines.specs.Statements.{Line, lines_of}
use Rattle.ir_types.specs.FaultSet.{HasNoFault, IsLeastFault}
use Rattle.ir_lines.specs.Modules.{module_of}
use Rattle.ir_printer.specs.Texts.{text_of}
use Rattle.pair_facts.specs.Faults.{IsVerified, IsLeastFault as IsLeastCheckFault}
use Rattle.statepoint_verify.specs.declared.faults.Fault.{Fault as CheckFault}
use Rattle.map_bytes.specs.Maps.{StackMap, map_bytes, IsMapOf}
use Rattle.map_bytes.specs.Faults.{IsFirstFault}
use Rattle.map_bytes.specs.declared.rules.MapFault.{MapFault}
use Rattle.stackmap_write.specs.ModuleMaps.{map_of}
use Rattle.tool_report.specs.MapTexts.{text_of_map}
use Rattle.sp_rewrite.specs.Relocates.{HasManyRelocates}
use Rattle.sp_rewrite.specs.Statements.{IsRewritten}
use Rattle.move_plan.specs.declared.plan_lines.PlanLine.{PlanLine}
use Rattle.move_plan.specs.Inputs.{HasNoInputFault, IsFirstInputFault, IsInputOf}
use Rattle.move_plan.specs.PlanFaults.{HasNoFault as HasNoPlanFault}
use Rattle.move_plan.specs.Plans.{IsPlanOf, go}
use Rattle.machine_meaning.specs.MachineRuns.{MachineOutcome}
use Rattle.machine_meaning.specs.Code.{machinery_of}
use Rattle.run_texts.specs.RunTexts.{RunWrites, run_lines}
use Rattle.ir_machine.specs.declared.run.Shows.{Shows}
use Rattle.generated_forms.specs.Modules.{generated}
use Rattle.sp_ids.specs.declared.ends.End.{End}
use Rattle.object_meaning.specs.Outcomes.{Outcome, whole_text}
use Rattle.object_meaning.specs.SourceRuns.{SourceGives}
use Rattle.statepoint_tool.specs.Closings.{closing_line, status_of_end}
use Rattle.statepoint_tool.specs.PlanFaults.{IsLeastPlanFault}
use Rattle.gen_report.specs.Summaries.{flipping, summary_of}
use Rattle.statepoint_tool.specs.Steps.{Step, Go, Stop, comes_to, Then}
use Rattle.statepoint_tool.specs.Taken.{Taken, FilesSeen, MayGive, file_phase}
use Rattle.tool_words.specs.Words.{command_of}
use Rattle.statepoint_tool.specs.declared.refusal.Cause.TheVariants.{Words, Module, Input, Plan, Map, Check as CheckSays}
use Rattle.statepoint_tool.specs.declared.refusal.ModuleFault.TheVariants.{Syntax, Limit, Typed, TooManyRelocations}
use Rattle.statepoint_tool.specs.declared.refusal.PlanFault.{PlanFault}
use Rattle.tool_words.specs.declared.request.Part.{Part}
use Rattle.tool_words.specs.declared.request.Part.TheVariants.{Text, MapText, MapBytes}
use Rattle.statepoint_tool.specs.declared.engine.Engine.{Engine}
use Rattle.statepoint_tool.specs.declared.engine.Engine.TheVariants.{Meaning, Rewriter, Machine}
use Rattle.tool_words.specs.declared.request.RunRequest.{RunRequest}
use Rattle.tool_words.specs.declared.request.Command.{Command}
use Rattle.tool_words.specs.declared.request.Command.TheVariants.{Show, Rewrite, Check, Source, Run, Exec, Gen}
use Rattle.statepoint_tool.specs.declared.status.Status.{Status}
use Rattle.statepoint_tool.specs.declared.status.Status.TheVariants.{Done}

-- what the work writes to standard output, by lines if it is a run's, and the status that it then ends with
pub record Output : Type 0 where
  pub text : List ℕ
  pub lines : Option (List (List ℕ))
  pub status : Status

-- what each file gave, by what the command wants of it
pub record Given : Type 0 where
  pub module_file : Taken
  pub input : Taken
  pub plan : Taken
  pub map_file : Taken

-- the file of this name may have given this, and so the files of these names
abbrev pub MayGiveShown : FilesSeen → List ℕ → Given → Type 0
MayGiveShown files module_file given = MayGive files module_file given.module_file

-- the stack map that a run on the machine names
abbrev pub map_named : Engine → Option (List ℕ)
map_named Meaning = None
map_named (Rewriter map_file shows) = map_file
map_named (Machine map_file trust shows) = map_file

-- it is taken where one is named
abbrev pub MayGiveFile : FilesSeen → Option (List ℕ) → Taken → Type 0
MayGiveFile files None given = ⊤
MayGiveFile files (Some name) given = MayGive files name given

abbrev pub MayGiveMap : FilesSeen → Engine → Taken → Type 0
MayGiveMap files engine given = MayGiveFile files (map_named engine) given

-- what a run takes behind its input, and behind its module
abbrev pub MayGiveFromPlan : FilesSeen → (plan : List ℕ) → Engine → Taken × Taken → Type 0
MayGiveFromPlan files plan engine given = MayGive files plan given.0 × MayGiveMap files engine given.1

abbrev pub MayGiveFromInput : FilesSeen → (input plan : List ℕ) → Engine → Taken × (Taken × Taken) → Type 0
MayGiveFromInput files input plan engine given = MayGive files input given.0 × MayGiveFromPlan files plan engine given.1

abbrev pub MayGiveAll : FilesSeen → Engine → RunRequest → Given → Type 0
MayGiveAll files engine request given =
    MayGive files request.code given.module_file
    × MayGiveFromInput files request.input request.plan engine (given.input, (given.plan, given.map_file))

-- reading a module: the lines of its text, or the first that has no reading or passes a limit
abbrev pub read_step : Result (List Numbered) Fault → Step (List Line)
read_step (Ok readings) = Go (lines_of readings)
read_step (Err (syntax_fault line)) = Stop (Module (Syntax line))
read_step (Err (limit_fault line)) = Stop (Module (Limit line))

abbrev pub reading : TextForm → List ℕ → Step (List Line) → Type 0
reading form text = comes_to (read_step (readings_in form text))

abbrev pub content_of : TextForm → List Line → ModuleContent
content_of form lines = (module_of form lines).content

-- typing it: the module that the lines stand for where they have no fault, or else the least of their faults
pub data Typing (form : TextForm) (lines : List Line) : Step LinedModule → Type 0 where
  faultless : HasNoFault form lines → Typing form lines (Go (module_of form lines))
  faulty : (fault : TypeFault) → IsLeastFault form lines fault.line fault.code → Typing form lines (Stop (Module (Typed fault)))

abbrev pub module_phase : TextForm → List ℕ → Step LinedModule → Type 0
module_phase form text = Then (reading form text) (Typing form)

-- verifying a rewritten module: it has no fault of the verifier, or this is the least
pub data Judging (whole : LinedModule) : Step LinedModule → Type 0 where
  verified : IsVerified whole.content → Judging whole (Go whole)
  said_no : (fault : CheckFault) → IsLeastCheckFault whole fault.line fault.code → Judging whole (Stop (CheckSays fault))

-- rewriting a module: its rewritten module, unless that would have too many relocates
pub data Rewriting (content : ModuleContent) : Step ModuleContent → Type 0 where
  rewritten : (after : ModuleContent) → IsRewritten content after → ¬ HasManyRelocates content → Rewriting content (Go after)
  too_many : HasManyRelocates content → Rewriting content (Stop (Module TooManyRelocations))

-- the form of the modules that an engine runs
abbrev pub form_of : Engine → TextForm
form_of Meaning = text_forms.Source
form_of (Rewriter map_file shows) = text_forms.Source
form_of (Machine map_file trust shows) = text_forms.Rewritten

-- before a module runs: one that is to be rewritten has no more relocates than may be, and a rewritten one that isn't trusted is
-- verified
abbrev pub judged : Engine → LinedModule → Step LinedModule → Type 0
judged Meaning whole = comes_to (Go whole)
judged (Rewriter map_file shows) whole = Then (Rewriting whole.content) (λ after. comes_to (Go whole))
judged (Machine map_file true shows) whole = comes_to (Go whole)
judged (Machine map_file false shows) whole = Judging whole

abbrev pub run_module_phase : Engine → List ℕ → Step LinedModule → Type 0
run_module_phase engine text = Then (module_phase (form_of engine) text) (judged engine)

-- reading an input: the numbers of its text, or the first line that is neither blank nor a number, or holds the first
-- number too many
pub data ReadingInput (text : List ℕ) : Step (List ℤ) → Type 0 where
  has_numbers : (numbers : List ℤ) → IsInputOf text numbers → HasNoInputFault text → ReadingInput text (Go numbers)
  no_input : (line : ℕ) → IsFirstInputFault text line → ReadingInput text (Stop (Input line))

-- reading a plan: the plan of its text, or the least of its faults
pub data ReadingPlan (text : List ℕ) : Step (List PlanLine) → Type 0 where
  planned : (plan : List PlanLine) → IsPlanOf text plan → HasNoPlanFault text → ReadingPlan text (Go plan)
  no_plan : (fault : PlanFault) → IsLeastPlanFault text fault → ReadingPlan text (Stop (Plan fault))

-- showing a module writes its text
abbrev pub shown : ModuleContent → Output
shown content = record { text = text_of content; lines = None; status = Done }

abbrev pub show_phase : LinedModule → Step Output → Type 0
show_phase whole = comes_to (Go (shown whole.content))

-- of a rewritten module this is written, its text, or its stack map as text or as bytes
abbrev pub text_of_part : Part → ModuleContent → List ℕ
text_of_part Text content = text_of content
text_of_part MapText content = text_of_map (map_of content)
text_of_part MapBytes content = map_bytes (map_of content)

abbrev pub written_of : Part → ModuleContent → Output
written_of part content = record { text = text_of_part part content; lines = None; status = Done }

abbrev pub after_rewriting : Part → ModuleContent → Step Output → Type 0
after_rewriting part after = comes_to (Go (written_of part after))

abbrev pub rewrite_phase : Part → LinedModule → Step Output → Type 0
rewrite_phase part whole = Then (Rewriting whole.content) (after_rewriting part)

-- checking a module writes that it has no fault
abbrev pub passed : Output
passed = record { text = codes "ok\n"; lines = None; status = Done }

abbrev pub checked_phase : List ℕ → Step LinedModule → Type 0
checked_phase text = Then (module_phase text_forms.Rewritten text) Judging

abbrev pub after_check : LinedModule → Step Output → Type 0
after_check whole = comes_to (Go passed)

-- a run is told of by this text, and so ends
abbrev pub told_with : List ℕ → End → Output
told_with text end = record { text = text; lines = None; status = status_of_end end }

-- a run writes this text, by these lines, and so ends
abbrev pub ended_with : List ℕ → List (List ℕ) → End → Output
ended_with text lines end = record { text = text; lines = Some lines; status = status_of_end end }

-- what a run by the source meaning writes that gives this outcome, and the status that it ends with
abbrev pub output_of : ModuleContent → Outcome → Output
output_of content outcome =
    ended_with (whole_text outcome ++ closing_line content outcome.end outcome.func outcome.steps outcome.events)
    (outcome.lines ++ closing_line content outcome.end outcome.func outcome.steps outcome.events ∷ []) outcome.end

-- such a run writes what the source meaning says and ends as it does, over the input and under the `go` lines of the plan
pub data Running (content : ModuleContent) (input : List ℤ) (plan : List PlanLine) (steps : ℕ) : Step Output → Type 0 where
  comes : (outcome : Outcome) → SourceGives content input (go plan) steps outcome → Running content input plan steps (Go (output_of content outcome))

-- taking a stack map: the one that the bytes of a file are, or their first fault
pub data ReadingMap (bytes : List ℕ) : Step StackMap → Type 0 where
  has_map : (map : StackMap) → IsMapOf bytes map → ReadingMap bytes (Go map)
  no_map : (fault : MapFault) → IsFirstFault bytes fault → ReadingMap bytes (Stop (Map fault))

-- or that of the module itself, where no file is named
abbrev pub map_phase : ModuleContent → Option (List ℕ) → Taken → Step StackMap → Type 0
map_phase content None given = comes_to (Go (map_of content))
map_phase content (Some name) given = file_phase name ReadingMap given

-- the lines of a run on the machine that writes this text
abbrev pub lines_of_run : {content : ModuleContent} {map : StackMap} {input : List ℤ} {plan : List PlanLine} {steps : ℕ} {places trace : Bool} {outcome : MachineOutcome} {text : List ℕ}
    → RunWrites content map input plan steps places trace outcome text → List (List ℕ)
lines_of_run {content} {map} {input} {plan} {steps} {places} {trace} {outcome} writes =
    run_lines content (machinery_of content map plan steps) places trace input writes.gives.run.within outcome.end writes.gives.last.state

-- a run on the machine writes the text of the machine's run, with its trace and its places where they are to be shown, and ends as
-- it does, over the stack map, over the input and under the plan
pub data Executing (content : ModuleContent) (input : List ℤ) (plan : List PlanLine) (steps : ℕ) (shows : Shows) (map : StackMap) : Step Output → Type 0 where
  executes : (outcome : MachineOutcome) (text : List ℕ) → (writes : RunWrites content map input plan steps shows.places shows.trace outcome text)
      → Executing content input plan steps shows map (Go (ended_with text (lines_of_run writes) outcome.end))

-- a run of the rewritten module of a source module, over its own stack map, writes the text of the machine's run of it, and ends as
-- the source meaning says
pub data RunningRewritten (content : ModuleContent) (input : List ℤ) (plan : List PlanLine) (steps : ℕ) (shows : Shows) : Step Output → Type 0 where
  comes_rewritten : (meant : Outcome) → SourceGives content input (go plan) steps meant → (after : ModuleContent) → IsRewritten content after
      → (machine : MachineOutcome) (text : List ℕ) → (writes : RunWrites after (map_of after) input plan steps shows.places shows.trace machine text)
      → RunningRewritten content input plan steps shows (Go (ended_with text (lines_of_run writes) meant.end))

-- a source module runs by its meaning or is rewritten, a rewritten one runs on the machine
abbrev pub run_phase : Engine → ModuleContent → List ℤ → List PlanLine → ℕ → Taken → Step Output → Type 0
run_phase Meaning content numbers lines steps given = Running content numbers lines steps
run_phase (Rewriter None shows) content numbers lines steps given = RunningRewritten content numbers lines steps shows
run_phase (Rewriter (Some name) shows) content numbers lines steps given =
    Then (Rewriting content) (λ after. Then (file_phase name ReadingMap given) (Executing after numbers lines steps shows))
run_phase (Machine map_file trust shows) content numbers lines steps given =
    Then (map_phase content map_file given) (Executing content numbers lines steps shows)

-- a generated module is rewritten and runs over no input, under a plan by which all objects move at every event; what is written is a
-- summary, and the status is that of its end by the source meaning
pub data Generating (seed size steps : ℕ) : Step Output → Type 0 where
  generates : (after : ModuleContent) → IsRewritten (generated seed size) after → (meant : Outcome) → SourceGives (generated seed size) [] (go flipping) steps meant
      → Generating seed size steps (Go (told_with (summary_of (generated seed size) after meant) meant.end))

-- the order of work of `show`
abbrev pub show_work : List ℕ → Given → Step Output → Type 0
show_work module_file given = Then (file_phase module_file (module_phase text_forms.Source) given.module_file) show_phase

-- the order of work of `check`
abbrev pub check_work : List ℕ → Given → Step Output → Type 0
check_work module_file given = Then (file_phase module_file checked_phase given.module_file) after_check

-- the order of work of `rewrite` and of `maps`
abbrev pub rewrite_work : Part → List ℕ → Given → Step Output → Type 0
rewrite_work part module_file given = Then (file_phase module_file (module_phase text_forms.Source) given.module_file) (rewrite_phase part)

-- the order of work of `source`, of `run` and of `exec`, from its last phase to its first
abbrev pub after_input : (plan : List ℕ) → Engine → ModuleContent → List ℤ → ℕ → Taken × Taken → Step Output → Type 0
after_input plan engine content numbers steps given =
    Then (file_phase plan ReadingPlan given.0) (λ lines. run_phase engine content numbers lines steps given.1)

abbrev pub after_module : (input plan : List ℕ) → Engine → ModuleContent → ℕ → Taken × (Taken × Taken) → Step Output → Type 0
after_module input plan engine content steps given =
    Then (file_phase input ReadingInput given.0) (λ numbers. after_input plan engine content numbers steps given.1)

abbrev pub run_work : Engine → RunRequest → Given → Step Output → Type 0
run_work engine request given =
    Then (file_phase request.code (run_module_phase engine) given.module_file)
    (λ (whole : LinedModule).
    after_module request.input request.plan engine whole.content request.steps (given.input, (given.plan, given.map_file)))

-- what a run is to show
abbrev pub showing : (places trace : Bool) → Shows
showing places trace = record { places = places; trace = trace }

-- the work that the words ask for
abbrev pub command_work : Option Command → Given → Step Output → Type 0
command_work None given = comes_to (Stop Words)
command_work (Some (Show module_file)) given = show_work module_file given
command_work (Some (Rewrite module_file part)) given = rewrite_work part module_file given
command_work (Some (Check module_file)) given = check_work module_file given
command_work (Some (Source request)) given = run_work Meaning request given
command_work (Some (Run request map_file places trace)) given = run_work (Rewriter map_file (showing places trace)) request given
command_work (Some (Exec request map_file trust places trace)) given = run_work (Machine map_file trust (showing places trace)) request given
command_work (Some (Gen seed size steps)) given = Generating seed size steps

abbrev pub work : List (List ℕ) → Given → Step Output → Type 0
work words given = command_work (command_of words) given

-- what the files that a command names may have given
abbrev pub MayGiveNamed : FilesSeen → Option Command → Given → Type 0
MayGiveNamed files None given = ⊤
MayGiveNamed files (Some (Show module_file)) given = MayGiveShown files module_file given
MayGiveNamed files (Some (Rewrite module_file part)) given = MayGiveShown files module_file given
MayGiveNamed files (Some (Check module_file)) given = MayGiveShown files module_file given
MayGiveNamed files (Some (Source request)) given = MayGiveAll files Meaning request given
MayGiveNamed files (Some (Run request map_file places trace)) given = MayGiveAll files (Rewriter map_file (showing places trace)) request given
MayGiveNamed files (Some (Exec request map_file trust places trace)) given = MayGiveAll files (Machine map_file trust (showing places trace)) request given
MayGiveNamed files (Some (Gen seed size steps)) given = ⊤
