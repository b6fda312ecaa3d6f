-- The headline: what `run` writes is what the source means on objects that never move, and it is what the address machine does with
-- the rewritten module over the bytes of its stack map, whatever the plan moves; its trace and its places are shown where they are asked
-- for. And what a yes of the verifier means to `exec`.
use Rattle.std.specs.Prelude.{◌≡◌, ◌≤◌, ◌⊎◌, ℕ, ℤ, List, length, Option, Some, None, Bool, true, false}
use Rattle.sp_ids.specs.declared.ends.End.{End}
use Rattle.sp_ids.specs.declared.ends.End.TheVariants.{Return, Trap as Traps, OutOfSteps as RanOut, Poison, LostFrame}
use Rattle.ir_ast.specs.declared.modules.Form.{Form as TextForm}
use Rattle.ir_ast.specs.declared.modules.Form.TheVariants as text_forms
use Rattle.ir_ast.specs.Modules.{ModuleContent}
use Rattle.ir_lines.specs.Statements.{Line}
use Rattle.ir_printer.specs.Texts.{text_of}
use Rattle.pair_facts.specs.Faults.{IsVerified}
use Rattle.map_bytes.specs.Maps.{map_bytes, IsMapOf}
use Rattle.stackmap_write.specs.ModuleMaps.{map_of}
use Rattle.move_plan.specs.declared.plan_lines.PlanLine.{PlanLine}
use Rattle.move_plan.specs.Inputs.{HasNoInputFault, IsInputOf}
use Rattle.move_plan.specs.PlanFaults.{HasNoFault as HasNoPlanFault}
use Rattle.move_plan.specs.Plans.{IsPlanOf, go}
use Rattle.object_meaning.specs.Outcomes.{Outcome}
use Rattle.object_meaning.specs.SourceRuns.{SourceGives}
use Rattle.object_meaning.specs.TargetRuns.{TargetGives}
use Rattle.machine_meaning.specs.MachineRuns.{MachineOutcome}
use Rattle.run_texts.specs.RunTexts.{RunWrites}
use Rattle.rewritten_runs.specs.ShownTexts.{IsShownText}
use Rattle.moves_unseen.specs.Statements.{IsSeen}
use Rattle.rewritten_runs.specs.Runs.{IsRunOnMachine}
use Rattle.sp_rewrite.specs.Relocates.{HasManyRelocates}
use Rattle.tool_words.specs.Words.{command_of}
use Rattle.tool_words.specs.declared.request.Command.{Command}
use Rattle.tool_words.specs.declared.request.Command.TheVariants.{Run, Exec}
use Rattle.tool_words.specs.declared.request.Part.TheVariants.{Text, MapBytes}
use Rattle.tool_words.specs.declared.request.RunRequest.{RunRequest}
use Rattle.statepoint_tool.specs.Answers.{SinkSeen, SinkFailed}
use Rattle.statepoint_tool.specs.Causes.{Ends, IsAccepted}
use Rattle.statepoint_tool.specs.Complete.{AllTold, IsWhole, IsShort}
use Rattle.statepoint_tool.specs.Steps.{Go}
use Rattle.statepoint_tool.specs.Taken.{Bytes, FilesSeen}
use Rattle.statepoint_tool.specs.Work.{Given, Output, content_of, ended_with, lines_of_run, rewrite_work}
use Rattle.statepoint_tool.specs.declared.status.Status.{Status}
use Rattle.statepoint_tool.specs.declared.status.Status.TheVariants.{Done, Trapped, OutOfSteps, Stray}

-- ---- what is to run

-- the words ask by this command for a run; the profile accepts the text of its module, in this form, and this is known of the module;
-- and the texts of its input and of its plan have no fault
pub record IsToRun (words : List (List ℕ)) (given : Given) (command : RunRequest → Command) (form : TextForm) (Known : ModuleContent → Type 0) : Type 0 where
  pub request : RunRequest
  pub asks : command_of words ≡ Some (command request)
  pub text : List ℕ
  pub taken : given.module_file ≡ Bytes text
  pub lines : List Line
  pub accepted : IsAccepted form text lines
  pub known : Known (content_of form lines)
  pub input_text : List ℕ
  pub input_taken : given.input ≡ Bytes input_text
  pub input : List ℤ
  pub input_is : IsInputOf input_text input
  pub input_faultless : HasNoInputFault input_text
  pub plan_text : List ℕ
  pub plan_taken : given.plan ≡ Bytes plan_text
  pub plan : List PlanLine
  pub plan_is : IsPlanOf plan_text plan
  pub plan_faultless : HasNoPlanFault plan_text

-- `run` is to run a source module, but for one that has too many relocates, over its rewritten module's own stack map, and to show places
-- and trace or not
abbrev pub IsToRunSource : List (List ℕ) → Given → (places trace : Bool) → Type 0
IsToRunSource words given places trace = IsToRun words given (λ request. Run request None places trace) text_forms.Source
    (λ content. ¬ HasManyRelocates content)

-- `exec` is to run a rewritten module in which the verifier finds no fault, over that module's own stack map, and to show likewise
abbrev pub IsToRunVerified : List (List ℕ) → Given → (places trace : Bool) → Type 0
IsToRunVerified words given places trace = IsToRun words given (λ request. Exec request None false places trace) text_forms.Rewritten IsVerified

-- ---- what is written

-- a run returns, traps or is out of steps, and the status is 0, 6 or 7
abbrev pub EndsAs : End → Status → Type 0
EndsAs (Return number) status = status ≡ Done
EndsAs (Traps trap) status = status ≡ Trapped
EndsAs RanOut status = status ≡ OutOfSteps
EndsAs Poison status = ⊥
EndsAs LostFrame status = ⊥

-- what `out` has grown by is this text, by these lines, the status is that of the end, and nothing was said; or memory was wanted after
-- a front of that
abbrev pub WritesRun : List ℕ → List (List ℕ) → End → Status → (out notes : SinkSeen) → Type 0
WritesRun text lines end status out notes =
    (IsWhole (ended_with text lines end) status out notes × EndsAs end status) ⊎ IsShort (ended_with text lines end) status out notes

-- ---- the headline

abbrev pub text_alone : List ℕ → Output
text_alone text = record { text = text; lines = None; status = Done }

pub record IsRunAsMeant {words : List (List ℕ)} {given : Given} {places trace : Bool} (run : IsToRunSource words given places trace) (status : Status) (out notes : SinkSeen) : Type 0 where
  -- what the source means on objects that never move, over that input, under the plan's `go` lines and in so many steps
  pub meant : Outcome
  pub means : SourceGives (content_of text_forms.Source run.lines) run.input (go run.plan) run.request.steps meant
  -- is what was written: its lines, with those of the trace between, the line that closes it, and where its events, its objects and
  -- the plan put the objects
  pub text : List ℕ
  pub shown : IsShownText (content_of text_forms.Source run.lines) run.plan places trace meant text
  -- the address machine runs the rewritten module, over its stack map and under all moves of the plan: it does the same, sees the same
  -- accesses, and never comes to a moved-away address or loses a frame
  pub moved : IsRunOnMachine (content_of text_forms.Source run.lines) run.input run.plan run.request.steps meant
  -- all those bytes are the text of its run, with trace and places
  pub machine_writes : RunWrites moved.after (map_of moved.after) run.input run.plan run.request.steps places trace moved.machine text
  -- and were put line by line
  pub writes : WritesRun text (lines_of_run machine_writes) meant.end status out notes
  -- of that rewritten module `rewrite` writes the text
  pub module_text : rewrite_work Text run.request.code given (Go (text_alone (text_of moved.after)))
  -- and `maps --raw` the bytes of the stack map, which are that map
  pub bytes : rewrite_work MapBytes run.request.code given (Go (text_alone (map_bytes (map_of moved.after))))
  pub is_map : IsMapOf (map_bytes (map_of moved.after)) (map_of moved.after)

-- for every module text that the profile accepts, every input, plan and bound, with places and trace or without
abbrev pub IsHeadline : List (List ℕ) → FilesSeen → (out notes : SinkSeen) → Status → Type 0
IsHeadline words files out notes status =
    (given : Given) (places trace : Bool) → AllTold files (command_of words) given → (run : IsToRunSource words given places trace) → ¬ SinkFailed out
    → IsRunAsMeant run status out notes

-- ---- what a yes of the verifier means

pub record IsVerifiedRun {words : List (List ℕ)} {given : Given} {places trace : Bool} (run : IsToRunVerified words given places trace) (status : Status) (out notes : SinkSeen) : Type 0 where
  -- what the rewritten module means on objects that never move
  pub meant : Outcome
  pub means : TargetGives (content_of text_forms.Rewritten run.lines) run.input (go run.plan) run.request.steps meant
  -- is what was written
  pub text : List ℕ
  pub shown : IsShownText (content_of text_forms.Rewritten run.lines) run.plan places trace meant text
  -- and what the machine does over the module's stack map, under all moves of the plan
  pub machine : MachineOutcome
  pub seen : IsSeen (content_of text_forms.Rewritten run.lines) meant machine
  pub machine_writes : RunWrites (content_of text_forms.Rewritten run.lines) (map_of (content_of text_forms.Rewritten run.lines)) run.input run.plan run.request.steps places trace
      machine text
  pub writes : WritesRun text (lines_of_run machine_writes) meant.end status out notes

-- for every text of a rewritten module, whoever wrote it
abbrev pub RunsVerified : List (List ℕ) → FilesSeen → (out notes : SinkSeen) → Status → Type 0
RunsVerified words files out notes status =
    (given : Given) (places trace : Bool) → AllTold files (command_of words) given → (run : IsToRunVerified words given places trace) → ¬ SinkFailed out
    → IsVerifiedRun run status out notes

-- the words ask for a run of a module that isn't verified, or over a stack map that isn't its own
pub data AsksToStray (words : List (List ℕ)) : Type 0 where
  on_trust : (request : RunRequest) (map_file : Option (List ℕ)) (places trace : Bool) → command_of words ≡ Some (Exec request map_file true places trace)
      → AsksToStray words
  over_map : (request : RunRequest) (name : List ℕ) (trust places trace : Bool) → command_of words ≡ Some (Exec request (Some name) trust places trace)
      → AsksToStray words
  over_map_of_run : (request : RunRequest) (name : List ℕ) (places trace : Bool) → command_of words ≡ Some (Run request (Some name) places trace)
      → AsksToStray words

-- no other run ends in poison or in a lost frame
abbrev pub StrayIsAsked : List (List ℕ) → Status → Type 0
StrayIsAsked words status = status ≡ Stray → AsksToStray words

-- two outputs show one run of a module, under these plans: the same lines of the program and the same closing line, and the same status
pub record IsSameProgram (content : ModuleContent) (plan other_plan : List PlanLine) (places trace other_places other_trace : Bool) (output other : Output) : Type 0 where
  pub meant : Outcome
  pub shown : IsShownText content plan places trace meant output.text
  pub other_shown : IsShownText content other_plan other_places other_trace meant other.text
  pub ends : EndsAs meant.end output.status
  pub other_ends : EndsAs meant.end other.status

-- two plans with the same `go` lines give the same run, whatever they move
abbrev pub PlansAreFree : Type 0
PlansAreFree = (words other_words : List (List ℕ)) (given other : Given) (places trace other_places other_trace : Bool)
    → (one : IsToRunVerified words given places trace) (two : IsToRunVerified other_words other other_places other_trace)
    → length one.text ≤ 16777216 → one.text ≡ two.text → one.input ≡ two.input → one.request.steps ≡ two.request.steps
    → ((event : ℕ) → go one.plan event ≡ go two.plan event) → (output other_output : Output) → Ends words given output → Ends other_words other other_output
    → IsSameProgram (content_of text_forms.Rewritten one.lines) one.plan two.plan places trace other_places other_trace output other_output
