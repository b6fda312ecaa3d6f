-- Completeness: told files without fault, and no fault counted, lead to an end, and give the whole of what is defined.
use Rattle.std.specs.Prelude.{◌≡◌, ℕ, ◌≤◌, ⊤, ◌⊎◌, List, [], length, Option, Some, None}
use Rattle.tool_io.specs.Counts.{Rose}
use Rattle.statepoint_tool.specs.Answers.{SinkSeen, Gained, GainedFront, PutByLine, SinkFailed}
use Rattle.ir_ast.specs.declared.modules.Form.TheVariants as text_forms
use Rattle.map_bytes.specs.Maps.{StackMap, IsMapOf}
use Rattle.move_plan.specs.Inputs.{HasNoInputFault}
use Rattle.move_plan.specs.PlanFaults.{HasNoFault as HasNoPlanFault}
use Rattle.sp_rewrite.specs.Relocates.{HasManyRelocates}
use Rattle.statepoint_tool.specs.Causes.{AsksToGenerate, Checks, Ends, ReadsModule, ReadsToRewrite, ReadsToShow}
use Rattle.statepoint_tool.specs.Notes.{refusal_line}
use Rattle.statepoint_tool.specs.Taken.{Taken, Bytes, FilesSeen}
use Rattle.tool_words.specs.Words.{command_of}
use Rattle.statepoint_tool.specs.Work.{Output, Given, content_of, map_named, showing}
use Rattle.statepoint_tool.specs.declared.refusal.Refusal.TheVariants.{Memory}
use Rattle.statepoint_tool.specs.declared.engine.Engine.{Engine}
use Rattle.statepoint_tool.specs.declared.engine.Engine.TheVariants.{Meaning, Rewriter, Machine}
use Rattle.tool_words.specs.declared.request.RunRequest.{RunRequest}
use Rattle.tool_words.specs.declared.request.Command.{Command}
use Rattle.tool_words.specs.declared.request.Command.TheVariants.{Show, Rewrite, Check, Source, Run, Exec, Gen}
use Rattle.statepoint_tool.specs.declared.status.Status.{Status}
use Rattle.statepoint_tool.specs.declared.status.Status.TheVariants.{WantOfMemory, WriteFault}

-- the contents of this file are told, they are within the limit, and no fault was counted for its name
pub record IsTold (files : FilesSeen) (name : List ℕ) (given : Taken) : Type 0 where
  pub bytes : List ℕ
  pub told : files.contents name ≡ Some bytes
  pub within : length bytes ≤ 16777216
  pub given_is : given ≡ Bytes bytes
  pub sure : ¬ (Rose (files.faults_before name) (files.faults_after name))

-- each file that the command names is told
abbrev pub FileIsTold : FilesSeen → Option (List ℕ) → Taken → Type 0
FileIsTold files None given = ⊤
FileIsTold files (Some name) given = IsTold files name given

abbrev pub MapIsTold : FilesSeen → Engine → Taken → Type 0
MapIsTold files engine given = FileIsTold files (map_named engine) given

abbrev pub RunIsTold : FilesSeen → Engine → RunRequest → Given → Type 0
RunIsTold files engine request given =
    IsTold files request.code given.module_file × IsTold files request.input given.input × IsTold files request.plan given.plan
    × MapIsTold files engine given.map_file

abbrev pub AllTold : FilesSeen → Option Command → Given → Type 0
AllTold files None given = ⊤
AllTold files (Some (Show module_file)) given = IsTold files module_file given.module_file
AllTold files (Some (Rewrite module_file part)) given = IsTold files module_file given.module_file
AllTold files (Some (Check module_file)) given = IsTold files module_file given.module_file
AllTold files (Some (Source request)) given = RunIsTold files Meaning request given
AllTold files (Some (Run request map_file places trace)) given = RunIsTold files (Rewriter map_file (showing places trace)) request given
AllTold files (Some (Exec request map_file trust places trace)) given = RunIsTold files (Machine map_file trust (showing places trace)) request given
AllTold files (Some (Gen seed size steps)) given = ⊤

-- ---- texts without a fault

-- the bytes of this file are a stack map
pub record GivesMap (given : Taken) : Type 0 where
  pub bytes : List ℕ
  pub taken : given ≡ Bytes bytes
  pub map : StackMap
  pub is : IsMapOf bytes map

-- where one is named
abbrev pub MapIsGood : Option (List ℕ) → Taken → Type 0
MapIsGood None given = ⊤
MapIsGood (Some name) given = GivesMap given

-- a run whose module is accepted, and trusted or verified, and the texts of whose input and plan have no fault
pub record ReadsAll (words : List (List ℕ)) (given : Given) : Type 0 where
  pub accepts : ReadsModule words given
  pub input_text : List ℕ
  pub input_taken : given.input ≡ Bytes input_text
  pub input_faultless : HasNoInputFault input_text
  pub plan_text : List ℕ
  pub plan_taken : given.plan ≡ Bytes plan_text
  pub plan_faultless : HasNoPlanFault plan_text
  pub map_is : MapIsGood (map_named accepts.asks.engine) given.map_file

-- the words ask for something, and nothing that they name has a fault
pub data IsFaultless (words : List (List ℕ)) (given : Given) : Type 0 where
  may_show : ReadsToShow words given → IsFaultless words given
  may_check : Checks words given → IsFaultless words given
  may_rewrite : (reads : ReadsToRewrite words given) → ¬ HasManyRelocates (content_of text_forms.Source reads.lines) → IsFaultless words given
  may_run : ReadsAll words given → IsFaultless words given
  may_generate : AsksToGenerate words → IsFaultless words given

-- ---- what is written

-- the defined output with the defined status, a run's lines one by one, and nothing said
pub record IsWhole (output : Output) (status : Status) (out notes : SinkSeen) : Type 0 where
  pub status_is : status ≡ output.status
  pub written : Gained out output.text
  pub by_line : PutByLine output.lines out
  pub nothing_said : Gained notes []

-- memory was wanted; or that was to be said, and standard error failed
abbrev pub WantsMemory : Status → SinkSeen → Type 0
WantsMemory status notes =
    (status ≡ WantOfMemory) ⊎ ((status ≡ WriteFault) × SinkFailed notes × GainedFront notes (refusal_line Memory))

-- a front of the defined output
pub record IsShort (output : Output) (status : Status) (out notes : SinkSeen) : Type 0 where
  pub wants_memory : WantsMemory status notes
  pub front : GainedFront out output.text

-- the work comes to its end with this output, the only one, and that was written, or a front of it where memory was wanted
pub record HasEnded (words : List (List ℕ)) (given : Given) (status : Status) (out notes : SinkSeen) : Type 0 where
  pub output : Output
  pub ends : Ends words given output
  pub only : (other : Output) → Ends words given other → other ≡ output
  pub written : IsWhole output status out notes ⊎ IsShort output status out notes

abbrev pub IsComplete : List (List ℕ) → FilesSeen → (out notes : SinkSeen) → Status → Type 0
IsComplete words files out notes status =
    (given : Given) → AllTold files (command_of words) given → IsFaultless words given → ¬ SinkFailed out → HasEnded words given status out notes
