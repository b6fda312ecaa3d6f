-- Completeness from the whole answer of a call.
use Rattle.std.proofs.Common.{◌≡◌, ℕ, ◌<◌, ◌≤◌, length, ◌⊎◌, inl, inr, List, [], Option, Some, None, Result, Ok, Err, refl, sym, ap, subst, ◌∙◌, arith}
use Rattle.std.specs.Prelude.{ℤ, IfSome}
use Rattle.ir_ast.specs.Modules.{ModuleContent}
use Rattle.move_plan.specs.declared.plan_lines.PlanLine.{PlanLine}
use Rattle.statepoint_tool.specs.Answers.{SinkSeen, Gained, GainedFront, SinkFailed, Came, IsBegun, IsTold as IsToldOf, IsAnswer, PutByLine}
use Rattle.tool_io.proofs.AppendLaws.{AppendsFront-all, AppendsFront-front}
use Rattle.statepoint_tool.specs.Complete.{IsTold, FileIsTold, MapIsTold, RunIsTold, AllTold, IsWhole, IsShort, WantsMemory, IsComplete}
use Rattle.statepoint_tool.specs.Causes.{Ends}
use Rattle.statepoint_tool.specs.Steps.{Step, Go, Stop, Then, goes_on, stops}
use Rattle.statepoint_tool.specs.Taken.{Taken, Bytes, Longer, Faulty, FilesSeen, MayGive}
use Rattle.tool_words.specs.Words.{command_of}
use Rattle.statepoint_tool.specs.Work.{Output, Given, MayGiveFile, MayGiveMap, MayGiveAll, MayGiveNamed, command_work, map_named, show_work, check_work, rewrite_work, run_phase, run_work, showing, work}
use Rattle.statepoint_tool.specs.declared.refusal.Refusal.{Refusal}
use Rattle.statepoint_tool.specs.declared.refusal.Refusal.TheVariants.{Defined, WriteFault, Memory}
use Rattle.statepoint_tool.specs.declared.engine.Engine.{Engine}
use Rattle.statepoint_tool.specs.declared.engine.Engine.TheVariants.{Meaning, Rewriter, Machine}
use Rattle.tool_words.specs.declared.request.RunRequest.{RunRequest}
use Rattle.tool_words.specs.declared.request.Command.{Command}
use Rattle.tool_words.specs.declared.request.Command.TheVariants.{Show, Rewrite, Check, Source, Run, Exec, Gen}
use Rattle.statepoint_tool.specs.declared.status.Status.{Status}
use Rattle.statepoint_tool.proofs.StepLaws.{not_both}
use Rattle.statepoint_tool.proofs.CauseLaws.{IsWithin, Once-work, within_may, work-ends}
use Rattle.statepoint_tool.proofs.EndsLaws.{faultless_ends}

-- a told file gives what is told
same_taken : (files : FilesSeen) (name : List ℕ) (given told : Taken) → MayGive files name given → IsTold files name told → given ≡ told
same_taken files name (Bytes bytes) told may is =
    let same : bytes ≡ is.bytes = rw is.told at may.1 in ap Bytes same ∙ sym is.given_is
same_taken files name Longer told may is =
    let longer : 16777216 < length is.bytes = rw is.told at may in let within : length is.bytes ≤ 16777216 = is.within in absurd (omega arith)
same_taken files name Faulty told may is = absurd (is.sure may)

-- a told stack map is the one that the run takes
same_map : (files : FilesSeen) (engine : Engine) (content : ModuleContent) (numbers : List ℤ) (lines : List PlanLine) (steps : ℕ) (given told : Taken)
    → MayGiveMap files engine given → MapIsTold files engine told → (step : Step Output) → run_phase engine content numbers lines steps told step
    → run_phase engine content numbers lines steps given step
same_map files Meaning content numbers lines steps given told may is step due = due
same_map files (Rewriter None shows) content numbers lines steps given told may is step due = due
same_map files (Rewriter (Some name) shows) content numbers lines steps given told may is step due =
    subst (λ (taken : Taken). run_phase (Rewriter (Some name) shows) content numbers lines steps taken step) (sym (same_taken files name given told may is)) due
same_map files (Machine None trust shows) content numbers lines steps given told may is step due = due
same_map files (Machine (Some name) trust shows) content numbers lines steps given told may is step due =
    subst (λ (taken : Taken). run_phase (Machine (Some name) trust shows) content numbers lines steps taken step) (sym (same_taken files name given told may is)) due

-- what follows the module, the input and the plan
then_same : {A : Type 0} (first : Step A → Type 0) (next other : A → Step Output → Type 0) (step : Step Output)
    → ((value : A) (each : Step Output) → next value each → other value each) → Then first next step → Then first other step
then_same first next other _ like (goes_on value step due rest) = goes_on value step due (like value step rest)
then_same first next other _ like (stops cause due) = stops cause due

-- told files leave one run
same_run : (files : FilesSeen) (engine : Engine) (request : RunRequest) (given told : Given) → MayGiveAll files engine request given → RunIsTold files engine request told →
    (step : Step Output) → run_work engine request told step → run_work engine request given step
same_run files engine request given told may is step due =
    let code : given.module_file ≡ told.module_file = same_taken files request.code given.module_file told.module_file may.0 is.0 in
    let numbers : given.input ≡ told.input = same_taken files request.input given.input told.input may.1.0 is.1 in
    let moves : given.plan ≡ told.plan = same_taken files request.plan given.plan told.plan may.1.1.0 is.2 in
    let over : Given = record { module_file = told.module_file; input = told.input; plan = told.plan; map_file = given.map_file } in
    let due_over : run_work engine request over step = then_same _ _ _ step
    (λ whole each rest. then_same _ _ _ each
    (λ (read : List ℤ) (later : Step Output) rest_later. then_same _ _ _ later
    (λ (lines : List PlanLine) (last : Step Output) rest_last. same_map files engine whole.content read lines request.steps given.map_file told.map_file may.1.1.1 is.3 last rest_last) rest_later) rest) due in
    subst (λ (taken : Taken). run_work engine request (record { module_file = taken; input = given.input; plan = given.plan; map_file = given.map_file }) step) (sym code)
    (subst (λ (taken : Taken). run_work engine request (record { module_file = told.module_file; input = taken; plan = given.plan; map_file = given.map_file }) step) (sym numbers)
    (subst (λ (taken : Taken). run_work engine request (record { module_file = told.module_file; input = told.input; plan = taken; map_file = given.map_file }) step) (sym moves) due_over))

-- told files leave one work
same_work : (files : FilesSeen) (command : Option Command) (given told : Given) → MayGiveNamed files command given → AllTold files command told →
    (step : Step Output) → command_work command told step → command_work command given step
same_work files None given told may is step due = due
same_work files (Some (Show module_file)) given told may is step due =
    let code : given.module_file ≡ told.module_file = same_taken files module_file given.module_file told.module_file may is in
    subst (λ (taken : Taken). show_work module_file (record { module_file = taken; input = told.input; plan = told.plan; map_file = told.map_file }) step) (sym code) due
same_work files (Some (Rewrite module_file part)) given told may is step due =
    let code : given.module_file ≡ told.module_file = same_taken files module_file given.module_file told.module_file may is in
    subst (λ (taken : Taken). rewrite_work part module_file (record { module_file = taken; input = told.input; plan = told.plan; map_file = told.map_file }) step) (sym code) due
same_work files (Some (Check module_file)) given told may is step due =
    let code : given.module_file ≡ told.module_file = same_taken files module_file given.module_file told.module_file may is in
    subst (λ (taken : Taken). check_work module_file (record { module_file = taken; input = told.input; plan = told.plan; map_file = told.map_file }) step) (sym code) due
same_work files (Some (Source request)) given told may is step due = same_run files Meaning request given told may is step due
same_work files (Some (Run request map_file places trace)) given told may is step due =
    same_run files (Rewriter map_file (showing places trace)) request given told may is step due
same_work files (Some (Exec request map_file trust places trace)) given told may is step due =
    same_run files (Machine map_file trust (showing places trace)) request given told may is step due
same_work files (Some (Gen seed size steps)) given told may is step due = due

-- a told file may have given what is told
told_gives : (files : FilesSeen) (name : List ℕ) (given : Taken) → IsTold files name given → MayGive files name given
told_gives files name given told =
    subst (MayGive files name) (sym told.given_is) (told.within, subst (λ (contents : Option (List ℕ)). IfSome contents (λ (bytes : List ℕ). told.bytes ≡ bytes)) (sym told.told) refl)

file_gives : (files : FilesSeen) (name : Option (List ℕ)) (given : Taken) → FileIsTold files name given → MayGiveFile files name given
file_gives files None given told = told
file_gives files (Some name) given told = told_gives files name given told

run_gives : (files : FilesSeen) (engine : Engine) (request : RunRequest) (given : Given) → RunIsTold files engine request given → MayGiveAll files engine request given
run_gives files engine request given told =
    (told_gives files request.code given.module_file told.0, (told_gives files request.input given.input told.1, (told_gives files request.plan given.plan told.2, file_gives files (map_named engine) given.map_file told.3)))

pub all_give : (files : FilesSeen) (command : Option Command) (given : Given) → AllTold files command given → MayGiveNamed files command given
all_give files None given told = told
all_give files (Some (Show module_file)) given told = told_gives files module_file given.module_file told
all_give files (Some (Rewrite module_file part)) given told = told_gives files module_file given.module_file told
all_give files (Some (Check module_file)) given told = told_gives files module_file given.module_file told
all_give files (Some (Source request)) given told = run_gives files Meaning request given told
all_give files (Some (Run request map_file places trace)) given told = run_gives files (Rewriter map_file (showing places trace)) request given told
all_give files (Some (Exec request map_file trust places trace)) given told = run_gives files (Machine map_file trust (showing places trace)) request given told
all_give files (Some (Gen seed size steps)) given told = told

same_output : (one other : Output) → Go one ≡ Go other → one ≡ other
same_output one other same = cc

module _ (words : List (List ℕ)) (given : Given) (output : Output) (due : work words given (Go output)) (out notes : SinkSeen) (status : Status) where
  same_due : (other : Output) → work words given (Go other) → other ≡ output
  same_due other is = same_output other output (Once-work words given (Go other) (Go output) is due)

  begun_short : IsBegun (λ o. work words given (Go o)) out → GainedFront out output.text
  begun_short begun = subst (λ (o : Output). GainedFront out o.text) (same_due begun.output begun.defined) begun.front

  front_of : Gained out [] ⊎ IsBegun (λ o. work words given (Go o)) out → GainedFront out output.text
  front_of (inl unwritten) = AppendsFront-front (AppendsFront-all out.old out.new [] unwritten) output.text output.text refl
  front_of (inr begun) = begun_short begun

  wants_memory : IsToldOf (Err Memory) status notes → WantsMemory status notes
  wants_memory (inl said) = inl said.status_is
  wants_memory (inr part) = inr (part.status_is, part.failed, part.front)

  whole_or_short : (ended : Result Status Refusal) → Came ended (work words given) out → IsToldOf ended status notes →
      ¬ SinkFailed out → IsWhole output status out notes ⊎ IsShort output status out notes
  whole_or_short (Ok ended) came told sure_out =
      let same : came.output ≡ output = same_due came.output came.defined in
      inl (record {
        status_is = told.0 ∙ came.status_is ∙ ap (λ (o : Output). o.status) same;
        written = subst (λ (o : Output). Gained out o.text) same came.written;
        by_line = subst (λ (o : Output). PutByLine o.lines out) same came.by_line;
        nothing_said = told.1;
      })
  whole_or_short (Err (Defined reason)) came told sure_out =
      absurd (not_both output reason (Once-work words given (Go output) (Stop reason) due came.defined))
  whole_or_short (Err WriteFault) came told sure_out = absurd (sure_out came.0)
  whole_or_short (Err Memory) came told sure_out = inr (record { wants_memory = wants_memory told; front = front_of came })

-- whatever output the work comes to is written
pub written_as : (words : List (List ℕ)) (files : FilesSeen) (out notes : SinkSeen) (status : Status) → IsAnswer words files out notes status
    → (told : Given) (output : Output) → AllTold files (command_of words) told → Ends words told output → ¬ SinkFailed out
    → IsWhole output status out notes ⊎ IsShort output status out notes
written_as words files out notes status answer told output all_told ends sure_out =
    let given = answer.works.given in
    let within = within_may words told files (all_give files (command_of words) told all_told) in
    let due : work words given (Go output) = same_work files (command_of words) given told answer.works.may all_told (Go output) (work-ends words told within output ends) in
    whole_or_short words given output due out notes status answer.ended answer.works.came answer.told sure_out

-- and it comes to one
pub one_output : (words : List (List ℕ)) (given : Given) → IsWithin words given → (one other : Output) → Ends words given one → Ends words given other → one ≡ other
one_output words given within one other first second =
    same_output one other (Once-work words given (Go one) (Go other) (work-ends words given within one first) (work-ends words given within other second))

pub IsComplete-answer : (words : List (List ℕ)) (files : FilesSeen) (out notes : SinkSeen) (status : Status) → IsAnswer words files out notes status → IsComplete words files out notes status
IsComplete-answer words files out notes status answer told all_told faultless sure_out =
    let within = within_may words told files (all_give files (command_of words) told all_told) in
    let found = faultless_ends words told within faultless in
    record {
      output = found.0;
      ends = found.1;
      only = λ other ends. one_output words told within other found.0 ends found.1;
      written = written_as words files out notes status answer told found.0 all_told found.1 sure_out;
    }
