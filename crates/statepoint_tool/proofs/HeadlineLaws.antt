-- The headline and what a yes of the verifier means, from the whole answer of a call.
use Rattle.std.proofs.Common.{◌≡◌, ◌≤◌, ℕ, ◌⊎◌, inl, inr, List, [], length, Bool, true, false, Option, Some, None, Result, Ok, refl, sym, ap, subst, ◌∙◌}
use Rattle.std.specs.Prelude.{ℤ}
use Rattle.std.proofs.Math.Path.{fun_ext}
use Rattle.sp_ids.specs.declared.ends.End.{End}
use Rattle.sp_ids.specs.declared.ends.End.TheVariants as ended
use Rattle.ir_ast.specs.declared.modules.Form.TheVariants as text_forms
use Rattle.ir_ast.specs.Modules.{ModuleContent}
use Rattle.ir_lines.specs.Modules.{module_of}
use Rattle.ir_lines.specs.Statements.{Line, lines_of}
use Rattle.ir_reader.specs.Text.{Fault, Numbered, readings_in}
use Rattle.map_bytes.specs.Maps.{StackMap}
use Rattle.stackmap_write.specs.ModuleMaps.{map_of}
use Rattle.stackmap_write.proofs.FitLaws.{target_map_is_map}
use Rattle.move_plan.specs.Plans.{go}
use Rattle.object_meaning.specs.Outcomes.{Outcome}
use Rattle.object_meaning.specs.SourceRuns.{source_setting}
use Rattle.object_meaning.specs.TargetRuns.{TargetGives, target_setting}
use Rattle.object_meaning.proofs.EndLaws.{IsFinal}
use Rattle.object_meaning.proofs.OutcomeLaws.{gives_final, gives_one, gives_some}
use Rattle.machine_meaning.specs.Code.{machinery_of}
use Rattle.machine_meaning.specs.MachineRuns.{MachineOutcome, MachineGives}
use Rattle.runs_unseen.proofs.machine_ends.EndLaws.{each_run_ends}
use Rattle.moves_unseen.specs.Statements.{IsSeen}
use Rattle.moves_unseen.specs.Waits.{IsSound}
use Rattle.runs_unseen.proofs.SeenRuns.{keeps_way, seen_here}
use Rattle.run_texts.specs.RunTexts.{RunWrites}
use Rattle.rewritten_runs.specs.ShownTexts.{IsShownText}
use Rattle.rewritten_runs.proofs.shown_runs.SeenLaws.{sources_are_shown, verified_are_shown}
use Rattle.rewritten_runs.specs.Runs.{IsRunOnMachine}
use Rattle.rewritten_runs.proofs.RunLaws.{sources_run_on_machine}
use Rattle.sp_rewrite.specs.Statements.{IsRewritten}
use Rattle.sp_rewrite.proofs.RewrittenLaws.{few_unless_many, rewriting_is_target, rewriting_is_verified, rewriting_keeps_meaning}
use Rattle.generated_forms.specs.Modules.{generated}
use Rattle.gen_report.specs.Summaries.{summary_of}
use Rattle.ir_machine.specs.declared.run.Shows.{Shows}
use Rattle.tool_words.specs.Words.{command_of}
use Rattle.tool_words.specs.declared.request.Command.{Command}
use Rattle.tool_words.specs.declared.request.Part.{Part}
use Rattle.tool_words.specs.declared.request.Part.TheVariants.{Text, MapBytes}
use Rattle.tool_words.specs.declared.request.RunRequest.{RunRequest}
use Rattle.statepoint_tool.specs.Answers.{SinkSeen, SinkFailed, IsAnswer}
use Rattle.statepoint_tool.specs.Causes.{AsksToGenerate, IsAccepted, IsAskedFor, by_source, by_run, by_exec, IsTrusted, ReadsPlan, RunsRewritten, Executes, IsExecuted, Ends, by_showing, by_checking, by_rewriting, by_running, by_running_rewritten, by_executing, by_generating, engine_asked, module_run, steps_asked}
use Rattle.statepoint_tool.specs.Closings.{status_of_end}
use Rattle.statepoint_tool.specs.Complete.{AllTold, IsWhole, IsShort}
use Rattle.statepoint_tool.specs.Headline.{IsToRunSource, IsToRunVerified, EndsAs, WritesRun, IsRunAsMeant, IsHeadline, IsVerifiedRun, RunsVerified, AsksToStray, on_trust, over_map, over_map_of_run, StrayIsAsked, PlansAreFree}
use Rattle.statepoint_tool.specs.Steps.{Step, Go, goes_on}
use Rattle.statepoint_tool.specs.Taken.{Taken, Bytes, FilesSeen, file_phase}
use Rattle.statepoint_tool.specs.Work.{Given, Generating, generates, Output, MayGiveAll, MayGiveNamed, content_of, ended_with, form_of, map_named, map_phase, module_phase, rewrite_work, rewritten, showing, written_of, lines_of_run, told_with}
use Rattle.statepoint_tool.specs.declared.engine.Engine.{Engine}
use Rattle.statepoint_tool.specs.declared.engine.Engine.TheVariants.{Meaning, Rewriter, Machine}
use Rattle.statepoint_tool.specs.declared.status.Status.{Status}
use Rattle.statepoint_tool.specs.declared.status.Status.TheVariants.{Done, Stray}
use Rattle.statepoint_tool.proofs.AcceptedLaws.{module_of_accepted, same_bytes, sound_of_accepted, within_given, within_told}
use Rattle.statepoint_tool.proofs.AnswerLaws.{Exactly-answer}
use Rattle.statepoint_tool.proofs.CauseLaws.{IsWithin, comes-EndsWith}
use Rattle.statepoint_tool.proofs.CompleteLaws.{one_output, written_as}
use Rattle.statepoint_tool.proofs.EndsLaws.{texted}
use Rattle.statepoint_tool.proofs.StepLaws.{same-value}
use Rattle.statepoint_tool.proofs.TextLaws.{as-accepted}

-- ---- ends

ends_as : (end : End) (status : Status) → IsFinal end → status ≡ status_of_end end → EndsAs end status
ends_as (ended.Return number) status final is = is
ends_as (ended.Trap trap) status final is = is
ends_as ended.OutOfSteps status final is = is
ends_as ended.Poison status final is = absurd final
ends_as ended.LostFrame status final is = absurd final

writes_run : (text : List ℕ) (lines : List (List ℕ)) (end : End) (status : Status) (out notes : SinkSeen) → IsFinal end
    → IsWhole (ended_with text lines end) status out notes ⊎ IsShort (ended_with text lines end) status out notes → WritesRun text lines end status out notes
writes_run text lines end status out notes final (inl whole) = inl (whole, ends_as end status final whole.status_is)
writes_run text lines end status out notes final (inr short) = inr short

not_stray : (end : End) → IsFinal end → status_of_end end ≡ Stray → ⊥
not_stray (ended.Return number) final is = cc
not_stray (ended.Trap trap) final is = cc
not_stray ended.OutOfSteps final is = cc
not_stray ended.Poison final is = final
not_stray ended.LostFrame final is = final

-- an end that is no poison and no lost frame
stray_end : (end : End) → (end ≡ ended.Poison → ⊥) × (end ≡ ended.LostFrame → ⊥) → status_of_end end ≡ Stray → ⊥
stray_end (ended.Return number) way is = cc
stray_end (ended.Trap trap) way is = cc
stray_end ended.OutOfSteps way is = cc
stray_end ended.Poison way is = way.0 refl
stray_end ended.LostFrame way is = way.1 refl

-- ---- the headline

module _ (words : List (List ℕ)) (given : Given) (places trace : Bool) (run : IsToRunSource words given places trace) where
  abbrev source : ModuleContent
  source = content_of text_forms.Source run.lines

  abbrev source_reads : ReadsPlan words given
  source_reads = record {
    reads = record {
      accepts = record {
        asks = record { engine = Rewriter None (showing places trace); request = run.request; asked = by_run run.request None places trace run.asks };
        text = run.text;
        taken = run.taken;
        lines = run.lines;
        accepted = run.accepted;
        trusted = run.known;
      };
      text = run.input_text;
      taken = run.input_taken;
      numbers = run.input;
      are = run.input_is;
      faultless = run.input_faultless;
    };
    text = run.plan_text;
    taken = run.plan_taken;
    plan = run.plan;
    is = run.plan_is;
    faultless = run.plan_faultless;
  }

  -- `rewrite` and `maps` come to this
  part_written : (part : Part) (after : ModuleContent) → IsRewritten source after → rewrite_work part run.request.code given (Go (written_of part after))
  part_written part after is =
      goes_on (module_of text_forms.Source run.lines) (Go (written_of part after))
      (subst (λ (taken : Taken). file_phase run.request.code (module_phase text_forms.Source) taken (Go (module_of text_forms.Source run.lines))) (sym run.taken)
      (as-accepted text_forms.Source run.text run.lines run.accepted))
      (goes_on after (Go (written_of part after)) (rewritten after is run.known) refl)

  as_meant : (files : FilesSeen) (out notes : SinkSeen) (status : Status) → IsAnswer words files out notes status → length run.text ≤ 16777216
      → AllTold files (command_of words) given → ¬ SinkFailed out → IsRunAsMeant run status out notes
  as_meant files out notes status answer within told sure =
      let is = module_of_accepted text_forms.Source run.text run.lines within run.accepted in
      let few = few_unless_many source is run.known in
      let found = gives_some (source_setting source (go run.plan) run.request.steps) run.input in
      let moved : IsRunOnMachine source run.input run.plan run.request.steps found.outcome =
      sources_run_on_machine source few.reached is few.drops run.input run.plan run.request.steps found.outcome found.gives in
      let own = texted moved.after (map_of moved.after) run.input run.plan run.request.steps places trace moved.machine moved.gives in
      let runs : RunsRewritten words given = record {
        reads = source_reads;
        shows = showing places trace;
        engine = refl;
        meant = found.outcome;
        means = found.gives;
        after = moved.after;
        rewritten = moved.rewritten;
        machine = moved.machine;
        text = own.text;
        writes = own.writes;
      } in
      let whole = written_as words files out notes status answer given (ended_with own.text (lines_of_run own.writes) found.outcome.end) told (by_running_rewritten runs) sure in
      let sound : IsSound moved.after = record {
        target = rewriting_is_target source moved.after is moved.rewritten;
        verified = rewriting_is_verified source moved.after is moved.rewritten;
      } in
      let seen = seen_here moved.after sound run.input run.plan run.request.steps moved.machine moved.gives in
      let meant_again = (rewriting_keeps_meaning source moved.after is moved.rewritten run.input (go run.plan) run.request.steps seen.outcome).1 seen.gives in
      let one = gives_one (source_setting source (go run.plan) run.request.steps) run.input seen.outcome found.outcome meant_again found.gives in
      record {
        meant = found.outcome;
        means = found.gives;
        text = own.text;
        shown =
            sources_are_shown source moved.after moved.rewritten run.plan places trace found.outcome own.text
            (verified_are_shown moved.after sound run.input run.plan run.request.steps places trace found.outcome moved.machine own.text own.writes
            (subst (λ (o : Outcome). IsSeen moved.after o moved.machine) one seen.seen));
        writes = writes_run own.text (lines_of_run own.writes) found.outcome.end status out notes found.final whole;
        moved = moved;
        machine_writes = own.writes;
        module_text = part_written Text moved.after moved.rewritten;
        bytes = part_written MapBytes moved.after moved.rewritten;
        is_map = record { allowed = target_map_is_map moved.after (rewriting_is_target source moved.after is moved.rewritten); spelled = refl };
      }

pub IsHeadline-answer : (words : List (List ℕ)) (files : FilesSeen) (out notes : SinkSeen) (status : Status) → IsAnswer words files out notes status → IsHeadline words files out notes status
IsHeadline-answer words files out notes status answer given places trace told run sure =
    let told_run = subst (λ (command : Option Command). AllTold files command given) run.asks told in
    as_meant words given places trace run files out notes status answer (within_told files run.request.code run.text given.module_file run.taken told_run.0) told sure

-- ---- verified modules

module _ (words : List (List ℕ)) (given : Given) (places trace : Bool) (run : IsToRunVerified words given places trace) where
  abbrev target : ModuleContent
  target = content_of text_forms.Rewritten run.lines

  abbrev target_reads : ReadsPlan words given
  target_reads = record {
    reads = record {
      accepts = record {
        asks = record { engine = Machine None false (showing places trace); request = run.request; asked = by_exec run.request None false places trace run.asks };
        text = run.text;
        taken = run.taken;
        lines = run.lines;
        accepted = run.accepted;
        trusted = run.known;
      };
      text = run.input_text;
      taken = run.input_taken;
      numbers = run.input;
      are = run.input_is;
      faultless = run.input_faultless;
    };
    text = run.plan_text;
    taken = run.plan_taken;
    plan = run.plan;
    is = run.plan_is;
    faultless = run.plan_faultless;
  }

  abbrev executes : Executes words given
  executes = record { reads = target_reads; code = target; runs = refl; map = map_of target; takes = refl }

  own_sound : length run.text ≤ 16777216 → IsSound target
  own_sound within = sound_of_accepted run.text run.lines within run.accepted run.known

  -- the only output of a run of a verified module
  record OwnOutput : Type 0 where
    meant : Outcome
    means : TargetGives target run.input (go run.plan) run.request.steps meant
    machine : MachineOutcome
    seen : IsSeen target meant machine
    text : List ℕ
    writes : RunWrites target (map_of target) run.input run.plan run.request.steps places trace machine text
    shown : IsShownText target run.plan places trace meant text
    final : IsFinal meant.end
    ends : Ends words given (ended_with text (lines_of_run writes) meant.end)

  own_output : length run.text ≤ 16777216 → OwnOutput
  own_output within =
      let ended = each_run_ends (machinery_of target (map_of target) run.plan run.request.steps) run.input in
      let sound = own_sound within in
      let found = seen_here target sound run.input run.plan run.request.steps ended.outcome ended.gives in
      let own = texted target (map_of target) run.input run.plan run.request.steps places trace ended.outcome ended.gives in
      record {
        meant = found.outcome;
        means = found.gives;
        machine = ended.outcome;
        seen = found.seen;
        text = own.text;
        writes = own.writes;
        shown = verified_are_shown target sound run.input run.plan run.request.steps places trace found.outcome ended.outcome own.text own.writes found.seen;
        final = gives_final _ run.input found.outcome found.gives;
        ends = subst (λ (end : End). Ends words given (ended_with own.text (lines_of_run own.writes) end)) found.seen.end (by_executing executes ended.outcome own.text own.writes);
      }

  verified_run : (files : FilesSeen) (out notes : SinkSeen) (status : Status) → IsAnswer words files out notes status → length run.text ≤ 16777216
      → AllTold files (command_of words) given → ¬ SinkFailed out → IsVerifiedRun run status out notes
  verified_run files out notes status answer within told sure =
      let own = own_output within in
      let whole = written_as words files out notes status answer given (ended_with own.text (lines_of_run own.writes) own.meant.end) told own.ends sure in
      record {
        meant = own.meant;
        means = own.means;
        text = own.text;
        shown = own.shown;
        writes = writes_run own.text (lines_of_run own.writes) own.meant.end status out notes own.final whole;
        machine = own.machine;
        seen = own.seen;
        machine_writes = own.writes;
      }

pub RunsVerified-answer : (words : List (List ℕ)) (files : FilesSeen) (out notes : SinkSeen) (status : Status) → IsAnswer words files out notes status → RunsVerified words files out notes status
RunsVerified-answer words files out notes status answer given places trace told run sure =
    let told_run = subst (λ (command : Option Command). AllTold files command given) run.asks told in
    verified_run words given places trace run files out notes status answer (within_told files run.request.code run.text given.module_file run.taken told_run.0) told sure

-- ---- runs that go astray

-- a module that is verified and runs over its own map
sound_if : (engine : Engine) (shows : Shows) → engine ≡ Machine None false shows → (text : List ℕ) (lines : List Line) → length text ≤ 16777216 → IsAccepted (form_of engine) text lines
    → IsTrusted engine (content_of (form_of engine) lines) → IsSound (content_of (form_of engine) lines)
sound_if Meaning shows is text lines within accepted trusted = absurd (let clash : Meaning ≡ Machine None false shows = is in cc)
sound_if (Rewriter map_file own) shows is text lines within accepted trusted = absurd (let clash : Rewriter map_file own ≡ Machine None false shows = is in cc)
sound_if (Machine map_file true own) shows is text lines within accepted trusted = absurd (let clash : Machine map_file true own ≡ Machine None false shows = is in cc)
sound_if (Machine map_file false own) shows is text lines within accepted trusted = sound_of_accepted text lines within accepted trusted

not_done : Done ≡ Stray → ⊥
not_done is = cc

same_map : (one other : StackMap) → Go one ≡ Go other → one ≡ other
same_map one other is = cc

module _ (words : List (List ℕ)) (given : Given) (files : FilesSeen) (may : MayGiveNamed files (command_of words) given) where
  may_as : (engine : Engine) (request : RunRequest) → IsAskedFor words engine request → MayGiveAll files engine request given
  may_as _ _ (by_source request is) = subst (λ (command : Option Command). MayGiveNamed files command given) is may
  may_as _ _ (by_run request map_file places trace is) = subst (λ (command : Option Command). MayGiveNamed files command given) is may
  may_as _ _ (by_exec request map_file trust places trace is) = subst (λ (command : Option Command). MayGiveNamed files command given) is may

  text_within : (reads : ReadsPlan words given) → length reads.reads.accepts.text ≤ 16777216
  text_within reads =
      let accepts = reads.reads.accepts in
      within_given files accepts.asks.request.code accepts.text given.module_file accepts.taken (may_as accepts.asks.engine accepts.asks.request accepts.asks.asked).0

  -- an engine of which a run may go astray
  strays_by : (engine : Engine) (request : RunRequest) → IsAskedFor words engine request → ((shows : Shows) → engine ≡ Machine None false shows → ⊥) → (content code : ModuleContent)
      → IsExecuted engine content code → AsksToStray words
  strays_by _ _ (by_source request is) sure content code runs = absurd runs
  strays_by _ _ (by_run request None places trace is) sure content code runs = absurd runs
  strays_by _ _ (by_run request (Some name) places trace is) sure content code runs = over_map_of_run request name places trace is
  strays_by _ _ (by_exec request map_file true places trace is) sure content code runs = on_trust request map_file places trace is
  strays_by _ _ (by_exec request (Some name) false places trace is) sure content code runs = over_map request name false places trace is
  strays_by _ _ (by_exec request None false places trace is) sure content code runs = absurd (sure (showing places trace) refl)

  -- a verified module over its own map doesn't
  keeps_way_if : (runs : Executes words given) (outcome : MachineOutcome) → MachineGives runs.code runs.map runs.reads.reads.numbers runs.reads.plan (steps_asked runs.reads) outcome
      → (shows : Shows) → engine_asked runs.reads ≡ Machine None false shows → (outcome.end ≡ ended.Poison → ⊥) × (outcome.end ≡ ended.LostFrame → ⊥)
  keeps_way_if runs outcome gives shows is =
      let accepts = runs.reads.reads.accepts in
      let sound = sound_if accepts.asks.engine shows is accepts.text accepts.lines (text_within runs.reads) accepts.accepted accepts.trusted in
      let same : runs.code ≡ module_run runs.reads = subst (λ (e : Engine). IsExecuted e (module_run runs.reads) runs.code) is runs.runs in
      let takes : map_phase runs.code None given.map_file (Go runs.map) = subst (λ (e : Engine). map_phase runs.code (map_named e) given.map_file (Go runs.map)) is runs.takes in
      let own = subst (λ (m : StackMap). MachineGives runs.code m runs.reads.reads.numbers runs.reads.plan (steps_asked runs.reads) outcome) (same_map runs.map (map_of runs.code) takes) gives in
      keeps_way (module_run runs.reads) sound runs.reads.reads.numbers runs.reads.plan (steps_asked runs.reads) outcome
      (subst (λ (c : ModuleContent). MachineGives c (map_of c) runs.reads.reads.numbers runs.reads.plan (steps_asked runs.reads) outcome) same own)

  stray_asked : (output : Output) → Ends words given output → output.status ≡ Stray → AsksToStray words
  stray_asked _ (by_showing shows) is = absurd (not_done is)
  stray_asked _ (by_checking checks) is = absurd (not_done is)
  stray_asked _ (by_rewriting rewrites) is = absurd (not_done is)
  stray_asked _ (by_running runs outcome gives) is =
      absurd (not_stray outcome.end (gives_final _ runs.reads.reads.numbers outcome gives) is)
  stray_asked _ (by_running_rewritten runs) is =
      absurd (not_stray runs.meant.end (gives_final _ runs.reads.reads.numbers runs.meant runs.means) is)
  stray_asked _ (by_executing runs outcome text writes) is =
      let asks = runs.reads.reads.accepts.asks in
      strays_by asks.engine asks.request asks.asked (λ shows own. stray_end outcome.end (keeps_way_if runs outcome writes.gives shows own) is) (module_run runs.reads) runs.code runs.runs
  stray_asked output (by_generating asks _ generating) is = absurd (stray_generated asks output (Go output) refl generating is)
    where
      stray_generated : (asks : AsksToGenerate words) (output : Output) (step : Step Output) → step ≡ Go output → Generating asks.seed asks.size asks.steps step → output.status ≡ Stray → ⊥
      stray_generated asks output _ same (generates after own meant means) is =
          let made = told_with (summary_of (generated asks.seed asks.size) after meant) meant.end in
          not_stray meant.end (gives_final _ [] meant means) (ap (λ (o : Output). o.status) (same-value made output same) ∙ is)

pub StrayIsAsked-answer : (words : List (List ℕ)) (files : FilesSeen) (out notes : SinkSeen) (status : Status) → IsAnswer words files out notes status → StrayIsAsked words status
StrayIsAsked-answer words files out notes status answer is =
    let found = (Exactly-answer words files out notes status answer Stray (λ clash. cc) (λ clash. cc) (λ given within. comes-EndsWith words given within Stray)).only is in
    stray_asked words found.given files found.may found.holds.0 found.holds.1 found.holds.2

-- ---- plans with the same `go` lines

abbrev read_as : List Numbered → Result (List Numbered) Fault
read_as readings = Ok readings

same_readings : (one other : List Numbered) → read_as one ≡ read_as other → one ≡ other
same_readings one other is = cc

same_lines : (one other : List ℕ) (lines other_lines : List Line) → one ≡ other → IsAccepted text_forms.Rewritten one lines → IsAccepted text_forms.Rewritten other other_lines → lines ≡ other_lines
same_lines one other lines other_lines same first second =
    let readings = first.read.readings in
    let read : readings_in text_forms.Rewritten one ≡ read_as readings = first.read.read in
    let again : readings_in text_forms.Rewritten other ≡ read_as second.read.readings = second.read.read in
    let both : read_as readings ≡ read_as second.read.readings = sym read ∙ (ap (readings_in text_forms.Rewritten) same ∙ again) in
    first.read.are ∙ (ap lines_of (same_readings readings second.read.readings both) ∙ sym second.read.are)

-- an outcome that one setting gives, another that is the same gives
same_gives : (one other : ModuleContent) (input other_input : List ℤ) (go_line other_line : ℕ → Option ℕ) (bound other_bound : ℕ) (meant other_meant : Outcome)
    → one ≡ other → input ≡ other_input → go_line ≡ other_line → bound ≡ other_bound → TargetGives one input go_line bound meant
    → TargetGives other other_input other_line other_bound other_meant → other_meant ≡ meant
same_gives one other input other_input go_line other_line bound other_bound meant other_meant content numbers lines steps gives again =
    let by_content = subst (λ (c : ModuleContent). TargetGives c input go_line bound meant) content gives in
    let by_input = subst (λ (i : List ℤ). TargetGives other i go_line bound meant) numbers by_content in
    let by_lines = subst (λ (g : ℕ → Option ℕ). TargetGives other other_input g bound meant) lines by_input in
    let by_steps = subst (λ (n : ℕ). TargetGives other other_input other_line n meant) steps by_lines in
    gives_one (target_setting other other_line other_bound) other_input other_meant meant again by_steps

within_of : (words : List (List ℕ)) (given : Given) (text : List ℕ) → given.module_file ≡ Bytes text → length text ≤ 16777216 → IsWithin words given
within_of words given text taken small form name other names is = subst (λ (t : List ℕ). length t ≤ 16777216) (same_bytes text other (sym taken ∙ is)) small

pub plans_are_free : PlansAreFree
plans_are_free words other_words given other places trace other_places other_trace one two within text input steps lines output other_output ends other_ends =
    let first = own_output words given places trace one within in
    let other_within = subst (λ (t : List ℕ). length t ≤ 16777216) text within in
    let second = own_output other_words other other_places other_trace two other_within in
    let same_code : target words given places trace one ≡ target other_words other other_places other_trace two =
    ap (content_of text_forms.Rewritten) (same_lines one.text two.text one.lines two.lines text one.accepted two.accepted) in
    let same : second.meant ≡ first.meant =
    same_gives _ _ one.input two.input (go one.plan) (go two.plan) one.request.steps two.request.steps first.meant second.meant same_code input (fun_ext lines) steps first.means second.means in
    let own : ended_with first.text (lines_of_run first.writes) first.meant.end ≡ output = one_output words given (within_of words given one.text one.taken within) _ output first.ends ends in
    let again : ended_with second.text (lines_of_run second.writes) second.meant.end ≡ other_output = one_output other_words other (within_of other_words other two.text two.taken other_within) _ other_output second.ends other_ends in
    record {
      meant = first.meant;
      shown = subst (λ (o : Output). IsShownText (target words given places trace one) one.plan places trace first.meant o.text) own first.shown;
      other_shown =
          subst (λ (o : Output). IsShownText (target words given places trace one) two.plan other_places other_trace first.meant o.text) again
          (subst (λ (m : Outcome). IsShownText (target words given places trace one) two.plan other_places other_trace m second.text) same
          (subst (λ (c : ModuleContent). IsShownText c two.plan other_places other_trace second.meant second.text) (sym same_code) second.shown));
      ends = subst (λ (o : Output). EndsAs first.meant.end o.status) own (ends_as first.meant.end (status_of_end first.meant.end) first.final refl);
      other_ends =
          subst (λ (o : Output). EndsAs first.meant.end o.status) again
          (ends_as first.meant.end (status_of_end second.meant.end) first.final (ap (λ (m : Outcome). status_of_end m.end) same));
    }
