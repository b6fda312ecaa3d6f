-- What the command `rewrite` writes, the command `check` takes.
use Rattle.std.proofs.Common.{◌≡◌, ◌≤◌, ◌∙◌, ℕ, List, length, Option, Some, refl, sym, subst}
use Rattle.ir_ast.specs.declared.modules.Form.TheVariants.{Rewritten, Source}
use Rattle.ir_ast.specs.Modules.{LinedModule}
use Rattle.ir_lines.specs.Modules.{module_of}
use Rattle.ir_lines.specs.Statements.{lines_of}
use Rattle.tool_words.specs.Words.{command_of}
use Rattle.tool_words.specs.declared.request.Command.{Command}
use Rattle.tool_words.specs.declared.request.Command.TheVariants.{Check, Exec, Gen, Rewrite, Run, Show, Source as SourceRun}
use Rattle.tool_words.specs.declared.request.Part.{Part}
use Rattle.tool_words.specs.declared.request.Part.TheVariants.{Text}
use Rattle.tool_words.specs.declared.request.RunRequest.{RunRequest}
use Rattle.statepoint_tool.specs.Causes.{IsAccepted, IsAskedFor, Rewrites, by_checking, by_exec, by_executing, by_generating, by_rewriting, by_run, by_running, by_running_rewritten, by_showing, by_source}
use Rattle.statepoint_tool.specs.Steps.{Go, goes_on}
use Rattle.statepoint_tool.specs.Taken.{Bytes, FilesSeen, MayGive, Taken, file_phase}
use Rattle.statepoint_tool.specs.Work.{Given, MayGiveNamed, MayGiveShown, check_work, checked_phase, content_of, passed, text_of_part, verified}
use Rattle.statepoint_tool.proofs.TextLaws.{as-accepted}
use Rattle.statepoint_tool.specs.Commands.{AsksForText, WrittenTextsAreOk}
use Rattle.statepoint_tool.specs.Passes.{Passes}
use Rattle.statepoint_tool.proofs.AcceptedLaws.{module_of_accepted}
use Rattle.statepoint_tool.proofs.PassLaws.{rewritten_texts_pass}

-- a text that passes comes to `ok`
ok_of : (text : List ℕ) → Passes text → (module_file : List ℕ) (later : Given) → later.module_file ≡ Bytes text → check_work module_file later (Go passed)
ok_of text passes module_file later taken =
    let lines = lines_of passes.readings in
    let whole : LinedModule = module_of Rewritten lines in
    let accepted : IsAccepted Rewritten text lines = record { read = record { readings = passes.readings; read = passes.reads; are = refl }; faultless = passes.no_fault } in
    goes_on whole (Go passed)
    (subst (λ (t : Taken). file_phase module_file checked_phase t (Go whole)) (sym taken)
    (goes_on whole (Go whole) (as-accepted Rewritten text lines accepted) (verified passes.verified)))
    refl

module _ (words : List (List ℕ)) (asks : AsksForText words) where
  not_asked : (other : Command) → Some other ≡ Some (Rewrite asks.module_file Text) → other ≡ Rewrite asks.module_file Text
  not_asked other same = cc

  no_run : (engine : _) (request : RunRequest) → IsAskedFor words engine request → ⊥
  no_run _ _ (by_source request command) = (let bad : SourceRun request ≡ Rewrite asks.module_file Text = not_asked (SourceRun request) (sym command ∙ asks.command) in cc)
  no_run _ _ (by_run request map_file places trace command) =
      (let bad : Run request map_file places trace ≡ Rewrite asks.module_file Text = not_asked (Run request map_file places trace) (sym command ∙ asks.command) in cc)
  no_run _ _ (by_exec request map_file trust places trace command) =
      (let bad : Exec request map_file trust places trace ≡ Rewrite asks.module_file Text =
      not_asked (Exec request map_file trust places trace) (sym command ∙ asks.command) in cc)

  module _ (files : FilesSeen) (given : Given) (may : MayGiveNamed files (command_of words) given) where
    wrote : (rewrites : Rewrites words given) → length (text_of_part rewrites.reads.asks.part rewrites.after) ≤ 16777216
        → Passes (text_of_part rewrites.reads.asks.part rewrites.after)
    wrote rewrites short =
        let reads = rewrites.reads in
        let same : Rewrite reads.asks.module_file reads.asks.part ≡ Rewrite asks.module_file Text =
        not_asked (Rewrite reads.asks.module_file reads.asks.part) (sym reads.asks.command ∙ asks.command) in
        let part : reads.asks.part ≡ Text = cc in
        let file : reads.asks.module_file ≡ asks.module_file = cc in
        let gives : MayGiveShown files reads.asks.module_file given = subst (λ (command : Option Command). MayGiveNamed files command given) reads.asks.command may in
        let within : MayGive files reads.asks.module_file (Bytes reads.text) = subst (λ (taken : Taken). MayGive files reads.asks.module_file taken) reads.taken gives in
        let source = module_of_accepted Source reads.text reads.lines within.0 reads.accepted in
        subst (λ (p : Part). length (text_of_part p rewrites.after) ≤ 16777216 → Passes (text_of_part p rewrites.after)) (sym part)
        (rewritten_texts_pass (content_of Source reads.lines) rewrites.after source rewrites.is) short

pub written_texts_are_ok : WrittenTextsAreOk
written_texts_are_ok words asks files given may _ (by_rewriting rewrites) short module_file later taken =
    ok_of (text_of_part rewrites.reads.asks.part rewrites.after) (wrote words asks files given may rewrites short) module_file later taken
written_texts_are_ok words asks files given may _ (by_showing shows) short module_file later taken =
    absurd (let bad : Show shows.asks.module_file ≡ Rewrite asks.module_file Text = not_asked words asks (Show shows.asks.module_file) (sym shows.asks.command ∙ asks.command) in cc)
written_texts_are_ok words asks files given may _ (by_checking checks) short module_file later taken =
    absurd (let bad : Check checks.asks.module_file ≡ Rewrite asks.module_file Text = not_asked words asks (Check checks.asks.module_file) (sym checks.asks.command ∙ asks.command) in cc)
written_texts_are_ok words asks files given may _ (by_running runs outcome gives) short module_file later taken =
    let run = runs.reads.reads.accepts.asks in absurd (no_run words asks run.engine run.request run.asked)
written_texts_are_ok words asks files given may _ (by_running_rewritten runs) short module_file later taken =
    let run = runs.reads.reads.accepts.asks in absurd (no_run words asks run.engine run.request run.asked)
written_texts_are_ok words asks files given may _ (by_executing runs outcome text writes) short module_file later taken =
    let run = runs.reads.reads.accepts.asks in absurd (no_run words asks run.engine run.request run.asked)
written_texts_are_ok words asks files given may _ (by_generating asked output generates) short module_file later taken =
    absurd (let bad : Gen asked.seed asked.size asked.steps ≡ Rewrite asks.module_file Text =
    not_asked words asks (Gen asked.seed asked.size asked.steps) (sym asked.command ∙ asks.command) in cc)
