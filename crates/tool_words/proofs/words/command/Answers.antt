use Rattle.std.proofs.Common.{◌≡◌, ◌∙◌, IfOk, Option, Some, ap, drop, map, rules, string_bytes, subst, sym, true, false}
use Rattle.tool_words.specs.Reader.{allows}
use Rattle.tool_words.specs.Words.{of_words}
use Rattle.tool_words.specs.declared.request.Command.{Command}
use Rattle.tool_words.proofs.CommandLaws.{from_no_words, from_words, not_allowed, of_sound, with_name, without_name, without_words}
use Rattle.tool_words.proofs.words.command.Goals as goal

pub returns-in_default-clause-none : goal.returns-in_default-clause-none
returns-in_default-clause-none c = λ _. without_words c.args.words.now c.in_default.ensures.cases

pub returns-in_default-first-clause-none : goal.returns-in_default-first-clause-none
returns-in_default-first-clause-none c = λ _. without_name c.args.words.now c.in-Some._program.now c.in-Some.called.now c.in-Some.ensures.cases.0 c.in_default-first.ensures.value

pub returns-in_err-matches-clause-none : goal.returns-in_err-matches-clause-none
returns-in_err-matches-clause-none c = λ failed.
    let name_is = with_name c.args.words.now c.in-Some._program.now c.in-Some.called.now c.in-Some-first.name.now c.in-Some.ensures.cases.0 c.in-Some-first.ensures.value in
    name_is ∙ ap (of_sound (string_bytes c.in-Some-first.name.now)) (c.in_err-matches.ensures.none (search rules))

pub returns-then-not-allows-clause-none : goal.returns-then-not-allows-clause-none
returns-then-not-allows-clause-none c =
    let name_is = with_name c.args.words.now c.in-Some._program.now c.in-Some.called.now c.in-Some-first.name.now c.in-Some.ensures.cases.0 c.in-Some-first.ensures.value in
    let no : allows (string_bytes c.in-Some-first.name.now) c.in_ok-options.options ≡ false =
    ap (λ (name : _). allows name c.in_ok-options.options) (sym c.as_str.ensures.value) ∙ sym c.allows.ensures ∙ c.if-not-allows.true in
    λ _. name_is ∙ not_allowed (string_bytes c.in-Some-first.name.now) (drop 1 (map string_bytes c.in-Some.called.now)) c.in_ok-matches.matches c.in_ok-options.options
    c.in_ok-matches.ensures.reads c.in_ok-options.ensures no

pub returns-in-Some-get_raw-clause-gives : goal.returns-in-Some-get_raw-clause-gives
returns-in-Some-get_raw-clause-gives c =
    let name_is = with_name c.args.words.now c.in-Some._program.now c.in-Some.called.now c.in-Some-first.name.now c.in-Some.ensures.cases.0 c.in-Some-first.ensures.value in
    let yes : allows (string_bytes c.in-Some-first.name.now) c.in_ok-options.options ≡ true =
    ap (λ (name : _). allows name c.in_ok-options.options) (sym c.as_str.ensures.value) ∙ sym c.allows.ensures ∙ c.if-not-allows.false in
    let command_is = name_is ∙ from_words (string_bytes c.in-Some-first.name.now) (drop 1 (map string_bytes c.in-Some.called.now)) c.in_ok-matches.matches c.in_ok-options.options
    c.in_ok-matches.ensures.reads c.in_ok-options.ensures yes _ c.in-Some-get_raw.ensures
    ∙ ap (λ (name : _). of_words name c.in_ok-options.options (map (λ word. word.now) c.in-Some-get_raw.positional.now)) (sym c.as_str-in-Some-get_raw.ensures.value) in
    subst (λ (o : Option Command). IfOk c.of_words.result (λ command. o ≡ Some command)) (sym command_is) c.of_words.ensures.gives

pub returns-in-Some-get_raw-clause-none : goal.returns-in-Some-get_raw-clause-none
returns-in-Some-get_raw-clause-none c =
    let name_is = with_name c.args.words.now c.in-Some._program.now c.in-Some.called.now c.in-Some-first.name.now c.in-Some.ensures.cases.0 c.in-Some-first.ensures.value in
    let yes : allows (string_bytes c.in-Some-first.name.now) c.in_ok-options.options ≡ true =
    ap (λ (name : _). allows name c.in_ok-options.options) (sym c.as_str.ensures.value) ∙ sym c.allows.ensures ∙ c.if-not-allows.false in
    let command_is = name_is ∙ from_words (string_bytes c.in-Some-first.name.now) (drop 1 (map string_bytes c.in-Some.called.now)) c.in_ok-matches.matches c.in_ok-options.options
    c.in_ok-matches.ensures.reads c.in_ok-options.ensures yes _ c.in-Some-get_raw.ensures
    ∙ ap (λ (name : _). of_words name c.in_ok-options.options (map (λ word. word.now) c.in-Some-get_raw.positional.now)) (sym c.as_str-in-Some-get_raw.ensures.value) in
    λ failed. command_is ∙ c.of_words.ensures.none failed

pub returns-clause-none : goal.returns-clause-none
returns-clause-none c =
    let name_is = with_name c.args.words.now c.in-Some._program.now c.in-Some.called.now c.in-Some-first.name.now c.in-Some.ensures.cases.0 c.in-Some-first.ensures.value in
    let yes : allows (string_bytes c.in-Some-first.name.now) c.in_ok-options.options ≡ true =
    ap (λ (name : _). allows name c.in_ok-options.options) (sym c.as_str.ensures.value) ∙ sym c.allows.ensures ∙ c.if-not-allows.false in
    λ _. name_is ∙ from_no_words (string_bytes c.in-Some-first.name.now) (drop 1 (map string_bytes c.in-Some.called.now)) c.in_ok-matches.matches c.in_ok-options.options
    c.in_ok-matches.ensures.reads c.in_ok-options.ensures yes c.in-None.ensures
