-- Each argument that is added has its rule.
use Rattle.std.proofs.Common.{◌∙◌, ap, ap₂, true}
use Rattle.clap.specs.Simple.{App, app_of_fields, on_top, with_rule}
use Rattle.tool_words.proofs.reader.reader.Goals as goal

pub returns : goal.returns
returns c =
    let first = ap app_of_fields c.disable_help_flag.ensures ∙ ap (λ (a : App). on_top (λ s. record s { disable_help_flag = true }) a) c.new.ensures.app in
    let one = c.in_ok-arg.ensures.shape c.positional.ensures.local ∙ ap₂ with_rule first c.positional.ensures.rule in
    let two = c.in_ok-arg-2.ensures.shape c.map_option.ensures.local ∙ ap₂ with_rule one c.map_option.ensures.rule in
    let three = c.in_ok-arg-3.ensures.shape c.flag.ensures.local ∙ ap₂ with_rule two c.flag.ensures.rule in
    let four = c.in_ok-arg-4.ensures.shape c.flag-2.ensures.local ∙ ap₂ with_rule three c.flag-2.ensures.rule in
    let five = c.in_ok-arg-5.ensures.shape c.flag-3.ensures.local ∙ ap₂ with_rule four c.flag-3.ensures.rule in
    c.in_ok-reader.ensures.shape c.flag-4.ensures.local ∙ ap₂ with_rule five c.flag-4.ensures.rule
