use Rattle.std.proofs.Common.{◌≡◌, ◌<◌, ◌^◌, true, rules, arith}
use Rattle.std.specs.Char.{is_ascii_digit}
use Rattle.std.specs.List.{list_all}
use Rattle.tool_words.proofs.NumberBounds.{number_in-unparsed}
use Rattle.tool_words.proofs.words.number_in.Goals as goal

pub returns-in_default-clause-value : goal.returns-in_default-clause-value
returns-in_default-clause-value c =
    let all : list_all is_ascii_digit c.args.word.now ≡ true = search rules in
    let below : c.args.most < 2 ^ 64 = omega arith in
    number_in-unparsed c.args.least c.args.most c.args.word.now c.in_default.field-0 below c.in_default.ensures.value.0 all
