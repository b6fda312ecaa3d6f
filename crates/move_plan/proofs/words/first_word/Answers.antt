use Rattle.std.proofs.Common.{◌<◌, length, arith}
use Rattle.std.proofs.lemmas.Bool.Decides.{nat_tests}
use Rattle.move_plan.proofs.WordLemmas.{no_word, one_word}
use Rattle.move_plan.proofs.words.first_word.Goals as goal

pub returns-then-is_empty : goal.returns-then-is_empty
returns-then-is_empty c =
    no_word c.args.line.now c.after_blanks-rest.result.now c.after_blanks-rest.ensures (grind (arith, nat_tests))

pub returns : goal.returns
returns c =
    let some : 0 < length c.after_blanks-rest.result.now = grind (arith, nat_tests) in
    one_word c.args.line.now c.after_blanks-rest.result.now c.split_at.result.0.now c.split_at.result.1.now c.word_len.result c.after_blanks-rest.ensures some c.word_len.ensures.len c.split_at.ensures.front c.split_at.ensures.back
