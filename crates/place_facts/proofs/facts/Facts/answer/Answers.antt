use Rattle.std.proofs.Common.{◌∙◌, Some, None, ap, sym}
use Rattle.std.specs.Option.{option_copied}
use Rattle.place_facts.specs.Answers.{answer_at, question_of}
use Rattle.place_facts.proofs.KeyLemmas.{number_found}
use Rattle.place_facts.proofs.facts.Facts.answer.Goals as goal

pub returns-in-Some : goal.returns-in-Some
returns-in-Some c =
    c.answer_at.ensures
    ∙ ap (answer_at c.args.self.now.answers)
    (number_found c.args.self.now.asked (question_of c.args.place c.args.pointer c.args.base) c.key_of-key.result (Some c.in-Some.number.now) c.key_of-key.ensures
    (ap option_copied (sym c.in-Some.is) ∙ c.get.ensures.value))

pub returns-in-None : goal.returns-in-None
returns-in-None c =
    ap (answer_at c.args.self.now.answers)
    (number_found c.args.self.now.asked (question_of c.args.place c.args.pointer c.args.base) c.key_of-key.result None c.key_of-key.ensures
    (ap option_copied (sym c.in-None.is) ∙ c.get.ensures.value))
