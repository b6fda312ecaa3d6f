use Rattle.std.proofs.Common.{List, sym, subst, length}
use Rattle.std.specs.List.{All, AllZip}
use Rattle.base_facts.specs.declared.asks.Ask.{Ask}
use Rattle.base_facts.specs.Answers as asks
use Rattle.place_facts.proofs.AskedLemmas.{all_askable, all_answered}
use Rattle.place_facts.proofs.facts.Facts.of.Goals as goal

pub of-requires-clause-asks : goal.of-requires-clause-asks
of-requires-clause-asks c =
    let func = c.args.func.now.content in
    subst (λ (xs : List Ask). All (asks.IsAskable func) xs) (sym c.deref.ensures.value)
    (all_askable func c.args.questions.now (length c.args.questions.now) c.in_ok-asked.asked c.in_ok-asked.ensures)

pub returns : goal.returns
returns c =
    let func = c.args.func.now.content in
    all_answered func c.args.questions.now (record { asked = c.in_ok-asked.asked; answers = c.in_ok-answers.answers }) c.in_ok-asked.ensures
    (subst (λ (xs : List Ask). AllZip (asks.IsAnswered func) xs c.in_ok-answers.answers) c.deref.ensures.value c.in_ok-answers.ensures)
