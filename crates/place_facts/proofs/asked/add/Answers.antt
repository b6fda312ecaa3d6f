use Rattle.std.proofs.Common.{inl, inr, refl, subst}
use Rattle.std.proofs.lemmas.Result.{IfOk-weaker}
use Rattle.place_facts.specs.Asks.{IsAskOf}
use Rattle.place_facts.proofs.asked.add.Goals as goal

pub returns-in-Some : goal.returns-in-Some
returns-in-Some c =
    IfOk-weaker c.add_ask.result _ _
    (λ _ adds. inl (c.in-Some.ask, subst (IsAskOf c.args.func.now.content c.args.question) c.in-Some.is c.ask_of.ensures, adds)) c.add_ask.ensures

pub returns-in-None : goal.returns-in-None
returns-in-None c = inr (subst (IsAskOf c.args.func.now.content c.args.question) c.in-None.is c.ask_of.ensures, refl)
