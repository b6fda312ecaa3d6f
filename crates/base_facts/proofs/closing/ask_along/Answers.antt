use Rattle.std.proofs.Common.{◌∙◌, sym, subst}
use Rattle.std.proofs.lemmas.Option.{slice_get_within}
use Rattle.base_facts.specs.Asked.{MissesFact}
use Rattle.base_facts.proofs.ClosingLemmas.{can_ask_along, asked_along, misses_along, failed_along, one_fact}
use Rattle.base_facts.proofs.closing.ask_along.Goals as goal
use Rattle.std.proofs.lemmas.Result.{IfOk-weaker}

pub ask-requires : goal.ask-requires
ask-requires c =
    let func = c.args.func.now.content in
    let can = can_ask_along func c.args.asked.now c.args.number c.args.fact c.in-Some.other c.args.from.0 c.count_insts-end.result c.requires.front c.requires.edge c.requires.reached
    c.requires.stands c.count_insts-end.ensures (sym c.in-Some.is ∙ c.along_edge.ensures) in
    record {
      tables = c.requires.tables;
      place = can.place;
      outside = can.outside;
      reached = can.reached;
      asked = c.requires.asked;
      inside = slice_get_within c.args.asked.now.facts.keys c.args.number c.args.fact c.requires.stands;
      misses = can.misses;
    }

pub fail-requires : goal.fail-requires
fail-requires c =
    let func = c.args.func.now.content in
    record {
      asked = c.requires.asked;
      inside = slice_get_within c.args.asked.now.facts.keys c.args.number c.args.fact c.requires.stands;
      misses = λ own is. subst (MissesFact func) (one_fact c.args.asked.now c.args.number c.args.fact own c.requires.stands is)
          (misses_along func c.args.fact c.args.from.0 c.count_insts-end.result c.requires.front c.requires.edge c.requires.reached c.count_insts-end.ensures (sym c.in-None.is ∙ c.along_edge.ensures));
    }

pub returns-in-Some : goal.returns-in-Some
returns-in-Some c =
    let func = c.args.func.now.content in
    IfOk-weaker c.ask.result _ _
    (λ x has. asked_along func c.args.number c.args.fact c.in-Some.other c.args.from.0 c.count_insts-end.result c.args.asked.now c.ask.new.asked c.count_insts-end.ensures
    (sym c.in-Some.is ∙ c.along_edge.ensures) has) c.ask.ensures

pub returns-in-None : goal.returns-in-None
returns-in-None c =
    let func = c.args.func.now.content in
    IfOk-weaker c.fail.result _ _ (λ x has. failed_along func c.args.number c.args.fact c.args.from.0 c.args.asked.now c.fail.new.asked has) c.fail.ensures
