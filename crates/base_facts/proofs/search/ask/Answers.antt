use Rattle.std.proofs.Common.{subst, arith}
use Rattle.std.proofs.lemmas.Option.{slice_get_within}
use Rattle.base_facts.specs.Settled.{Settles}
use Rattle.base_facts.proofs.AskedLemmas.{never_missed, other_asked}
use Rattle.base_facts.proofs.search.ask.Goals as goal

pub fail-requires-clause-misses : goal.fail-requires-clause-misses
fail-requires-clause-misses c = λ own is.
    let func = c.args.func.now.content in
    c.requires.misses own is (never_missed func c.args.fact c.requires.reached (subst (Settles func c.args.fact) c.in-Never.is c.settled.ensures))

pub add_asker-requires : goal.add_asker-requires
add_asker-requires c =
    let numbered = c.in_ok-number-in-Asks.ensures in
    omega (arith, numbered.same, slice_get_within c.number_of.new.asked.facts.keys c.in_ok-number-in-Asks.number c.in-Asks.other numbered.stands)

pub returns-in_ok-add_asker-in-Asks : goal.returns-in_ok-add_asker-in-Asks
returns-in_ok-add_asker-in-Asks c =
    let func = c.args.func.now.content in
    other_asked func c.args.asker c.in_ok-number-in-Asks.number c.args.fact c.in-Asks.other c.args.asked.now c.number_of.new.asked c.add_asker.new.asked
    c.requires.asked c.requires.inside c.requires.reached c.requires.misses (subst (Settles func c.args.fact) c.in-Asks.is c.settled.ensures)
    c.in_ok-number-in-Asks.ensures c.in_ok-add_asker-in-Asks.ensures
