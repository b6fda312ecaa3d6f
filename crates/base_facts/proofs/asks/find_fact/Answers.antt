use Rattle.std.proofs.Common.{subst}
use Rattle.base_facts.specs.Settled.{Settles}
use Rattle.base_facts.proofs.FinalLemmas.{found_numbered}
use Rattle.base_facts.proofs.asks.find_fact.Goals as goal

pub returns-in_ok-number_of-in-Asks : goal.returns-in_ok-number_of-in-Asks
returns-in_ok-number_of-in-Asks c =
    found_numbered c.args.func.now.content c.args.fact c.in-Asks.other c.in_ok-number_of-in-Asks.field-0 c.args.asked.now c.number_of.new.asked
    c.requires.asked c.requires.reached (subst (Settles c.args.func.now.content c.args.fact) c.in-Asks.is c.settled.ensures) c.in_ok-number_of-in-Asks.ensures
