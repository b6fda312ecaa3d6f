use Rattle.std.proofs.Common.{◌∙◌, sym}
use Rattle.base_facts.proofs.ClosingLemmas.{closed_more, all_closed}
use Rattle.base_facts.proofs.closing.close.Goals as goal

pub returns-in-None : goal.returns-in-None
returns-in-None c =
    all_closed c.args.func.now.content c.loop-number.number c.args.asked.now c.loop-number.asked (sym c.fact_of.ensures ∙ c.in-None.is) c.loop-number.invariant

pub loop-number-preserved : goal.loop-number-preserved
loop-number-preserved c =
    closed_more c.args.func.now.content c.loop-number.number c.in-Some.fact c.args.asked.now c.loop-number.asked c.expand.new.asked (sym c.fact_of.ensures ∙ c.in-Some.is) c.loop-number.invariant c.in_ok-expand-in-Some.ensures
