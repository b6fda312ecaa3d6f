use Rattle.pair_facts.specs.Lines.{lines_at}
use Rattle.fact_tables.proofs.PhiLemmas.{phis_none, phis_pushed}
use Rattle.fact_tables.proofs.phis.phis_of.Goals as goal

pub loop-place-init : goal.loop-place-init
loop-place-init c = phis_none (lines_at c.args.func.now.content c.args.number) c.new-phis.result.items c.new-phis.ensures.items

pub loop-place-preserved : goal.loop-place-preserved
loop-place-preserved c =
    phis_pushed (lines_at c.args.func.now.content c.args.number) c.loop-place.place c.loop-place.phis.items _ _ c.inst_at.result.now
    c.in_ok-push.ensures.items c.inst_at.ensures c.in_ok-entries_of.ensures c.loop-place.invariant
