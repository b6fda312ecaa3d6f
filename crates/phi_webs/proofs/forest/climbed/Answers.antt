use Rattle.phi_webs.proofs.ForestLemmas.{climbs_more, climbed_up, climbs_ends}
use Rattle.std.proofs.Common.{arith}
use Rattle.phi_webs.proofs.forest.climbed.Goals as goal

pub returns-then-next-end : goal.returns-then-next-end
returns-then-next-end c =
    climbed_up c.args.ups.now c.args.name c.loop-step.end c.up-next.result c.loop-step._step c.loop-step.invariant c.up-next.ensures c.if-next-end.true

pub loop-step-preserved : goal.loop-step-preserved
loop-step-preserved c =
    climbs_more c.args.ups.now c.args.name c.loop-step.end c.up-next.result c.loop-step._step c.loop-step.invariant c.up-next.ensures
    c.if-next-end.false

pub returns : goal.returns
returns c = climbs_ends c.args.ups.now c.args.name c.loop-step.end c.loop-step._step c.loop-step.invariant (omega arith)
