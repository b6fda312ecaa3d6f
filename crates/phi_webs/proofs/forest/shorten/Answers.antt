use Rattle.phi_webs.proofs.ForestLemmas.{shortens_none, shortens_more}
use Rattle.std.proofs.Common.{ap, ◌∙◌}
use Rattle.phi_webs.specs.Forests.{up_of}
use Rattle.phi_webs.proofs.forest.shorten.Goals as goal

pub loop-step-init : goal.loop-step-init
loop-step-init c = shortens_none c.args.ups.now.items c.args.name c.args.end c.requires

pub loop-step-preserved : goal.loop-step-preserved
loop-step-preserved c =
    shortens_more c.args.ups.now.items c.loop-step.ups.items c.put.new.ups.items c.loop-step.here c.args.end c.up-next.result
    c.loop-step.invariant (c.up-next.ensures ∙ ap (λ ups. up_of ups c.loop-step.here) c.deref.ensures.value) c.if-next-here.false c.put.ensures
