use Rattle.std.proofs.Common.{arith}
use Rattle.std.specs.Prelude.{map}
use Rattle.ir_verify.proofs.EdgeLemmas.{adds-none, adds-more, adds-all}
use Rattle.ir_verify.proofs.phis.add_edges.Goals as goal

pub loop-label-init : goal.loop-label-init
loop-label-init c = adds-none c.args.from (map (λ list. list.items) c.args.into.now.items)

pub loop-label-preserved : goal.loop-label-preserved
loop-label-preserved c =
    adds-more c.args.from c.args.labels.now c.loop-label.label-index _ _ _ _ c.loop-label-test.true c.loop-label.invariant c.in_ok-push_at.ensures

pub returns : goal.returns
returns c = adds-all c.args.from c.args.labels.now c.loop-label.label-index _ _ (omega arith) c.loop-label.invariant
