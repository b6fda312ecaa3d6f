use Rattle.std.proofs.Common.{sym, subst}
use Rattle.ir_cfg.specs.Unreached.{DropsUnreached}
use Rattle.ir_cfg.proofs.FollowLemmas.{drops_none}
use Rattle.ir_cfg.proofs.unreached.without_unreached.Goals as goal

pub returns-then-branch-clause-drops : goal.returns-then-branch-clause-drops
returns-then-branch-clause-drops c =
    subst (DropsUnreached c.args.func.content) (sym c.unlined.ensures.content)
    (drops_none c.args.func.content c.requires (c.in_ok-follow.ensures c.if-branch.true))
