use Rattle.std.proofs.Common.{sym, ◌∙◌}
use Rattle.ir_cfg.proofs.GraphLemmas.{leads_back, back_leads}
use Rattle.ir_cfg.proofs.CycleLemmas.{cycles_poll}
use Rattle.ir_cfg.proofs.cfg.Cfg.retreats.Goals as goal

pub returns-clause-value : goal.returns-clause-value
returns-clause-value c =
    let tested = rw c.succs.ensures at c.any_up_to.ensures in (
      λ some. leads_back c.args.self.now c.args.block.0 (sym tested ∙ some),
      λ back. tested ∙ back_leads c.args.self.now c.args.block.0 back,
    )

pub returns-clause-cycles_poll : goal.returns-clause-cycles_poll
returns-clause-cycles_poll c = cycles_poll c.args.self.now
