use Rattle.ir_cfg.proofs.KeptLemmas.{ends_kept}
use Rattle.ir_cfg.proofs.renumber.block.Goals as goal

pub of-requires : goal.of-requires
of-requires c = rw c.in_ok-new_insts.ensures (ends_kept c.args.renumber.now _ (rw c.into_parts-name.ensures.insts c.into_parts-name.ensures.ends))
