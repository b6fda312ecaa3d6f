use Rattle.ssa_rebuild.proofs.EndLemmas.{ends_written}
use Rattle.ssa_rebuild.proofs.blocks.one_block.Goals as goal

pub of-requires : goal.of-requires
of-requires c =
    rw c.in_ok-lines.ensures.lines
    (ends_written _ _ _ _ _ _ (rw c.into_parts-name.ensures.insts c.into_parts-name.ensures.ends))
