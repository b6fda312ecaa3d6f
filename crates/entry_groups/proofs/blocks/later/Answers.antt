use Rattle.entry_groups.proofs.EndLaws.{ends_put}
use Rattle.entry_groups.proofs.blocks.later.Goals as goal

pub of-requires : goal.of-requires
of-requires c =
    rw c.in_ok-lines.ensures (ends_put c.args.row.now c.into_parts-name.result.1.items (rw c.into_parts-name.ensures.insts c.into_parts-name.ensures.ends))
