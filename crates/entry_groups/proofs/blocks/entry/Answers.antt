use Rattle.entry_groups.proofs.EndLaws.{ends_lines}
use Rattle.entry_groups.proofs.blocks.entry.Goals as goal

pub of-requires : goal.of-requires
of-requires c =
    rw c.in_ok-lines.ensures.lines
    (ends_lines c.args.token c.args.group.now c.args.row.now c.into_parts-name.result.1.items
    (rw c.into_parts-name.ensures.insts c.into_parts-name.ensures.ends) c.in_ok-lines.ensures.goes_on)
