use Rattle.fold_tables.proofs.FoldLaws.{small_folded}
use Rattle.fold_tables.proofs.fold.folded.Goals as goal

pub of-requires : goal.of-requires
of-requires c =
    rw (c.in_ok-after.ensures, c.into_parts-name.ensures.args, c.into_parts-name.ensures.blocks)
    (small_folded c.args.table.now c.len.result c.args.func.content.args c.args.func.content.blocks c.into_parts-name.ensures.small)
