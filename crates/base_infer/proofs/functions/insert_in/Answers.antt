use Rattle.base_tables.specs.Tables.{tabled}
use Rattle.base_infer.proofs.LineLemmas.{ends_based}
use Rattle.base_infer.proofs.functions.insert_in.Goals as goal

pub of-requires : goal.of-requires
of-requires c =
    rw c.in_ok-lines.ensures.lines
    (ends_based (tabled c.args.tables.now) c.args.next c.into_parts-name.result.1.items (rw c.into_parts-name.ensures.insts c.into_parts-name.ensures.ends))
