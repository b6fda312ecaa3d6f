use Rattle.std.proofs.Common.{◌∙◌, sym, ap, length}
use Rattle.fact_tables.proofs.InstLemmas.{block_read, count_lines}
use Rattle.base_facts.proofs.closing.count_insts.Goals as goal

pub returns : goal.returns
returns c =
    let func = c.args.func.now.content in
    let at = block_read func c.blocks-2.result.now c.args.block.0 c.index-blocks-block.result c.blocks-2.ensures.value c.requires c.index-blocks-block.is in
    ap length c.insts.ensures.value ∙ sym (count_lines func c.args.block.0 c.index-blocks-block.result at)
