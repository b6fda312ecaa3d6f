use Rattle.std.proofs.Common.{arith}
use Rattle.list_laws.proofs.Places.{get_some}
use Rattle.fact_tables.proofs.InstLemmas.{insts_within, count_lines}
use Rattle.place_facts.proofs.asking.ask.Goals as goal

pub overflow_cast-result-2 : goal.overflow_cast-result-2
overflow_cast-result-2 c =
    let func = c.args.func.now.content in
    let block = get_some func.blocks c.args.block c.requires.block_inside in
    omega (
      arith,
      count_lines func c.args.block block.0 block.1,
      insts_within func.blocks c.args.block block.0 block.1,
      c.requires.place_inside,
      c.blocks-blocks.ensures.small.few_instructions,
    )
