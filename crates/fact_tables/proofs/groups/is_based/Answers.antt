use Rattle.std.proofs.Common.{◌∙◌}
use Rattle.pair_facts.specs.Lines.{lines_at}
use Rattle.fact_tables.proofs.GroupLemmas.{based_here}
use Rattle.fact_tables.proofs.groups.is_based.Goals as goal

pub returns : goal.returns
returns c =
    let lines = lines_at c.args.func.now.content c.args.block in
    c.is_based_by.ensures ∙ based_here lines c.args.place c.inst_at.result.now c.args.group.now c.inst_at.ensures c.requires.group
