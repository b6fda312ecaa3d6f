use Rattle.base_facts.proofs.SourceLemmas.{nowhere_misses, source_found, turned_names}
use Rattle.base_facts.proofs.sources.source_behind.Goals as goal
use Rattle.std.proofs.Common.{sym}

pub returns-then-slips : goal.returns-then-slips
returns-then-slips c =
    nowhere_misses c.args.func.now.content c.args.fact c.args.first c.args.one c.requires.names.one c.requires.one (λ same. c.if-one-block.false (sym same))
    (c.slips.ensures c.if-slips.true) c.requires.front

pub returns-then-slips-2 : goal.returns-then-slips-2
returns-then-slips-2 c =
    nowhere_misses c.args.func.now.content c.args.fact c.args.second c.args.other c.requires.names.other c.requires.other (λ same. c.if-other-block.false (sym same))
    (c.slips-2.ensures c.if-slips-2.true) c.requires.front

pub returns-then-is_last : goal.returns-then-is_last
returns-then-is_last c =
    source_found c.args.func.now.content c.args.fact c.args.first c.args.second c.args.one c.args.other c.requires.names c.requires.one c.requires.other
    c.if-one-block.false (c.is_last.ensures c.if-is_last.true)

pub returns-then-is_last-2 : goal.returns-then-is_last-2
returns-then-is_last-2 c =
    source_found c.args.func.now.content c.args.fact c.args.second c.args.first c.args.other c.args.one (turned_names c.args.fact c.args.first c.args.second c.requires.names)
    c.requires.other c.requires.one c.if-other-block.false (c.is_last-2.ensures c.if-is_last-2.true)
