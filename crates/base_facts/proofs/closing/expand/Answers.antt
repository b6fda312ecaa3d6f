use Rattle.base_facts.proofs.closing.expand.Goals as goal

pub front_of-requires-clause-block : goal.front_of-requires-clause-block
front_of-requires-clause-block c = (c.requires.asked.settled c.args.number c.args.fact c.requires.stands).block_inside
