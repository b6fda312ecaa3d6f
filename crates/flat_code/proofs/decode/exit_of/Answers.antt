use Rattle.flat_code.proofs.decode.exit_of.Goals as goal

pub returns-in-Call : goal.returns-in-Call
returns-in-Call c = c.exit_to.ensures c.args.source.now.defined c.args.block
