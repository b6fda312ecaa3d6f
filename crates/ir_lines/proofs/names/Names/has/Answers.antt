use Rattle.ir_lines.proofs.PlaceLemmas.{is-one}
use Rattle.ir_lines.proofs.names.Names.has.Goals as goal

pub returns : goal.returns
returns c = is-one c.args.self.now c.args.name.now c.find.result c.is_some.result c.find.ensures c.is_some.ensures
