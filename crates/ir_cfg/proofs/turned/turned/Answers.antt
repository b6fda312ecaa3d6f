use Rattle.ir_cfg.proofs.TurnLemmas.{filled_all}
use Rattle.ir_cfg.proofs.turned.turned.Goals as goal

pub returns : goal.returns
returns c = rw c.of.ensures (filled_all c.args.succs.now c.fill.new.filling c.fill.ensures)
