use Rattle.std.proofs.Common.{rules}
use Rattle.ir_cfg.proofs.RowLemmas.{length-rows_from}
use Rattle.ir_cfg.proofs.rows.Rows.len.Goals as goal

pub returns : goal.returns
returns c = rw (← c.self.view_is, length-rows_from 0 c.self.inside.stops.items c.self.inside.items.items) (search rules)
