use Rattle.std.proofs.Common.{arith}
use Rattle.ir_cfg.proofs.RowLemmas.{row_at}
use Rattle.ir_cfg.proofs.rows.row_of.Goals as goal

pub returns : goal.returns
returns c =
    let at = row_at 0 c.args.stops.now c.args.items.now c.args.place c.requires.stops c.requires.place in
    let row = at.row in
    let start = c.start_of.ensures in
    cc

pub between-requires : goal.between-requires
between-requires c =
    let at = row_at 0 c.args.stops.now c.args.items.now c.args.place c.requires.stops c.requires.place in
    let start = c.start_of.ensures in
    record { up = omega (arith, at.up); within = omega (arith, at.within) }
