use Rattle.case_lines.proofs.RowLemmas.{row_at, no_row}
use Rattle.std.proofs.Common.{arith}
use Rattle.case_lines.proofs.rows.row_of.Goals as goal

pub returns-then-place-stops : goal.returns-then-place-stops
returns-then-place-stops c =
    let at = row_at 0 c.args.stops.now c.args.lines.now c.args.place c.requires c.if-place-stops.true in
    let row = at.row in
    let start = c.start_of.ensures in
    cc

pub returns-else-place-stops : goal.returns-else-place-stops
returns-else-place-stops c = let none = no_row 0 c.args.stops.now c.args.lines.now c.args.place c.if-place-stops.false in cc

pub between-requires : goal.between-requires
between-requires c =
    let at = row_at 0 c.args.stops.now c.args.lines.now c.args.place c.requires c.if-place-stops.true in
    let start = c.start_of.ensures in
    record { up = omega (arith, at.up); within = omega (arith, at.within) }
