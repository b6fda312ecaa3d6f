use Rattle.std.proofs.Common.{length, ap, ◌∙◌, arith}
use Rattle.ir_cfg.proofs.RowLemmas.{length-rows_from}
use Rattle.ir_cfg.proofs.rows.Rows.row.Goals as goal

pub row_of-requires : goal.row_of-requires
row_of-requires c =
    let rows = ap length c.self.view_is in
    let count = length-rows_from 0 c.self.inside.stops.items c.self.inside.items.items in
    let stops = ap length c.as_slice.ensures.value in
    record {
      stops = rw (c.as_slice.ensures.value, c.as_slice-2.ensures.value) c.self.invariant;
      place = omega (arith, rows, count, stops, c.requires);
    }

pub returns : goal.returns
returns c = c.row_of.ensures ∙ (let first = c.as_slice.ensures.value in let second = c.as_slice-2.ensures.value in let view = c.self.view_is in cc)
