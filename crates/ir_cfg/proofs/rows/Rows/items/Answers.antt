use Rattle.std.proofs.Common.{ap, sym, ◌∙◌}
use Rattle.ir_cfg.specs.Graphs.{labels_of}
use Rattle.ir_cfg.proofs.RowLemmas.{rows_flat}
use Rattle.ir_cfg.proofs.rows.Rows.items.Goals as goal

pub returns : goal.returns
returns c =
    let flat = rows_flat 0 c.self.inside.stops.items c.self.inside.items.items c.self.invariant in
    c.as_slice.ensures.value ∙ sym flat ∙ ap labels_of c.self.view_is
