use Rattle.std.proofs.Common.{◌≡◌, length, ap, ◌∙◌, arith}
use Rattle.ir_cfg.specs.declared.turned.Filling.{Filling}
use Rattle.ir_cfg.specs.Graphs.{labels_of}
use Rattle.ir_cfg.proofs.TurnLemmas.{filled_none}
use Rattle.ir_cfg.proofs.turned.empty.Goals as goal

pub returns : goal.returns
returns c =
    let filling : Filling = record { stops = c.in_ok-stops.stops; cursors = c.in_ok-cursors.cursors; items = c.in_ok-items.items } in
    let room : length c.in_ok-items.items.items ≡ length (labels_of c.args.succs.now) = omega (arith, c.in_ok-items.ensures, ap length c.items-labels.ensures) in
    filled_none c.args.succs.now filling c.in_ok-stops.ensures (c.in_ok-cursors.ensures.items ∙ c.as_slice.ensures.value) room
