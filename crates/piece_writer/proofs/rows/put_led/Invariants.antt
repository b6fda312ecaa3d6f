use Rattle.std.proofs.Common.{drop}
use Rattle.piece_writer.specs.Lists.{led}
use Rattle.piece_writer.proofs.SinkLemmas.{TookBefore}
use Rattle.piece_writer.proofs.rows.put_led.Given as goal

abbrev pub invariant-loop-place : goal.invariant-loop-place
invariant-loop-place g l =
    TookBefore g.W.PieceSink.took l.initial.out l.out
    (led l.separator (drop l.from (g.R.Row.texts l.row))) (led l.separator (drop l.place (g.R.Row.texts l.row)))
