use Rattle.std.proofs.Common.{[], drop}
use Rattle.piece_writer.specs.Lists.{led}
use Rattle.piece_writer.proofs.SinkLemmas.{TookBefore}
use Rattle.ir_printer.proofs.runs.put_from.Given as goal

abbrev pub invariant-loop-place : goal.invariant-loop-place
invariant-loop-place g l =
    TookBefore g.W.PieceSink.took l.initial.out l.out
    (led [] (drop l.from (g.R.Row.texts l.row))) (led [] (drop l.place (g.R.Row.texts l.row)))
