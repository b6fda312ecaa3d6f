use Rattle.std.proofs.Common.{drop}
use Rattle.piece_writer.proofs.SinkLemmas.{TookBefore}
use Rattle.stackmap_view.specs.Maps.{stack_map}
use Rattle.stackmap_view.specs.Walks.{records_left}
use Rattle.tool_report.specs.MapTexts.{lines_of, text_of_map}
use Rattle.tool_report.proofs.maps.put_functions.Given as goal

abbrev pub invariant-loop-index : goal.invariant-loop-index
invariant-loop-index g l =
    TookBefore g.W.PieceSink.took l.initial.out l.out (text_of_map (stack_map l.view)) (lines_of (stack_map l.view).constants (drop l.index (stack_map l.view).functions) (records_left l.records))
