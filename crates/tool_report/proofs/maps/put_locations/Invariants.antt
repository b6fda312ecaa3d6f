use Rattle.std.proofs.Common.{drop, take}
use Rattle.piece_writer.proofs.SinkLemmas.{TookBefore}
use Rattle.stackmap_view.specs.Maps.{stack_map}
use Rattle.stackmap_view.specs.Views.{seen}
use Rattle.tool_report.specs.MapTexts.{location_lines, pairs_at}
use Rattle.tool_report.proofs.maps.put_locations.Given as goal

abbrev pub invariant-loop-index : goal.invariant-loop-index
invariant-loop-index g l =
    TookBefore g.W.PieceSink.took l.initial.out l.out
    (location_lines (stack_map l.view).constants (drop 3 (take (pairs_at (seen l.site).one.places) (seen l.site).one.places)))
    (location_lines (stack_map l.view).constants (drop l.index (take (pairs_at (seen l.site).one.places) (seen l.site).one.places)))
