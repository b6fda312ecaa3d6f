use Rattle.std.proofs.Common.{◌+◌, ◌*◌, drop}
use Rattle.piece_writer.proofs.SinkLemmas.{TookBefore}
use Rattle.stackmap_view.specs.Views.{seen}
use Rattle.tool_report.specs.MapTexts.{pair_lines, pairs_at}
use Rattle.tool_report.proofs.maps.put_pairs.Given as goal

abbrev pub invariant-loop-pair : goal.invariant-loop-pair
invariant-loop-pair g l =
    TookBefore g.W.PieceSink.took l.initial.out l.out (pair_lines (drop (pairs_at (seen l.site).one.places) (seen l.site).one.places))
    (pair_lines (drop (pairs_at (seen l.site).one.places + 2 * l.pair) (seen l.site).one.places))
