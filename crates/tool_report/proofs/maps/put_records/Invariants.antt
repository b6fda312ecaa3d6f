use Rattle.std.proofs.Common.{◌≡◌, ◌-◌, take, drop}
use Rattle.std.specs.List.{flat_map}
use Rattle.piece_writer.proofs.SinkLemmas.{TookBefore}
use Rattle.stackmap_view.specs.Maps.{stack_map}
use Rattle.stackmap_view.specs.Walks.{records_left}
use Rattle.tool_report.specs.MapTexts.{record_text}
use Rattle.tool_report.proofs.maps.put_records.Given as goal

abbrev pub invariant-putting : goal.invariant-putting
invariant-putting g l =
    TookBefore g.W.PieceSink.took l.initial.out l.out (flat_map (record_text (stack_map l.view).constants) (take l.count (records_left l.initial.records)))
    (flat_map (record_text (stack_map l.view).constants) (take (l.count - l.counter) (records_left l.records)))
    × (records_left l.records ≡ drop l.counter (records_left l.initial.records))
