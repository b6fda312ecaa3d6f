use Rattle.std.proofs.Common.{◌≡◌, ◌==◌}
use Rattle.std.specs.List.{find}
use Rattle.map_bytes.specs.Entries.{entries}
use Rattle.stackmap_view.specs.Maps.{stack_map}
use Rattle.stackmap_view.specs.Walks.{records_left}
use Rattle.stackmap_view.proofs.view.MapView.find.Given as goal

abbrev pub invariant-loop-record : goal.invariant-loop-record
invariant-loop-record l =
    find (λ entry. entry.return_address == l.return_address) (records_left l.record-iterator) ≡ find (λ entry. entry.return_address == l.return_address) (entries (stack_map l.self))
