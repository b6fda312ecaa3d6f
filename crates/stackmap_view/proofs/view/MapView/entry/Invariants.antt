use Rattle.std.proofs.Common.{◌≡◌, ◌-◌}
use Rattle.std.specs.Prelude.{slice_get}
use Rattle.map_bytes.specs.Entries.{entries}
use Rattle.stackmap_view.specs.Maps.{stack_map}
use Rattle.stackmap_view.specs.Walks.{records_left}
use Rattle.stackmap_view.proofs.view.MapView.entry.Given as goal

abbrev pub invariant-skipping : goal.invariant-skipping
invariant-skipping l = slice_get (records_left l.records) (l.index - l.counter) ≡ slice_get (entries (stack_map l.self)) l.index
