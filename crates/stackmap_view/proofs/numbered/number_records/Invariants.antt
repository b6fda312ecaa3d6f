use Rattle.std.proofs.Common.{◌≡◌, ◌++◌, length}
use Rattle.std.specs.Prelude.{map}
use Rattle.std.specs.List.{enumerate_from}
use Rattle.map_bytes.specs.Entries.{entries}
use Rattle.stackmap_view.specs.Indexes.{numbered}
use Rattle.stackmap_view.specs.Maps.{stack_map}
use Rattle.stackmap_view.specs.Walks.{records_left}
use Rattle.stackmap_view.proofs.numbered.number_records.Given as goal

abbrev pub invariant-loop-lent : goal.invariant-loop-lent
invariant-loop-lent l = map numbered l.list.items ++ enumerate_from (length l.list.items) (records_left l.lent-iterator) ≡ enumerate_from 0 (entries (stack_map l.view))
