-- The map that a view is of.
use Rattle.map_bytes.specs.Maps.{StackMap}
use Rattle.map_bytes.specs.Reads.{map_read}
use Rattle.stackmap_view.specs.declared.view.MapView.{MapView}

abbrev pub stack_map : MapView → StackMap
stack_map view = map_read view.bytes.now
