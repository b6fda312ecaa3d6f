-- What a heap ends as whose places were lent.
use Rattle.std.specs.Borrow.{MutBor, Fml, Lends}
use Rattle.moving_heap.specs.Heaps.{HeapView, heap_of}
use Rattle.moving_heap.specs.Settled.{Table}
use Rattle.moving_heap.specs.contracts.heap.Heap.{the_row}
use Rattle.moving_heap.specs.contracts.places.Places.{the_row as places_row}

-- the heap ends as its places do
abbrev pub LendsPlaces : MutBor HeapView → MutBor Table → Fml
LendsPlaces heap places = Lends the_row places_row heap places heap_of
