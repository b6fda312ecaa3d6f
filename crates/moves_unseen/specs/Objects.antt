-- The objects of the target meaning and the heap of the machine: each cell holds what its kind says.
use Rattle.std.specs.Prelude.{◌≡◌, ℕ, List, length, Some, slice_get, slice_index, slice_index_or, ◌-◌, Ok}
use Rattle.ir_ast.specs.declared.cells.Cell.{Cell}
use Rattle.ir_ast.specs.declared.cells.Cell.TheVariants.{I64, Ptr}
use Rattle.ir_ast.specs.Layouts.{ObjectLayout}
use Rattle.ir_ast.specs.Sizes.{fields_in}
use Rattle.ir_ast.specs.Objects.{Pointer, Datum, Object, footprint}
use Rattle.moving_heap.specs.declared.stands.Stand.{Stand}
use Rattle.moving_heap.specs.Contents.{Content, repeated}
use Rattle.moving_heap.specs.Settled.{AreSettled}
use Rattle.moving_heap.specs.Heaps.{HeapView, loaded}
use Rattle.moving_heap.specs.Places.{owner}
use Rattle.object_meaning.specs.Accesses.{Place}
use Rattle.object_meaning.specs.Accesses.{loaded as datum_at}
use Rattle.object_meaning.specs.Registers.{nothing, number_in, pointer_in}
use Rattle.machine_meaning.specs.Relations.{addr, IsInHeap}

-- a pointer without an offset, and its word
pub record IsBase (stands : List Stand) (to : Pointer) (held : ℕ) : Type 0 where
  pub heap : IsInHeap stands to
  pub first : to.offset ≡ 0
  pub word : held ≡ addr stands to

-- an integer is the same; a pointer has the offset 0, and its word is its address
abbrev pub Holds : List Stand → Cell → Datum → ℕ → Type 0
Holds stands I64 datum held = held ≡ number_in datum
Holds stands Ptr datum held = IsBase stands (pointer_in datum) held

pub record IsHeld (layouts : List ObjectLayout) (stands : List Stand) (object : Object) (content : Content) : Type 0 where
  pub layout : content.layout ≡ object.layout
  pub count : content.count ≡ object.count
  pub kinds : content.kinds ≡ repeated (fields_in layouts object.layout) object.count
  pub cells_count : length object.cells ≡ length content.kinds
  pub words_count : length content.words ≡ length content.kinds
  pub cells : (cell : ℕ) (kind : Cell) → slice_get content.kinds cell ≡ Some kind
      → Holds stands kind (slice_index_or object.cells cell nothing) (slice_index content.words cell)

-- objects by number, from 1, with where they stand and what the machine has of them; no two overlap
pub record AreHeld (layouts : List ObjectLayout) (objects : List Object) (stands : List Stand) (contents : List Content) : Type 0 where
  pub settled : AreSettled stands
  pub stands_count : length stands ≡ length objects
  pub contents_count : length contents ≡ length objects
  pub sizes : (place : ℕ) (object : Object) (stand : Stand) → slice_get objects place ≡ Some object
      → slice_get stands place ≡ Some stand → stand.size ≡ footprint layouts object
  pub each : (place : ℕ) (object : Object) (content : Content) → slice_get objects place ≡ Some object
      → slice_get contents place ≡ Some content → IsHeld layouts stands object content

-- the machine loads the word of the cell, of the object that owns the address
pub record Loads (objects : List Object) (heap : HeapView) (asked : Cell) (word : ℕ) (place : Place) : Type 0 where
  pub held : ℕ
  pub is : loaded heap word ≡ Ok held
  pub holds : Holds heap.stands asked (datum_at objects place) held
  pub own : Stand
  pub owned : owner heap.stands word ≡ Some own
  pub object : own.number ≡ place.object
  pub offset : word - own.address ≡ place.offset
