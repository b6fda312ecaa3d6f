-- Objects whose cells stand one after another in one list.
use Rattle.std.specs.Prelude.{◌≡◌, ℕ, zero, suc, ◌+◌, ◌-◌, ◌*◌, ◌<◌, ◌≤◌, ◌^◌, ◌==◌, Bool, true, false, List, [], ◌∷◌, ◌++◌, nat_lt, if◌then◌else◌, length, map, take, drop, Option, Some, None, slice_get, slice_set, slice_index_or, Result, Ok, Err}
use Rattle.std.specs.List.{sum_by}
use Rattle.std.specs.Option.{option_map, option_map_or}
use Rattle.sp_ids.specs.declared.ends.Trap.{Trap}
use Rattle.sp_ids.specs.declared.ends.Trap.TheVariants.{Null}
use Rattle.ir_ast.specs.declared.cells.Cell.{Cell}
use Rattle.ir_ast.specs.declared.cells.Cell.TheVariants.{I64, Ptr}
use Rattle.ir_ast.specs.Layouts.{ObjectLayout}
use Rattle.ir_ast.specs.Sizes.{fields_in}
use Rattle.ir_ast.specs.Objects.{Pointer, Datum, Object, footprint}
use Rattle.object_meaning.specs.Accesses.{Place, accessed, within, loaded, stored}
use Rattle.object_meaning.specs.Calls.{made}
use Rattle.object_meaning.specs.Registers.{nothing}
use Rattle.cell_rows.specs.declared.shapes.Shape.{Shape}
use Rattle.cell_rows.specs.Rows.{AreLaid, sizes}
use Rattle.object_store.specs.declared.cells.Spot.{Spot}
use Rattle.object_store.specs.declared.words.Word.{Word}
use Rattle.object_store.specs.Words.{datum}

-- the objects of a run, and the layouts that they are of
pub record Store : Type 0 where
  pub layouts : List ObjectLayout
  pub objects : List Object

-- what a load gives, and the objects behind a store
abbrev pub load_from : List Object → Result Place Trap → Result Datum Trap
load_from objects (Ok place) = Ok (loaded objects place)
load_from objects (Err trap) = Err trap

abbrev pub load_of : Store → Cell → Pointer → Result Datum Trap
load_of store asked at = load_from store.objects (accessed store.layouts store.objects asked at)

abbrev pub store_to : List Object → Datum → Result Place Trap → Result (List Object) Trap
store_to objects word (Ok place) = Ok (stored objects place word)
store_to objects word (Err trap) = Err trap

abbrev pub store_of : Store → Cell → Pointer → Datum → Result (List Object) Trap
store_of store asked at word = store_to store.objects word (accessed store.layouts store.objects asked at)

abbrev pub stored_result : Result (Unit {0}) Trap → List Object → Result (List Object) Trap
stored_result (Ok _) objects = Ok objects
stored_result (Err trap) objects = Err trap

-- the bytes that all objects take
abbrev pub bytes_taken : List ObjectLayout → List Object → ℕ
bytes_taken layouts objects = sum_by (footprint layouts) objects

-- whether objects take more than the heap has
abbrev pub is_full : List ObjectLayout → List Object → Bool
is_full layouts objects = nat_lt 67108864 (bytes_taken layouts objects)

-- a new object has the next number; where the heap has no room for it, there is none
abbrev pub Makes : Store → Store → ℕ → ℕ → Option ℕ → Type 0
Makes old new layout count None = (is_full old.layouts (old.objects ++ made old.layouts layout count ∷ []) ≡ true) × (new ≡ old)
Makes old new layout count (Some number) =
    (is_full old.layouts (old.objects ++ made old.layouts layout count ∷ []) ≡ false)
    × (number ≡ length old.objects + 1)
    × (new ≡ record old { objects = old.objects ++ made old.layouts layout count ∷ [] })

-- ---- how they stand in one list

abbrev pub object_at : Shape → List Word → Object
object_at shape words = record { layout = shape.layout; count = shape.count; cells = map datum (take shape.cells words) }

abbrev pub objects_of : List Shape → List Word → List Object
objects_of [] words = []
objects_of (shape ∷ shapes) words = object_at shape words ∷ objects_of shapes (drop shape.cells words)

-- what a cell of a new object holds
abbrev pub blank_word : Cell → Word
blank_word I64 = record { is_pointer = false; object = 0; bits = 0 }
blank_word Ptr = record { is_pointer = true; object = 0; bits = 0 }

-- the cells of so many elements with these fields
abbrev pub blank_words : List Cell → ℕ → List Word
blank_words fields zero = []
blank_words fields (suc count) = map blank_word fields ++ blank_words fields count

-- what the cell at this place holds
abbrev pub held : List Datum → Option ℕ → Datum
held cells None = nothing
held cells (Some place) = slice_index_or cells place nothing

-- the cells with this one written
abbrev pub written : List Word → Option ℕ → Word → List Word
written words None word = words
written words (Some place) word = slice_set words place word

-- the place that a pointer reaches, as `accessed`, over shapes alone
abbrev pub reached : List ObjectLayout → List Shape → Cell → Pointer → Result Place Trap
reached layouts shapes asked at =
    if at.object == 0 then Err Null
    else option_map_or (λ shape. within at (fields_in layouts shape.layout) asked shape.count)
    (slice_get shapes (at.object - 1)) (Err Null)

abbrev pub place_result : Result Spot Trap → Result Place Trap
place_result (Ok spot) = Ok (record { object = spot.object; offset = spot.offset; cell = spot.cell })
place_result (Err trap) = Err trap

-- a shape has the cells of its elements
pub record HasCells (layouts : List ObjectLayout) (shape : Shape) : Type 0 where
  pub are : shape.cells ≡ shape.count * length (fields_in layouts shape.layout)
  pub few : shape.cells < 2 ^ 32

-- what is kept of a store
pub record AreStored (layouts : List ObjectLayout) (shapes : List Shape) (words : List Word) (used : ℕ) : Type 0 where
  pub laid : AreLaid shapes (length words)
  pub each : (k : ℕ) (d : Shape) → k < length shapes → HasCells layouts (slice_index_or shapes k d)
  pub cells_fit : 8 * sizes shapes ≤ used
  pub count_fits : 8 * length shapes ≤ used
  pub used_is : used ≡ bytes_taken layouts (objects_of shapes words)
  pub fits : used ≤ 67108864
