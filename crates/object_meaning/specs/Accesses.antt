-- Loads and stores: the cell that a pointer names, or the trap.
use Rattle.std.specs.Prelude.{ℕ, ◌+◌, ◌-◌, ◌*◌, ◌/◌, ◌%◌, ◌==◌, ◌||◌, ◌&&◌, not, nat_lt, if◌then◌else◌, List, length, Option, Some, None, slice_get, slice_set, slice_index_or, Result, Ok, Err}
use Rattle.std.specs.List.{position}
use Rattle.std.specs.Option.{option_map_or}
use Rattle.sp_ids.specs.declared.ends.Trap.{Trap}
use Rattle.sp_ids.specs.declared.ends.Trap.TheVariants.{Null, Bounds, Kind}
use Rattle.ir_ast.specs.declared.cells.Cell.{Cell}
use Rattle.ir_ast.specs.declared.cells.Cell.TheVariants.{I64, Ptr}
use Rattle.ir_ast.specs.declared.types.Ty.{Ty}
use Rattle.ir_ast.specs.declared.types.Ty.TheVariants.{Void, Int, Ptr as Managed, Token}
use Rattle.ir_ast.specs.Cells.{kind_of}
use Rattle.ir_ast.specs.Layouts.{ObjectLayout}
use Rattle.ir_ast.specs.Sizes.{bytes, laid, size_of, fields_in}
use Rattle.ir_ast.specs.Objects.{Pointer, Datum, Object}
use Rattle.object_meaning.specs.Registers.{nothing}

-- a cell: its object, where it begins in it, and its place among the object's cells
pub record Place : Type 0 where
  pub object : ℕ
  pub offset : ℕ
  pub cell : ℕ

-- the cell that has a type, and the one that the literal of a check names
abbrev pub cell_of : Ty → Cell
cell_of Managed = Ptr
cell_of Void = I64
cell_of (Int width) = I64
cell_of Token = I64

abbrev pub cell_named : ℕ → Cell
cell_named kind = if kind == kind_of Ptr then Ptr else I64

-- the place of the field of a kind that begins at this byte of an element
unfoldable pub field_at : List Cell → Cell → ℕ → Option ℕ
field_at fields asked byte =
    position (λ field. (field.begins == byte) && (kind_of field.cell == kind_of asked)) (laid fields)

-- the fields of the layout come again in each element
abbrev pub cell_at : Pointer → List Cell → Option ℕ → Result Place Trap
cell_at at fields (Some field) =
    Ok (record { object = at.object; offset = at.offset; cell = at.offset / size_of fields * length fields + field })
cell_at at fields None = Err Kind

abbrev pub within : Pointer → List Cell → Cell → ℕ → Result Place Trap
within at fields asked count =
    if nat_lt (count * size_of fields) (at.offset + bytes asked) || not (at.offset % bytes asked == 0) then Err Bounds
    else cell_at at fields (field_at fields asked (at.offset % size_of fields))

-- the cell of a kind that a pointer names: `null` where it has no object, then `bounds`, then `kind`
abbrev pub accessed : List ObjectLayout → List Object → Cell → Pointer → Result Place Trap
accessed layouts objects asked at =
    if at.object == 0 then Err Null
    else option_map_or (λ object. within at (fields_in layouts object.layout) asked object.count)
    (slice_get objects (at.object - 1)) (Err Null)

abbrev pub loaded : List Object → Place → Datum
loaded objects place =
    option_map_or (λ object. slice_index_or object.cells place.cell nothing) (slice_get objects (place.object - 1)) nothing

abbrev pub stored : List Object → Place → Datum → List Object
stored objects place datum =
    option_map_or (λ object. slice_set objects (place.object - 1) (record object { cells = slice_set object.cells place.cell datum }))
    (slice_get objects (place.object - 1)) objects
