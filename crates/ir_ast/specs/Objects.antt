-- What registers and cells hold, and the objects of the managed heap. Nothing here has an address.
use Rattle.std.specs.Prelude.{ℕ, ◌+◌, ◌*◌, ◌%◌, ◌^◌, List, map, max, replicate}
use Rattle.std.specs.List.{flat_map}
use Rattle.ir_ast.specs.declared.cells.Cell.{Cell}
use Rattle.ir_ast.specs.declared.cells.Cell.TheVariants.{I64, Ptr}
use Rattle.ir_ast.specs.Layouts.{ObjectLayout}
use Rattle.ir_ast.specs.Sizes.{aligned, size_of, fields_in}

-- an object by its number, from 1, or 0 for none; and an offset modulo 2^64
pub record Pointer : Type 0 where
  pub object : ℕ
  pub offset : ℕ

pub data Datum : Type 0 where
  number : ℕ → Datum
  pointer : Pointer → Datum

-- a layout by its place, how many elements of it, and the cells of all elements
pub record Object : Type 0 where
  pub layout : ℕ
  pub count : ℕ
  pub cells : List Datum

abbrev pub null : Pointer
null = record { object = 0; offset = 0 }

-- the pointer so many bytes further
abbrev pub advanced : Pointer → ℕ → Pointer
advanced from by = record from { offset = (from.offset + by) % 2 ^ 64 }

-- what a cell of a new object holds
abbrev pub blank : Cell → Datum
blank I64 = number 0
blank Ptr = pointer null

-- a new object: so many elements of a layout with these fields
abbrev pub new_object : ℕ → List Cell → ℕ → Object
new_object layout fields count = record {
  layout = layout;
  count = count;
  cells = flat_map (map blank) (replicate count fields);
}

abbrev pub byte_count : List ObjectLayout → Object → ℕ
byte_count layouts object = object.count * size_of (fields_in layouts object.layout)

-- objects begin at multiples of this many bytes
abbrev pub granule : ℕ
granule = 8

-- the bytes that the object takes in the heap, which differ from none
abbrev pub footprint : List ObjectLayout → Object → ℕ
footprint layouts object = max granule (aligned granule (byte_count layouts object))
