-- The bytes of cells, and where the fields of an element lie: each at the least multiple of its size that isn't below
-- the end of the one before.
use Rattle.std.specs.Prelude.{ℕ, ◌+◌, ◌-◌, ◌*◌, ◌/◌, max, List, [], ◌∷◌, map, fold, slice_get}
use Rattle.std.specs.Option.{option_map_or}
use Rattle.ir_ast.specs.declared.cells.Cell.{Cell}
use Rattle.ir_ast.specs.declared.cells.Cell.TheVariants.{I64, Ptr}
use Rattle.ir_ast.specs.Layouts.{ObjectLayout}

abbrev pub bytes : Cell → ℕ
bytes I64 = 8
bytes Ptr = 8

-- the least multiple of a size that isn't below a number
abbrev pub aligned : ℕ → ℕ → ℕ
aligned size number = (number + size - 1) / size * size

-- a field, and the byte of its element at which it begins
pub record Field : Type 0 where
  pub cell : Cell
  pub begins : ℕ

-- the fields that lie behind this byte, and the byte at which they end
abbrev pub laid_from : ℕ → List Cell → List Field
laid_from end [] = []
laid_from end (cell ∷ cells) =
    record { cell = cell; begins = aligned (bytes cell) end } ∷ laid_from (aligned (bytes cell) end + bytes cell) cells

abbrev pub end_from : ℕ → List Cell → ℕ
end_from end [] = end
end_from end (cell ∷ cells) = end_from (aligned (bytes cell) end + bytes cell) cells

unfoldable pub laid : List Cell → List Field
laid cells = laid_from 0 cells

abbrev pub begins_at : List Cell → ℕ → ℕ
begins_at cells place = option_map_or (λ field. field.begins) (slice_get (laid cells) place) 0

-- the bytes of an element: the least multiple of its greatest field's size that isn't below the end of its last field
unfoldable pub size_of : List Cell → ℕ
size_of cells = aligned (fold max 1 (map bytes cells)) (end_from 0 cells)

-- the fields of a layout, by its place
abbrev pub fields_in : List ObjectLayout → ℕ → List Cell
fields_in layouts layout = option_map_or (λ found. found.fields) (slice_get layouts layout) []
