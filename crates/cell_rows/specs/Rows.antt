-- Objects whose cells stand one after another in one list.
use Rattle.std.specs.Prelude.{◌≡◌, ◌^◌, ℕ, zero, suc, ◌+◌, ◌*◌, ◌<◌, List, [], ◌∷◌, nat_lt, if◌then◌else◌, length, max, Option, Some, None, slice_index_or}
use Rattle.std.specs.List.{sum_by}
use Rattle.std.specs.Option.{option_map}
use Rattle.ir_ast.specs.Objects.{granule}
use Rattle.cell_rows.specs.declared.shapes.Shape.{Shape}

-- the bytes of a cell
abbrev pub cell_bytes : ℕ
cell_bytes = 8

-- the bytes that an object with so many cells takes
abbrev pub bytes_of : ℕ → ℕ
bytes_of cells = max granule (cell_bytes * cells)

-- how many cells all of them have
abbrev pub sizes : List Shape → ℕ
sizes shapes = sum_by (λ shape. shape.cells) shapes

-- the cells that stand before those of an object
abbrev pub before : List Shape → ℕ → ℕ
before [] object = 0
before (shape ∷ shapes) zero = 0
before (shape ∷ shapes) (suc object) = shape.cells + before shapes object

-- where a cell stands among all cells
abbrev pub place_in : List Shape → ℕ → ℕ → Option ℕ
place_in [] object cell = None
place_in (shape ∷ shapes) zero cell = if nat_lt cell shape.cells then Some cell else None
place_in (shape ∷ shapes) (suc object) cell = option_map (λ place. shape.cells + place) (place_in shapes object cell)

-- each object begins where the one before ends
pub record AreOrdered (shapes : List Shape) : Type 0 where
  pub firsts : (k : ℕ) (d : Shape) → k < length shapes → (slice_index_or shapes k d).first ≡ before shapes k
  pub small : sizes shapes < 2 ^ 32

-- and the last one ends behind so many cells
pub record AreLaid (shapes : List Shape) (cells : ℕ) : Type 0 where
  pub ordered : AreOrdered shapes
  pub whole : sizes shapes ≡ cells
