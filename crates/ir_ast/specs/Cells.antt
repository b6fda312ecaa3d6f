-- The cells of objects: their types, kinds and words.
use Rattle.std.specs.Prelude.{ℕ, Bool, List, [], ◌∷◌, length, Option, Some, None, ◌==◌, nat_lt, codes, if◌then◌else◌}
use Rattle.ir_ast.specs.declared.types.Ty.{Ty}
use Rattle.ir_ast.specs.declared.types.Ty.TheVariants.{Void, Int, Ptr as Pointer, Token}
use Rattle.ir_ast.specs.declared.cells.Cell.{Cell}
use Rattle.ir_ast.specs.declared.cells.Cell.TheVariants.{I64, Ptr}

-- each cell, by its kind
abbrev pub all_cells : List Cell
all_cells = I64 ∷ Ptr ∷ []

abbrev pub type_of : Cell → Ty
type_of I64 = Int 64
type_of Ptr = Pointer

-- the cell that has a type
abbrev pub cell_in : Ty → Option Cell
cell_in (Int width) = if width == 64 then Some I64 else None
cell_in Pointer = Some Ptr
cell_in Void = None
cell_in Token = None

-- the literal that a check has for the cell
abbrev pub kind_of : Cell → ℕ
kind_of I64 = 0
kind_of Ptr = 1

-- a literal that a check may have
abbrev pub is_kind : ℕ → Bool
is_kind number = nat_lt number (length all_cells)

-- the spelling of the cell's type
abbrev pub word_of : Cell → List ℕ
word_of I64 = codes "i64"
word_of Ptr = codes "ptr addrspace(1)"
