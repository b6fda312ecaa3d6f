-- What a contract sees of a `Layout`.
use Rattle.std.specs.Prelude.{ℕ, List}
use Rattle.ir_ast.specs.declared.cells.Cell.{Cell}

-- a layout's name and its cells, one per field
pub record ObjectLayout : Type 0 where
  pub name : List ℕ
  pub fields : List Cell
