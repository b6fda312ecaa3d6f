-- What lines spell of cells: a clause for each cell. All else that is said of printed cells follows from it.
use Rattle.std.proofs.Common.{◌≡◌, refl, ap, ◌∙◌, subst, ℕ, true, List, [], ◌∷◌, ◌++◌, map, arith, codes, decimal}
use Rattle.std.specs.List.{list_all}
use Rattle.std.proofs.lemmas.Fmt.{decimal_digit, decimal_step}
use Rattle.ir_ast.specs.declared.cells.Cell.{Cell}
use Rattle.ir_ast.specs.declared.cells.Cell.TheVariants as cells
use Rattle.ir_ast.specs.declared.types.Ty.TheVariants as tys
use Rattle.ir_ast.specs.declared.ops.Operand.TheVariants as operands
use Rattle.ir_ast.specs.Cells.{kind_of, word_of}
use Rattle.line_parts.specs.Types as types
use Rattle.line_parts.specs.Parts.{is_value_type}
use Rattle.ir_lines.specs.Types.{is_cell}
use Rattle.ir_lines.specs.Modules.{cell_of}
use Rattle.ir_lines.specs.Faults.TypeClash.{gives_kind}
use Rattle.ir_printer.specs.Names.{Names}
use Rattle.read_back.specs.Said.{cell_word, passed_says}
use Rattle.read_back.proofs.Spellings.{SpellsType, integer_type, pointer_type}
use Rattle.ir_printer.proofs.IntegerLemmas.{decimal-64}

pub wide_type : SpellsType (codes "i64") (types.Int 64)
wide_type = subst (λ (ds : List ℕ). SpellsType (105 ∷ ds) (types.Int 64)) decimal-64 (integer_type 64 (omega arith, omega arith))

-- the word of a cell spells its type, which reading, resolving and the rules take for the cell's; and its kind is one
pub record CellReads (cell : Cell) : Type 0 where
  pub spelled : SpellsType (word_of cell) (cell_word cell)
  pub is_value : is_value_type (cell_word cell) ≡ true
  pub is_cell : is_cell (cell_word cell) ≡ true
  pub back : cell_of (cell_word cell) ≡ cell
  pub kind : (names : Names) → gives_kind (passed_says names (tys.Int 64) (operands.Int (kind_of cell))) ≡ true

pub cell_reads : (cell : Cell) → CellReads cell
cell_reads cells.I64 =
    record { spelled = wide_type; is_value = refl; is_cell = refl; back = refl; kind = λ names. refl }
cell_reads cells.Ptr =
    record { spelled = pointer_type; is_value = refl; is_cell = refl; back = refl; kind = λ names. refl }

pub cells_are : (cs : List Cell) → list_all is_cell (map cell_word cs) ≡ true
cells_are [] = refl
cells_are (c ∷ cs) = rw ((cell_reads c).is_cell) (cells_are cs)

pub cells-back : (cs : List Cell) → map cell_of (map cell_word cs) ≡ cs
cells-back [] = refl
cells-back (c ∷ cs) =
    ap (λ (one : Cell). one ∷ map cell_of (map cell_word cs)) (cell_reads c).back ∙ ap (λ (xs : List Cell). c ∷ xs) (cells-back cs)
