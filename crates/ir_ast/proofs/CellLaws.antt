-- What the tables of cells say of one another: a clause for each cell. Of a cell that is added the front end needs no other proof
-- but that its word spells its type.
use Rattle.std.proofs.Common.{◌≡◌, ℕ, zero, suc, Bool, true, false, if◌then◌else◌, ◌==◌, refl, sym, ap, ◌∙◌, Option, Some, None, arith}
use Rattle.std.proofs.lemmas.Bool.{eqb-true, ltb-true}
use Rattle.ir_ast.specs.declared.types.Ty.{Ty}
use Rattle.ir_ast.specs.declared.types.Ty.TheVariants as tys
use Rattle.ir_ast.specs.declared.cells.Cell.{Cell}
use Rattle.ir_ast.specs.declared.cells.Cell.TheVariants.{I64, Ptr}
use Rattle.ir_ast.specs.Cells.{type_of, cell_in, kind_of, is_kind}

pub type_found : (cell : Cell) → cell_in (type_of cell) ≡ Some cell
type_found I64 = refl
type_found Ptr = refl

-- the type of the cell that is found by a width, where another is found else
found_at : (n width : ℕ) (one cell : Cell) (other : Option Cell) (b : Bool) → (width == n) ≡ b → (if b then Some one else other) ≡ Some cell
    → type_of one ≡ tys.Int n → (other ≡ Some cell → type_of cell ≡ tys.Int width) → type_of cell ≡ tys.Int width
found_at n width one cell other true e is named more =
    ap type_of (the_same cell one is) ∙ named ∙ ap tys.Int (sym (eqb-true width n e))
  where
    the_same : (x y : Cell) → Some y ≡ Some x → x ≡ y
    the_same x y e = cc
found_at n width one cell other false e is named more = more is

pub has_type : (ty : Ty) (cell : Cell) → cell_in ty ≡ Some cell → type_of cell ≡ ty
has_type (tys.Int width) cell is =
    found_at 64 width I64 cell None (width == 64) refl is refl (λ is. absurd (let bad : None ≡ Some cell = is in cc))
has_type tys.Ptr cell is = ap type_of (let same : cell ≡ Ptr = cc in same)
has_type tys.Void cell is = absurd (let bad : None ≡ Some cell = is in cc)
has_type tys.Token cell is = absurd (let bad : None ≡ Some cell = is in cc)

pub kind_cell : (n : ℕ) → is_kind n ≡ true → (cell : Cell) × (n ≡ kind_of cell)
kind_cell zero is = (I64, refl)
kind_cell (suc zero) is = (Ptr, refl)
kind_cell (suc (suc n)) is = absurd (let few = ltb-true (suc (suc n)) 2 is in omega arith)
