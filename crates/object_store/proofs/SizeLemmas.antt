-- Which offsets in an object are those of cells, all of which have 8 bytes.
use Rattle.std.proofs.Common.{◌≡◌, ◌≢◌, ℕ, ◌+◌, ◌*◌, ◌/◌, ◌%◌, ◌<◌, ◌≤◌, Bool, true, false, inl, inr, List, length, refl, arith, get_or}
use Rattle.std.specs.Prelude.{◌==◌, ◌||◌, not, nat_lt, if◌then◌else◌, ◌⊎◌, Ok, Err}
use Rattle.std.proofs.lemmas.Bool.{lt-ltb, le-ltb, or_left}
use Rattle.std.proofs.lemmas.Bool.Decides.{eqb_tells}
use Rattle.std.proofs.Math.Nat.{div-add-mod, mul-div-le}
use Rattle.sp_ids.specs.declared.ends.Trap.TheVariants.{Bounds, Kind}
use Rattle.ir_ast.specs.declared.cells.Cell.{Cell}
use Rattle.ir_ast.specs.declared.cells.Cell.TheVariants.{I64}
use Rattle.ir_ast.specs.Cells.{kind_of}
use Rattle.ir_ast.specs.Objects.{Pointer}
use Rattle.object_meaning.specs.Accesses.{within}
use Rattle.object_meaning.proofs.AccessLaws.{within_is}

odd : (b : Bool) (n : ℕ) → n ≢ 0 → (b || not (n == 0)) ≡ true
odd true n h = refl
odd false n h = elim (eqb_tells n 0) [ inl is ↦ absurd (h is.1) | inr is ↦ rw is.0 refl ]

past : (count many offset : ℕ) → count * many ≤ offset / 8 → nat_lt (count * (8 * many)) (offset + 8) ≡ true
past count many offset h =
    let d = mul-div-le offset 8 in let e : count * (8 * many) ≡ 8 * (count * many) = grind arith in
    lt-ltb (count * (8 * many)) (offset + 8) (omega arith)

inside : (count many offset : ℕ) → offset % 8 ≡ 0 → offset / 8 < count * many → nat_lt (count * (8 * many)) (offset + 8) ≡ false
inside count many offset whole h =
    let d = div-add-mod offset 8 in let e : count * (8 * many) ≡ 8 * (count * many) = grind arith in
    le-ltb (count * (8 * many)) (offset + 8) (omega arith)

-- the cell at an offset that is no multiple of 8, or is behind the last
pub no_cell : (at : Pointer) (fields : List Cell) (asked : Cell) (count : ℕ) → (at.offset % 8 ≢ 0) ⊎ (count * length fields ≤ at.offset / 8)
    → within at fields asked count ≡ Err Bounds
no_cell at fields asked count (inl h) = rw (within_is at fields asked count, odd (nat_lt (count * (8 * length fields)) (at.offset + 8)) (at.offset % 8) h) refl
no_cell at fields asked count (inr h) =
    rw (within_is at fields asked count, or_left (nat_lt (count * (8 * length fields)) (at.offset + 8)) (not (at.offset % 8 == 0)) (past count (length fields) at.offset h)) refl

pub some_cell : (at : Pointer) (fields : List Cell) (asked : Cell) (count : ℕ) → at.offset % 8 ≡ 0 → at.offset / 8 < count * length fields
    → within at fields asked count
    ≡ (if kind_of (get_or fields (at.offset / 8 % length fields) I64) == kind_of asked
    then Ok (record { object = at.object; offset = at.offset; cell = at.offset / 8 }) else Err Kind)
some_cell at fields asked count whole h = rw (within_is at fields asked count, inside count (length fields) at.offset whole h, whole) refl
