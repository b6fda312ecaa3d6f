-- The cell that an offset names: where every cell has 8 bytes, an eighth of it.
use Rattle.std.proofs.Common.{◌≡◌, ℕ, zero, suc, ◌+◌, ◌*◌, ◌/◌, ◌%◌, ◌<◌, ◌≤◌, Bool, true, false, not, ◌==◌, ◌&&◌, ◌||◌, List, [], ◌∷◌, length, Some, None, Ok, Err, refl, ap, ◌∙◌, arith}
use Rattle.std.specs.Prelude.{nat_lt, if◌then◌else◌, slice_index_or}
use Rattle.std.specs.List.{position, position_from}
use Rattle.std.proofs.lemmas.Bool.Decides.{nat_tests}
use Rattle.std.proofs.lemmas.Bool.{eqb-true}
use Rattle.std.proofs.Math.Nat.{div-add-mod, mod-lt, mul-div-mul_left, mul-zero, mul_assoc}
use Rattle.std.proofs.lemmas.Nat.{div-add-mod'}
use Rattle.std.proofs.lemmas.Iterator.Adapters.{position_from-zero}
use Rattle.sp_ids.specs.declared.ends.Trap.TheVariants.{Bounds, Kind}
use Rattle.ir_ast.specs.declared.cells.Cell.{Cell}
use Rattle.ir_ast.specs.declared.cells.Cell.TheVariants as cells
use Rattle.ir_ast.specs.declared.cells.Cell.TheVariants.{I64}
use Rattle.ir_ast.specs.Cells.{kind_of, type_of}
use Rattle.ir_ast.specs.Objects.{Pointer}
use Rattle.ir_ast.specs.Sizes.{Field, bytes, size_of}
use Rattle.ir_ast.proofs.SizeLaws.{bytes_are, laid_is, size_is, words_from}
use Rattle.object_meaning.specs.Accesses.{cell_at, cell_named, cell_of, field_at, within}

-- ---- the cell of a type, and the one that a literal names

pub cell_again : (cell : Cell) → cell_named (kind_of cell) ≡ cell
cell_again I64 = refl
cell_again cells.Ptr = refl

pub cell_back : (cell : Cell) → cell_of (type_of cell) ≡ cell
cell_back I64 = refl
cell_back cells.Ptr = refl

-- ---- the cell at an offset

abbrev begins_so : Cell → ℕ → Field → Bool
begins_so asked byte field = (field.begins == byte) && (kind_of field.cell == kind_of asked)

at_once : (a b : ℕ) → a ≡ b → a == b ≡ true
at_once a b is = grind (arith, nat_tests)

apart : (a b : ℕ) → (a ≡ b → ⊥) → a == b ≡ false
apart a b differ = grind (arith, nat_tests)

not_less : (a b : ℕ) → nat_lt a b ≡ false → b ≤ a
not_less a b is = grind (arith, nat_tests)

-- no field from here on begins before it
none_before : (asked : Cell) (byte word index : ℕ) (cells : List Cell) → byte < 8 * word
    → position_from (begins_so asked byte) index (words_from word cells) ≡ None
none_before asked byte word index [] less = refl
none_before asked byte word index (cell ∷ cells) less =
    rw (apart (8 * word) byte (λ is. omega arith)) (none_before asked byte (word + 1) (index + 1) cells (omega arith))

found_at : (asked : Cell) (byte word place index : ℕ) (cells : List Cell) → byte ≡ 8 * (word + place) → place < length cells
    → position_from (begins_so asked byte) index (words_from word cells)
    ≡ (if kind_of (slice_index_or cells place I64) == kind_of asked then Some (index + place) else None)
found_at asked byte word place index [] is within = absurd (omega arith)
found_at asked byte word zero index (cell ∷ cells) is within =
    rw (at_once (8 * word) byte (omega arith)) (by (kind_of cell == kind_of asked))
  where
    by : (b : Bool) → (if b then Some index else position_from (begins_so asked byte) (index + 1) (words_from (word + 1) cells)) ≡ (if b then Some (index + 0) else None)
    by true = ap (λ (n : ℕ). Some n) (omega arith)
    by false = none_before asked byte (word + 1) (index + 1) cells (omega arith)
found_at asked byte word (suc place) index (cell ∷ cells) is within =
    let next : index + 1 + place ≡ index + suc place = omega arith in
    rw (apart (8 * word) byte (λ same. omega arith))
    (found_at asked byte (word + 1) place (index + 1) cells (omega arith) (omega arith)
    ∙ ap (λ (n : ℕ). if kind_of (slice_index_or cells place I64) == kind_of asked then Some n else None) next)

pub field_is : (fields : List Cell) (asked : Cell) (byte place : ℕ) → byte ≡ 8 * place → place < length fields
    → field_at fields asked byte ≡ (if kind_of (slice_index_or fields place I64) == kind_of asked then Some place else None)
unfolding field_at
field_is fields asked byte place is within =
    ap (position (begins_so asked byte)) (laid_is fields)
    ∙ (position_from-zero (begins_so asked byte) (words_from 0 fields)
    ∙ (found_at asked byte 0 place 0 fields (is ∙ omega arith) within
    ∙ ap (λ (n : ℕ). if kind_of (slice_index_or fields place I64) == kind_of asked then Some n else None) (omega arith)))

-- eight times as much on both sides
words_less : (word count : ℕ) → 0 < count → 8 * word % (8 * count) ≡ 8 * (word % count)
words_less word count some =
    let by_eight = mul-div-mul_left {m = 8} word count (omega arith) in
    let whole = div-add-mod (8 * word) (8 * count) in
    let part = div-add-mod word count in
    let turned : 8 * count * (8 * word / (8 * count)) ≡ 8 * (count * (word / count)) = ap (λ (n : ℕ). 8 * count * n) by_eight ∙ mul_assoc 8 count (word / count) in
    omega arith

-- the cell at an offset that is a multiple of 8 within so many elements
cell_is : (at : Pointer) (fields : List Cell) (asked : Cell) (count : ℕ) → at.offset % 8 ≡ 0 → at.offset + 8 ≤ count * (8 * length fields)
    → cell_at at fields (field_at fields asked (at.offset % size_of fields))
    ≡ (if kind_of (slice_index_or fields (at.offset / 8 % length fields) I64) == kind_of asked
    then Ok (record { object = at.object; offset = at.offset; cell = at.offset / 8 }) else Err Kind)
cell_is at fields asked count whole within =
    let some = some_fields (length fields) count at.offset within in
    let size = size_is fields in
    let words : at.offset ≡ 8 * (at.offset / 8) = omega arith in
    let less = mod-lt (at.offset / 8) some in
    let byte : at.offset % size_of fields ≡ 8 * (at.offset / 8 % length fields) =
    ap (λ (n : ℕ). at.offset % n) size ∙ (ap (λ (n : ℕ). n % (8 * length fields)) words ∙ words_less (at.offset / 8) (length fields) some) in
    ap (cell_at at fields) (field_is fields asked (at.offset % size_of fields) (at.offset / 8 % length fields) byte less)
    ∙ by (kind_of (slice_index_or fields (at.offset / 8 % length fields) I64) == kind_of asked)
  where
    some_fields : (length count offset : ℕ) → offset + 8 ≤ count * (8 * length) → 0 < length
    some_fields zero count offset within = let none = mul-zero count in absurd (omega arith)
    some_fields (suc length) count offset within = omega arith

    by : (b : Bool) → cell_at at fields (if b then Some (at.offset / 8 % length fields) else None)
        ≡ (if b then Ok (record { object = at.object; offset = at.offset; cell = at.offset / 8 }) else Err Kind)
    by true =
        ap (λ (cell : ℕ). Ok (record { object = at.object; offset = at.offset; cell = cell }))
        (let some = some_fields (length fields) count at.offset within in
        let size = size_is fields in
        let words : at.offset ≡ 8 * (at.offset / 8) = omega arith in
        let turn : at.offset / size_of fields ≡ at.offset / 8 / length fields =
        ap (λ (n : ℕ). at.offset / n) size
        ∙ (ap (λ (n : ℕ). n / (8 * length fields)) words ∙ mul-div-mul_left {m = 8} (at.offset / 8) (length fields) (omega arith)) in
        ap (λ (n : ℕ). n * length fields + at.offset / 8 % length fields) turn ∙ div-add-mod' (at.offset / 8) (length fields))
    by false = refl

-- `bounds` where 8 bytes from the offset on pass the elements or the offset is no multiple of 8, then `kind`
pub within_is : (at : Pointer) (fields : List Cell) (asked : Cell) (count : ℕ)
    → within at fields asked count
    ≡ (if nat_lt (count * (8 * length fields)) (at.offset + 8) || not (at.offset % 8 == 0) then Err Bounds
    else (if kind_of (slice_index_or fields (at.offset / 8 % length fields) I64) == kind_of asked
    then Ok (record { object = at.object; offset = at.offset; cell = at.offset / 8 }) else Err Kind))
within_is at fields asked count =
    ap (λ (size : ℕ). if nat_lt (count * size) (at.offset + bytes asked) || not (at.offset % bytes asked == 0) then Err Bounds
    else cell_at at fields (field_at fields asked (at.offset % size_of fields))) (size_is fields)
    ∙ (ap (λ (size : ℕ). if nat_lt (count * (8 * length fields)) (at.offset + size) || not (at.offset % size == 0) then Err Bounds
    else cell_at at fields (field_at fields asked (at.offset % size_of fields))) (bytes_are asked)
    ∙ by (nat_lt (count * (8 * length fields)) (at.offset + 8)) (at.offset % 8 == 0) refl refl)
  where
    by : (a b : Bool) → nat_lt (count * (8 * length fields)) (at.offset + 8) ≡ a → at.offset % 8 == 0 ≡ b
        → (if a || not b then Err Bounds else cell_at at fields (field_at fields asked (at.offset % size_of fields)))
        ≡ (if a || not b then Err Bounds
        else (if kind_of (slice_index_or fields (at.offset / 8 % length fields) I64) == kind_of asked
        then Ok (record { object = at.object; offset = at.offset; cell = at.offset / 8 }) else Err Kind))
    by true b one two = refl
    by false false one two = refl
    by false true one two = cell_is at fields asked count (eqb-true (at.offset % 8) 0 two) (not_less (count * (8 * length fields)) (at.offset + 8) one)
