-- A check asks of an object's cells what an access of the target meaning asks of its fields.
use Rattle.std.proofs.Common.{◌≡◌, ℕ, zero, suc, ◌+◌, ◌-◌, ◌*◌, ◌/◌, ◌%◌, ◌<◌, ◌≤◌, Bool, true, false, not, ◌||◌, inl, inr, List, [], ◌∷◌, ◌++◌, length, get_or, refl, sym, ap, ◌∙◌, subst, arith, cond, eqb, ltb, Some, Result, Ok, Err}
use Rattle.std.specs.Prelude.{slice_get}
use Rattle.std.proofs.lemmas.Bool.{cases_lt, eqb-true, lt-ltb, le-ltb}
use Rattle.std.proofs.lemmas.Option.{slice_get-get_or, slice_get_past}
use Rattle.std.proofs.Math.Nat.{add-mod_left, mod-eq_of_lt}
use Rattle.sp_ids.specs.declared.ends.Trap.TheVariants.{Bounds, Kind}
use Rattle.ir_ast.specs.declared.cells.Cell.{Cell}
use Rattle.ir_ast.specs.declared.cells.Cell.TheVariants.{I64}
use Rattle.ir_ast.specs.Cells.{kind_of}
use Rattle.ir_ast.specs.Objects.{Pointer}
use Rattle.moving_heap.specs.declared.heap.Deny.{Deny}
use Rattle.moving_heap.specs.declared.heap.Deny.TheVariants as denies
use Rattle.moving_heap.specs.Contents.{repeated}
use Rattle.moving_heap.specs.Heaps.{kind_asked}
use Rattle.moving_heap.proofs.CellLemmas.{repeated-length}
use Rattle.object_meaning.specs.Accesses.{within}
use Rattle.object_meaning.proofs.AccessLaws.{within_is}
use Rattle.machine_meaning.specs.Relations.{check_of}

get_left : {X : Type 0} (xs ys : List X) (i : ℕ) → i < length xs → slice_get (xs ++ ys) i ≡ slice_get xs i
get_left [] ys i l = absurd (omega arith)
get_left (x ∷ xs) ys zero l = refl
get_left (x ∷ xs) ys (suc i) l = get_left xs ys i (omega arith)

get_right : {X : Type 0} (xs ys : List X) (i j : ℕ) → i ≡ length xs + j → slice_get (xs ++ ys) i ≡ slice_get ys j
get_right [] ys i j e = ap (slice_get ys) (let same : i ≡ j = omega arith in same)
get_right (x ∷ xs) ys zero j e = absurd (omega arith)
get_right (x ∷ xs) ys (suc i) j e = get_right xs ys i j (omega arith)

more_times : (n count : ℕ) → suc count * n ≡ n + count * n
more_times n count = omega arith

-- the cells of so many elements are those of the fields, again and again
pub repeated-get : (fields : List Cell) (count cell : ℕ) → cell < count * length fields → slice_get (repeated fields count) cell ≡ Some (get_or fields (cell % length fields) I64)
repeated-get fields zero cell l = absurd (omega arith)
repeated-get fields (suc count) cell l =
    elim (cases_lt cell (length fields)) [
      | inl a ↦ get_left fields (repeated fields count) cell a ∙ slice_get-get_or fields cell I64 a ∙ ap (λ (n : ℕ). Some (get_or fields n I64)) (sym (mod-eq_of_lt a))
      | inr b ↦ (
          let at : cell ≡ length fields + (cell - length fields) = omega arith in
          let all = more_times (length fields) count in
          let turn : (cell - length fields) % length fields ≡ cell % length fields = sym (ap (λ (n : ℕ). n % length fields) at ∙ add-mod_left (length fields) (cell - length fields)) in
          get_right fields (repeated fields count) cell (cell - length fields) at
          ∙ repeated-get fields count (cell - length fields) (omega arith) ∙ ap (λ (n : ℕ). Some (get_or fields n I64)) turn)
    ]

abbrev asks : ℕ → List Cell → Cell → Result (Unit {0}) Deny
asks offset kinds asked = cond (not (eqb (offset % 8) 0)) (Err denies.Bounds) (kind_asked (slice_get kinds (offset / 8)) asked)

abbrev answers : Pointer → List Cell → ℕ → Cell → Bool → Bool → Result (Unit {0}) Deny
answers at fields count asked past whole =
    check_of (cond (past || not whole) (Err Bounds)
    (cond (eqb (kind_of (get_or fields (at.offset / 8 % length fields) I64)) (kind_of asked)) (Ok (record { object = at.object; offset = at.offset; cell = at.offset / 8 })) (Err Kind)))

odd : (at : Pointer) (fields : List Cell) (count : ℕ) (asked : Cell) (past : Bool) → answers at fields count asked past false ≡ Err denies.Bounds
odd at fields count asked true = refl
odd at fields count asked false = refl

same : (at : Pointer) (b : Bool) → ◌≡◌ {A = Result (Unit {0}) Deny} (cond b (Ok tt) (Err denies.Kind)) (check_of (cond b (Ok (record { object = at.object; offset = at.offset; cell = at.offset / 8 })) (Err Kind)))
same at true = refl
same at false = refl

whole_offset : (at : Pointer) (fields : List Cell) (count : ℕ) (asked : Cell) → at.offset % 8 ≡ 0
    → kind_asked (slice_get (repeated fields count) (at.offset / 8)) asked ≡ answers at fields count asked (ltb (count * (8 * length fields)) (at.offset + 8)) true
whole_offset at fields count asked whole =
    let words : at.offset ≡ 8 * (at.offset / 8) = omega arith in
    let bytes : count * (8 * length fields) ≡ 8 * (count * length fields) = omega arith in
    elim (cases_lt (at.offset / 8) (count * length fields)) [
      | inl a ↦ (
          rw (repeated-get fields count (at.offset / 8) a, le-ltb (count * (8 * length fields)) (at.offset + 8) (let h : at.offset + 8 ≤ count * (8 * length fields) = omega arith in h))
          (same at (eqb (kind_of (get_or fields (at.offset / 8 % length fields) I64)) (kind_of asked))))
      | inr b ↦ (
          let none = slice_get_past (repeated fields count) (at.offset / 8) (subst (λ (n : ℕ). n ≤ at.offset / 8) (sym (repeated-length fields count)) b) in
          rw (none, lt-ltb (count * (8 * length fields)) (at.offset + 8) (let h : count * (8 * length fields) < at.offset + 8 = omega arith in h)) refl)
    ]

by_offset : (at : Pointer) (fields : List Cell) (count : ℕ) (asked : Cell) (b : Bool) → eqb (at.offset % 8) 0 ≡ b
    → cond (not b) (Err denies.Bounds) (kind_asked (slice_get (repeated fields count) (at.offset / 8)) asked) ≡ answers at fields count asked (ltb (count * (8 * length fields)) (at.offset + 8)) b
by_offset at fields count asked false e = sym (odd at fields count asked (ltb (count * (8 * length fields)) (at.offset + 8)))
by_offset at fields count asked true e = whole_offset at fields count asked (eqb-true (at.offset % 8) 0 e)

-- a check of a cell of an object is an access of it
pub asks_as_access : (at : Pointer) (fields : List Cell) (count : ℕ) (asked : Cell) → asks at.offset (repeated fields count) asked ≡ check_of (within at fields asked count)
asks_as_access at fields count asked =
    by_offset at fields count asked (eqb (at.offset % 8) 0) refl ∙ sym (ap check_of (within_is at fields asked count))
