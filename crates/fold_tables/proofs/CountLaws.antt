-- How many values of a table stay.
use Rattle.std.proofs.Common.{◌≡◌, ◌∙◌, ℕ, zero, suc, ◌+◌, ◌<◌, ◌≤◌, Bool, true, false, if◌then◌else◌, List, [], ◌∷◌, ◌++◌, length, refl, sym, ap, eq-eqb, inl, inr, arith}
use Rattle.std.specs.Prelude.{Some, filter, slice_get}
use Rattle.std.specs.List.{range_with_len}
use Rattle.std.proofs.lemmas.List.{length-append, get_or_past}
use Rattle.std.proofs.lemmas.List.Elements.{filter-append}
use Rattle.list_laws.proofs.Places.{cases_below, get_front, get_last}
use Rattle.list_laws.proofs.Ranges.{range_more}
use Rattle.ir_ast.specs.declared.ops.Operand.{Operand}
use Rattle.ir_ast.specs.Operands.{named, same_operand}
use Rattle.folded_forms.specs.Folded.{Table, stays}
use Rattle.fold_tables.specs.Counts.{stay_count}

one_counted : (table : Table) (value : ℕ) → length (filter (stays table) (value ∷ [])) ≡ (if stays table value then 1 else 0)
one_counted table value = by (stays table value)
  where
    by : (b : Bool) → length (if b then value ∷ [] else []) ≡ (if b then 1 else 0)
    by true = refl
    by false = refl

pub count_next : (table : Table) (value : ℕ) → stay_count table (value + 1) ≡ stay_count table value + (if stays table value then 1 else 0)
count_next table value =
    let e : 0 + value ≡ value = omega arith in
    ap (λ (xs : List ℕ). length (filter (stays table) xs)) (range_more 0 value)
    ∙ ap length (filter-append (stays table) (range_with_len 0 value) ((0 + value) ∷ []))
    ∙ length-append (filter (stays table) (range_with_len 0 value)) (filter (stays table) ((0 + value) ∷ []))
    ∙ ap (λ (n : ℕ). stay_count table value + n) (one_counted table (0 + value) ∙ ap (λ (n : ℕ). if stays table n then 1 else 0) e)

pub count_few : (table : Table) (value : ℕ) → stay_count table value ≤ value
count_few table zero = omega arith
count_few table (suc value) =
    let e : suc value ≡ value + 1 = omega arith in
    omega (arith, ap (stay_count table) e, count_next table value, count_few table value, at_most (stays table value))
  where
    at_most : (b : Bool) → (if b then 1 else 0) ≤ 1
    at_most true = omega arith
    at_most false = omega arith

-- a value past the table stays
pub past_stays : (table : Table) (value : ℕ) → length table ≤ value → stays table value ≡ true
past_stays table value past =
    ap (λ (o : Operand). same_operand (named value) o) (get_or_past table value (named value) past) ∙ eq-eqb value value refl

pub count_past : (table : Table) (more : ℕ) → stay_count table (length table + more) ≡ stay_count table (length table) + more
count_past table zero = let e : length table + 0 ≡ length table = omega arith in omega (arith, ap (stay_count table) e)
count_past table (suc more) =
    let e : length table + suc more ≡ (length table + more) + 1 = omega arith in
    let stay = past_stays table (length table + more) (omega arith) in
    omega (
      arith,
      ap (stay_count table) e,
      count_next table (length table + more),
      ap (λ (b : Bool). let n : ℕ = if b then 1 else 0 in n) stay,
      count_past table more,
    )

-- counts with one more
pub more_counted : (table : Table) (counts : List ℕ) (count : ℕ) → length counts ≡ count
    → ((value : ℕ) → value < count → slice_get counts value ≡ Some (stay_count table value))
    → (value : ℕ) → value < count + 1 → slice_get (counts ++ stay_count table count ∷ []) value ≡ Some (stay_count table value)
more_counted table counts count long each value below = elim (cases_below value count below) [
  | inl less ↦ get_front counts (stay_count table count ∷ []) value (stay_count table value) (each value less)
  | inr last ↦ ap (slice_get (counts ++ stay_count table count ∷ [])) (last ∙ sym long) ∙ (get_last counts (stay_count table count) ∙ ap (λ (n : ℕ). Some (stay_count table n)) (sym last))
]
