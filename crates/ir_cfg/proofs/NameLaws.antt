-- Names that are reserved or not, and lists of names that differ, by tests.
use Rattle.std.proofs.Common.{◌≡◌, ◌≢◌, ℕ, zero, suc, Bool, true, false, ◌==◌, ◌&&◌, List, [], ◌∷◌, Option, Some, None, refl, sym, ap, ◌∙◌, inl, inr, codes, arith}
use Rattle.std.specs.Prelude.{slice_get, not}
use Rattle.std.specs.Str.{bytes_eq}
use Rattle.std.proofs.lemmas.Bool.{false≢true, eq-eqb, and_parts}
use Rattle.std.proofs.lemmas.Slice.Eq.{bytes_eq-Decides}
use Rattle.list_laws.proofs.Contents.{get_contained}
use Rattle.ir_ast.specs.Lists.{Distinct}
use Rattle.ir_ast.specs.Faults.Reserved.{IsExternalName, IsInsertedName, externals}

pub differ : (m n : ℕ) → (m == n) ≡ false → m ≡ n → ⊥
differ m n other same = false≢true (sym other ∙ eq-eqb m n same)

-- ---- names that aren't reserved

unfoldable pub first_byte : List ℕ → ℕ
first_byte [] = 0
first_byte (b ∷ bs) = b

-- the first byte of a name that may be missing
unfoldable pub first_of : Option (List ℕ) → ℕ
first_of None = 0
first_of (Some bs) = first_byte bs

pub not_inserted : (b : ℕ) (bs : List ℕ) → b ≢ 115 → ¬ IsInsertedName (b ∷ bs)
unfolding first_byte
not_inserted b bs other front = other (ap first_byte front.1)

main_external : (k : ℕ) → slice_get externals k ≡ Some (codes "main") → ⊥
unfolding first_of first_byte
main_external zero at = differ 112 109 refl (ap first_of at)
main_external (suc zero) at = differ 114 109 refl (ap first_of at)
main_external (suc (suc zero)) at = differ 116 109 refl (ap first_of at)
main_external (suc (suc (suc zero))) at = differ 103 109 refl (ap first_of at)
main_external (suc (suc (suc (suc zero)))) at = differ 103 109 refl (ap first_of at)
main_external (suc (suc (suc (suc (suc zero))))) at = differ 103 109 refl (ap first_of at)
main_external (suc (suc (suc (suc (suc (suc k)))))) at = let e : None ≡ Some (codes "main") = at in cc

pub free_main : ¬ IsExternalName (codes "main")
unfolding first_byte
free_main (inl among) = let at = get_contained externals (codes "main") among in main_external at.0 at.1
free_main (inr (inl front)) = differ 109 103 refl (ap first_byte front.1)
free_main (inr (inr front)) = differ 109 108 refl (ap first_byte front.1)

-- ---- names of a list that differ

pub distinct_nil : {A : Type 0} → Distinct {A = A} []
distinct_nil j k less inside = absurd (omega arith)

pub distinct_cons : {A : Type 0} (x : A) (xs : List A) → ((k : ℕ) → slice_get xs k ≢ Some x) → Distinct xs → Distinct (x ∷ xs)
distinct_cons x xs none rest zero zero less inside same = absurd (omega arith)
distinct_cons x xs none rest (suc j) zero less inside same = absurd (omega arith)
distinct_cons x xs none rest zero (suc k) less inside same = none k (sym same)
distinct_cons x xs none rest (suc j) (suc k) less inside same = rest j k (omega arith) (omega arith) same

-- whether no name of a list is spelled so
unfoldable pub absent : List ℕ → List (List ℕ) → Bool
absent x [] = true
absent x (y ∷ ys) = not (bytes_eq y x) && absent x ys

unfoldable pub all_distinct : List (List ℕ) → Bool
all_distinct [] = true
all_distinct (x ∷ xs) = absent x xs && all_distinct xs

none_absent : (x : List ℕ) (ys : List (List ℕ)) → absent x ys ≡ true → (k : ℕ) → slice_get ys k ≢ Some x
unfolding absent
none_absent x [] all k at = cc
none_absent x (y ∷ ys) all zero at =
    let same : y ≡ x = cc in
    let differs : not (bytes_eq y x) ≡ true = (and_parts (not (bytes_eq y x)) (absent x ys) all).0 in
    false≢true (rw (same, (bytes_eq-Decides x x).1 refl) at differs)
none_absent x (y ∷ ys) all (suc k) at = none_absent x ys (and_parts (not (bytes_eq y x)) (absent x ys) all).1 k at

pub names_distinct : (xs : List (List ℕ)) → all_distinct xs ≡ true → Distinct xs
unfolding all_distinct
names_distinct [] all = distinct_nil
names_distinct (x ∷ xs) all =
    let parts = and_parts (absent x xs) (all_distinct xs) all in distinct_cons x xs (none_absent x xs parts.0) (names_distinct xs parts.1)
