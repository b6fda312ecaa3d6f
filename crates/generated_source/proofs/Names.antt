-- Names of generated functions and values: each can be spelled, none is reserved, and no two are alike.
use Rattle.std.proofs.Common.{◌≡◌, ◌≢◌, ℕ, zero, suc, ◌+◌, ◌/◌, ◌%◌, ◌<◌, ◌≤◌, ◌^◌, true, List, [], ◌∷◌, ◌++◌, Option, Some, None, refl, sym, ap, subst, inl, inr, codes, arith}
use Rattle.std.specs.Prelude.{slice_get}
use Rattle.std.specs.Fmt.{decimal}
use Rattle.std.specs.Char.{is_ascii_digit}
use Rattle.std.specs.List.{list_all}
use Rattle.std.proofs.lemmas.Bool.{false≢true, or_right, and_parts}
use Rattle.std.proofs.lemmas.Bool.Decides.{nat_tests}
use Rattle.std.proofs.lemmas.Fmt.{decimal_by_steps, decimal_injective}
use Rattle.std.proofs.lemmas.List.Folds.{list_all-append}
use Rattle.list_laws.proofs.Contents.{get_contained}
use Rattle.sp_text.specs.Bytes.{in_name, begins_name}
use Rattle.ir_ast.specs.Faults.Reserved.{IsExternalName, externals}
use Rattle.ir_cfg.specs.Limits.{IsName}
use Rattle.ir_cfg.proofs.NameLaws.{differ, first_byte, first_of}
use Rattle.generated_forms.specs.Lines.{numbered_name}

-- ---- digits

digit : (d : ℕ) → d < 10 → is_ascii_digit (48 + d) ≡ true
digit d low = grind (arith, nat_tests)

AreDigits : ℕ → List ℕ → Type 0
AreDigits n ds = list_all is_ascii_digit ds ≡ true

one_digit : (n : ℕ) → n < 10 → AreDigits n ((48 + n) ∷ [])
unfolding AreDigits
one_digit n low = rw (digit n low) refl

one_digit_more : (n : ℕ) (ds : List ℕ) → 10 ≤ n → AreDigits (n / 10) ds → AreDigits n (ds ++ (48 + n % 10) ∷ [])
unfolding AreDigits
one_digit_more n ds high front =
    let low : n % 10 < 10 = omega arith in rw (list_all-append is_ascii_digit ds ((48 + n % 10) ∷ []), front, digit (n % 10) low) refl

pub digits : (n : ℕ) → n < 2 ^ 64 → list_all is_ascii_digit (decimal n) ≡ true
unfolding AreDigits
digits n small = decimal_by_steps AreDigits one_digit one_digit_more n small

digit_in_name : (b : ℕ) → is_ascii_digit b ≡ true → in_name b ≡ true
digit_in_name b is = rw is (or_right _ true refl)

digits_in_name : (bs : List ℕ) → list_all is_ascii_digit bs ≡ true → list_all in_name bs ≡ true
digits_in_name [] all = refl
digits_in_name (b ∷ bs) all =
    let parts = and_parts (is_ascii_digit b) (list_all is_ascii_digit bs) all in rw (digit_in_name b parts.0, digits_in_name bs parts.1) refl

after_first : List ℕ → List ℕ
after_first [] = []
after_first (b ∷ bs) = bs

-- a letter and a number
pub numbered_spelled : (letter : ℕ) (n : ℕ) → begins_name letter ≡ true → n < 2 ^ 64 → IsName (numbered_name (letter ∷ []) n)
numbered_spelled letter n letter_is small = rw (letter_is, digits_in_name (decimal n) (digits n small)) refl

pub numbered_apart : (letter m n : ℕ) → m < 2 ^ 64 → n < 2 ^ 64 → m ≢ n → numbered_name (letter ∷ []) m ≢ numbered_name (letter ∷ []) n
unfolding after_first
numbered_apart letter m n m_small n_small other same = other (decimal_injective m n m_small n_small (ap after_first same))

-- ---- names that aren't reserved

-- the second byte of `gN` is a digit, and of no external that begins so
second_is_digit : (ds : List ℕ) (b : ℕ) (bs : List ℕ) → list_all is_ascii_digit ds ≡ true → ds ≡ b ∷ bs → is_ascii_digit b ≡ true
second_is_digit [] b bs all same = cc
second_is_digit (d ∷ ds) b bs all same =
    let equal : d ≡ b = cc in subst (λ (n : ℕ). is_ascii_digit n ≡ true) equal (and_parts (is_ascii_digit d) (list_all is_ascii_digit ds) all).0

not_c : (ds : List ℕ) (bs : List ℕ) → list_all is_ascii_digit ds ≡ true → ds ≡ 99 ∷ bs → ⊥
not_c ds bs all same = false≢true (second_is_digit ds 99 bs all same)

rest_of : Option (List ℕ) → List ℕ
rest_of None = []
rest_of (Some bs) = after_first bs

name_external : (ds : List ℕ) (k : ℕ) → list_all is_ascii_digit ds ≡ true → slice_get externals k ≡ Some (103 ∷ ds) → ⊥
unfolding first_of first_byte rest_of after_first
name_external ds zero all at = differ 112 103 refl (ap first_of at)
name_external ds (suc zero) all at = differ 114 103 refl (ap first_of at)
name_external ds (suc (suc zero)) all at = differ 116 103 refl (ap first_of at)
name_external ds (suc (suc (suc zero))) all at = not_c ds (codes ".safepoint_poll") all (sym (ap rest_of at))
name_external ds (suc (suc (suc (suc zero)))) all at = not_c ds (codes "_check") all (sym (ap rest_of at))
name_external ds (suc (suc (suc (suc (suc zero))))) all at = not_c ds (codes "_same") all (sym (ap rest_of at))
name_external ds (suc (suc (suc (suc (suc (suc k)))))) all at = let e : None ≡ Some (103 ∷ ds) = at in cc

free_letter : (ds : List ℕ) → list_all is_ascii_digit ds ≡ true → ¬ IsExternalName (103 ∷ ds)
unfolding first_byte after_first
free_letter ds all (inl among) = let at = get_contained externals (103 ∷ ds) among in name_external ds at.0 all at.1
free_letter ds all (inr (inl front)) = not_c ds (codes "_new." ++ front.0) all (ap after_first front.1)
free_letter ds all (inr (inr front)) = differ 103 108 refl (ap first_byte front.1)

-- `gN` is no name of an external
pub free_function : (n : ℕ) → n < 2 ^ 64 → ¬ IsExternalName (numbered_name (codes "g") n)
free_function n small = free_letter (decimal n) (digits n small)
