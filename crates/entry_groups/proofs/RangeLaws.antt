-- What holds at each number of a range.
use Rattle.std.proofs.Common.{◌≡◌, ◌∙◌, ℕ, zero, suc, ◌<◌, ◌≤◌, ◌+◌, Bool, true, ◌&&◌, refl, inl, inr, List, [], ◌∷◌, ap, sym, arith}
use Rattle.std.specs.List.{list_all, range_with_len}
use Rattle.std.proofs.lemmas.Bool.{cases_eq}
use Rattle.std.proofs.lemmas.List.Folds.{list_all-append}
use Rattle.list_laws.proofs.Ranges.{range_more}

pub all_cons : {A : Type 0} (p : A → Bool) (x : A) (xs : List A) → list_all p (x ∷ xs) ≡ true → (p x ≡ true) × (list_all p xs ≡ true)
all_cons p x xs all =
    let own : p x ≡ true = grind arith in
    let rest : list_all p xs ≡ true = grind arith in
    (own, rest)

pub all_range : (p : ℕ → Bool) (from n : ℕ) → list_all p (range_with_len from n) ≡ true → (b : ℕ) → from ≤ b → b < from + n → p b ≡ true
all_range p from zero all b low high = absurd (omega arith)
all_range p from (suc n) all b low high =
    let both = all_cons p from (range_with_len (from + 1) n) all in
    elim (cases_eq from b) [
      | inl e ↦ ap p (sym e) ∙ both.0
      | inr ne ↦ all_range p (from + 1) n both.1 b (omega (arith, ne)) (omega arith)
    ]

pub all_more : (p : ℕ → Bool) (n : ℕ) → list_all p (range_with_len 0 n) ≡ true → p n ≡ true → list_all p (range_with_len 0 (n + 1)) ≡ true
all_more p n all here =
    let z : 0 + n ≡ n = omega arith in
    let one : list_all p ((0 + n) ∷ []) ≡ true = rw (z, here) refl in
    ap (list_all p) (range_more 0 n) ∙ list_all-append p (range_with_len 0 n) ((0 + n) ∷ []) ∙ ap (λ (t : Bool). t && list_all p ((0 + n) ∷ [])) all ∙ one
