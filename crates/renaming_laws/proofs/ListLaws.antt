-- The front of a list whose elements pass a test.
use Rattle.std.proofs.Common.{◌≡◌, ℕ, suc, ◌+◌, Bool, true, false, if◌then◌else◌, List, [], ◌∷◌, take, drop, refl, ap, ◌∙◌, arith}
use Rattle.std.specs.List.{prefix_len}

abbrev pub before : {A : Type 0} → (A → Bool) → List A → List A
before test [] = []
before test (x ∷ xs) = if test x then x ∷ before test xs else []

abbrev pub behind : {A : Type 0} → (A → Bool) → List A → List A
behind test [] = []
behind test (x ∷ xs) = if test x then behind test xs else x ∷ xs

pub take_before : {A : Type 0} (test : A → Bool) (xs : List A) → take (prefix_len test xs) xs ≡ before test xs
take_before test [] = refl
take_before test (x ∷ xs) = by (test x) (take_before test xs)
  where
    more : (n : ℕ) → 1 + n ≡ suc n
    more n = omega arith

    by : (b : Bool) → take (prefix_len test xs) xs ≡ before test xs
        → take (if b then 1 + prefix_len test xs else 0) (x ∷ xs) ≡ (if b then x ∷ before test xs else [])
    by true rest = ap (λ n. take n (x ∷ xs)) (more (prefix_len test xs)) ∙ ap (λ ys. x ∷ ys) rest
    by false rest = refl

pub drop_behind : {A : Type 0} (test : A → Bool) (xs : List A) → drop (prefix_len test xs) xs ≡ behind test xs
drop_behind test [] = refl
drop_behind test (x ∷ xs) = by (test x) (drop_behind test xs)
  where
    more : (n : ℕ) → 1 + n ≡ suc n
    more n = omega arith

    by : (b : Bool) → drop (prefix_len test xs) xs ≡ behind test xs
        → drop (if b then 1 + prefix_len test xs else 0) (x ∷ xs) ≡ (if b then behind test xs else x ∷ xs)
    by true rest = ap (λ n. drop n (x ∷ xs)) (more (prefix_len test xs)) ∙ rest
    by false rest = refl
