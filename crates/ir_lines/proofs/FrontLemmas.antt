-- The front of a list, up to the first element that passes a test.
use Rattle.std.proofs.Common.{◌≡◌, ◌∙◌, ℕ, ◌+◌, ◌<◌, ◌≤◌, Bool, true, false, cond, List, [], ◌∷◌, ◌++◌, length, get_or, take, refl, ap, sym, arith, append_assoc}
use Rattle.std.specs.Prelude.{map, position, nat_lt, not, take_while, Some, None}
use Rattle.std.specs.List.{prefix_len, position_or_len}
use Rattle.std.proofs.lemmas.List.{take-map, take_all, take_more}
use Rattle.std.proofs.lemmas.Bool.Decides.{nat_tests}

prefix-map : {A B : Type 0} (q : A → Bool) (p : B → Bool) (v : A → B) → ((a : A) → p (v a) ≡ not (q a)) → (xs : List A)
    → prefix_len p (map v xs) ≡ position_or_len q xs
prefix-map q p v same [] = refl
prefix-map q p v same (x ∷ xs) =
    ap (λ t. cond t (1 + prefix_len p (map v xs)) 0) (same x) ∙ ap (λ n. cond (not (q x)) (1 + n) 0) (prefix-map q p v same xs)

front : {A B : Type 0} (q : A → Bool) (p : B → Bool) (v : A → B) → ((a : A) → p (v a) ≡ not (q a)) → (xs : List A)
    → map v (take (position_or_len q xs) xs) ≡ take_while p (map v xs)
front q p v same xs =
    sym (take-map v (position_or_len q xs) xs) ∙ ap (λ n. take n (map v xs)) (sym (prefix-map q p v same xs))

pub front-some : {A B : Type 0} (q : A → Bool) (p : B → Bool) (v : A → B) → ((a : A) → p (v a) ≡ not (q a)) → (xs : List A) (n : ℕ)
    → position q xs ≡ Some n → map v (take n xs) ≡ take_while p (map v xs)
front-some q p v same xs n e = by (nat_lt (position_or_len q xs) (length xs)) refl
  where
    by : (t : Bool) → nat_lt (position_or_len q xs) (length xs) ≡ t → map v (take n xs) ≡ take_while p (map v xs)
    by true is =
        let at : Some (position_or_len q xs) ≡ Some n = sym (ap (λ t. cond t (Some (position_or_len q xs)) None) is) ∙ e in
        let here : position_or_len q xs ≡ n = cc in
        ap (λ m. map v (take m xs)) (sym here) ∙ front q p v same xs
    by false is =
        let at : None ≡ Some n = sym (ap (λ t. cond t (Some (position_or_len q xs)) None) is) ∙ e in cc

pub front-none : {A B : Type 0} (q : A → Bool) (p : B → Bool) (v : A → B) → ((a : A) → p (v a) ≡ not (q a)) → (xs : List A)
    → position q xs ≡ None → map v xs ≡ take_while p (map v xs)
front-none q p v same xs e = by (nat_lt (position_or_len q xs) (length xs)) refl
  where
    by : (t : Bool) → nat_lt (position_or_len q xs) (length xs) ≡ t → map v xs ≡ take_while p (map v xs)
    by true is =
        let at : Some (position_or_len q xs) ≡ None = sym (ap (λ t. cond t (Some (position_or_len q xs)) None) is) ∙ e in cc
    by false is =
        let past : length xs ≤ position_or_len q xs = grind (arith, nat_tests) in
        ap (map v) (sym (take_all (position_or_len q xs) xs past)) ∙ front q p v same xs

-- ---- one more element
