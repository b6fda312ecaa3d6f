-- How often numbers stand in lists, and lists in ascending order.
use Rattle.std.proofs.Common.{◌≡◌, ◌≢◌, ◌∙◌, ℕ, ◌+◌, ◌<◌, ◌≤◌, ◌⊎◌, inl, inr, Bool, cond, List, [], ◌∷◌, ◌++◌, length, refl, ap, sym, subst, arith}
use Rattle.std.specs.Prelude.{nat_eq, count_by, map}
use Rattle.std.specs.List.Sorted.{IsNonDecreasing}
use Rattle.std.proofs.lemmas.List.Sums.{sum_by-cons, sum_by-append}
use Rattle.std.proofs.lemmas.List.Sorted.{IsNonDecreasingBy-drop}
use Rattle.std.proofs.lemmas.Bool.Decides.{eqb_tells}
use Rattle.ir_verify.specs.Phis.{times}

pub count_by-map : {X Y : Type 0} (p : Y → Bool) (f : X → Y) (xs : List X) → count_by p (map f xs) ≡ count_by (λ x. p (f x)) xs
count_by-map p f [] = refl
count_by-map p f (x ∷ xs) =
    sum_by-cons (λ y. cond (p y) 1 0) (f x) (map f xs)
    ∙ ap (λ n. cond (p (f x)) 1 0 + n) (count_by-map p f xs)
    ∙ sym (sum_by-cons (λ y. cond (p (f y)) 1 0) x xs)

pub count_by-append : {X : Type 0} (p : X → Bool) (xs ys : List X) → count_by p (xs ++ ys) ≡ count_by p xs + count_by p ys
count_by-append p xs ys = sum_by-append (λ x. cond (p x) 1 0) xs ys

times-cons : (one x : ℕ) (xs : List ℕ) → times one (x ∷ xs) ≡ cond (nat_eq x one) 1 0 + times one xs
times-cons one x xs = sum_by-cons (λ n. cond (nat_eq n one) 1 0) x xs

times-here : (x : ℕ) (xs : List ℕ) → times x (x ∷ xs) ≡ 1 + times x xs
times-here x xs = elim (eqb_tells x x) [
  | inl t ↦ times-cons x x xs ∙ ap (λ b. cond b 1 0 + times x xs) t.0
  | inr t ↦ absurd (t.1 refl)
]

times-apart : (one x : ℕ) (xs : List ℕ) → x ≢ one → times one (x ∷ xs) ≡ times one xs
times-apart one x xs ne = elim (eqb_tells x one) [
  | inl t ↦ absurd (ne t.1)
  | inr t ↦ (let h : times one (x ∷ xs) ≡ 0 + times one xs = times-cons one x xs ∙ ap (λ b. cond b 1 0 + times one xs) t.0 in omega arith)
]

tail : (x : ℕ) (xs : List ℕ) → IsNonDecreasing (x ∷ xs) → IsNonDecreasing xs
tail x xs up = IsNonDecreasingBy-drop (λ n. n) 1 (x ∷ xs) up

-- a number below the least of a list isn't in it
times-below : (one x : ℕ) (xs : List ℕ) → IsNonDecreasing (x ∷ xs) → one < x → times one (x ∷ xs) ≡ 0
times-below one x [] up below = times-apart one x [] (λ e. omega arith)
times-below one x (y ∷ ys) up below =
    let long : 1 < length (x ∷ y ∷ ys) = omega arith in
    let rises : x ≤ y = up 0 1 0 (omega arith) long in
    times-apart one x (y ∷ ys) (λ e. omega arith) ∙ times-below one y ys (tail x (y ∷ ys) up) (omega arith)

order : (x y : ℕ) → (x < y) ⊎ ((y < x) ⊎ (x ≡ y))
order x y = grind arith

-- a number that stands in one list more often than in the other
abbrev pub IsApart : List ℕ → List ℕ → Type 0
IsApart xs ys = (one : ℕ) × (times one xs ≢ times one ys)

behind : (x : ℕ) (xs ys : List ℕ) → (xs ≡ ys) ⊎ IsApart xs ys → (x ∷ xs ≡ x ∷ ys) ⊎ IsApart (x ∷ xs) (x ∷ ys)
behind x xs ys (inl e) = inl (ap (λ zs. x ∷ zs) e)
behind x xs ys (inr a) = inr (a.0, λ t. a.1 (let m = times-cons a.0 x xs in let n = times-cons a.0 x ys in omega arith))

by-order : (x y : ℕ) (xs ys : List ℕ) → IsNonDecreasing (x ∷ xs) → IsNonDecreasing (y ∷ ys) → (x < y) ⊎ ((y < x) ⊎ (x ≡ y))
    → (xs ≡ ys) ⊎ IsApart xs ys → (x ∷ xs ≡ y ∷ ys) ⊎ IsApart (x ∷ xs) (y ∷ ys)
by-order x y xs ys up down (inl below) rest =
    inr (x, λ t. let m = times-here x xs in let n = times-below x y ys down below in omega arith)
by-order x y xs ys up down (inr (inl below)) rest =
    inr (y, λ t. let m = times-here y ys in let n = times-below y x xs up below in omega arith)
by-order x y xs ys up down (inr (inr e)) rest =
    subst (λ (z : ℕ). (x ∷ xs ≡ z ∷ ys) ⊎ IsApart (x ∷ xs) (z ∷ ys)) e (behind x xs ys rest)

-- lists in ascending order are the same, or a number tells them apart
pub same-or-apart : (xs ys : List ℕ) → IsNonDecreasing xs → IsNonDecreasing ys → (xs ≡ ys) ⊎ IsApart xs ys
same-or-apart [] [] up down = inl refl
same-or-apart [] (y ∷ ys) up down =
    inr (y, λ t. let m = times-here y ys in let none : 0 ≡ times y (y ∷ ys) = t in let bad : 0 ≡ 1 + times y ys = none ∙ m in omega arith)
same-or-apart (x ∷ xs) [] up down =
    inr (x, λ t. let m = times-here x xs in let none : times x (x ∷ xs) ≡ 0 = t in let bad : 1 + times x xs ≡ 0 = sym m ∙ none in omega arith)
same-or-apart (x ∷ xs) (y ∷ ys) up down =
    by-order x y xs ys up down (order x y) (same-or-apart xs ys (tail x xs up) (tail y ys down))
