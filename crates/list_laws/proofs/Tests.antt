-- What a test says of the elements of a list.
use Rattle.std.proofs.Common.{◌≡◌, ◌∙◌, inl, inr, ℕ, zero, suc, ◌+◌, Bool, true, false, List, [], ◌∷◌, ◌++◌, map, length, take, set, get_or, refl, ap, sym, arith, Some, slice_get}
use Rattle.std.specs.Prelude.{◌||◌, ◌≤◌, cond, ltb, not}
use Rattle.std.specs.List.{Contains, count_by, list_all, list_any, position, position_or_len, prefix_len}
use Rattle.std.specs.Option.{option_map_or}
use Rattle.std.proofs.lemmas.Bool.{false≢true, and_parts, cases_Bool, ltb-true, or_cases, or_left, or_right}
use Rattle.std.proofs.lemmas.List.{length-map}
use Rattle.std.proofs.lemmas.List.Folds.{list_any_at}
use Rattle.std.proofs.lemmas.List.Sums.{sum_by-set}
use Rattle.std.proofs.lemmas.List.Quantifiers.{position-Some}
use Rattle.std.proofs.lemmas.Option.{slice_get_within, slice_get-get_or, get_or_from_slice_get, none-some, same_Some}
use Rattle.list_laws.proofs.Contents.{contains_first, contains_later}
use Rattle.list_laws.proofs.Booleans.{or_assoc}

-- ---- each element passes, or one of them

pub all_passes : {A : Type 0} (p : A → Bool) (xs : List A) (k : ℕ) (x : A) → list_all p xs ≡ true → slice_get xs k ≡ Some x → p x ≡ true
all_passes p [] k x all at = absurd (none-some x at)
all_passes p (y ∷ ys) zero x all at = let same : y ≡ x = same_Some y x at in ap p (sym same) ∙ (and_parts (p y) (list_all p ys) all).0
all_passes p (y ∷ ys) (suc k) x all at = all_passes p ys k x (and_parts (p y) (list_all p ys) all).1 at

pub any_same : {A : Type 0} (p q : A → Bool) (xs : List A) → ((x : A) → p x ≡ q x) → list_any p xs ≡ list_any q xs
any_same p q [] same = refl
any_same p q (x ∷ xs) same = ap (λ (b : Bool). b || list_any p xs) (same x) ∙ ap (λ (b : Bool). q x || b) (any_same p q xs same)

pub any_weaker : {A : Type 0} (p q : A → Bool) (xs : List A) → ((x : A) → p x ≡ true → q x ≡ true) → list_any p xs ≡ true → list_any q xs ≡ true
any_weaker p q [] each any = any
any_weaker p q (x ∷ xs) each any = elim (or_cases (p x) (list_any p xs) any) [
  | inl here ↦ or_left (q x) (list_any q xs) (each x here)
  | inr later ↦ or_right (q x) (list_any q xs) (any_weaker p q xs each later)
]

pub any_never : {A : Type 0} (p : A → Bool) (xs : List A) → ((x : A) → p x ≡ false) → list_any p xs ≡ false
any_never p [] each = refl
any_never p (x ∷ xs) each = ap (λ (b : Bool). b || list_any p xs) (each x) ∙ any_never p xs each

pub any_contained : {A : Type 0} (p : A → Bool) (xs : List A) → list_any p xs ≡ true → (x : A) × Contains xs x × (p x ≡ true)
any_contained p [] any = absurd (false≢true any)
any_contained p (x ∷ xs) any = elim (or_cases (p x) (list_any p xs) any) [
  | inl here ↦ (x, contains_first x xs, here)
  | inr later ↦ (let found = any_contained p xs later in (found.0, contains_later x found.0 xs found.1, found.2))
]

pub contained_any : {A : Type 0} (p : A → Bool) (xs : List A) (x : A) → Contains xs x → p x ≡ true → list_any p xs ≡ true
contained_any p xs x there is = list_any_at p xs there.0 x there.1 (ap p there.2 ∙ is)

-- ---- the elements before the first that fails

pub prefix_passes : {A : Type 0} (p : A → Bool) (xs : List A) (k : ℕ) (x : A) → slice_get (take (prefix_len p xs) xs) k ≡ Some x → p x ≡ true
prefix_passes p [] k x is = absurd cc
prefix_passes p (y ∷ xs) k x is = elim (cases_Bool (p y)) [
  | inr other ↦ absurd (let h = rw other at is in cc)
  | inl here ↦ go k (let e : 1 + prefix_len p xs ≡ suc (prefix_len p xs) = omega arith in let h1 = rw here at is in let h = rw e at h1 in h) here (λ j. prefix_passes p xs j x)
]
  where
    go : (k : ℕ) → slice_get (y ∷ take (prefix_len p xs) xs) k ≡ Some x → p y ≡ true → ((j : ℕ) → slice_get (take (prefix_len p xs) xs) j ≡ Some x → p x ≡ true) → p x ≡ true
    go zero is here rest = ap p (sym (same_Some y x is)) ∙ here
    go (suc k) is here rest = rest k is

pub prefix_map : {A B : Type 0} (p : B → Bool) (f : A → B) (xs : List A) → prefix_len p (map f xs) ≡ prefix_len (λ x. p (f x)) xs
prefix_map p f [] = refl
prefix_map p f (x ∷ xs) = ap (λ n. cond (p (f x)) (1 + n) 0) (prefix_map p f xs)

pub position_map : {A B : Type 0} (p : B → Bool) (f : A → B) (xs : List A) → position p (map f xs) ≡ position (λ x. p (f x)) xs
position_map p f xs = rw (prefix_map (λ y. not (p y)) f xs, length-map xs f) refl

pub position_passes : {A : Type 0} (p : A → Bool) (xs : List A) (k : ℕ) → position p xs ≡ Some k → (x : A) × (slice_get xs k ≡ Some x) × (p x ≡ true)
position_passes p [] k is = absurd cc
position_passes p (y ∷ xs) k is =
    let parts = position-Some p (y ∷ xs) k y is in
    (get_or (y ∷ xs) k y, slice_get-get_or (y ∷ xs) k y parts.0, parts.1)

-- ---- marks

-- one place fewer is without a mark
pub count_marked : (marks : List Bool) (place : ℕ) → slice_get marks place ≡ Some false → count_by not (set marks place true) + 1 ≡ count_by not marks
count_marked marks place is =
    let f : Bool → ℕ = λ x. cond (not x) 1 0 in
    let written = sum_by-set f marks place true false (slice_get_within marks place false is) in
    let was : f (get_or marks place false) ≡ 1 = rw (get_or_from_slice_get marks place false false is) refl in
    omega (arith, written, was)

-- two lists of marks that mark the same places
pub same_marks : (marks others : List Bool) → length marks ≡ length others
    → ((place : ℕ) → slice_get marks place ≡ Some true → slice_get others place ≡ Some true)
    → ((place : ℕ) → slice_get others place ≡ Some true → slice_get marks place ≡ Some true) → marks ≡ others
same_marks [] [] size there back = refl
same_marks [] (other ∷ others) size there back = absurd (omega (arith, size))
same_marks (mark ∷ marks) [] size there back = absurd (omega (arith, size))
same_marks (mark ∷ marks) (other ∷ others) size there back =
    first mark other (λ is. same_Some other true (there 0 (ap (λ (m : Bool). Some m) is))) (λ is. same_Some mark true (back 0 (ap (λ (m : Bool). Some m) is)))
    (same_marks marks others (omega (arith, size)) (λ place is. there (suc place) is) (λ place is. back (suc place) is))
  where
    first : (m o : Bool) → (m ≡ true → o ≡ true) → (o ≡ true → m ≡ true) → marks ≡ others → m ∷ marks ≡ o ∷ others
    first true true kept came same = ap (λ zs. true ∷ zs) same
    first true false kept came same = absurd (false≢true (kept refl))
    first false true kept came same = absurd (false≢true (came refl))
    first false false kept came same = ap (λ zs. false ∷ zs) same

pub any_append : {A : Type 0} (p : A → Bool) (one other : List A) → list_any p (one ++ other) ≡ (list_any p one || list_any p other)
any_append p [] other = refl
any_append p (x ∷ one) other = ap (λ (t : Bool). p x || t) (any_append p one other) ∙ sym (or_assoc (p x) (list_any p one) (list_any p other))

-- behind the first element that passes
pub position_within : {A : Type 0} (test : A → Bool) (xs : List A) → option_map_or (λ place. place + 1) (position test xs) 0 ≤ length xs
position_within test xs = elim (cases_Bool (ltb (position_or_len test xs) (length xs))) [
  | inl within ↦ rw within (let below = ltb-true (position_or_len test xs) (length xs) within in omega arith)
  | inr past ↦ rw past (omega arith)
]
