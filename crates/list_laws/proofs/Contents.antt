-- What a list contains, and what holds of all of it.
use Rattle.std.proofs.Common.{◌≡◌, ◌∙◌, ◌⊎◌, inl, inr, ℕ, zero, suc, ◌+◌, ◌<◌, List, [], ◌∷◌, ◌++◌, map, get_or, replicate, refl, ap, sym, subst, arith, Some, slice_get}
use Rattle.std.specs.Prelude.{Bool, true, flat_map, option_map, length}
use Rattle.std.specs.List.{All, AllByRecursion, Contains}
use Rattle.std.specs.Str.{bytes_eq}
use Rattle.std.proofs.lemmas.Slice.Eq.{bytes_eq-Decides}
use Rattle.std.proofs.lemmas.List.{get_or-map, length-map}
use Rattle.std.proofs.lemmas.List.Elements.{All-nil, All-cons, All-head, All-tail, All-weaker, All-contains_itself, Contains-append_left, Contains-append_right, Contains-append_cases}
use Rattle.std.proofs.lemmas.Option.{slice_get-map, slice_get_within, slice_get-get_or, get_or_from_slice_get, none-some, same_Some}

-- ---- by places

pub contains_get : {A : Type 0} (xs : List A) (k : ℕ) (x : A) → slice_get xs k ≡ Some x → Contains xs x
contains_get xs k x at = (k, slice_get_within xs k x at, get_or_from_slice_get xs k x x at)

pub get_contained : {A : Type 0} (xs : List A) (x : A) → Contains xs x → (k : ℕ) × (slice_get xs k ≡ Some x)
get_contained xs x within = (within.0, slice_get-get_or xs within.0 x within.1 ∙ ap Some within.2)

-- ---- element by element

pub contains_none : {A : Type 0} (x : A) → ¬ Contains [] x
contains_none x within = none-some x (get_contained [] x within).1

pub contains_first : {A : Type 0} (x : A) (xs : List A) → Contains (x ∷ xs) x
contains_first x xs = contains_get (x ∷ xs) 0 x refl

pub contains_later : {A : Type 0} (x y : A) (xs : List A) → Contains xs y → Contains (x ∷ xs) y
contains_later x y xs within = let at = get_contained xs y within in contains_get (x ∷ xs) (suc at.0) y at.1

pub contains_cons : {A : Type 0} (x y : A) (xs : List A) → Contains (x ∷ xs) y → (x ≡ y) ⊎ Contains xs y
contains_cons {A} x y xs within = by (get_contained (x ∷ xs) y within).0 (get_contained (x ∷ xs) y within).1
  where
    by : (k : ℕ) → slice_get (x ∷ xs) k ≡ Some y → (x ≡ y) ⊎ Contains xs y
    by zero at = inl (same_Some x y at)
    by (suc k) at = inr (contains_get xs k y at)

pub contains_one : {A : Type 0} (x y : A) → Contains (x ∷ []) y → x ≡ y
contains_one x y within = elim (contains_cons x y [] within) [ inl same ↦ same | inr none ↦ absurd (contains_none y none) ]

pub contains_middle : {A : Type 0} (before : List A) (x : A) (after : List A) → Contains (before ++ x ∷ after) x
contains_middle before x after = Contains-append_right before (x ∷ after) x (contains_first x after)

-- ---- lists of images

pub contains_map : {A B : Type 0} (f : A → B) (xs : List A) (x : A) → Contains xs x → Contains (map f xs) (f x)
contains_map f xs x within =
    let at = get_contained xs x within in
    contains_get (map f xs) at.0 (f x) (slice_get-map f xs at.0 ∙ ap (option_map f) at.1)

-- where an element of a list of images comes from
pub record IsImage {A B : Type 0} (f : A → B) (xs : List A) (y : B) : Type 0 where
  pub of : A
  pub inside : Contains xs of
  pub is : f of ≡ y

pub contains_image : {A B : Type 0} (f : A → B) (xs : List A) (y : B) → Contains (map f xs) y → IsImage f xs y
contains_image f [] y within = absurd (contains_none y within)
contains_image f (x ∷ xs) y within = elim (contains_cons (f x) y (map f xs) within) [
  | inl same ↦ record { of = x; inside = contains_first x xs; is = same }
  | inr later ↦ (let i : IsImage f xs y = contains_image f xs y later in
      record { of = i.of; inside = contains_later x i.of xs i.inside; is = i.is })
]

pub all_under : {A B : Type 0} (f : A → B) (P : B → Type 0) (xs : List A) → All P (map f xs) → All (λ x. P (f x)) xs
all_under f P xs all = λ k d below.
    let within : k < length (map f xs) = omega (arith, below, length-map xs f) in
    subst P (get_or-map f xs k d (f d) below) (all k (f d) within)

-- ---- copies

pub replicate_contains : {A : Type 0} (n : ℕ) (x : A) → 0 < n → Contains (replicate n x) x
replicate_contains zero x some = absurd (omega arith)
replicate_contains (suc n) x some = (0, omega arith, refl)

pub contains_replicate : {A : Type 0} (n : ℕ) (x y : A) → Contains (replicate n x) y → (0 < n) × (y ≡ x)
contains_replicate zero x y within = absurd (omega (arith, within.1))
contains_replicate (suc n) x y (zero, below, is) = (omega arith, sym is)
contains_replicate (suc n) x y (suc k, below, is) =
    let rest = contains_replicate n x y (k, omega (arith, below), is) in
    (omega arith, rest.1)

-- ---- lists of joined images

-- where an element of joined lists comes from
pub record IsJoined {A B : Type 0} (f : A → List B) (xs : List A) (y : B) : Type 0 where
  pub of : A
  pub inside : Contains xs of
  pub given : Contains (f of) y

pub contains_joined : {A B : Type 0} (f : A → List B) (xs : List A) (y : B) → Contains (flat_map f xs) y → IsJoined f xs y
contains_joined f [] y within = absurd (contains_none y within)
contains_joined f (x ∷ xs) y within = elim (Contains-append_cases (f x) (flat_map f xs) y within) [
  | inl here ↦ record { of = x; inside = contains_first x xs; given = here }
  | inr later ↦ (let j : IsJoined f xs y = contains_joined f xs y later in
      record { of = j.of; inside = contains_later x j.of xs j.inside; given = j.given })
]

pub joined_contains : {A B : Type 0} (f : A → List B) (xs : List A) (of : A) (y : B) → Contains xs of → Contains (f of) y
    → Contains (flat_map f xs) y
joined_contains f [] of y within given = absurd (contains_none of within)
joined_contains {A} f (x ∷ xs) of y within given = elim (contains_cons x of xs within) [
  | inl same ↦ Contains-append_left (f x) (flat_map f xs) y (subst (λ (z : A). Contains (f z) y) (sym same) given)
  | inr later ↦ Contains-append_right (f x) (flat_map f xs) y (joined_contains f xs of y later given)
]

-- ---- what holds of all elements

pub all_contained : {A : Type 0} (P : A → Type 0) (xs : List A) → ((x : A) → Contains xs x → P x) → All P xs
all_contained P xs each = All-weaker (Contains xs) P each xs (All-contains_itself xs)

pub all_from_at : {A : Type 0} (P : A → Type 0) (xs : List A) → ((k : ℕ) (x : A) → slice_get xs k ≡ Some x → P x) → All P xs
all_from_at P xs each = λ k d below. each k (get_or xs k d) (slice_get-get_or xs k d below)

pub all_at : {A : Type 0} (P : A → Type 0) (xs : List A) (k : ℕ) (x : A) → All P xs → slice_get xs k ≡ Some x → P x
all_at P xs k x all at = subst P (get_or_from_slice_get xs k x x at) (all k x (slice_get_within xs k x at))

pub all_one : {A : Type 0} (P : A → Type 0) (x : A) → P x → All P (x ∷ [])
all_one P x holds = All-cons P x [] holds (All-nil P)

pub all_front : {A : Type 0} (P : A → Type 0) (xs ys : List A) → All P (xs ++ ys) → All P xs
all_front P [] ys all = All-nil P
all_front P (x ∷ xs) ys all = All-cons P x xs (All-head P x (xs ++ ys) all) (all_front P xs ys (All-tail P x (xs ++ ys) all))

pub all_back : {A : Type 0} (P : A → Type 0) (xs ys : List A) → All P (xs ++ ys) → All P ys
all_back P [] ys all = all
all_back P (x ∷ xs) ys all = all_back P xs ys (All-tail P x (xs ++ ys) all)

-- ---- what equal lists share

pub first_same : {A : Type 0} (x y : A) (xs ys : List A) → x ∷ xs ≡ y ∷ ys → x ≡ y
first_same x y xs ys is = cc

pub rest_same : {A : Type 0} (x y : A) (xs ys : List A) → x ∷ xs ≡ y ∷ ys → xs ≡ ys
rest_same x y xs ys is = cc

pub same_bytes : (xs ys : List ℕ) → bytes_eq xs ys ≡ true → xs ≡ ys
same_bytes xs ys is = (bytes_eq-Decides xs ys).0 is

pub each_append : {A : Type 0} (P : A → Type 0) (xs ys : List A) → AllByRecursion P xs → AllByRecursion P ys → AllByRecursion P (xs ++ ys)
each_append P [] ys front back = back
each_append P (x ∷ xs) ys front back = (front.0, each_append P xs ys front.1 back)
