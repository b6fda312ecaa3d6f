-- What two binary searches part from a list whose keys don't fall.
use Rattle.std.proofs.Common.{◌≡◌, refl, ap, sym, ◌∙◌, ℕ, ◌+◌, ◌-◌, ◌<◌, ◌≤◌, Bool, true, false, List, [], ◌∷◌, ◌++◌, length, take, drop, arith, ltb, leb, eqb, inl, inr}
use Rattle.std.specs.Prelude.{filter, slice_range}
use Rattle.std.specs.List.{All, AllWithin}
use Rattle.std.specs.List.Sorted.{IsPartitionPoint}
use Rattle.std.proofs.lemmas.Bool.{cases_lt}
use Rattle.std.proofs.lemmas.Bool.Decides.{nat_tests}
use Rattle.std.proofs.lemmas.List.{append-nil, get_or-take, get_or-drop, length-take-le, length-drop, take-append-drop}
use Rattle.std.proofs.lemmas.List.Elements.{All-head, All-tail, filter-append}
use Rattle.std.proofs.lemmas.List.Folds.{drop_split}

pub filter_none : {X : Type 0} (p : X → Bool) (xs : List X) → All (λ x. p x ≡ false) xs → filter p xs ≡ []
filter_none p [] none = refl
filter_none p (x ∷ xs) none = rw (All-head (λ x. p x ≡ false) x xs none) (filter_none p xs (All-tail (λ x. p x ≡ false) x xs none))

pub filter_all : {X : Type 0} (p : X → Bool) (xs : List X) → All (λ x. p x ≡ true) xs → filter p xs ≡ xs
filter_all p [] all = refl
filter_all p (x ∷ xs) all = rw (All-head (λ x. p x ≡ true) x xs all) (ap (λ ys. x ∷ ys) (filter_all p xs (All-tail (λ x. p x ≡ true) x xs all)))

all_front : {X : Type 0} (P : X → Type 0) (xs : List X) (i : ℕ) → i ≤ length xs → AllWithin P xs 0 i → All P (take i xs)
all_front {X} P xs i fits h = λ k d below.
    let lt : k < i = omega (arith, below, length-take-le i xs fits) in
    rw (get_or-take i xs k d lt) (h k d (omega arith) lt)

all_middle : {X : Type 0} (P : X → Type 0) (xs : List X) (i j : ℕ) → i ≤ j → j ≤ length xs → AllWithin P xs i j → All P (slice_range xs i j)
all_middle {X} P xs i j order fits h = λ k d below.
    let room : j - i ≤ length (drop i xs) = omega (arith, length-drop i xs) in
    let lt : k < j - i = omega (arith, below, length-take-le (j - i) (drop i xs) room) in
    rw (get_or-take (j - i) (drop i xs) k d lt, get_or-drop i xs k d) (h (i + k) d (omega arith) (omega arith))

all_rest : {X : Type 0} (P : X → Type 0) (xs : List X) (j : ℕ) → AllWithin P xs j (length xs) → All P (drop j xs)
all_rest {X} P xs j h = λ k d below.
    let lt : j + k < length xs = omega (arith, below, length-drop j xs) in
    rw (get_or-drop j xs k d) (h (j + k) d (omega arith) lt)

-- what passes stands between two places
pub filter_band : {X : Type 0} (p : X → Bool) (xs : List X) (i j : ℕ) → i ≤ j → j ≤ length xs → AllWithin (λ x. p x ≡ false) xs 0 i
    → AllWithin (λ x. p x ≡ true) xs i j → AllWithin (λ x. p x ≡ false) xs j (length xs) → filter p xs ≡ slice_range xs i j
filter_band p xs i j order fits front middle rest =
    let parts : xs ≡ take i xs ++ (slice_range xs i j ++ drop j xs) = sym (take-append-drop i xs) ∙ ap (λ ys. take i xs ++ ys) (drop_split xs i j order) in
    ap (filter p) parts
    ∙ filter-append p (take i xs) (slice_range xs i j ++ drop j xs)
    ∙ rw (
      filter_none p (take i xs) (all_front (λ x. p x ≡ false) xs i (omega arith) front),
      filter-append p (slice_range xs i j) (drop j xs),
      filter_all p (slice_range xs i j) (all_middle (λ x. p x ≡ true) xs i j order fits middle),
      filter_none p (drop j xs) (all_rest (λ x. p x ≡ false) xs j rest),
    )
    (append-nil (slice_range xs i j))

-- the places below a key and up to it
pub record ArePlacesOf {X : Type 0} (n : X → ℕ) (xs : List X) (k i j : ℕ) : Type 0 where
  pub fits_from : i ≤ length xs
  pub fits_to : j ≤ length xs
  pub from : IsPartitionPoint (λ y. ltb (n y) k ≡ true) (λ y. ltb (n y) k ≡ false) xs i
  pub to : IsPartitionPoint (λ y. leb (n y) k ≡ true) (λ y. leb (n y) k ≡ false) xs j

pub places-order : {X : Type 0} (n : X → ℕ) (xs : List X) (k i j : ℕ) → ArePlacesOf n xs k i j → i ≤ j
places-order n [] k i j are = omega (arith, are.fits_from)
places-order n (x ∷ xs) k i j are = elim (cases_lt j i) [
  | inl turned ↦ (let below = are.from.0 j x (omega arith) turned in
      let above = are.to.1 j x (omega arith) (omega (arith, are.fits_from)) in
      absurd (grind (arith, nat_tests)))
  | inr order ↦ order
]

pub slice_of_key : {X : Type 0} (n : X → ℕ) (xs : List X) (k i j : ℕ) → ArePlacesOf n xs k i j → slice_range xs i j ≡ filter (λ y. eqb (n y) k) xs
slice_of_key n xs k i j are =
    let order = places-order n xs k i j are in
    sym (filter_band (λ y. eqb (n y) k) xs i j order are.fits_to
    (λ place d low high. let below = are.from.0 place d low high in grind (arith, nat_tests))
    (λ place d low high. let not_below = are.from.1 place d low (omega (arith, are.fits_to)) in let up_to = are.to.0 place d (omega arith) high in grind (arith, nat_tests))
    (λ place d low high. let above = are.to.1 place d low high in grind (arith, nat_tests)))
