-- How many elements of a list pass a test, and the numbers that places have when a further one stands before each of them.
use Rattle.std.proofs.Common.{◌≡◌, ◌≢◌, ℕ, zero, suc, ◌+◌, ◌<◌, ◌≤◌, Bool, true, false, if◌then◌else◌, List, [], ◌∷◌, ◌++◌, take, refl, sym, inl, inr, arith}
use Rattle.std.specs.Prelude.{Some, slice_get, count_by}
use Rattle.std.proofs.lemmas.Bool.{cases_lt}
use Rattle.std.proofs.lemmas.List.Recursion.{is_count_by}

module _ {A : Type 0} (test : A → Bool) where
  abbrev pub count : List A → ℕ
  count [] = 0
  count (x ∷ xs) = if test x then 1 + count xs else count xs

  pub count_is : (xs : List A) → count_by test xs ≡ count xs
  count_is xs = sym (is_count_by count test refl (λ x xs. refl) xs)

  pub count_append : (xs ys : List A) → count (xs ++ ys) ≡ count xs + count ys
  count_append [] ys = omega arith
  count_append (x ∷ xs) ys = by (test x) (count_append xs ys)
    where
      by : (b : Bool) → count (xs ++ ys) ≡ count xs + count ys → (if b then 1 + count (xs ++ ys) else count (xs ++ ys)) ≡ (if b then 1 + count xs else count xs) + count ys
      by true rest = omega arith
      by false rest = rest

  pub count_more : (xs : List A) (j k : ℕ) → j ≤ k → count (take j xs) ≤ count (take k xs)
  count_more xs zero k le = omega arith
  count_more xs (suc j) zero le = absurd (omega arith)
  count_more [] (suc j) (suc k) le = omega arith
  count_more (x ∷ xs) (suc j) (suc k) le = by (test x) (count_more xs j k (omega arith))
    where
      by : (b : Bool) → count (take j xs) ≤ count (take k xs) → (if b then 1 + count (take j xs) else count (take j xs)) ≤ (if b then 1 + count (take k xs) else count (take k xs))
      by true rest = omega arith
      by false rest = rest

  pub count_whole : (xs : List A) (k : ℕ) → count (take k xs) ≤ count xs
  count_whole xs zero = omega arith
  count_whole [] (suc k) = omega arith
  count_whole (x ∷ xs) (suc k) = by (test x) (count_whole xs k)
    where
      by : (b : Bool) → count (take k xs) ≤ count xs → (if b then 1 + count (take k xs) else count (take k xs)) ≤ (if b then 1 + count xs else count xs)
      by true rest = omega arith
      by false rest = rest

  -- the number of a place, and that of what stands before it
  abbrev pub number_of : List A → ℕ → ℕ
  number_of xs place = place + count (take (suc place) xs)

  abbrev pub number_before : List A → ℕ → ℕ
  number_before xs place = place + count (take place xs)

  pub numbers_rise : (xs : List A) (j k : ℕ) → j < k → number_of xs j < number_of xs k
  numbers_rise xs j k less = let more = count_more xs (suc j) (suc k) (omega arith) in omega arith

  pub numbers_apart : (xs : List A) (j k : ℕ) → number_of xs j ≡ number_of xs k → j ≡ k
  numbers_apart xs j k same = elim (cases_lt j k) [
    | inl less ↦ absurd (let rise = numbers_rise xs j k less in omega arith)
    | inr le ↦ elim (cases_lt k j) [
      | inl more ↦ absurd (let rise = numbers_rise xs k j more in omega arith)
      | inr both ↦ omega arith
    ]
  ]

  pub number_within : (xs : List A) (place room : ℕ) → place < room → number_of xs place < room + count xs
  number_within xs place room below = let most = count_whole xs (suc place) in omega arith

  pub count_next : (xs : List A) (place : ℕ) (x : A) → slice_get xs place ≡ Some x → test x ≡ true → count (take (suc place) xs) ≡ count (take place xs) + 1
  count_next [] place x is passes = absurd cc
  count_next (y ∷ xs) zero x is passes =
      let same : test y ≡ true = cc in
      rw same refl
  count_next (y ∷ xs) (suc place) x is passes = by (test y) (count_next xs place x is passes)
    where
      by : (b : Bool) → count (take (suc place) xs) ≡ count (take place xs) + 1
          → (if b then 1 + count (take (suc place) xs) else count (take (suc place) xs)) ≡ (if b then 1 + count (take place xs) else count (take place xs)) + 1
      by true rest = omega arith
      by false rest = rest

  -- the number of what stands before a place that passes is no place's
  pub before_is_fresh : (xs : List A) (place : ℕ) (x : A) → slice_get xs place ≡ Some x → test x ≡ true → (other : ℕ) → number_of xs other ≢ number_before xs place
  before_is_fresh xs place x is passes other same = elim (cases_lt other place) [
    | inl less ↦ absurd (let more = count_more xs (suc other) place (omega arith) in omega arith)
    | inr le ↦
        absurd
        (let more = count_more xs (suc place) (suc other) (omega arith) in
        let one = count_next xs place x is passes in
        omega arith)
  ]

  pub count_next_not : (xs : List A) (place : ℕ) (x : A) → slice_get xs place ≡ Some x → test x ≡ false → count (take (suc place) xs) ≡ count (take place xs)
  count_next_not [] place x is fails = absurd cc
  count_next_not (y ∷ xs) zero x is fails =
      let same : test y ≡ false = cc in
      rw same refl
  count_next_not (y ∷ xs) (suc place) x is fails = by (test y) (count_next_not xs place x is fails)
    where
      by : (b : Bool) → count (take (suc place) xs) ≡ count (take place xs)
          → (if b then 1 + count (take (suc place) xs) else count (take (suc place) xs)) ≡ (if b then 1 + count (take place xs) else count (take place xs))
      by true rest = omega arith
      by false rest = rest
