-- The first element with a number, where the numbers rise; the longest front of images.
use Rattle.std.proofs.Common.{◌≡◌, ◌∙◌, ℕ, zero, suc, ◌+◌, ◌<◌, Bool, ◌==◌, List, [], ◌∷◌, length, map, get_or, inl, inr, refl, ap, sym, subst, arith, cond, Some, slice_get, eq-eqb, ne_eqb, add-one, find}
use Rattle.std.specs.List.{prefix_len}
use Rattle.std.specs.List.Sorted.{IsStrictlyIncreasing}
use Rattle.std.proofs.lemmas.List.{get_or-map, length-map}
use Rattle.std.proofs.lemmas.List.Folds.{find_at}
use Rattle.std.proofs.lemmas.List.Sums.{position_or_len_is}
use Rattle.std.proofs.lemmas.Option.{slice_get_within, get_or_from_slice_get}
use Rattle.list_laws.proofs.Places.{cases_below}

rises_to : (xs : List ℕ) → IsStrictlyIncreasing xs → (k j : ℕ) → k < j → j < length xs → get_or xs k 0 < get_or xs j 0
rises_to xs rises k zero before within = absurd (omega arith)
rises_to xs rises k (suc j) before within =
    let P : ℕ → Type 0 = λ n. get_or xs j 0 < get_or xs n 0 in
    let step : get_or xs j 0 < get_or xs (suc j) 0 = subst P (add-one j) (rises j (omega arith)) in
    elim (cases_below k j (omega arith)) [
      | inl less ↦ let earlier = rises_to xs rises k j less (omega arith) in omega arith
      | inr same ↦ let Q : ℕ → Type 0 = λ n. get_or xs n 0 < get_or xs (suc j) 0 in subst Q (sym same) step
    ]

-- an element is the first one with its number
pub first_found : {A : Type 0} (number : A → ℕ) (xs : List A) → IsStrictlyIncreasing (map number xs) → (j : ℕ) (x : A) → slice_get xs j ≡ Some x
    → find (λ y. number y == number x) xs ≡ Some x
first_found number xs rises j x is =
    let within : j < length xs = slice_get_within xs j x is in
    let here : get_or xs j x ≡ x = get_or_from_slice_get xs j x x is in
    let long : length (map number xs) ≡ length xs = length-map xs number in
    let mine : get_or (map number xs) j 0 ≡ number x = get_or-map number xs j x 0 within ∙ ap number here in
    let at = position_or_len_is (λ y. number y == number x) xs j x (omega arith)
    (λ k before.
    let earlier : get_or (map number xs) k 0 ≡ number (get_or xs k x) = get_or-map number xs k x 0 (omega arith) in
    let below = rises_to (map number xs) rises k j before (omega arith) in
    ne_eqb (number (get_or xs k x)) (number x) (λ same. omega arith))
    (λ inside. eq-eqb (number (get_or xs j x)) (number x) (ap number here)) in
    find_at (λ y. number y == number x) xs ∙ (ap (slice_get xs) at ∙ is)

pub prefix_of_images : {A B : Type 0} (f : A → B) (p : B → Bool) (xs : List A) → prefix_len p (map f xs) ≡ prefix_len (λ x. p (f x)) xs
prefix_of_images f p [] = refl
prefix_of_images f p (x ∷ xs) = ap (λ n. cond (p (f x)) (1 + n) 0) (prefix_of_images f p xs)
