-- Two lists, element by element.
use Rattle.std.proofs.Common.{◌≡◌, ◌∙◌, ℕ, zero, suc, List, [], ◌∷◌, ◌++◌, length, map, refl, sym, ap, subst, Some, slice_get}
use Rattle.std.specs.List.{AllZip}
use Rattle.std.proofs.lemmas.Option.{none-some, same_Some}
use Rattle.std.proofs.lemmas.Slice.Zip.{AllZip-long}

pub zip_lengths : {A B : Type 0} (P : A → B → Type 0) (xs : List A) (ys : List B) → AllZip P xs ys → length xs ≡ length ys
zip_lengths P xs ys all = sym (AllZip-long P xs ys all)

pub zip_pushed : {A B : Type 0} (P : A → B → Type 0) (xs : List A) (ys : List B) (x : A) (y : B) → AllZip P xs ys → P x y → AllZip P (xs ++ x ∷ []) (ys ++ y ∷ [])
zip_pushed P [] [] x y all own = (own, tt)
zip_pushed P [] (z ∷ ys) x y all own = absurd all
zip_pushed P (z ∷ xs) [] x y all own = absurd all
zip_pushed P (z ∷ xs) (w ∷ ys) x y all own = (all.0, zip_pushed P xs ys x y all.1 own)

pub zip_weaker : {A B : Type 0} (P Q : A → B → Type 0) (xs : List A) (ys : List B) → ((x : A) (y : B) → P x y → Q x y) → AllZip P xs ys → AllZip Q xs ys
zip_weaker P Q [] [] each all = tt
zip_weaker P Q [] (y ∷ ys) each all = absurd all
zip_weaker P Q (x ∷ xs) [] each all = absurd all
zip_weaker P Q (x ∷ xs) (y ∷ ys) each all = (each x y all.0, zip_weaker P Q xs ys each all.1)

-- what elements that stand opposite each other share
pub zip_map : {A C : Type 0} (R : A → A → Type 0) (f : A → C) → ((x y : A) → R x y → f y ≡ f x) → (xs ys : List A) → AllZip R xs ys → map f ys ≡ map f xs
zip_map R f same [] [] zip = refl
zip_map R f same [] (y ∷ ys) zip = absurd zip
zip_map R f same (x ∷ xs) [] zip = absurd zip
zip_map {A} {C} R f same (x ∷ xs) (y ∷ ys) zip = ap (λ (c : C). c ∷ map f ys) (same x y zip.0) ∙ ap (λ (cs : List C). f x ∷ cs) (zip_map R f same xs ys zip.1)

-- what stands opposite an element
pub zip_at : {A B : Type 0} (R : A → B → Type 0) (xs : List A) (ys : List B) (place : ℕ) (x : A) → AllZip R xs ys → slice_get xs place ≡ Some x → (y : B) × (slice_get ys place ≡ Some y) × R x y
zip_at R [] ys place x all at = absurd (none-some x at)
zip_at R (first ∷ xs) [] place x all at = absurd all
zip_at R (first ∷ xs) (other ∷ ys) zero x all at = (other, refl, subst (λ one. R one other) (same_Some first x at) all.0)
zip_at R (first ∷ xs) (other ∷ ys) (suc place) x all at = zip_at R xs ys place x all.1 at
