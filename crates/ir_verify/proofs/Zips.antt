-- What holds of the elements of two lists, pair by pair.
use Rattle.std.proofs.Common.{◌≡◌, ℕ, zero, suc, ◌+◌, ◌≤◌, ◌-◌, drop, List, [], ◌∷◌, ◌++◌, length, take, replicate, refl, ap, sym, subst, arith, add-one}
use Rattle.std.specs.Prelude.{Some, slice_get, ◌↔◌}
use Rattle.std.specs.List.{All, AllZip}
use Rattle.std.proofs.lemmas.List.{take_all, take-append-drop, length-drop, length-take-le}
use Rattle.std.proofs.lemmas.List.Elements.{All-nil, All-cons, All-head, All-tail, All-more}
use Rattle.std.proofs.lemmas.Option.{none-some, same_Some, slice_get_within, get_or_from_slice_get}

pub zip_at : {A B : Type 0} (R : A → B → Type 0) (xs : List A) (ys : List B) (k : ℕ) (x : A) (y : B) → AllZip R xs ys
    → slice_get xs k ≡ Some x → slice_get ys k ≡ Some y → R x y
zip_at R [] ys k x y all is also = absurd (none-some x is)
zip_at R (w ∷ xs) [] k x y all is also = absurd all
zip_at {A} {B} R (w ∷ xs) (z ∷ ys) zero x y all is also =
    subst (λ (a : A). R a y) (same_Some w x is) (subst (λ (b : B). R w b) (same_Some z y also) all.0)
zip_at R (w ∷ xs) (z ∷ ys) (suc k) x y all is also = zip_at R xs ys k x y all.1 is also

zip_suc : {A B : Type 0} (R : A → B → Type 0) (xs : List A) (ys : List B) (k : ℕ) (x : A) (y : B) → AllZip R (take k xs) (take k ys)
    → slice_get xs k ≡ Some x → slice_get ys k ≡ Some y → R x y → AllZip R (take (suc k) xs) (take (suc k) ys)
zip_suc R [] ys k x y all is also r = absurd (none-some x is)
zip_suc R (w ∷ xs) [] k x y all is also r = absurd (none-some y also)
zip_suc {A} {B} R (w ∷ xs) (z ∷ ys) zero x y all is also r =
    (subst (λ (a : A). R a z) (sym (same_Some w x is)) (subst (λ (b : B). R x b) (sym (same_Some z y also)) r), tt)
zip_suc R (w ∷ xs) (z ∷ ys) (suc k) x y all is also r = (all.0, zip_suc R xs ys k x y all.1 is also r)

pub zip_more : {A B : Type 0} (R : A → B → Type 0) (xs : List A) (ys : List B) (k : ℕ) (x : A) (y : B) → AllZip R (take k xs) (take k ys)
    → slice_get xs k ≡ Some x → slice_get ys k ≡ Some y → R x y → AllZip R (take (k + 1) xs) (take (k + 1) ys)
zip_more R xs ys k x y all is also r =
    subst (λ (n : ℕ). AllZip R (take n xs) (take n ys)) (sym (add-one k)) (zip_suc R xs ys k x y all is also r)

pub zip_all : {A B : Type 0} (R : A → B → Type 0) (xs : List A) (ys : List B) (k : ℕ) → length xs ≤ k → length ys ≤ k
    → AllZip R (take k xs) (take k ys) → AllZip R xs ys
zip_all {A} {B} R xs ys k few also all =
    subst (λ (zs : List A). AllZip R zs ys) (take_all k xs few) (subst (λ (bs : List B). AllZip R (take k xs) bs) (take_all k ys also) all)

-- ---- one partner for all

pub zip_one : {A B : Type 0} (R : A → B → Type 0) (xs : List A) (y : B) → All (λ x. R x y) xs → AllZip R xs (replicate (length xs) y)
zip_one R [] y all = tt
zip_one R (x ∷ xs) y all = (All-head (λ z. R z y) x xs all, zip_one R xs y (All-tail (λ z. R z y) x xs all))

pub one_zip : {A B : Type 0} (R : A → B → Type 0) (xs : List A) (y : B) → AllZip R xs (replicate (length xs) y) → All (λ x. R x y) xs
one_zip R [] y all = All-nil (λ x. R x y)
one_zip R (x ∷ xs) y all = All-cons (λ z. R z y) x xs all.0 (one_zip R xs y all.1)

-- ---- joined lists

pub zip_join : {A B : Type 0} (R : A → B → Type 0) (xs zs : List A) (ys ws : List B) → AllZip R xs ys → AllZip R zs ws
    → AllZip R (xs ++ zs) (ys ++ ws)
zip_join R [] zs [] ws all also = also
zip_join R [] zs (y ∷ ys) ws all also = absurd all
zip_join R (x ∷ xs) zs [] ws all also = absurd all
zip_join R (x ∷ xs) zs (y ∷ ys) ws all also = (all.0, zip_join R xs zs ys ws all.1 also)

pub zip_front : {A B : Type 0} (R : A → B → Type 0) (xs zs : List A) (ys ws : List B) → length xs ≡ length ys → AllZip R (xs ++ zs) (ys ++ ws)
    → AllZip R xs ys
zip_front R [] zs [] ws long all = tt
zip_front R [] zs (y ∷ ys) ws long all = absurd (omega arith)
zip_front R (x ∷ xs) zs [] ws long all = absurd (omega arith)
zip_front R (x ∷ xs) zs (y ∷ ys) ws long all = (all.0, zip_front R xs zs ys ws (omega arith) all.1)

pub zip_back : {A B : Type 0} (R : A → B → Type 0) (xs zs : List A) (ys ws : List B) → length xs ≡ length ys → AllZip R (xs ++ zs) (ys ++ ws)
    → AllZip R zs ws
zip_back R [] zs [] ws long all = all
zip_back R [] zs (y ∷ ys) ws long all = absurd (omega arith)
zip_back R (x ∷ xs) zs [] ws long all = absurd (omega arith)
zip_back R (x ∷ xs) zs (y ∷ ys) ws long all = zip_back R xs zs ys ws (omega arith) all.1

-- ---- one list

pub all_taken : {A : Type 0} (P : A → Type 0) (xs : List A) (k : ℕ) → length xs ≤ k → All P (take k xs) → All P xs
all_taken {A} P xs k few all = subst (λ (zs : List A). All P zs) (take_all k xs few) all

-- ---- partners, and one for the rest

pub zip_rest : {A B : Type 0} (R : A → B → Type 0) (xs : List A) (ys : List B) (y : B) → length ys ≤ length xs
    → AllZip R (take (length ys) xs) ys × All (λ x. R x y) (drop (length ys) xs) ↔ AllZip R xs (ys ++ replicate (length xs - length ys) y)
zip_rest {A} {B} R xs ys y few =
    let front = take (length ys) xs in
    let rest = drop (length ys) xs in
    let copies : List B = replicate (length xs - length ys) y in
    let whole : front ++ rest ≡ xs = take-append-drop (length ys) xs in
    let left : length rest ≡ length xs - length ys = length-drop (length ys) xs in
    let long : length front ≡ length ys = length-take-le (length ys) xs few in
    let same : AllZip R (front ++ rest) (ys ++ copies) ≡ AllZip R xs (ys ++ copies) = ap (λ (zs : List A). AllZip R zs (ys ++ copies)) whole in (
      (λ both. subst (λ (zs : List A). AllZip R zs (ys ++ copies)) whole
          (zip_join R front rest ys copies both.0
          (subst (λ (n : ℕ). AllZip R rest (replicate n y)) left (zip_one R rest y both.1)))),
      (λ all.
          let split : AllZip R (front ++ rest) (ys ++ copies) = subst (λ (zs : List A). AllZip R zs (ys ++ copies)) (sym whole) all in (
            zip_front R front rest ys copies long split,
            one_zip R rest y (subst (λ (n : ℕ). AllZip R rest (replicate n y)) (sym left) (zip_back R front rest ys copies long split)),
          )),
    )

pub all_next : {A : Type 0} (P : A → Type 0) (xs : List A) (k : ℕ) (x : A) → All P (take k xs) → slice_get xs k ≡ Some x → P x
    → All P (take (k + 1) xs)
all_next P xs k x all at p =
    All-more P xs k x (slice_get_within xs k x at) all (subst P (sym (get_or_from_slice_get xs k x x at)) p)
