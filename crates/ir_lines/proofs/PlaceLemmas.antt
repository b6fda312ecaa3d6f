-- Names by their places, and what stands beside them.
use Rattle.std.proofs.Common.{◌≡◌, ◌∙◌, ℕ, ◌+◌, ◌<◌, ◌≤◌, Bool, true, false, cond, List, [], ◌∷◌, ◌++◌, length, get_or, refl, ap, sym, subst, arith, length-append}
use Rattle.std.specs.Prelude.{map, find, position, nat_lt, not, slice_get, option_map, is_none, is_some, IsTrue, ◌↔◌, Option, Some, None}
use Rattle.std.specs.Option.{option_and_then}
use Rattle.std.specs.List.{Contains, prefix_len, position_or_len}
use Rattle.std.specs.Str.{bytes_eq}
use Rattle.std.proofs.lemmas.List.{length-map}
use Rattle.std.proofs.lemmas.List.Folds.{find_at, position_or_len_push}
use Rattle.std.proofs.lemmas.List.Sums.{prefix_len-le-length, prefix_len_passes, prefix_len_stops}
use Rattle.std.proofs.lemmas.Option.{slice_get_past, slice_get-map}
use Rattle.std.proofs.lemmas.Bool.Decides.{nat_tests}
use Rattle.std.proofs.lemmas.Slice.Eq.{bytes_eq-Decides}
use Rattle.ir_lines.specs.Places.{place_in}
use Rattle.ir_lines.specs.Again.{at_name}

pub bytes_eq-self : (name : List ℕ) → bytes_eq name name ≡ true
bytes_eq-self name = (bytes_eq-Decides name name).1 refl

within : {X : Type 0} (p : X → Bool) (xs : List X) → is_none (position p xs) ≡ false → position_or_len p xs < length xs
within p xs e = by (nat_lt (position_or_len p xs) (length xs)) refl
  where
    by : (t : Bool) → nat_lt (position_or_len p xs) (length xs) ≡ t → position_or_len p xs < length xs
    by true is = grind (arith, nat_tests)
    by false is = absurd (let f : true ≡ false = ap (λ t. is_none (cond t (Some (position_or_len p xs)) None)) (sym is) ∙ e in cc)

pub place-contains : (names : List (List ℕ)) (name : List ℕ) → is_none (place_in names name) ≡ false → Contains names name
place-contains names name e =
    let p = λ (other : List ℕ). bytes_eq name other in
    let below : position_or_len p names < length names = within p names e in
    let stops : not (bytes_eq name (get_or names (position_or_len p names) name)) ≡ false
    = prefix_len_stops (λ (other : List ℕ). not (bytes_eq name other)) names name below in
    (position_or_len p names, below, sym ((bytes_eq-Decides name (get_or names (position_or_len p names) name)).0 (not-false (bytes_eq name (get_or names (position_or_len p names) name)) stops)))
  where
    not-false : (b : Bool) → not b ≡ false → b ≡ true
    not-false true e = refl
    not-false false e = let bad : true ≡ false = e in cc

pub contains-place : (names : List (List ℕ)) (name : List ℕ) → Contains names name → is_none (place_in names name) ≡ false
contains-place names name c = by (nat_lt (position_or_len (λ other. bytes_eq name other) names) (length names)) refl
  where
    by : (t : Bool) → nat_lt (position_or_len (λ other. bytes_eq name other) names) (length names) ≡ t → is_none (place_in names name) ≡ false
    by true is = ap (λ t. is_none (cond t (Some (position_or_len (λ other. bytes_eq name other) names)) None)) is
    by false is = absurd (
        let least : c.0 < prefix_len (λ other. not (bytes_eq name other)) names = (let b : c.0 < length names = c.1 in grind (arith, nat_tests)) in
        let passes : not (bytes_eq name (get_or names c.0 name)) ≡ true
        = prefix_len_passes (λ (other : List ℕ). not (bytes_eq name other)) names c.0 name least in
        let same : not (bytes_eq name name) ≡ true = subst (λ (other : List ℕ). not (bytes_eq name other) ≡ true) c.2 passes in
        let bad : false ≡ true = ap not (sym (bytes_eq-self name)) ∙ same in cc)

-- ---- one more name

pub position_push : {X : Type 0} (p : X → Bool) (xs : List X) (y : X)
    → position p (xs ++ y ∷ []) ≡ cond (is_some (position p xs)) (position p xs) (cond (p y) (Some (length xs)) None)
position_push {X} p xs y = grind (arith, nat_tests, position_or_len_push p xs y, length-append xs (y ∷ []), prefix_len-le-length {X = X})

-- ---- whether a name is one of others

not-none : (found : Option ℕ) → is_some found ≡ true → is_none found ≡ false
not-none (Some place) e = refl
not-none None e = let bad : false ≡ true = e in cc

some-not : (found : Option ℕ) → is_none found ≡ false → is_some found ≡ true
some-not (Some place) e = refl
some-not None e = let bad : true ≡ false = e in cc

pub is-one : (names : List (List ℕ)) (name : List ℕ) (found : Option ℕ) (r : Bool) → found ≡ place_in names name → r ≡ is_some found
    → (IsTrue r ↔ Contains names name)
is-one names name found r at is = (
  (λ t. place-contains names name (not-none (place_in names name) (ap is_some (sym at) ∙ sym is ∙ t))),
  (λ c. is ∙ ap is_some at ∙ some-not (place_in names name) (contains-place names name c)),
)

-- ---- what stands beside the first of a name

at-place : {X Y : Type 0} (p : X → Bool) (xs : List X) (ys : List Y) → length xs ≡ length ys
    → option_and_then (slice_get ys) (position p xs) ≡ slice_get ys (position_or_len p xs)
at-place {X} {Y} p xs ys same = by (nat_lt (position_or_len p xs) (length xs)) refl
  where
    by : (t : Bool) → nat_lt (position_or_len p xs) (length xs) ≡ t
        → option_and_then (slice_get ys) (position p xs) ≡ slice_get ys (position_or_len p xs)
    by true is = ap (λ t. option_and_then (slice_get ys) (cond t (Some (position_or_len p xs)) None)) is
    by false is =
        let past : length ys ≤ position_or_len p xs = grind (arith, nat_tests) in
        ap (λ t. option_and_then (slice_get ys) (cond t (Some (position_or_len p xs)) None)) is ∙ sym (slice_get_past ys (position_or_len p xs) past)

place-map : {X Y : Type 0} (p : Y → Bool) (f : X → Y) (xs : List X) → position_or_len p (map f xs) ≡ position_or_len (λ x. p (f x)) xs
place-map p f [] = refl
place-map p f (x ∷ xs) = ap (λ (n : ℕ). cond (not (p (f x))) (1 + n) 0) (place-map p f xs)

-- by the names of records: what is beside the first record of the name
pub at-name : {X Y : Type 0} (name_of : X → List ℕ) (beside : X → Y) (xs : List X) (name : List ℕ)
    → at_name (map name_of xs) (map beside xs) name ≡ option_map beside (find (λ x. bytes_eq name (name_of x)) xs)
at-name name_of beside xs name =
    at-place (λ other. bytes_eq name other) (map name_of xs) (map beside xs) (length-map xs name_of ∙ sym (length-map xs beside))
    ∙ ap (slice_get (map beside xs)) (place-map (λ other. bytes_eq name other) name_of xs)
    ∙ slice_get-map beside xs (position_or_len (λ x. bytes_eq name (name_of x)) xs)
    ∙ ap (option_map beside) (sym (find_at (λ x. bytes_eq name (name_of x)) xs))
