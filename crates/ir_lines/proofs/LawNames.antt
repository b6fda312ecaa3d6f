-- Names and the places that they stand for.
use Rattle.std.proofs.Common.{◌≡◌, ◌∙◌, ◌⊎◌, inl, inr, ℕ, zero, suc, ◌-◌, ◌^◌, ◌<◌, Bool, true, false, cond, List, [], ◌∷◌, ◌++◌, map, length, take, drop, refl, ap, sym, subst, arith, add-one}
use Rattle.std.specs.Prelude.{Some, is_none, position, find, filter, slice_get, option_map, nat_lt, min, ⊤}
use Rattle.std.specs.List.{Contains, position_or_len}
use Rattle.std.specs.Str.{bytes_eq}
use Rattle.std.proofs.lemmas.Bool.Decides.{nat_tests}
use Rattle.std.proofs.lemmas.Option.{slice_get-map, slice_get_within, same_Some}
use Rattle.std.proofs.lemmas.List.{length-map}
use Rattle.ir_ast.specs.Lists.{Distinct}
use Rattle.ir_lines.specs.Places.{place_in, number_of, number_in}
use Rattle.ir_lines.specs.InBody.{Repeats}
use Rattle.list_laws.proofs.Places
pub use Rattle.list_laws.proofs.Places.{get_some, get_taken}
pub use Rattle.list_laws.proofs.Contents.{contains_get, get_contained, contains_first, contains_later, contains_cons, contains_middle, contains_map, same_bytes}

pub position-cons : {X : Type 0} (p : X → Bool) (x : X) (xs : List X)
    → position p (x ∷ xs) ≡ cond (p x) (Some 0) (option_map suc (position p xs))
position-cons {X} p x xs = by (p x) refl (nat_lt (position_or_len p xs) (length xs)) refl
  where
    by : (b : Bool) → p x ≡ b → (c : Bool) → nat_lt (position_or_len p xs) (length xs) ≡ c
        → position p (x ∷ xs) ≡ cond (p x) (Some 0) (option_map suc (position p xs))
    by true e c f = grind (arith, nat_tests, e, f)
    by false e c f = grind (arith, nat_tests, e, f)

-- the name is that of an element, which is the first of the name
pub record Stands {X : Type 0} (f : X → List ℕ) (xs : List X) (name : List ℕ) : Type 0 where
  pub place : ℕ
  pub one : X
  pub placed : place_in (map f xs) name ≡ Some place
  pub there : slice_get xs place ≡ Some one
  pub found : find (λ x. bytes_eq name (f x)) xs ≡ Some one
  pub same : f one ≡ name

pub stands : {X : Type 0} (f : X → List ℕ) (xs : List X) (name : List ℕ)
    → is_none (find (λ x. bytes_eq name (f x)) xs) ≡ false → Stands f xs name
stands f [] name e = absurd (let bad : true ≡ false = e in cc)
stands {X} f (x ∷ xs) name e = by (bytes_eq name (f x)) refl (stands f xs name)
  where
    by : (b : Bool) → bytes_eq name (f x) ≡ b → (is_none (find (λ x. bytes_eq name (f x)) xs) ≡ false → Stands f xs name)
        → Stands f (x ∷ xs) name
    by true is ih = record {
      place = 0;
      one = x;
      placed = position-cons (bytes_eq name) (f x) (map f xs)
          ∙ ap (λ (b : Bool). cond b (Some 0) (option_map suc (place_in (map f xs) name))) is;
      there = refl;
      found = ap (λ (b : Bool). cond b (Some x) (find (λ y. bytes_eq name (f y)) xs)) is;
      same = sym (same_bytes name (f x) is);
    }
    by false is ih =
        let skip : find (λ y. bytes_eq name (f y)) (x ∷ xs) ≡ find (λ y. bytes_eq name (f y)) xs =
        ap (λ (b : Bool). cond b (Some x) (find (λ y. bytes_eq name (f y)) xs)) is in
        let more = ih (sym (ap (is_none {T = X}) skip) ∙ e) in
        record {
          place = suc more.place;
          one = more.one;
          placed = position-cons (bytes_eq name) (f x) (map f xs)
              ∙ ap (λ (b : Bool). cond b (Some 0) (option_map suc (place_in (map f xs) name))) is
              ∙ ap (option_map suc) more.placed;
          there = more.there;
          found = skip ∙ more.found;
          same = more.same;
        }

pub stands_below : {X : Type 0} (f : X → List ℕ) (xs : List X) (name : List ℕ) (s : Stands f xs name) → s.place < length xs
stands_below f xs name s = slice_get_within xs s.place s.one s.there

pub number-is : {X : Type 0} (f : X → List ℕ) (xs : List X) (name : List ℕ) (s : Stands f xs name) → length xs < 2 ^ 32
    → number_in (map f xs) name ≡ s.place
number-is f xs name s few =
    let below = stands_below f xs name s in
    ap number_of s.placed ∙ (let e : min s.place (2 ^ 32 - 1) ≡ s.place = omega arith in e)

-- the place of `list_laws`, with what stands behind it
pub split_at : {A : Type 0} (xs : List A) (k : ℕ) (x : A) → slice_get xs k ≡ Some x → xs ≡ take k xs ++ x ∷ drop (suc k) xs
split_at xs k x at = Places.split_at xs k x at ∙ ap (λ n. take k xs ++ x ∷ drop n xs) (add-one k)

-- ---- names that stand once

pub distinct-once : {X : Type 0} (xs : List X) (line : X → ℕ) (name : X → List ℕ)
    → ((n : ℕ) → ¬ (Repeats (map (λ x. (line x, name x)) xs) n)) → Distinct (map name xs)
distinct-once {X} xs line name once = λ j k below within same.
    let inside : k < length xs = omega (arith, length-map xs name) in
    let later = get_some xs k inside in
    let first = get_some xs j (omega arith) in
    let pair : X → ℕ × List ℕ = λ x. (line x, name x) in
    let pairs = map pair xs in
    let names_same : name first.0 ≡ name later.0 =
    same_Some (name first.0) (name later.0)
    (sym (slice_get-map name xs j ∙ ap (option_map name) first.1) ∙ same ∙ (slice_get-map name xs k ∙ ap (option_map name) later.1)) in
    let at_j : slice_get (take k pairs) j ≡ Some (pair first.0) =
    get_taken pairs j k below ∙ slice_get-map pair xs j ∙ ap (option_map pair) first.1 in
    let told : Repeats pairs (line later.0) = record {
      before = take k pairs;
      what = name later.0;
      after = drop (suc k) pairs;
      whole = split_at pairs k (pair later.0) (slice_get-map pair xs k ∙ ap (option_map pair) later.1);
      again = subst (λ (n : List ℕ). Contains (map (λ (one : ℕ × List ℕ). one.1) (take k pairs)) n) names_same
          (contains_map (λ (one : ℕ × List ℕ). one.1) (take k pairs) (pair first.0) (contains_get (take k pairs) j (pair first.0) at_j));
    } in once (line later.0) told

pub same_place : {A : Type 0} (xs : List A) (j k : ℕ) → Distinct xs → j < length xs → k < length xs → slice_get xs j ≡ slice_get xs k → j ≡ k
same_place xs j k distinct below within e =
    let not_before : ¬ (j < k) = λ less. distinct j k less within e in
    let not_behind : ¬ (k < j) = λ less. distinct k j less below (sym e) in
    omega arith

-- elements of one name are one
pub same_by_name : {X : Type 0} (name : X → List ℕ) (xs : List X) (x y : X) → Distinct (map name xs) → Contains xs x → Contains xs y
    → name x ≡ name y → x ≡ y
same_by_name name xs x y distinct cx cy e =
    let gx = get_contained xs x cx in
    let gy = get_contained xs y cy in
    let nx : slice_get (map name xs) gx.0 ≡ Some (name x) = slice_get-map name xs gx.0 ∙ ap (option_map name) gx.1 in
    let ny : slice_get (map name xs) gy.0 ≡ Some (name y) = slice_get-map name xs gy.0 ∙ ap (option_map name) gy.1 in
    let at : gx.0 ≡ gy.0 = same_place (map name xs) gx.0 gy.0 distinct (slice_get_within (map name xs) gx.0 (name x) nx)
    (slice_get_within (map name xs) gy.0 (name y) ny) (nx ∙ ap Some e ∙ sym ny) in
    same_Some x y (sym gx.1 ∙ ap (slice_get xs) at ∙ gy.1)

abbrev pub Apart : List (List ℕ) → Type 0
Apart [] = ⊤
Apart (x ∷ xs) = (¬ (Contains xs x)) × Apart xs

pub apart-distinct : (xs : List (List ℕ)) → Distinct xs → Apart xs
apart-distinct [] distinct = tt
apart-distinct (x ∷ xs) distinct = (
  λ c. let g = get_contained xs x c in
      distinct 0 (suc g.0) (omega arith) (let w = slice_get_within xs g.0 x g.1 in omega arith) (sym g.1),
  apart-distinct xs (λ j k below within e. distinct (suc j) (suc k) (omega arith) (omega arith) e),
)

pub distinct-apart : (xs : List (List ℕ)) → Apart xs → Distinct xs
distinct-apart [] apart j k below within e = omega arith
distinct-apart (x ∷ xs) apart j zero below within e = omega arith
distinct-apart (x ∷ xs) apart zero (suc k) below within e = apart.0 (contains_get xs k x (sym e))
distinct-apart (x ∷ xs) apart (suc j) (suc k) below within e = distinct-apart xs apart.1 j k (omega arith) (omega arith) e

kept_names : {X : Type 0} (p : X → Bool) (name : X → List ℕ) (xs : List X) (n : List ℕ) → Contains (map name (filter p xs)) n → Contains (map name xs) n
kept_names p name [] n c = c
kept_names {X} p name (x ∷ xs) n c = by (p x) refl (kept_names p name xs n)
  where
    with_later : (name x ≡ n) ⊎ Contains (map name (filter p xs)) n → (Contains (map name (filter p xs)) n → Contains (map name xs) n) → Contains (map name (x ∷ xs)) n
    with_later (inl e) ih = subst (λ (m : List ℕ). Contains (name x ∷ map name xs) m) e (contains_first (name x) (map name xs))
    with_later (inr d) ih = contains_later (name x) n (map name xs) (ih d)

    by : (b : Bool) → p x ≡ b → (Contains (map name (filter p xs)) n → Contains (map name xs) n) → Contains (map name (x ∷ xs)) n
    by true e ih = with_later (contains_cons (name x) n (map name (filter p xs))
        (subst (λ (b : Bool). Contains (map name (cond b (x ∷ filter p xs) (filter p xs))) n) e c)) ih
    by false e ih = contains_later (name x) n (map name xs)
        (ih (subst (λ (b : Bool). Contains (map name (cond b (x ∷ filter p xs) (filter p xs))) n) e c))

pub apart-filter : {X : Type 0} (p : X → Bool) (name : X → List ℕ) (xs : List X) → Apart (map name xs) → Apart (map name (filter p xs))
apart-filter p name [] apart = tt
apart-filter {X} p name (x ∷ xs) apart = by (p x) refl (apart-filter p name xs apart.1)
  where
    by : (b : Bool) → p x ≡ b → Apart (map name (filter p xs)) → Apart (map name (filter p (x ∷ xs)))
    by true e ih = subst (λ (b : Bool). Apart (map name (cond b (x ∷ filter p xs) (filter p xs)))) (sym e)
        (λ c. apart.0 (kept_names p name xs (name x) c), ih)
    by false e ih = subst (λ (b : Bool). Apart (map name (cond b (x ∷ filter p xs) (filter p xs)))) (sym e) ih
