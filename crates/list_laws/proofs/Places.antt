-- What stands at a place of a list.
use Rattle.std.proofs.Common.{Option, None, ◌≡◌, ◌≢◌, ◌∙◌, ◌⊎◌, inl, inr, ℕ, zero, suc, ◌+◌, ◌<◌, List, [], ◌∷◌, ◌++◌, map, length, get_or, set, take, drop, replicate, refl, ap, sym, arith, Some, slice_get}
use Rattle.std.specs.List.{filter_map, cons_option}
use Rattle.std.proofs.lemmas.List.{drop_more, take_more, take-append-drop}
use Rattle.std.specs.Prelude.{option_map, unwrap_or}
use Rattle.std.proofs.lemmas.Option.{slice_get-map, slice_get-get_or, slice_get_within, get_or_from_slice_get, none-some, same_Some}

-- a place below the next one is below this one, or is this one
pub cases_below : (place end : ℕ) → place < end + 1 → (place < end) ⊎ (place ≡ end)
cases_below place end below = grind arith

pub get_some : {A : Type 0} (xs : List A) (k : ℕ) → k < length xs → (x : A) × (slice_get xs k ≡ Some x)
get_some [] k within = absurd (omega arith)
get_some (x ∷ xs) zero within = (x, refl)
get_some (x ∷ xs) (suc k) within = get_some xs k (omega arith)

-- ---- joined lists

pub get_front : {A : Type 0} (xs ys : List A) (k : ℕ) (x : A) → slice_get xs k ≡ Some x → slice_get (xs ++ ys) k ≡ Some x
get_front [] ys k x is = absurd (none-some x is)
get_front (y ∷ xs) ys zero x is = is
get_front (y ∷ xs) ys (suc k) x is = get_front xs ys k x is

pub get_past : {A : Type 0} (xs ys : List A) (k : ℕ) → slice_get (xs ++ ys) (length xs + k) ≡ slice_get ys k
get_past [] ys k = let e : 0 + k ≡ k = omega arith in rw e refl
get_past (x ∷ xs) ys k = let e : suc (length xs) + k ≡ suc (length xs + k) = omega arith in rw e (get_past xs ys k)

pub get_middle : {A : Type 0} (before : List A) (x : A) (after : List A) → slice_get (before ++ x ∷ after) (length before) ≡ Some x
get_middle [] x after = refl
get_middle (y ∷ before) x after = get_middle before x after

pub get_pushed : {A : Type 0} (xs : List A) (y : A) (k : ℕ) (x : A) → slice_get (xs ++ y ∷ []) k ≡ Some x
    → (slice_get xs k ≡ Some x) ⊎ (x ≡ y)
get_pushed [] y zero x is = inr (cc)
get_pushed [] y (suc k) x is = absurd (none-some x is)
get_pushed (z ∷ xs) y zero x is = inl is
get_pushed (z ∷ xs) y (suc k) x is = get_pushed xs y k x is

pub get_last : {A : Type 0} (xs : List A) (x : A) → slice_get (xs ++ x ∷ []) (length xs) ≡ Some x
get_last xs x = get_middle xs x []

-- what stands in joined lists stands in the first, or further on in the second
pub get_joined : {A : Type 0} (xs ys : List A) (k : ℕ) (x : A) → slice_get (xs ++ ys) k ≡ Some x
    → (slice_get xs k ≡ Some x) ⊎ ((j : ℕ) × (length xs + j ≡ k) × (slice_get ys j ≡ Some x))
get_joined [] ys k x is = inr (k, omega arith, is)
get_joined (z ∷ xs) ys zero x is = inl is
get_joined (z ∷ xs) ys (suc k) x is = elim (get_joined xs ys k x is) [
  | inl front ↦ inl front
  | inr back ↦ (let e = back.1 in inr (back.0, omega arith, back.2))
]

pub pushed_cases : {A : Type 0} (xs : List A) (y : A) (k : ℕ) (x : A) → slice_get (xs ++ y ∷ []) k ≡ Some x
    → (slice_get xs k ≡ Some x) ⊎ ((k ≡ length xs) × (y ≡ x))
pushed_cases [] y zero x is = inr (refl, same_Some y x is)
pushed_cases [] y (suc k) x is = absurd (none-some x is)
pushed_cases (z ∷ xs) y zero x is = inl is
pushed_cases (z ∷ xs) y (suc k) x is = elim (pushed_cases xs y k x is) [
  | inl earlier ↦ inl earlier
  | inr last ↦ inr (ap suc last.0, last.1)
]

-- a list is empty or ends with an element
pub split_last : {A : Type 0} (xs : List A) → (xs ≡ []) ⊎ ((front : List A) × (last : A) × (xs ≡ front ++ last ∷ []))
split_last [] = inl refl
split_last {A} (x ∷ xs) = elim (split_last xs) [
  | inl none ↦ inr ([], x, ap (λ (ys : List A). x ∷ ys) none)
  | inr some ↦ inr (x ∷ some.0, some.1, ap (λ (ys : List A). x ∷ ys) some.2)
]

-- ---- a part of a list

-- none of a list, and all of it
pub take_none : {A : Type 0} (xs : List A) → take 0 xs ≡ []
take_none [] = refl
take_none (x ∷ xs) = refl

pub drop_none : {A : Type 0} (xs : List A) → drop 0 xs ≡ xs
drop_none [] = refl
drop_none (x ∷ xs) = refl

pub drop_nil : {A : Type 0} (n : ℕ) → drop {A = A} n [] ≡ []
drop_nil zero = refl
drop_nil (suc n) = refl

pub drop_whole : {A : Type 0} (xs : List A) → drop (length xs) xs ≡ []
drop_whole [] = refl
drop_whole (x ∷ xs) = drop_whole xs

pub drop_past : {A : Type 0} (xs : List A) (k : ℕ) → slice_get xs k ≡ None → drop k xs ≡ []
drop_past [] k none = drop_nil k
drop_past (x ∷ xs) zero none = absurd (none-some x (sym none))
drop_past (x ∷ xs) (suc k) none = drop_past xs k none

pub drop_map : {A B : Type 0} (f : A → B) (count : ℕ) (xs : List A) → drop count (map f xs) ≡ map f (drop count xs)
drop_map f zero xs = refl
drop_map f (suc count) [] = refl
drop_map f (suc count) (x ∷ xs) = drop_map f count xs

pub get_dropped : {A : Type 0} (xs : List A) (n k : ℕ) → slice_get (drop n xs) k ≡ slice_get xs (n + k)
get_dropped xs zero k = let same : 0 + k ≡ k = omega arith in rw same refl
get_dropped [] (suc n) k = refl
get_dropped (x ∷ xs) (suc n) k = let same : suc n + k ≡ suc (n + k) = omega arith in rw same (get_dropped xs n k)

-- the element at a place of a part is one of the list
pub take_back : {A : Type 0} (n : ℕ) (xs : List A) (k : ℕ) (x : A) → slice_get (take n xs) k ≡ Some x → (k < n) × (slice_get xs k ≡ Some x)
take_back zero xs k x at = absurd (none-some x at)
take_back (suc n) [] k x at = absurd (none-some x at)
take_back (suc n) (y ∷ ys) zero x at = (omega arith, at)
take_back (suc n) (y ∷ ys) (suc k) x at = (let more = take_back n ys k x at in (omega (arith, more.0), more.1))

-- what a rest begins with
pub drop_first : {A : Type 0} (xs : List A) (k : ℕ) (x : A) (rest : List A) → drop k xs ≡ x ∷ rest → (slice_get xs k ≡ Some x) × (drop (k + 1) xs ≡ rest)
drop_first [] zero x rest is = absurd cc
drop_first [] (suc k) x rest is = absurd cc
drop_first (y ∷ xs) zero x rest is =
    let same : y ≡ x = cc in
    let behind : xs ≡ rest = cc in
    (ap (λ z. Some z) same, behind)
drop_first (y ∷ xs) (suc k) x rest is =
    let found = drop_first xs k x rest is in
    let further : suc k + 1 ≡ suc (k + 1) = omega arith in
    (found.0, ap (λ n. drop n (y ∷ xs)) further ∙ found.1)

pub take_item : {A : Type 0} (xs : List A) (k : ℕ) (x : A) → k < length xs → x ≡ get_or xs k x → take (k + 1) xs ≡ take k xs ++ x ∷ []
take_item xs k x below is = take_more xs k x below ∙ ap (λ y. take k xs ++ y ∷ []) (sym is)

pub get_taken : {A : Type 0} (xs : List A) (j k : ℕ) → j < k → slice_get (take k xs) j ≡ slice_get xs j
get_taken xs j zero below = absurd (omega arith)
get_taken [] j (suc k) below = refl
get_taken (x ∷ xs) zero (suc k) below = refl
get_taken (x ∷ xs) (suc j) (suc k) below = get_taken xs j k (omega arith)

pub drop_item : {A : Type 0} (xs : List A) (k : ℕ) (x : A) → k < length xs → x ≡ get_or xs k x → drop k xs ≡ x ∷ drop (k + 1) xs
drop_item xs k x below is = drop_more xs k x below ∙ ap (λ y. y ∷ drop (k + 1) xs) (sym is)

pub drop_at : {A : Type 0} (xs : List A) (k : ℕ) (x : A) → slice_get xs k ≡ Some x → drop k xs ≡ x ∷ drop (k + 1) xs
drop_at xs k x at = drop_item xs k x (slice_get_within xs k x at) (sym (get_or_from_slice_get xs k x x at))

pub split_at : {A : Type 0} (xs : List A) (k : ℕ) (x : A) → slice_get xs k ≡ Some x → xs ≡ take k xs ++ x ∷ drop (k + 1) xs
split_at xs k x at = sym (take-append-drop k xs) ∙ ap (λ ys. take k xs ++ ys) (drop_at xs k x at)

-- ---- a list of copies, of images, and after a write

pub get_replicate : {A : Type 0} (n k : ℕ) (x : A) → k < n → slice_get (replicate n x) k ≡ Some x
get_replicate zero k x below = absurd (omega arith)
get_replicate (suc n) zero x below = refl
get_replicate (suc n) (suc k) x below = get_replicate n k x (omega arith)

pub get_filled : {A : Type 0} (count : ℕ) (y : A) (k : ℕ) (x : A) → slice_get (replicate count y) k ≡ Some x → x ≡ y
get_filled zero y k x is = absurd (none-some x is)
get_filled (suc count) y zero x is = cc
get_filled (suc count) y (suc k) x is = get_filled count y k x is

pub get_map : {A B : Type 0} (f : A → B) (xs : List A) (k : ℕ) (x : A) → slice_get xs k ≡ Some x → slice_get (map f xs) k ≡ Some (f x)
get_map f [] k x is = absurd (none-some x is)
get_map {A} f (y ∷ ys) zero x is = ap (λ (z : A). Some (f z)) (same_Some y x is)
get_map f (y ∷ ys) (suc k) x is = get_map f ys k x is

-- what a place of a list of images comes from
pub record Mapped {A B : Type 0} (f : A → B) (xs : List A) (k : ℕ) (y : B) : Type 0 where
  pub before : A
  pub stands : slice_get xs k ≡ Some before
  pub is : y ≡ f before

pub map_back : {A B : Type 0} (f : A → B) (xs : List A) (k : ℕ) (y : B) → slice_get (map f xs) k ≡ Some y → Mapped f xs k y
map_back f [] k y is = absurd (none-some y is)
map_back f (x ∷ xs) zero y is = record { before = x; stands = refl; is = sym (same_Some (f x) y is) }
map_back f (x ∷ xs) (suc k) y is = let m = map_back f xs k y is in record { before = m.before; stands = m.stands; is = m.is }

pub get_written : {A : Type 0} (xs : List A) (k : ℕ) (x y : A) → slice_get xs k ≡ Some x → slice_get (set xs k y) k ≡ Some y
get_written [] k x y is = absurd (none-some x is)
get_written (z ∷ xs) zero x y is = refl
get_written (z ∷ xs) (suc k) x y is = get_written xs k x y is

pub get_own : {A : Type 0} (xs : List A) (k : ℕ) (x : A) → k < length xs → slice_get (set xs k x) k ≡ Some x
get_own xs k x within = let had = get_some xs k within in get_written xs k had.0 x had.1

-- what stands anywhere stays when the same is written
pub get_kept : {A : Type 0} (xs : List A) (j k : ℕ) (x : A) → slice_get xs k ≡ Some x → slice_get (set xs j x) k ≡ Some x
get_kept [] j k x is = is
get_kept (y ∷ xs) zero zero x is = refl
get_kept (y ∷ xs) zero (suc k) x is = is
get_kept (y ∷ xs) (suc j) zero x is = is
get_kept (y ∷ xs) (suc j) (suc k) x is = get_kept xs j k x is

pub get_set : {A : Type 0} (xs : List A) (j k : ℕ) (y x : A) → slice_get (set xs j y) k ≡ Some x
    → ((k ≢ j) × (slice_get xs k ≡ Some x)) ⊎ ((k ≡ j) × (x ≡ y))
get_set [] j k y x is = absurd (none-some x is)
get_set (z ∷ xs) zero zero y x is = inr (refl, cc)
get_set (z ∷ xs) zero (suc k) y x is = inl (λ same. omega (arith, same), is)
get_set (z ∷ xs) (suc j) zero y x is = inl (λ same. omega (arith, same), is)
get_set (z ∷ xs) (suc j) (suc k) y x is =
    elim (get_set xs j k y x is) [
      | inl old ↦ inl (λ same. old.0 (omega (arith, same)), old.1)
      | inr new ↦ inr (ap suc new.0, new.1)
    ]

pub set_twice : {A : Type 0} (xs : List A) (k : ℕ) (x y : A) → set (set xs k x) k y ≡ set xs k y
set_twice [] k x y = refl
set_twice (z ∷ xs) zero x y = refl
set_twice (z ∷ xs) (suc k) x y = ap (λ rest. z ∷ rest) (set_twice xs k x y)

pub set_again : {A : Type 0} (xs : List A) (j k : ℕ) (x y : A) → set (set (set xs j x) k y) j x ≡ set (set xs k y) j x
set_again [] j k x y = refl
set_again (z ∷ xs) zero zero x y = refl
set_again (z ∷ xs) zero (suc k) x y = refl
set_again (z ∷ xs) (suc j) zero x y = ap (λ rest. y ∷ rest) (set_twice xs j x x)
set_again (z ∷ xs) (suc j) (suc k) x y = ap (λ rest. z ∷ rest) (set_again xs j k x y)

pub take_set : {A : Type 0} (n k : ℕ) (xs : List A) (x : A) → k < n → take n (set xs k x) ≡ set (take n xs) k x
take_set zero k xs x below = absurd (omega arith)
take_set (suc n) k [] x below = refl
take_set (suc n) zero (y ∷ xs) x below = refl
take_set (suc n) (suc k) (y ∷ xs) x below = ap (λ rest. y ∷ rest) (take_set n k xs x (omega arith))

pub drop_set : {A : Type 0} (n k : ℕ) (xs : List A) (x : A) → k < n → drop n (set xs k x) ≡ drop n xs
drop_set zero k xs x below = absurd (omega arith)
drop_set (suc n) k [] x below = refl
drop_set (suc n) zero (y ∷ xs) x below = refl
drop_set (suc n) (suc k) (y ∷ xs) x below = drop_set n k xs x (omega arith)

pub take_set_behind : {A : Type 0} (n k : ℕ) (xs : List A) (x : A) → take n (set xs (n + k) x) ≡ take n xs
take_set_behind zero k xs x = refl
take_set_behind (suc n) k [] x = refl
take_set_behind (suc n) k (y ∷ xs) x = let e : suc n + k ≡ suc (n + k) = omega arith in rw e (ap (λ rest. y ∷ rest) (take_set_behind n k xs x))

pub drop_set_behind : {A : Type 0} (n k : ℕ) (xs : List A) (x : A) → drop n (set xs (n + k) x) ≡ set (drop n xs) k x
drop_set_behind zero k xs x = let e : 0 + k ≡ k = omega arith in rw e refl
drop_set_behind (suc n) k [] x = refl
drop_set_behind (suc n) k (y ∷ xs) x = let e : suc n + k ≡ suc (n + k) = omega arith in rw e (drop_set_behind n k xs x)

-- ---- a list of the images that there are

-- an item from which a `filter_map` has its element
pub record FromItem {A B : Type 0} (h : A → Option B) (xs : List A) (y : B) : Type 0 where
  pub place : ℕ
  pub item : A
  pub stands : slice_get xs place ≡ Some item
  pub gives : h item ≡ Some y

item_later : {A B : Type 0} (h : A → Option B) (x : A) (xs : List A) (y : B) → FromItem h xs y → FromItem h (x ∷ xs) y
item_later h x xs y from = record { place = suc from.place; item = from.item; stands = from.stands; gives = from.gives }

item_cases : {A B : Type 0} (h : A → Option B) (x : A) (xs : List A) (y : B) (given : Option B) → h x ≡ given
    → ((k : ℕ) → slice_get (filter_map h xs) k ≡ Some y → FromItem h xs y)
    → (k : ℕ) → slice_get (cons_option given (filter_map h xs)) k ≡ Some y → FromItem h (x ∷ xs) y
item_cases h x xs y None gives rest k is = item_later h x xs y (rest k is)
item_cases h x xs y (Some z) gives rest zero is = record { place = 0; item = x; stands = refl; gives = gives ∙ is }
item_cases h x xs y (Some z) gives rest (suc k) is = item_later h x xs y (rest k is)

pub filter_map_back : {A B : Type 0} (h : A → Option B) (xs : List A) (y : B) (k : ℕ) → slice_get (filter_map h xs) k ≡ Some y
    → FromItem h xs y
filter_map_back h [] y k is = absurd (none-some y is)
filter_map_back h (x ∷ xs) y k is = item_cases h x xs y (h x) refl (λ j at. filter_map_back h xs y j at) k is

given_here : {A B : Type 0} (h : A → Option B) (x : A) (xs : List A) (y : B) (given : Option B) → given ≡ Some y
    → (k : ℕ) × (slice_get (cons_option given (filter_map h xs)) k ≡ Some y)
given_here h x xs y None is = absurd (none-some y is)
given_here h x xs y (Some z) is = (0, is)

given_later : {A B : Type 0} (h : A → Option B) (xs : List A) (y : B) (given : Option B) (k : ℕ) → slice_get (filter_map h xs) k ≡ Some y
    → (k : ℕ) × (slice_get (cons_option given (filter_map h xs)) k ≡ Some y)
given_later h xs y None k is = (k, is)
given_later h xs y (Some z) k is = (suc k, is)

-- an item gives an element of a `filter_map`
pub filter_map_forth : {A B : Type 0} (h : A → Option B) (xs : List A) (place : ℕ) (x : A) (y : B) → slice_get xs place ≡ Some x
    → h x ≡ Some y → (k : ℕ) × (slice_get (filter_map h xs) k ≡ Some y)
filter_map_forth h [] place x y at gives = absurd (none-some x at)
filter_map_forth h (first ∷ xs) zero x y at gives = given_here h first xs y (h first) (ap h (same_Some first x at) ∙ gives)
filter_map_forth h (first ∷ xs) (suc place) x y at gives =
    let rest = filter_map_forth h xs place x y at gives in
    given_later h xs y (h first) rest.0 rest.1

pub take_whole : {A : Type 0} (xs : List A) → take (length xs) xs ≡ xs
take_whole [] = refl
take_whole (x ∷ xs) = ap (λ rest. x ∷ rest) (take_whole xs)

pub take_front_of : {A : Type 0} (front back : List A) → take (length front) (front ++ back) ≡ front
take_front_of [] back = refl
take_front_of (x ∷ front) back = ap (λ rest. x ∷ rest) (take_front_of front back)

pub get_read : {A : Type 0} (xs : List A) (at : ℕ) (x : A) → at < length xs → x ≡ get_or xs at x → slice_get xs at ≡ Some x
get_read xs at x below is = slice_get-get_or xs at x below ∙ ap Some (sym is)

pub map_append : {A B : Type 0} (f : A → B) (xs ys : List A) → map f (xs ++ ys) ≡ map f xs ++ map f ys
map_append f [] ys = refl
map_append f (x ∷ xs) ys = ap (λ more. f x ∷ more) (map_append f xs ys)

pub map_map : {A B C : Type 0} (f : B → C) (view : A → B) (xs : List A) → map f (map view xs) ≡ map (λ x. f (view x)) xs
map_map f view [] = refl
map_map f view (x ∷ xs) = ap (λ rest. f (view x) ∷ rest) (map_map f view xs)

pub seen_at : {X Y : Type 0} (f : X → Y) (xs : List X) (i : ℕ) (x : X) → i < length xs → x ≡ get_or xs i x → slice_get (map f xs) i ≡ Some (f x)
seen_at f xs i x below is = slice_get-map f xs i ∙ ap (option_map f) (slice_get-get_or xs i x below ∙ ap Some (sym is))

pub set_none : {X : Type 0} (xs : List (Option X)) (i : ℕ) → unwrap_or (slice_get xs i) None ≡ None → set xs i None ≡ xs
set_none [] i e = refl
set_none {X = X} (x ∷ xs) zero e = ap (λ (first : Option X). first ∷ xs) (sym e)
set_none (x ∷ xs) (suc i) e = ap (λ rest. x ∷ rest) (set_none xs i e)
