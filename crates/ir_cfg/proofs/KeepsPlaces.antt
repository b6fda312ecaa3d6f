-- What stands where in a list of which the marked elements are kept.
use Rattle.std.proofs.Common.{◌≡◌, ℕ, zero, suc, ◌<◌, ◌≤◌, ◌+◌, Bool, true, false, cond, List, [], ◌∷◌, ◌++◌, length, get_or, take, map, replicate, refl, ap, sym, arith, Some, slice_get, inl, inr, ◌⊎◌, ◌∙◌}
use Rattle.std.specs.List.{All, filter, count_by, range_with_len}
use Rattle.std.proofs.lemmas.List.{get_or-map, length-append}
use Rattle.std.proofs.lemmas.List.Sums.{sum_by-cons}
use Rattle.std.proofs.lemmas.List.FromFn.{get_or-range_with_len, length-range_with_len}
use Rattle.std.proofs.lemmas.Option.{slice_get_within, none-some, same_Some}
use Rattle.std.proofs.lemmas.Bool.{cases_lt, false≢true}
use Rattle.list_laws.proofs.Places.{get_map, get_some}
use Rattle.list_laws.proofs.Contents.{all_at, all_from_at}
use Rattle.ir_ast.specs.Lists.{Distinct}
use Rattle.graph_search.specs.Paths.{Marked}
use Rattle.ir_cfg.specs.Unreached.{kept_of, new_numbers}

pub take_past : {A : Type 0} (xs ys : List A) (k : ℕ) → take (length xs + k) (xs ++ ys) ≡ xs ++ take k ys
take_past [] ys k = let e : 0 + k ≡ k = omega arith in rw e refl
take_past (x ∷ xs) ys k =
    let e : suc (length xs) + k ≡ suc (length xs + k) = omega arith in
    rw e (ap (λ zs. x ∷ zs) (take_past xs ys k))

pub map_through : {A B C : Type 0} (f : B → C) (g : A → B) (h : A → C) → ((x : A) → f (g x) ≡ h x) → (xs : List A)
    → map f (map g xs) ≡ map h xs
map_through f g h same [] = refl
map_through f g h same (x ∷ xs) = rw (same x) (ap (λ zs. h x ∷ zs) (map_through f g h same xs))

-- how many marks stand before a place
abbrev pub marks_before : List Bool → ℕ → ℕ
marks_before [] place = 0
marks_before (mark ∷ marks) zero = 0
marks_before (true ∷ marks) (suc place) = suc (marks_before marks place)
marks_before (false ∷ marks) (suc place) = marks_before marks place

counted : (marks : List Bool) (place : ℕ) → count_by (λ (mark : Bool). mark) (take place marks) ≡ marks_before marks place
counted [] zero = refl
counted [] (suc place) = refl
counted (mark ∷ marks) zero = refl
counted (true ∷ marks) (suc place) =
    let cons = sum_by-cons (λ (mark : Bool). cond mark 1 0) true (take place marks) in
    let rest = counted marks place in
    omega (arith, cons, rest)
counted (false ∷ marks) (suc place) =
    let cons = sum_by-cons (λ (mark : Bool). cond mark 1 0) false (take place marks) in
    let rest = counted marks place in
    omega (arith, cons, rest)

-- the new number is that of the marks before
pub number_of : (marks : List Bool) (place : ℕ) → place < length marks → get_or (new_numbers marks) place 0 ≡ marks_before marks place
number_of marks place within =
    let f : ℕ → ℕ = λ old. count_by (λ (mark : Bool). mark) (take old marks) in
    get_or-map f (range_with_len 0 (length marks)) place 0 0 (omega (arith, length-range_with_len 0 (length marks)))
    ∙ ap f (get_or-range_with_len 0 (length marks) place 0 within)
    ∙ ap f (let e : 0 + place ≡ place = omega arith in e)
    ∙ counted marks place

pub number_of_marked : (marks : List Bool) (place : ℕ) → Marked marks place → get_or (new_numbers marks) place 0 ≡ marks_before marks place
number_of_marked marks place marked = number_of marks place (slice_get_within marks place true marked)

pub before_le : (marks : List Bool) (place : ℕ) → marks_before marks place ≤ place
before_le [] place = omega arith
before_le (mark ∷ marks) zero = omega arith
before_le (true ∷ marks) (suc place) = let rest = before_le marks place in omega arith
before_le (false ∷ marks) (suc place) = let rest = before_le marks place in omega arith

pub before_mono : (marks : List Bool) (i j : ℕ) → i ≤ j → marks_before marks i ≤ marks_before marks j
before_mono [] i j le = omega arith
before_mono (mark ∷ marks) zero j le = omega arith
before_mono (mark ∷ marks) (suc i) zero le = absurd (omega arith)
before_mono (true ∷ marks) (suc i) (suc j) le = let rest = before_mono marks i j (omega arith) in omega arith
before_mono (false ∷ marks) (suc i) (suc j) le = before_mono marks i j (omega arith)

unmarked : false ≡ true → ⊥
unmarked is = false≢true is

pub before_same : (marks : List Bool) (i j : ℕ) → Marked marks i → Marked marks j
    → marks_before marks i ≡ marks_before marks j → i ≡ j
before_same [] i j first second same = absurd (none-some true first)
before_same (mark ∷ marks) zero zero first second same = refl
before_same (true ∷ marks) zero (suc j) first second same = absurd (omega arith)
before_same (false ∷ marks) zero (suc j) first second same = absurd (unmarked (same_Some false true first))
before_same (true ∷ marks) (suc i) zero first second same = absurd (omega arith)
before_same (false ∷ marks) (suc i) zero first second same = absurd (unmarked (same_Some false true second))
before_same (true ∷ marks) (suc i) (suc j) first second same = ap suc (before_same marks i j first second (omega arith))
before_same (false ∷ marks) (suc i) (suc j) first second same = ap suc (before_same marks i j first second same)

pub before_first : (marks : List Bool) (place : ℕ) → Marked marks 0 → 0 < place → 0 < marks_before marks place
before_first [] place marked some = absurd (none-some true marked)
before_first (mark ∷ marks) zero marked some = absurd (omega arith)
before_first (true ∷ marks) (suc place) marked some = omega arith
before_first (false ∷ marks) (suc place) marked some = absurd (unmarked (same_Some false true marked))

pub kept_get : {A : Type 0} (marks : List Bool) (xs : List A) (place : ℕ) (x : A) → Marked marks place
    → slice_get xs place ≡ Some x → slice_get (kept_of marks xs) (marks_before marks place) ≡ Some x
kept_get [] xs place x marked is = absurd (none-some true marked)
kept_get (mark ∷ marks) [] place x marked is = absurd (none-some x is)
kept_get (true ∷ marks) (y ∷ ys) zero x marked is = is
kept_get (false ∷ marks) (y ∷ ys) zero x marked is = absurd (unmarked (same_Some false true marked))
kept_get (true ∷ marks) (y ∷ ys) (suc place) x marked is = kept_get marks ys place x marked is
kept_get (false ∷ marks) (y ∷ ys) (suc place) x marked is = kept_get marks ys place x marked is

-- what a place of the kept ones comes from
pub record Origin {A : Type 0} (marks : List Bool) (xs : List A) (k : ℕ) (x : A) : Type 0 where
  pub place : ℕ
  pub marked : Marked marks place
  pub stands : slice_get xs place ≡ Some x
  pub number : marks_before marks place ≡ k

pub kept_back : {A : Type 0} (marks : List Bool) (xs : List A) (k : ℕ) (x : A) → slice_get (kept_of marks xs) k ≡ Some x
    → Origin marks xs k x
kept_back marks [] k x is = absurd (none-some x is)
kept_back [] (y ∷ ys) k x is = absurd (none-some x is)
kept_back (true ∷ marks) (y ∷ ys) zero x is = record { place = 0; marked = refl; stands = is; number = refl }
kept_back (true ∷ marks) (y ∷ ys) (suc k) x is =
    let o = kept_back marks ys k x is in
    record { place = suc o.place; marked = o.marked; stands = o.stands; number = ap suc o.number }
kept_back (false ∷ marks) (y ∷ ys) k x is =
    let o = kept_back marks ys k x is in
    record { place = suc o.place; marked = o.marked; stands = o.stands; number = o.number }

pub kept_map : {A B : Type 0} (f : A → B) (marks : List Bool) (xs : List A) → kept_of marks (map f xs) ≡ map f (kept_of marks xs)
kept_map f marks [] = refl
kept_map f [] (x ∷ xs) = refl
kept_map f (true ∷ marks) (x ∷ xs) = ap (λ zs. f x ∷ zs) (kept_map f marks xs)
kept_map f (false ∷ marks) (x ∷ xs) = kept_map f marks xs

pub kept_all : {A : Type 0} (P : A → Type 0) (marks : List Bool) (xs : List A) → All P xs → All P (kept_of marks xs)
kept_all P marks xs all = all_from_at P (kept_of marks xs) (λ k x is.
    let o = kept_back marks xs k x is in
    all_at P xs o.place x all o.stands)

pub kept_distinct : {A : Type 0} (marks : List Bool) (xs : List A) → Distinct xs → Distinct (kept_of marks xs)
kept_distinct marks xs distinct = λ j k less within same.
    let x = get_some (kept_of marks xs) k within in
    let first = kept_back marks xs j x.0 (same ∙ x.1) in
    let second = kept_back marks xs k x.0 x.1 in
    elim (cases_lt first.place second.place) [
      | inl before ↦ distinct first.place second.place before (slice_get_within xs second.place x.0 second.stands) (first.stands ∙ sym second.stands)
      | inr after ↦
          let le = before_mono marks second.place first.place after in
          let one = first.number in
          let two = second.number in
          absurd (omega arith)
    ]

pub kept_some : {A : Type 0} (xs ys : List A) (marks : List Bool) → kept_of (replicate (length xs) true ++ marks) (xs ++ ys) ≡ xs ++ kept_of marks ys
kept_some [] ys marks = refl
kept_some (x ∷ xs) ys marks = ap (λ zs. x ∷ zs) (kept_some xs ys marks)

pub kept_none : {A : Type 0} (xs ys : List A) (marks : List Bool) → kept_of (replicate (length xs) false ++ marks) (xs ++ ys) ≡ kept_of marks ys
kept_none [] ys marks = refl
kept_none (x ∷ xs) ys marks = kept_none xs ys marks

-- the marks before a place, where marks of one kind stand first
pub before_trues : (n k : ℕ) (marks : List Bool) → k ≤ n → marks_before (replicate n true ++ marks) k ≡ k
before_trues zero zero [] le = refl
before_trues zero zero (mark ∷ marks) le = refl
before_trues zero (suc k) marks le = absurd (omega arith)
before_trues (suc n) zero marks le = refl
before_trues (suc n) (suc k) marks le = ap suc (before_trues n k marks (omega arith))

pub before_past_trues : (n k : ℕ) (marks : List Bool) → marks_before (replicate n true ++ marks) (n + k) ≡ n + marks_before marks k
before_past_trues zero k marks = let e : 0 + k ≡ k = omega arith in rw e (omega arith)
before_past_trues (suc n) k marks =
    let e : suc n + k ≡ suc (n + k) = omega arith in
    let rest = before_past_trues n k marks in
    rw e (omega arith)

pub before_past_falses : (n k : ℕ) (marks : List Bool) → marks_before (replicate n false ++ marks) (n + k) ≡ marks_before marks k
before_past_falses zero k marks = let e : 0 + k ≡ k = omega arith in rw e refl
before_past_falses (suc n) k marks = let e : suc n + k ≡ suc (n + k) = omega arith in rw e (before_past_falses n k marks)

filter_one : {A : Type 0} (x : A) (test : Bool) (rest : List A) (marks : List Bool) (xs : List A) → rest ≡ kept_of marks xs
    → cond test (x ∷ rest) rest ≡ kept_of (test ∷ marks) (x ∷ xs)
filter_one x true rest marks xs same = ap (λ zs. x ∷ zs) same
filter_one x false rest marks xs same = same

-- those that pass a test are those with its mark
pub filter_kept : {A : Type 0} (test : A → Bool) (xs : List A) → filter test xs ≡ kept_of (map test xs) xs
filter_kept test [] = refl
filter_kept test (x ∷ xs) = filter_one x (test x) (filter test xs) (map test xs) xs (filter_kept test xs)

pub all_marks : {A : Type 0} (f : A → Bool) (xs : List A) (k : ℕ) (x : A) → slice_get xs k ≡ Some x → Marked (map f xs) k → f x ≡ true
all_marks f xs k x is marked = same_Some (f x) true (sym (get_map f xs k x is) ∙ marked)

-- a split of a mapped list comes from one of the list
pub record Split {A B : Type 0} (f : A → B) (xs : List A) (ys : List B) (y : B) : Type 0 where
  pub front : List A
  pub item : A
  pub back : List A
  pub whole : xs ≡ front ++ item ∷ back
  pub fronts : map f front ≡ ys
  pub items : f item ≡ y

abbrev tail : {A : Type 0} → List A → List A
tail [] = []
tail (x ∷ xs) = xs

pub split_back : {A B : Type 0} (f : A → B) (xs : List A) (ys : List B) (y : B) (zs : List B) → map f xs ≡ ys ++ y ∷ zs → Split f xs ys y
split_back {A} {B} f [] ys y zs is =
    let long = length-append ys (y ∷ zs) in
    let same : 0 ≡ length (ys ++ y ∷ zs) = ap length is in
    absurd (omega arith)
split_back {A} {B} f (x ∷ xs) [] y zs is = record {
  front = [];
  item = x;
  back = xs;
  whole = refl;
  fronts = refl;
  items = same_Some (f x) y (ap (λ (bs : List B). slice_get bs 0) is);
}
split_back {A} {B} f (x ∷ xs) (w ∷ ys) y zs is =
    let rest = split_back f xs ys y zs (ap tail is) in
    let first : f x ≡ w = same_Some (f x) w (ap (λ (bs : List B). slice_get bs 0) is) in
    record {
      front = x ∷ rest.front;
      item = rest.item;
      back = rest.back;
      whole = ap (λ (items : List A). x ∷ items) rest.whole;
      fronts = ap (λ (bs : List B). f x ∷ bs) rest.fronts ∙ ap (λ (b : B). b ∷ ys) first;
      items = rest.items;
    }

pub split_at : {A : Type 0} (xs : List A) (k : ℕ) (x : A) → slice_get xs k ≡ Some x
    → (front : List A) × (back : List A) × (xs ≡ front ++ x ∷ back)
split_at [] k x is = absurd (none-some x is)
split_at {A} (y ∷ xs) zero x is = ([], xs, ap (λ (a : A). a ∷ xs) (same_Some y x is))
split_at {A} (y ∷ xs) (suc k) x is =
    let rest = split_at xs k x is in
    (y ∷ rest.0, rest.1, ap (λ (items : List A). y ∷ items) rest.2)

pub get_cases : {A : Type 0} (xs ys : List A) (k : ℕ) (y : A) → slice_get (xs ++ ys) k ≡ Some y
    → (slice_get xs k ≡ Some y) ⊎ ((j : ℕ) × (slice_get ys j ≡ Some y))
get_cases [] ys k y is = inr (k, is)
get_cases (x ∷ xs) ys zero y is = inl is
get_cases (x ∷ xs) ys (suc k) y is = get_cases xs ys k y is
