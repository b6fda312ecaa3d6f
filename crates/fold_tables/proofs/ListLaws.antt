-- What holds of the elements that a loop has passed.
use Rattle.std.proofs.Common.{◌≡◌, ◌∙◌, ℕ, zero, suc, ◌+◌, ◌<◌, ◌≤◌, Bool, true, false, ◌&&◌, List, [], ◌∷◌, ◌++◌, length, map, get_or, take, drop, append-nil, refl, sym, ap, subst, arith}
use Rattle.std.specs.Prelude.{Some, cond, count_by, if◌then◌else◌, replicate, slice_get}
use Rattle.std.specs.Bool.{OnTrue}
use Rattle.std.specs.List.{All, Contains, list_all}
use Rattle.std.proofs.lemmas.List.{drop_all, take_all, take_more}
use Rattle.std.proofs.lemmas.List.Elements.{All-append}
use Rattle.std.proofs.lemmas.List.Elements.{Contains-append_left, Contains-append_right}
use Rattle.std.proofs.lemmas.List.Sums.{sum_by-cons}
use Rattle.std.proofs.lemmas.Bool.{false≢true}
use Rattle.ir_ast.specs.Lists.{has_mark}
use Rattle.list_laws.proofs.Contents.{all_one, contains_first}
use Rattle.list_laws.proofs.Places.{get_some, map_append}

pub all_more : {A : Type 0} (P : A → Type 0) (xs : List A) (k : ℕ) (d : A) → k < length xs → All P (take k xs) → P (get_or xs k d) → All P (take (k + 1) xs)
all_more P xs k d below all own =
    subst (All P) (sym (take_more xs k d below)) (All-append P (take k xs) (get_or xs k d ∷ []) all (all_one P (get_or xs k d) own))

pub all_passed : {A : Type 0} (P : A → Type 0) (xs : List A) (k : ℕ) → length xs ≤ k → All P (take k xs) → All P xs
all_passed P xs k whole all = subst (All P) (take_all k xs whole) all

pub fails_mapped : {A B : Type 0} (p : B → Bool) (f : A → B) (xs : List A) (k : ℕ) (d : A) → k < length xs → p (f (get_or xs k d)) ≡ false → list_all p (map f xs) ≡ false
fails_mapped p f [] k d below fails = absurd (omega arith)
fails_mapped p f (x ∷ xs) zero d below fails = ap (λ (b : Bool). b && list_all p (map f xs)) fails
fails_mapped p f (x ∷ xs) (suc k) d below fails = by (p (f x)) (fails_mapped p f xs k d (omega arith) fails)
  where
    by : (b : Bool) → list_all p (map f xs) ≡ false → b && list_all p (map f xs) ≡ false
    by true rest = rest
    by false rest = refl

joined_images : {A B : Type 0} (f : A → B) (xs : List A) (k : ℕ) (d : A) → k < length xs → map f (take (k + 1) xs) ≡ map f (take k xs) ++ f (get_or xs k d) ∷ []
joined_images f xs k d below = ap (map f) (take_more xs k d below) ∙ map_append f (take k xs) (get_or xs k d ∷ [])

pub image_before : {A B : Type 0} (f : A → B) (xs : List A) (k : ℕ) (y : B) → k < length xs → Contains (map f (take k xs)) y → Contains (map f (take (k + 1) xs)) y
image_before f xs k y below inside =
    let x = (get_some xs k below).0 in
    subst (λ ys. Contains ys y) (sym (joined_images f xs k x below)) (Contains-append_left (map f (take k xs)) (f (get_or xs k x) ∷ []) y inside)

pub image_here : {A B : Type 0} (f : A → B) (xs : List A) (k : ℕ) (d : A) (y : B) → k < length xs → f (get_or xs k d) ≡ y → Contains (map f (take (k + 1) xs)) y
image_here f xs k d y below is =
    subst (λ ys. Contains ys y) (sym (joined_images f xs k d below))
    (Contains-append_right (map f (take k xs)) (f (get_or xs k d) ∷ []) y (subst (λ z. Contains (f (get_or xs k d) ∷ []) z) is (contains_first (f (get_or xs k d)) [])))

-- ---- counts

abbrev once : Bool → ℕ
once b = if b then 1 else 0

module _ {A : Type 0} (test : A → Bool) where
  count_cons : (first : A) (xs : List A) → count_by test (first ∷ xs) ≡ once (test first) + count_by test xs
  count_cons first xs = sum_by-cons (λ (a : A). cond (test a) 1 0) first xs

  count_one : (xs : List A) (k : ℕ) (x : A) → slice_get xs k ≡ Some x → once (test x) ≤ count_by test xs
  count_one [] k x at = absurd cc
  count_one (first ∷ xs) zero x at =
      let same : first ≡ x = cc in
      omega (arith, count_cons first xs, ap (λ (a : A). once (test a)) same)
  count_one (first ∷ xs) (suc k) x at = let rest = count_one xs k x at in omega (arith, count_cons first xs, rest)

  -- one that passes beside another
  pub count_two : (xs : List A) (one other : ℕ) (x y : A) → slice_get xs one ≡ Some x → slice_get xs other ≡ Some y → (one ≡ other → ⊥) → test y ≡ true
      → once (test x) + 1 ≤ count_by test xs
  count_two [] one other x y at at_other apart passes = absurd cc
  count_two (first ∷ xs) zero zero x y at at_other apart passes = absurd (apart refl)
  count_two (first ∷ xs) zero (suc other) x y at at_other apart passes =
      let same : first ≡ x = cc in
      let rest = count_one xs other y at_other in
      omega (arith, count_cons first xs, rest, ap (λ (a : A). once (test a)) same, ap once passes)
  count_two (first ∷ xs) (suc one) zero x y at at_other apart passes =
      let same : first ≡ y = cc in
      let rest = count_one xs one x at in
      omega (arith, count_cons first xs, rest, ap (λ (a : A). once (test a)) same, ap once passes)
  count_two (first ∷ xs) (suc one) (suc other) x y at at_other apart passes =
      let rest = count_two xs one other x y at at_other (λ same. apart (ap suc same)) passes in
      omega (arith, count_cons first xs, rest)

-- ---- facts where a test says yes

pub on_true : (b : Bool) (P : Type 0) → (b ≡ true → P) → OnTrue b P
on_true true P holds = holds refl
on_true false P holds = tt

pub on_true_weaker : (b : Bool) (P Q : Type 0) → (P → Q) → OnTrue b P → OnTrue b Q
on_true_weaker true P Q further holds = further holds
on_true_weaker false P Q further holds = tt

pub on_true_both : (b : Bool) (P Q R : Type 0) → (P → Q → R) → OnTrue b P → OnTrue b Q → OnTrue b R
on_true_both true P Q R further one other = further one other
on_true_both false P Q R further one other = tt

pub on_true_is : (b : Bool) (P : Type 0) → b ≡ true → OnTrue b P → P
on_true_is true P is holds = holds
on_true_is false P is holds = absurd (false≢true is)

-- ---- marks

pub none_marked : (count value : ℕ) → has_mark (replicate count false) value ≡ true → ⊥
none_marked zero value marked = false≢true marked
none_marked (suc count) zero marked = false≢true marked
none_marked (suc count) (suc value) marked = none_marked count value marked

pub written_back : {A : Type 0} (count : ℕ) (old now : List A) → length now ≡ length old → count ≡ length old → take count (now ++ drop (length now) old) ≡ now
written_back count old now same counted =
    ap (λ xs. take count (now ++ xs)) (drop_all (length now) old (omega arith)) ∙ (ap (take count) (append-nil now) ∙ take_all count now (omega arith))
