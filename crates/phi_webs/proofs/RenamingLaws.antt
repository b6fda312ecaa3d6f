-- Removing phis doesn't depend on how names are called.
use Rattle.std.proofs.Common.{◌≡◌, inl, inr, ◌&&◌, Bool, true, false, not, cond, ℕ, zero, suc, List, [], ◌∷◌, map, length, Option, Some, None, refl, ap, sym, ◌∙◌, subst}
use Rattle.std.specs.List.{Contains, filter, list_all}
use Rattle.std.specs.Option.{option_map, option_or}
use Rattle.std.proofs.lemmas.List.{length-map}
use Rattle.list_laws.proofs.Contents.{contains_none, contains_first, contains_later, contains_cons}
use Rattle.phi_webs.specs.Webs.{Tells, Phi, replaced}
use Rattle.phi_webs.specs.Becomes.{Removed, only, after_removals, other_of, removal_of, next_removal, with_next, removals_within}
use Rattle.phi_webs.specs.Statements.{renamed_phi, renamed_web, RenamingCommutes}
use Rattle.phi_webs.proofs.TestLemmas.{same_or_not, tells_same, tells_other}
use Rattle.phi_webs.proofs.BecomesLaws.{IsNext, next_is}

-- a removal under other names
abbrev pub renamed_removal : {A B : Type 0} → (A → B) → Removed A → Removed B
renamed_removal f r = record { name = f r.name; value = f r.value }

module _ {A B : Type 0} (same : A → A → Bool) (equal : B → B → Bool) (tells : Tells same) (tells_both : Tells equal)
    (names : List A) (f : A → B) (apart : (x y : A) → Contains names x → Contains names y → f x ≡ f y → x ≡ y) where
  agree : (x y : A) → Contains names x → Contains names y → equal (f x) (f y) ≡ same x y
  agree x y first second = elim (same_or_not same tells x y) [
    | inl is ↦ tells_same equal tells_both (f x) (f y) (ap f is) ∙ sym (tells_same same tells x y is)
    | inr other ↦ tells_other equal tells_both (f x) (f y) (λ h. other (apart x y first second h)) ∙ sym (tells_other same tells x y other)
  ]

  all_renamed : (x : A) → Contains names x → (xs : List A) → ((y : A) → Contains xs y → Contains names y)
      → list_all (λ z. equal z (f x)) (map f xs) ≡ list_all (λ z. same z x) xs
  all_renamed x first [] within = refl
  all_renamed x first (y ∷ xs) within =
      ap (λ b. b && list_all (λ z. equal z (f x)) (map f xs)) (agree y x (within y (contains_first y xs)) first)
      ∙ ap (λ b. same y x && b) (all_renamed x first xs (λ z later. within z (contains_later y z xs later)))

  only_renamed : (xs : List A) → ((y : A) → Contains xs y → Contains names y) → only equal (map f xs) ≡ option_map f (only same xs)
  only_renamed [] within = refl
  only_renamed (x ∷ xs) within =
      ap (λ b. cond b (Some (f x)) None)
      (all_renamed x (within x (contains_first x xs)) xs (λ z later. within z (contains_later x z xs later)))
      ∙ by (list_all (λ z. same z x) xs)
    where
      by : (b : Bool) → cond b (Some (f x)) None ≡ option_map f (cond b (Some x) None)
      by true = refl
      by false = refl

  left_renamed : (x : A) → Contains names x → (xs : List A) → ((y : A) → Contains xs y → Contains names y)
      → filter (λ o. not (equal o (f x))) (map f xs) ≡ map f (filter (λ o. not (same o x)) xs)
  left_renamed x first [] within = refl
  left_renamed x first (y ∷ xs) within =
      ap (λ b. cond (not b) (f y ∷ filter (λ o. not (equal o (f x))) (map f xs)) (filter (λ o. not (equal o (f x))) (map f xs)))
      (agree y x (within y (contains_first y xs)) first)
      ∙ ap (λ (zs : List B). cond (not (same y x)) (f y ∷ zs) zs)
      (left_renamed x first xs (λ z later. within z (contains_later y z xs later)))
      ∙ by (same y x)
    where
      by : (b : Bool)
          → cond (not b) (f y ∷ map f (filter (λ o. not (same o x)) xs)) (map f (filter (λ o. not (same o x)) xs))
          ≡ map f (cond (not b) (y ∷ filter (λ o. not (same o x)) xs) (filter (λ o. not (same o x)) xs))
      by true = refl
      by false = refl

  left_within : (p : A → Bool) (xs : List A) → ((y : A) → Contains xs y → Contains names y)
      → (y : A) → Contains (filter p xs) y → Contains names y
  left_within p [] within y inside = absurd (contains_none y inside)
  left_within p (x ∷ xs) within y inside =
      by (p x) inside (left_within p xs (λ z later. within z (contains_later x z xs later)) y)
    where
      by : (b : Bool) → Contains (cond b (x ∷ filter p xs) (filter p xs)) y → (Contains (filter p xs) y → Contains names y) → Contains names y
      by false later more = more later
      by true first more = elim (contains_cons x y (filter p xs) first) [
        | inl is ↦ subst (λ (z : A). Contains names z) is (within x (contains_first x xs))
        | inr later ↦ more later
      ]

  module _ (now : A → A) (then : B → B) (follows : (n : A) → Contains names n → then (f n) ≡ f (now n))
      (stays : (n : A) → Contains names n → Contains names (now n)) where
    images_renamed : (xs : List A) → ((y : A) → Contains xs y → Contains names y) → map then (map f xs) ≡ map f (map now xs)
    images_renamed [] within = refl
    images_renamed (x ∷ xs) within =
        ap (λ (y : B). y ∷ map then (map f xs)) (follows x (within x (contains_first x xs)))
        ∙ ap (λ (ys : List B). f (now x) ∷ ys) (images_renamed xs (λ z later. within z (contains_later x z xs later)))

    images_within : (xs : List A) → ((y : A) → Contains xs y → Contains names y)
        → (y : A) → Contains (map now xs) y → Contains names y
    images_within [] within y inside = absurd (contains_none y inside)
    images_within (x ∷ xs) within y inside = elim (contains_cons (now x) y (map now xs) inside) [
      | inl is ↦ subst (λ (z : A). Contains names z) is (stays x (within x (contains_first x xs)))
      | inr later ↦ images_within xs (λ z behind. within z (contains_later x z xs behind)) y later
    ]

    other_renamed : (phi : Phi A) → Contains names phi.name → ((o : A) → Contains phi.operands o → Contains names o)
        → other_of equal then (renamed_phi f phi) ≡ option_map f (other_of same now phi)
    other_renamed phi named within =
        ap (λ b. cond b (only equal (filter (λ o. not (equal o (f phi.name))) (map then (map f phi.operands)))) None)
        (ap (λ (n : B). equal n (f phi.name)) (follows phi.name named) ∙ agree (now phi.name) phi.name (stays phi.name named) named)
        ∙ by (same (now phi.name) phi.name)
      where
        found : only equal (filter (λ o. not (equal o (f phi.name))) (map then (map f phi.operands)))
            ≡ option_map f (only same (filter (λ o. not (same o phi.name)) (map now phi.operands)))
        found =
            ap (λ (xs : List B). only equal (filter (λ o. not (equal o (f phi.name))) xs)) (images_renamed phi.operands within)
            ∙ ap (λ (xs : List B). only equal xs)
            (left_renamed phi.name named (map now phi.operands) (images_within phi.operands within))
            ∙ only_renamed (filter (λ o. not (same o phi.name)) (map now phi.operands))
            (left_within (λ o. not (same o phi.name)) (map now phi.operands) (images_within phi.operands within))

        by : (b : Bool)
            → cond b (only equal (filter (λ o. not (equal o (f phi.name))) (map then (map f phi.operands)))) None
            ≡ option_map f (cond b (only same (filter (λ o. not (same o phi.name)) (map now phi.operands))) None)
        by true = found
        by false = refl

    next_renamed : (phis : List (Phi A)) → ((phi : Phi A) → Contains phis phi → Contains names phi.name)
        → ((phi : Phi A) → Contains phis phi → (o : A) → Contains phi.operands o → Contains names o)
        → next_removal equal then (renamed_web f phis)
        ≡ option_map (renamed_removal f) (next_removal same now phis)
    next_renamed [] named within = refl
    next_renamed (phi ∷ phis) named within =
        ap (λ o. option_or (removal_of equal (renamed_phi f phi) o) (next_removal equal then (renamed_web f phis)))
        (other_renamed phi (named phi (contains_first phi phis)) (within phi (contains_first phi phis)))
        ∙ ap (λ o. option_or (removal_of equal (renamed_phi f phi) (option_map f (other_of same now phi))) o)
        (next_renamed phis (λ p later. named p (contains_later phi p phis later)) (λ p later. within p (contains_later phi p phis later)))
        ∙ by (other_of same now phi)
      where
        by : (o : Option A)
            → option_or (removal_of equal (renamed_phi f phi) (option_map f o))
            (option_map (renamed_removal f) (next_removal same now phis))
            ≡ option_map (renamed_removal f) (option_or (removal_of same phi o) (next_removal same now phis))
        by None = refl
        by (Some value) = refl

  -- the names of removals are among the names
  InNames : List (Removed A) → Type 0
  InNames removals = (r : Removed A) → Contains removals r → Contains names r.name × Contains names r.value

  stays_within : (removals : List (Removed A)) → InNames removals → (n : A) → Contains names n
      → Contains names (after_removals same removals n)
  unfolding InNames
  stays_within [] inside n first = first
  stays_within (r ∷ removals) inside n first =
      by (same (after_removals same removals n) r.name)
      (stays_within removals (λ s later. inside s (contains_later r s removals later)) n first)
    where
      by : (b : Bool) → Contains names (after_removals same removals n)
          → Contains names (cond b r.value (after_removals same removals n))
      by true before = (inside r (contains_first r removals)).1
      by false before = before

  after_renamed : (removals : List (Removed A)) → InNames removals → (n : A) → Contains names n
      → after_removals equal (map (renamed_removal f) removals) (f n) ≡ f (after_removals same removals n)
  unfolding InNames
  after_renamed [] inside n first = refl
  after_renamed (r ∷ removals) inside n first =
      let earlier : InNames removals = λ s later. inside s (contains_later r s removals later) in
      let before : after_removals equal (map (renamed_removal f) removals) (f n) ≡ f (after_removals same removals n) =
      after_renamed removals earlier n first in
      ap (λ (m : B). replaced equal (f r.name) (f r.value) m) before
      ∙ ap (λ b. cond b (f r.value) (f (after_removals same removals n)))
      (agree (after_removals same removals n) r.name (stays_within removals earlier n first) (inside r (contains_first r removals)).0)
      ∙ by (same (after_removals same removals n) r.name)
    where
      by : (b : Bool) → cond b (f r.value) (f (after_removals same removals n)) ≡ f (cond b r.value (after_removals same removals n))
      by true = refl
      by false = refl

  module _ (web : List (Phi A)) (named : (phi : Phi A) → Contains web phi → Contains names phi.name)
      (within : (phi : Phi A) → Contains web phi → (o : A) → Contains phi.operands o → Contains names o) where
    in_names : (bound : ℕ) → InNames (removals_within same web bound)
    unfolding InNames
    in_names zero r inside = absurd (contains_none r inside)
    in_names (suc bound) r inside =
        by (next_removal same (after_removals same (removals_within same web bound)) web) refl inside (in_names bound)
      where
        by : (o : Option (Removed A)) → next_removal same (after_removals same (removals_within same web bound)) web ≡ o
            → Contains (with_next same (removals_within same web bound) o) r → InNames (removals_within same web bound)
            → Contains names r.name × Contains names r.value
        by None is later before = before r later
        by (Some last) is first before =
            let next : IsNext web (after_removals same (removals_within same web bound)) last =
            next_is same tells web web (after_removals same (removals_within same web bound)) last (λ phi inside'. inside') is in
            elim (contains_cons last r (removals_within same web bound) first) [
              | inl here ↦ (
                  let name : Contains names last.name =
                  subst (λ (n : A). Contains names n) (sym next.name_is) (named next.phi next.trivial.stands) in
                  let value : Contains names last.value =
                  subst (λ (n : A). Contains names n) next.trivial.some.2
                  (stays_within (removals_within same web bound) before next.trivial.some.0
                  (within next.phi next.trivial.stands next.trivial.some.0 next.trivial.some.1)) in
                  subst (λ (s : Removed A). Contains names s.name × Contains names s.value) here (name, value))
              | inr later ↦ before r later
            ]

    removals_renamed : (bound : ℕ)
        → removals_within equal (renamed_web f web) bound ≡ map (renamed_removal f) (removals_within same web bound)
    unfolding InNames
    removals_renamed zero = refl
    removals_renamed (suc bound) =
        ap (λ rs. with_next equal rs (next_removal equal (after_removals equal rs) (renamed_web f web))) (removals_renamed bound)
        ∙ ap (λ o. with_next equal (map (renamed_removal f) (removals_within same web bound)) o)
        (next_renamed
        (after_removals same (removals_within same web bound))
        (after_removals equal (map (renamed_removal f) (removals_within same web bound)))
        (after_renamed (removals_within same web bound) (in_names bound))
        (stays_within (removals_within same web bound) (in_names bound))
        web
        named
        within)
        ∙ by (next_removal same (after_removals same (removals_within same web bound)) web)
      where
        by : (o : Option (Removed A))
            → with_next equal (map (renamed_removal f) (removals_within same web bound)) (option_map (renamed_removal f) o)
            ≡ map (renamed_removal f) (with_next same (removals_within same web bound) o)
        by None = refl
        by (Some r) = refl

pub renaming_commutes : {A B : Type 0} (same : A → A → Bool) (equal : B → B → Bool) → Tells same → Tells equal
    → RenamingCommutes A B same equal
renaming_commutes {A} same equal tells both web names f renaming n first =
    ap (λ bound. after_removals equal (removals_within equal (renamed_web f web) bound) (f n)) (length-map web (renamed_phi f))
    ∙ ap (λ rs. after_removals equal rs (f n))
    (removals_renamed same equal tells both names f renaming.apart web renaming.phis renaming.operands (length web))
    ∙ after_renamed same equal tells both names f renaming.apart (removals_within same web (length web))
    (in_names same equal tells both names f renaming.apart web renaming.phis renaming.operands (length web)) n first
