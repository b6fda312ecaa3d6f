-- What names become in the end is a removal, and a minimal one.
use Rattle.std.proofs.Common.{◌≡◌, ◌⊎◌, inl, inr, Bool, true, false, cond, ℕ, zero, suc, ◌+◌, ◌<◌, ◌≤◌, List, [], ◌∷◌, length, Option, Some, None, refl, ap, sym, ◌∙◌, subst, arith}
use Rattle.std.specs.List.{Contains, filter}
use Rattle.std.specs.Option.{option_or}
use Rattle.std.proofs.lemmas.Option.{none-some, same_Some}
use Rattle.std.proofs.lemmas.List.Sums.{length-filter, count_by-le-length}
use Rattle.list_laws.proofs.Contents.{contains_none, contains_first, contains_later, contains_cons}
use Rattle.phi_webs.specs.Webs.{Tells, Phi, IsTrivial, replaced, Removal, none, one, IsMinimal}
use Rattle.phi_webs.specs.Becomes.{Removed, after_removals, other_of, removal_of, next_removal, with_next, removals_within, becomes}
use Rattle.phi_webs.specs.Statements.{BecomesIsRemoval, BecomesIsMinimal}
use Rattle.phi_webs.proofs.TestLemmas.{tells_same, tells_other, replaced_at, replaced_cases}
use Rattle.phi_webs.proofs.OnlyLemmas.{other_is_trivial, trivial_has_other}
use Rattle.phi_webs.proofs.RemovalLaws.{settles_at_once}

-- where a next removal comes from
pub record IsNext {A : Type 0} (web : List (Phi A)) (now : A → A) (r : Removed A) : Type 0 where
  pub phi : Phi A
  pub name_is : r.name ≡ phi.name
  pub trivial : IsTrivial web now phi r.value

-- fewer elements pass a test that is stricter, and fewer where one is left out
fewer : {X : Type 0} (p q : X → Bool) (xs : List X) → ((x : X) → Contains xs x → q x ≡ true → p x ≡ true)
    → length (filter q xs) ≤ length (filter p xs)
fewer p q [] implied = omega arith
fewer p q (x ∷ xs) implied =
    by (q x) (p x) (implied x (contains_first x xs)) (fewer p q xs (λ y later. implied y (contains_later x y xs later)))
  where
    by : (b c : Bool) → (b ≡ true → c ≡ true) → length (filter q xs) ≤ length (filter p xs)
        → length (cond b (x ∷ filter q xs) (filter q xs)) ≤ length (cond c (x ∷ filter p xs) (filter p xs))
    by false false h le = le
    by false true h le = omega arith
    by true false h le = (let no : false ≡ true = h refl in cc)
    by true true h le = omega arith

one_fewer : {X : Type 0} (p q : X → Bool) (xs : List X) → ((x : X) → Contains xs x → q x ≡ true → p x ≡ true)
    → (x : X) → Contains xs x → p x ≡ true → q x ≡ false → length (filter q xs) < length (filter p xs)
one_fewer p q [] implied x within passes fails = absurd (contains_none x within)
one_fewer {X} p q (y ∷ xs) implied x within passes fails = elim (contains_cons y x xs within) [
  | inl same ↦ first (q y) (p y) (ap q same ∙ fails) (ap p same ∙ passes) (fewer p q xs behind)
  | inr later ↦ by (q y) (p y) (implied y (contains_first y xs)) (one_fewer p q xs behind x later passes fails)
]
  where
    behind : (z : X) → Contains xs z → q z ≡ true → p z ≡ true
    behind z later = implied z (contains_later y z xs later)

    first : (b c : Bool) → b ≡ false → c ≡ true → length (filter q xs) ≤ length (filter p xs)
        → length (cond b (y ∷ filter q xs) (filter q xs)) < length (cond c (y ∷ filter p xs) (filter p xs))
    first false true f g le = omega arith
    first true c f g le = (let no : false ≡ true = sym f in cc)
    first false false f g le = (let no : false ≡ true = g in cc)

    by : (b c : Bool) → (b ≡ true → c ≡ true) → length (filter q xs) < length (filter p xs)
        → length (cond b (y ∷ filter q xs) (filter q xs)) < length (cond c (y ∷ filter p xs) (filter p xs))
    by false false h le = le
    by false true h le = omega arith
    by true false h le = (let no : false ≡ true = h refl in cc)
    by true true h le = omega arith

module _ {A : Type 0} (same : A → A → Bool) (tells : Tells same) where
  pub next_is : (web phis : List (Phi A)) (now : A → A) (r : Removed A) → ((phi : Phi A) → Contains phis phi → Contains web phi)
      → next_removal same now phis ≡ Some r → IsNext web now r
  next_is web [] now r inside is = absurd (none-some r is)
  next_is web (phi ∷ phis) now r inside is =
      by (other_of same now phi) refl is (λ later. next_is web phis now r (λ p within. inside p (contains_later phi p phis within)) later)
    where
      by : (o : Option A) → other_of same now phi ≡ o → option_or (removal_of same phi o) (next_removal same now phis) ≡ Some r
          → (next_removal same now phis ≡ Some r → IsNext web now r) → IsNext web now r
      by None found later more = more later
      by (Some value) found here more =
          let is : record { name = phi.name; value = value } ≡ r = same_Some _ r here in
          let trivial : IsTrivial web now phi value = other_is_trivial same tells web now phi value (inside phi (contains_first phi phis)) found in
          record {
            phi = phi;
            name_is = ap (λ (s : Removed A). s.name) (sym is);
            trivial = subst (λ (s : Removed A). IsTrivial web now phi s.value) is trivial;
          }

  none_is : (phis : List (Phi A)) (now : A → A) → next_removal same now phis ≡ None
      → (phi : Phi A) → Contains phis phi → other_of same now phi ≡ None
  none_is [] now is phi within = absurd (contains_none phi within)
  none_is (first ∷ phis) now is phi within =
      by (other_of same now first) refl is (λ later behind. none_is phis now later phi behind)
    where
      by : (o : Option A) → other_of same now first ≡ o → option_or (removal_of same first o) (next_removal same now phis) ≡ None
          → (next_removal same now phis ≡ None → Contains phis phi → other_of same now phi ≡ None) → other_of same now phi ≡ None
      by None found later more = elim (contains_cons first phi phis within) [
        | inl here ↦ ap (λ p. other_of same now p) (sym here) ∙ found
        | inr behind ↦ more later behind
      ]
      by (Some value) found here more = absurd (none-some _ (sym here))

  nothing_next : (web : List (Phi A)) (now : A → A) → next_removal same now web ≡ None → IsMinimal web now
  nothing_next web now is phi value trivial =
      none-some value (sym (none_is web now is phi trivial.stands) ∙ trivial_has_other same tells web now phi value trivial)

  removal_within : (web : List (Phi A)) (bound : ℕ) → Removal same web (after_removals same (removals_within same web bound))
  removal_within web zero = none
  removal_within web (suc bound) = by (next_removal same (after_removals same (removals_within same web bound)) web) refl (removal_within web bound)
    where
      by : (o : Option (Removed A)) → next_removal same (after_removals same (removals_within same web bound)) web ≡ o
          → Removal same web (after_removals same (removals_within same web bound))
          → Removal same web (after_removals same (with_next same (removals_within same web bound) o))
      by None is before = before
      by (Some r) is before =
          let next : IsNext web (after_removals same (removals_within same web bound)) r = next_is web web _ r (λ phi within. within) is in
          subst (λ (n : A). Removal same web (λ m. replaced same n r.value (after_removals same (removals_within same web bound) m)))
          (sym next.name_is)
          (one (after_removals same (removals_within same web bound)) next.phi r.value before next.trivial)

  pub becomes_is_removal : BecomesIsRemoval A same
  becomes_is_removal web = removal_within web (length web)

  -- one removal more keeps fewer phis
  still_kept : (web : List (Phi A)) (now : A → A) (last : Phi A) (value : A) → Removal same web now → IsTrivial web now last value
      → (n : A) → replaced same last.name value (now n) ≡ n → now n ≡ n
  still_kept web now last value removal trivial n kept = elim (replaced_cases same tells last.name value (now n)) [
    | inl (_, becomes) ↦
        (let is : value ≡ n = sym becomes ∙ kept in
        let given : now trivial.some.0 ≡ value = trivial.some.2 in
        ap now (sym is) ∙ ap now (sym given) ∙ settles_at_once same tells web now removal trivial.some.0 ∙ given ∙ is)
    | inr (_, stays) ↦ sym stays ∙ kept
  ]

  keeps_fewer : (web : List (Phi A)) (now : A → A) (last : Phi A) (value : A) → Removal same web now → IsTrivial web now last value
      → length (filter (λ phi. same (replaced same last.name value (now phi.name)) phi.name) web) < length (filter (λ phi. same (now phi.name) phi.name) web)
  keeps_fewer web now last value removal trivial =
      one_fewer (λ phi. same (now phi.name) phi.name) (λ phi. same (replaced same last.name value (now phi.name)) phi.name) web
      (λ phi within kept. tells_same same tells (now phi.name) phi.name
      (still_kept web now last value removal trivial phi.name
      ((tells (replaced same last.name value (now phi.name)) phi.name).0 kept)))
      last
      trivial.stands
      (tells_same same tells (now last.name) last.name trivial.kept)
      (tells_other same tells (replaced same last.name value (now last.name)) last.name
      (λ h. trivial.other (sym (replaced_at same tells last.name value (now last.name) trivial.kept) ∙ h)))

  -- each bound more removes one phi more, or nothing is left to remove
  few_left : (web : List (Phi A)) (bound : ℕ)
      → IsMinimal web (after_removals same (removals_within same web bound))
      ⊎ (length (filter (λ phi. same (after_removals same (removals_within same web bound) phi.name) phi.name) web) + bound ≤ length web)
  few_left web zero = inr (omega (arith, length-filter (λ (phi : Phi A). same phi.name phi.name) web, count_by-le-length (λ (phi : Phi A). same phi.name phi.name) web))
  few_left web (suc bound) =
      by (next_removal same (after_removals same (removals_within same web bound)) web) refl (few_left web bound)
    where
      by : (o : Option (Removed A)) → next_removal same (after_removals same (removals_within same web bound)) web ≡ o
          → IsMinimal web (after_removals same (removals_within same web bound))
          ⊎ (length (filter (λ phi. same (after_removals same (removals_within same web bound) phi.name) phi.name) web) + bound ≤ length web)
          → IsMinimal web (after_removals same (with_next same (removals_within same web bound) o))
          ⊎ (length (filter (λ phi. same (after_removals same (with_next same (removals_within same web bound) o) phi.name) phi.name) web) + suc bound ≤ length web)
      by None is before = inl (nothing_next web (after_removals same (removals_within same web bound)) is)
      by (Some r) is before =
          let next : IsNext web (after_removals same (removals_within same web bound)) r = next_is web web _ r (λ phi within. within) is in
          elim before [
            | inl least ↦ absurd (least next.phi r.value next.trivial)
            | inr left ↦
                (let less : length (filter (λ phi. same (replaced same r.name r.value (after_removals same (removals_within same web bound) phi.name)) phi.name) web)
                < length (filter (λ phi. same (after_removals same (removals_within same web bound) phi.name) phi.name) web) =
                subst (λ (n : A). length (filter (λ phi. same (replaced same n r.value (after_removals same (removals_within same web bound) phi.name)) phi.name) web)
                < length (filter (λ phi. same (after_removals same (removals_within same web bound) phi.name) phi.name) web))
                (sym next.name_is)
                (keeps_fewer web _ next.phi r.value (removal_within web bound) next.trivial) in
                inr (omega arith))
          ]

  -- a phi that is kept counts
  one_counts : (p : Phi A → Bool) (web : List (Phi A)) (phi : Phi A) → Contains web phi → p phi ≡ true → 0 < length (filter p web)
  one_counts p web phi within passes =
      let less : length (filter (λ (q : Phi A). false) web) < length (filter p web) =
      one_fewer p (λ q. false) web (λ q _ passes. (let h : false ≡ true = passes in cc)) phi within passes refl in
      omega arith

  pub becomes_is_minimal : BecomesIsMinimal A same
  becomes_is_minimal web phi value trivial = elim (few_left web (length web)) [
    | inl least ↦ least phi value trivial
    | inr left ↦
        (let some : 0 < length (filter (λ p. same (becomes same web p.name) p.name) web) =
        one_counts (λ p. same (becomes same web p.name) p.name) web phi trivial.stands
        (tells_same same tells (becomes same web phi.name) phi.name trivial.kept) in
        omega arith)
  ]
