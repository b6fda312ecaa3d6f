-- What each number becomes is the number of what its name becomes, and the names that are left are numbered anew by how many stay below.
use Rattle.std.proofs.Common.{◌≡◌, ◌≢◌, ℕ, zero, suc, ◌<◌, ◌≤◌, ◌+◌, Bool, true, false, if◌then◌else◌, List, [], ◌∷◌, length, Some, slice_get, inl, inr, ◌⊎◌, refl, ap, sym, subst, arith, ◌∙◌}
use Rattle.std.specs.List.{Contains, filter, range_with_len}
use Rattle.std.proofs.lemmas.Bool.{cases_Bool, cases_lt, eq-eqb, eqb-true, false≢true}
use Rattle.list_laws.proofs.Booleans.{same_tests}
use Rattle.list_laws.proofs.Contents.{contains_image, contains_map}
use Rattle.phi_webs.specs.Webs.{Phi, NamedOnce, AllRooted, IsOutside, Rooted, outside, through}
use Rattle.phi_webs.specs.Becomes.{becomes}
use Rattle.phi_webs.specs.Forests.{up_of}
use Rattle.phi_webs.specs.Settled.{same, AnswersBecomes}
use Rattle.phi_webs.specs.Statements.{IsRenaming, renamed_phi, renamed_web}
use Rattle.phi_webs.proofs.RemovalLaws.{outside_stays, settles_at_once}
use Rattle.phi_webs.proofs.ForestLemmas.{tells_numbers}
use Rattle.phi_webs.proofs.BecomesLaws.{becomes_is_removal}
use Rattle.phi_webs.proofs.RenamingLaws.{renaming_commutes}
use Rattle.rewriting_forms.specs.Names.{Name, same_name}
use Rattle.rewriting_forms.specs.Rewritten.{behind_all, place_in}
use Rattle.rewriting_laws.proofs.NameTests.{tells_names}
use Rattle.rewriting_laws.proofs.PlaceLaws.{Apart, place_is}
use Rattle.thin_phis.specs.Thinned.{stays, kept_below, number_now}

-- ---- places

-- a name stands at its place, or its number is behind all
abbrev StandsAt : List Name → Name → ℕ → Type 0
StandsAt names n place = ((slice_get names place ≡ Some n) × (place < length names)) ⊎ (place ≡ length names + behind_all n)

stands : (names : List Name) (n : Name) → StandsAt names n (place_in names n)
stands [] n = inr (omega arith)
stands (x ∷ names) n = elim (cases_Bool (same_name x n)) [
  | inl is ↦ rw is (inl (ap Some ((tells_names x n).0 is), omega arith))
  | inr other ↦ rw other (later (stands names n))
]
  where
    later : StandsAt names n (place_in names n) → StandsAt (x ∷ names) n (suc (place_in names n))
    later (inl here) = let below = here.1 in inl (here.0, omega arith)
    later (inr behind) = inr (omega arith)

-- a name whose number is below the count of names stands there
pub at_place : (names : List Name) (n : Name) → place_in names n < length names → slice_get names (place_in names n) ≡ Some n
at_place names n below = by (stands names n)
  where
    by : StandsAt names n (place_in names n) → slice_get names (place_in names n) ≡ Some n
    by (inl here) = here.0
    by (inr behind) = absurd (omega arith)

pub past_place : (names : List Name) (n : Name) → length names ≤ place_in names n → place_in names n ≡ length names + behind_all n
past_place names n past = by (stands names n)
  where
    by : StandsAt names n (place_in names n) → place_in names n ≡ length names + behind_all n
    by (inl here) = let below = here.1 in absurd (omega arith)
    by (inr behind) = behind

-- two names of the text with one number are one name
pub one_place : (names : List Name) (x y : Name) → place_in names x < length names → place_in names x ≡ place_in names y → x ≡ y
one_place names x y below e =
    let first = at_place names x below in
    let second = at_place names y (omega arith) in
    let both : Some x ≡ Some y = sym first ∙ ap (slice_get names) e ∙ second in
    cc

-- ---- a name that stays is numbered by how many names below it stay

pub all_stay : (p : ℕ → Bool) (from count : ℕ) → ((i : ℕ) → from ≤ i → p i ≡ true) → length (filter p (range_with_len from count)) ≡ count
all_stay p from zero each = refl
all_stay p from (suc count) each =
    let rest = all_stay p (from + 1) count (λ i le. each i (omega arith)) in
    ap (λ (t : Bool). length (if t then from ∷ filter p (range_with_len (from + 1) count) else filter p (range_with_len (from + 1) count))) (each from (omega arith))
    ∙ ap suc rest

placed : (names : List Name) (kept : Name → Bool) (p : ℕ → Bool) (from : ℕ) (m : Name) → kept m ≡ true
    → ((i : ℕ) (x : Name) → slice_get names i ≡ Some x → p (from + i) ≡ kept x) → ((i : ℕ) → from + length names ≤ i → p i ≡ true)
    → length (filter p (range_with_len from (place_in names m))) ≡ place_in (filter kept names) m
placed [] kept p from m is each past = all_stay p from (behind_all m) (λ i le. past i (omega arith))
placed (x ∷ names) kept p from m is each past =
    by (placed names kept p (from + 1) m is
    (λ i y at. let e : from + 1 + i ≡ from + suc i = omega arith in ap p e ∙ each (suc i) y at)
    (λ i le. past i (omega arith)))
    (same_name x m) refl (kept x) refl
  where
    first : p from ≡ kept x
    first = let z : from ≡ from + 0 = omega arith in ap p z ∙ each 0 x refl

    by : length (filter p (range_with_len (from + 1) (place_in names m))) ≡ place_in (filter kept names) m
        → (here : Bool) → same_name x m ≡ here → (stays_too : Bool) → kept x ≡ stays_too
        → length (filter p (range_with_len from (if here then 0 else suc (place_in names m)))) ≡ place_in (if stays_too then x ∷ filter kept names else filter kept names) m
    by rest true here true stays_too = sym (ap (λ (t : Bool). if t then 0 else suc (place_in (filter kept names) m)) here)
    by rest true here false gone = absurd (false≢true (sym gone ∙ (ap kept ((tells_names x m).0 here) ∙ is)))
    by rest false other true stays_too =
        ap (λ (t : Bool). length (if t then from ∷ filter p (range_with_len (from + 1) (place_in names m)) else filter p (range_with_len (from + 1) (place_in names m)))) (first ∙ stays_too)
        ∙ ap suc rest ∙ sym (ap (λ (t : Bool). if t then 0 else suc (place_in (filter kept names) m)) other)
    by rest false other false gone =
        ap (λ (t : Bool). length (if t then from ∷ filter p (range_with_len (from + 1) (place_in names m)) else filter p (range_with_len (from + 1) (place_in names m)))) (first ∙ gone)
        ∙ rest

-- ---- what numbers become

module _ (names : List Name) (apart : Apart names) (web : List (Phi Name)) (domain : List Name) (renaming : IsRenaming web domain (place_in names))
    (once : NamedOnce web) (rooted : AllRooted web) (named : (phi : Phi Name) → Contains web phi → place_in names phi.name < length names)
    (whole : (n : Name) → place_in names n < length names → Contains domain n) where
  abbrev number : Name → ℕ
  number = place_in names

  abbrev now : Name → Name
  now = becomes same_name web

  abbrev numbered : List (Phi ℕ)
  numbered = renamed_web number web

  once_numbered : NamedOnce numbered
  once_numbered p q in_p in_q e =
      let one = contains_image (renamed_phi number) web p in_p in
      let other = contains_image (renamed_phi number) web q in_q in
      let names_are : number one.of.name ≡ number other.of.name = ap (λ (phi : Phi ℕ). phi.name) one.is ∙ e ∙ sym (ap (λ (phi : Phi ℕ). phi.name) other.is) in
      sym one.is
      ∙ ap (renamed_phi number) (once one.of other.of one.inside other.inside (renaming.apart one.of.name other.of.name (renaming.phis one.of one.inside) (renaming.phis other.of other.inside) names_are))
      ∙ other.is

  rooted_name : (n : Name) → Rooted web n → Contains domain n → Rooted numbered (number n)
  rooted_name _ (outside n out) has =
      outside (number n) (λ phi inside e.
      let image = contains_image (renamed_phi number) web phi inside in
      out image.of image.inside (renaming.apart n image.of.name has (renaming.phis image.of image.inside) (e ∙ sym (ap (λ (p : Phi ℕ). p.name) image.is))))
  rooted_name _ (through phi o inside operand rest) has =
      through (renamed_phi number phi) (number o) (contains_map (renamed_phi number) web phi inside) (contains_map number phi.operands o operand)
      (rooted_name o rest (renaming.operands phi inside o operand))

  rooted_numbered : AllRooted numbered
  rooted_numbered phi inside =
      let image = contains_image (renamed_phi number) web phi inside in
      subst (Rooted numbered) (ap (λ (p : Phi ℕ). p.name) image.is) (rooted_name image.of.name (rooted image.of image.inside) (renaming.phis image.of image.inside))

  -- a number past the text is no phi's
  past_outside : (i : ℕ) → length names ≤ i → IsOutside numbered i
  past_outside i le phi inside e =
      let image = contains_image (renamed_phi number) web phi inside in
      let is : number image.of.name ≡ phi.name = ap (λ (p : Phi ℕ). p.name) image.is in
      let below = named image.of image.inside in
      omega (arith, e, is, below)

  missing_outside : (n : Name) → length names ≤ number n → IsOutside web n
  missing_outside n le phi inside e = let below = named phi inside in let same : number n ≡ number phi.name = ap number e in omega (arith, below, same)

  missing_stays : (n : Name) → length names ≤ number n → now n ≡ n
  missing_stays n le = outside_stays same_name tells_names web now (becomes_is_removal same_name tells_names web) n (missing_outside n le)

  module _ (ends : List ℕ) (found : AnswersBecomes numbered ends) where
    past_stays : (i : ℕ) → length names ≤ i → up_of ends i ≡ i
    past_stays i le =
        found once_numbered rooted_numbered i
        ∙ outside_stays same tells_numbers numbered (becomes same numbered) (becomes_is_removal same tells_numbers numbered) i (past_outside i le)

    -- what a number becomes is the number of what its name becomes
    follows : (n : Name) → up_of ends (number n) ≡ number (now n)
    follows n = elim (cases_lt (number n) (length names)) [
      | inl below ↦ found once_numbered rooted_numbered (number n) ∙ renaming_commutes same_name same tells_names tells_numbers web domain number renaming n (whole n below)
      | inr past ↦ past_stays (number n) (omega arith) ∙ sym (ap number (missing_stays n (omega arith)))
    ]

    kept_name : (n : Name) → number (now n) ≡ number n → now n ≡ n
    kept_name n e = elim (cases_lt (number n) (length names)) [
      | inl below ↦ sym (one_place names n (now n) below (sym e))
      | inr past ↦ missing_stays n (omega arith)
    ]

    pub stays_is : (n : Name) → stays ends (number n) ≡ same_name n (now n)
    stays_is n =
        same_tests (stays ends (number n)) (same_name n (now n))
        (λ is. (tells_names n (now n)).1 (sym (kept_name n (sym (follows n) ∙ eqb-true (up_of ends (number n)) (number n) is))))
        (λ is. eq-eqb (up_of ends (number n)) (number n) (follows n ∙ sym (ap number ((tells_names n (now n)).0 is))))

    -- the new number of a name is the place of what it becomes among the names that are left
    pub number_is : (n : Name) → number_now ends (number n) ≡ place_in (filter (λ m. same_name m (now m)) names) (now n)
    number_is n =
        ap (kept_below ends) (follows n)
        ∙ placed names (λ m. same_name m (now m)) (stays ends) 0 (now n)
        ((tells_names (now n) (now (now n))).1 (sym (settles_at_once same_name tells_names web now (becomes_is_removal same_name tells_names web) n)))
        (λ i x at.
        let e : number x ≡ 0 + i = (let z : 0 + i ≡ i = omega arith in place_is names apart i x at ∙ sym z) in
        ap (stays ends) (sym e) ∙ stays_is x)
        (λ i le. eq-eqb (up_of ends i) i (past_stays i (omega arith)))
