-- The only name in a list, and the one other operand of a phi.
use Rattle.std.proofs.Common.{◌≡◌, ◌≢◌, inl, inr, ◌&&◌, Bool, true, false, not, cond, List, [], ◌∷◌, map, Some, None, refl, ap, sym, ◌∙◌, subst}
use Rattle.std.specs.List.{Contains, filter, list_all}
use Rattle.std.proofs.lemmas.Option.{none-some, same_Some}
use Rattle.list_laws.proofs.Contents.{contains_none, contains_first, contains_later, contains_cons, contains_map, IsImage, contains_image}
use Rattle.phi_webs.specs.Webs.{Tells, Phi, IsTrivial}
use Rattle.phi_webs.specs.Becomes.{only, other_of}
use Rattle.phi_webs.proofs.TestLemmas.{same_or_not, tells_same, tells_other}

-- ---- lists

pub passes_each : {A : Type 0} (p : A → Bool) (xs : List A) (x : A) → list_all p xs ≡ true → Contains xs x → p x ≡ true
passes_each p [] x all within = absurd (contains_none x within)
passes_each {A} p (y ∷ xs) x all within = by (p y) refl all (λ rest later. passes_each p xs x rest later)
  where
    by : (b : Bool) → p y ≡ b → (b && list_all p xs) ≡ true → (list_all p xs ≡ true → Contains xs x → p x ≡ true) → p x ≡ true
    by false is all more = (let wrong : false ≡ true = all in cc)
    by true is rest behind = elim (contains_cons y x xs within) [
      | inl same ↦ ap p (sym same) ∙ is
      | inr later ↦ behind rest later
    ]

pub all_from_each : {A : Type 0} (p : A → Bool) (xs : List A) → ((x : A) → Contains xs x → p x ≡ true) → list_all p xs ≡ true
all_from_each p [] each = refl
all_from_each p (x ∷ xs) each =
    ap (λ b. b && list_all p xs) (each x (contains_first x xs)) ∙ all_from_each p xs (λ y later. each y (contains_later x y xs later))

pub record IsKept {A : Type 0} (p : A → Bool) (xs : List A) (x : A) : Type 0 where
  pub inside : Contains xs x
  pub passes : p x ≡ true

pub contains_kept : {A : Type 0} (p : A → Bool) (xs : List A) (x : A) → Contains (filter p xs) x → IsKept p xs x
contains_kept p [] x within = absurd (contains_none x within)
contains_kept {A} p (y ∷ xs) x within = by (p y) refl within (λ later. contains_kept p xs x later)
  where
    behind : IsKept p xs x → IsKept p (y ∷ xs) x
    behind kept = record { inside = contains_later y x xs kept.inside; passes = kept.passes }

    by : (b : Bool) → p y ≡ b → Contains (cond b (y ∷ filter p xs) (filter p xs)) x → (Contains (filter p xs) x → IsKept p xs x)
        → IsKept p (y ∷ xs) x
    by false is later more = behind (more later)
    by true is first more = elim (contains_cons y x (filter p xs) first) [
      | inl same ↦ record { inside = subst (λ (z : A). Contains (y ∷ xs) z) same (contains_first y xs); passes = ap p (sym same) ∙ is }
      | inr later ↦ behind (more later)
    ]

pub kept_contains : {A : Type 0} (p : A → Bool) (xs : List A) (x : A) → Contains xs x → p x ≡ true → Contains (filter p xs) x
kept_contains p [] x within passes = absurd (contains_none x within)
kept_contains {A} p (y ∷ xs) x within passes = by (p y) refl (λ later. kept_contains p xs x later passes)
  where
    by : (b : Bool) → p y ≡ b → (Contains xs x → Contains (filter p xs) x) → Contains (cond b (y ∷ filter p xs) (filter p xs)) x
    by false is more = elim (contains_cons y x xs within) [
      | inl same ↦ (let no : false ≡ true = sym is ∙ ap p same ∙ passes in cc)
      | inr later ↦ more later
    ]
    by true is more = elim (contains_cons y x xs within) [
      | inl same ↦ subst (λ (z : A). Contains (y ∷ filter p xs) z) same (contains_first y (filter p xs))
      | inr later ↦ contains_later y x (filter p xs) (more later)
    ]

-- ---- the only name

pub record IsOnly {A : Type 0} (xs : List A) (x : A) : Type 0 where
  pub inside : Contains xs x
  pub all : (y : A) → Contains xs y → y ≡ x

module _ {A : Type 0} (same : A → A → Bool) (tells : Tells same) where
  pub is_only : (xs : List A) (x : A) → only same xs ≡ Some x → IsOnly xs x
  is_only [] x is = absurd (none-some x is)
  is_only (y ∷ xs) x is = by (list_all (λ z. same z y) xs) refl is
    where
      by : (b : Bool) → list_all (λ z. same z y) xs ≡ b → cond b (Some y) None ≡ Some x → IsOnly (y ∷ xs) x
      by false found none = absurd (none-some x none)
      by true found some =
          let first : y ≡ x = same_Some y x some in
          record {
            inside = subst (λ (z : A). Contains (y ∷ xs) z) first (contains_first y xs);
            all = λ z within. elim (contains_cons y z xs within) [
              | inl here ↦ sym here ∙ first
              | inr later ↦ (tells z y).0 (passes_each (λ w. same w y) xs z found later) ∙ first
            ];
          }

  pub only_is : (xs : List A) (x : A) → IsOnly xs x → only same xs ≡ Some x
  only_is [] x is = absurd (contains_none x is.inside)
  only_is (y ∷ xs) x is =
      let first : y ≡ x = is.all y (contains_first y xs) in
      let all : list_all (λ z. same z y) xs ≡ true =
      all_from_each (λ z. same z y) xs (λ z later. tells_same same tells z y (is.all z (contains_later y z xs later) ∙ sym first)) in
      ap (λ b. cond b (Some y) None) all ∙ ap Some first

  passes_other : (now : A → A) (phi : Phi A) (o : A) → Contains phi.operands o → now o ≢ phi.name
      → Contains (filter (λ n. not (same n phi.name)) (map now phi.operands)) (now o)
  passes_other now phi o within other =
      kept_contains (λ n. not (same n phi.name)) (map now phi.operands) (now o) (contains_map now phi.operands o within)
      (ap not (tells_other same tells (now o) phi.name other))

  is_other : (x y : A) → not (same x y) ≡ true → x ≢ y
  is_other x y passes h = let no : false ≡ true = ap not (sym (tells_same same tells x y h)) ∙ passes in cc

  pub other_is_trivial : (web : List (Phi A)) (now : A → A) (phi : Phi A) (value : A) → Contains web phi
      → other_of same now phi ≡ Some value → IsTrivial web now phi value
  other_is_trivial web now phi value stands is = by (same (now phi.name) phi.name) refl is
    where
      by : (b : Bool) → same (now phi.name) phi.name ≡ b → cond b (only same (filter (λ n. not (same n phi.name)) (map now phi.operands))) None ≡ Some value
          → IsTrivial web now phi value
      by false kept none = absurd (none-some value none)
      by true kept found =
          let alone : IsOnly (filter (λ n. not (same n phi.name)) (map now phi.operands)) value = is_only _ value found in
          let first : IsKept (λ n. not (same n phi.name)) (map now phi.operands) value = contains_kept _ _ value alone.inside in
          let image : IsImage now phi.operands value = contains_image now phi.operands value first.inside in
          record {
            stands = stands;
            kept = (tells (now phi.name) phi.name).0 kept;
            other = is_other value phi.name first.passes;
            some = (image.of, image.inside, image.is);
            all = λ o within. elim (same_or_not same tells (now o) phi.name) [
              | inl itself ↦ inl itself
              | inr other ↦ inr (alone.all (now o) (passes_other now phi o within other))
            ];
          }

  pub trivial_has_other : (web : List (Phi A)) (now : A → A) (phi : Phi A) (value : A) → IsTrivial web now phi value
      → other_of same now phi ≡ Some value
  trivial_has_other web now phi value trivial =
      ap (λ b. cond b (only same (filter (λ n. not (same n phi.name)) (map now phi.operands))) None)
      (tells_same same tells (now phi.name) phi.name trivial.kept)
      ∙ only_is (filter (λ n. not (same n phi.name)) (map now phi.operands)) value (record {
        inside =
            subst (λ (z : A). Contains (filter (λ n. not (same n phi.name)) (map now phi.operands)) z) trivial.some.2
            (passes_other now phi trivial.some.0 trivial.some.1 (λ h. trivial.other (sym trivial.some.2 ∙ h)));
        all = λ y within. each y (contains_kept _ _ y within);
      })
    where
      each : (y : A) → IsKept (λ n. not (same n phi.name)) (map now phi.operands) y → y ≡ value
      each y kept =
          let image : IsImage now phi.operands y = contains_image now phi.operands y kept.inside in
          elim (trivial.all image.of image.inside) [
            | inl itself ↦ absurd (is_other y phi.name kept.passes (sym image.is ∙ itself))
            | inr other ↦ sym image.is ∙ other
          ]
