-- What each name of a web becomes in the end: the first trivial phi goes, as often as there are phis.
use Rattle.std.specs.Prelude.{Bool, not, ℕ, zero, suc, List, [], ◌∷◌, length, map, Option, Some, None, if◌then◌else◌}
use Rattle.std.specs.List.{filter, list_all}
use Rattle.std.specs.Option.{option_or}
use Rattle.phi_webs.specs.Webs.{Phi, replaced}

-- a removed phi's name, and the name that takes its place
pub record Removed (A : Type 0) : Type 0 where
  pub name : A
  pub value : A

module _ {A : Type 0} (same : A → A → Bool) where
  -- the only name in a list, however often it stands there
  abbrev pub only : List A → Option A
  only [] = None
  only (x ∷ xs) = if list_all (λ y. same y x) xs then Some x else None

  -- what each name has become, the last removal first
  abbrev pub after_removals : List (Removed A) → A → A
  after_removals [] n = n
  after_removals (r ∷ removals) n = replaced same r.name r.value (after_removals removals n)

  -- the name that takes a phi's place, where it is kept and trivial
  abbrev pub other_of : (A → A) → Phi A → Option A
  other_of now phi =
      if same (now phi.name) phi.name then only (filter (λ o. not (same o phi.name)) (map now phi.operands)) else None

  abbrev pub removal_of : Phi A → Option A → Option (Removed A)
  removal_of phi None = None
  removal_of phi (Some value) = Some (record { name = phi.name; value = value })

  abbrev pub next_removal : (A → A) → List (Phi A) → Option (Removed A)
  next_removal now [] = None
  next_removal now (phi ∷ web) = option_or (removal_of phi (other_of now phi)) (next_removal now web)

  abbrev pub with_next : List (Removed A) → Option (Removed A) → List (Removed A)
  with_next removals None = removals
  with_next removals (Some r) = r ∷ removals

  abbrev pub removals_within : List (Phi A) → ℕ → List (Removed A)
  removals_within web zero = []
  removals_within web (suc bound) =
      let earlier = removals_within web bound in with_next earlier (next_removal (after_removals earlier) web)

  abbrev pub removals_of : List (Phi A) → List (Removed A)
  removals_of web = removals_within web (length web)

  abbrev pub becomes : List (Phi A) → A → A
  becomes web = after_removals (removals_of web)
