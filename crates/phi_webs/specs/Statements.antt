-- The laws of webs of phis, over any names that a test tells apart.
use Rattle.std.specs.Prelude.{◌≡◌, ◌≢◌, Bool, List, map}
use Rattle.std.specs.List.{Contains}
use Rattle.phi_webs.specs.Webs.{Phi, NamedOnce, IsOutside, Rooted, AllRooted, Removal, IsMinimal}
use Rattle.phi_webs.specs.Becomes.{becomes}

module _ (A : Type 0) (same : A → A → Bool) where
  -- the operands of a removed phi have all become what it became
  abbrev pub RemovedAreSolved : Type 0
  RemovedAreSolved = (web : List (Phi A)) → NamedOnce web → (now : A → A) → Removal same web now
      → (phi : Phi A) → Contains web phi → now phi.name ≢ phi.name → (o : A) → Contains phi.operands o → now o ≡ now phi.name

  -- the operands of a kept phi that comes from outside haven't all become itself
  abbrev pub KeptAreOpen : Type 0
  KeptAreOpen = (web : List (Phi A)) → NamedOnce web → (now : A → A) → Removal same web now
      → (phi : Phi A) → Contains web phi → Rooted web phi.name → now phi.name ≡ phi.name
      → ¬ ((o : A) → Contains phi.operands o → now o ≡ phi.name)

  -- what a name becomes stays
  abbrev pub SettlesAtOnce : Type 0
  SettlesAtOnce = (web : List (Phi A)) (now : A → A) → Removal same web now → (n : A) → now (now n) ≡ now n

  -- what is no phi stays
  abbrev pub OutsideStays : Type 0
  OutsideStays = (web : List (Phi A)) (now : A → A) → Removal same web now → (n : A) → IsOutside web n → now n ≡ n

  -- a minimal removal, after any other, gives what it gives alone
  abbrev pub MinimalAbsorbs : Type 0
  MinimalAbsorbs = (web : List (Phi A)) → NamedOnce web → (minimal other : A → A) → Removal same web minimal → IsMinimal web minimal
      → Removal same web other → (n : A) → minimal (other n) ≡ minimal n

  -- whatever is removed first, in the end names become the same
  abbrev pub OrderIsFree : Type 0
  OrderIsFree = (web : List (Phi A)) → NamedOnce web → AllRooted web → (first second : A → A)
      → Removal same web first → IsMinimal web first → Removal same web second → IsMinimal web second → (n : A) → first n ≡ second n

  abbrev pub BecomesIsRemoval : Type 0
  BecomesIsRemoval = (web : List (Phi A)) → Removal same web (becomes same web)

  abbrev pub BecomesIsMinimal : Type 0
  BecomesIsMinimal = (web : List (Phi A)) → IsMinimal web (becomes same web)

-- whatever each phi shares with its operands, a name shares with what it becomes
abbrev pub SharedIsKept : (A B : Type 0) → (A → A → Bool) → Type 0
SharedIsKept A B same = (web : List (Phi A)) (of : A → B)
    → ((phi : Phi A) → Contains web phi → (o : A) → Contains phi.operands o → of o ≡ of phi.name)
    → (now : A → A) → Removal same web now → (n : A) → of (now n) ≡ of n

-- a web whose names are replaced by others
abbrev pub renamed_phi : {A B : Type 0} → (A → B) → Phi A → Phi B
renamed_phi f phi = record { name = f phi.name; operands = map f phi.operands }

abbrev pub renamed_web : {A B : Type 0} → (A → B) → List (Phi A) → List (Phi B)
renamed_web f web = map (renamed_phi f) web

-- a map that tells the names of a list apart, among which all names of a web are
pub record IsRenaming {A B : Type 0} (web : List (Phi A)) (names : List A) (f : A → B) : Type 0 where
  pub apart : (x y : A) → Contains names x → Contains names y → f x ≡ f y → x ≡ y
  pub phis : (phi : Phi A) → Contains web phi → Contains names phi.name
  pub operands : (phi : Phi A) → Contains web phi → (o : A) → Contains phi.operands o → Contains names o

-- removing doesn't depend on how names are called
abbrev pub RenamingCommutes : (A B : Type 0) → (A → A → Bool) → (B → B → Bool) → Type 0
RenamingCommutes A B same equal = (web : List (Phi A)) (names : List A) (f : A → B) → IsRenaming web names f
    → (n : A) → Contains names n → becomes equal (renamed_web f web) (f n) ≡ f (becomes same web n)
