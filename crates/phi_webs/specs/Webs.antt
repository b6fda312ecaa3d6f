-- Webs of phis: names, some of which are each given by a list of names, one of which it is at a time; and removals of phis that no
-- name needs.
use Rattle.std.specs.Prelude.{◌≡◌, ◌≢◌, ◌⊎◌, Bool, if◌then◌else◌, List}
use Rattle.std.specs.List.{Contains}
use Rattle.std.specs.Bool.{Decides}

-- the test tells whether two names are the same
abbrev pub Tells : {A : Type 0} → (A → A → Bool) → Type 0
Tells {A} same = (x y : A) → Decides (same x y) (x ≡ y)

-- a phi takes one of its operands, and so has the name of a value of theirs
pub record Phi (A : Type 0) : Type 0 where
  pub name : A
  pub operands : List A

-- no two phis give one name
abbrev pub NamedOnce : {A : Type 0} → List (Phi A) → Type 0
NamedOnce {A} web = (p q : Phi A) → Contains web p → Contains web q → p.name ≡ q.name → p ≡ q

-- no phi of the web gives this name
abbrev pub IsOutside : {A : Type 0} → List (Phi A) → A → Type 0
IsOutside {A} web n = (phi : Phi A) → Contains web phi → n ≢ phi.name

-- a name that comes from outside: some walk from a phi to one of its operands leaves the web
pub data Rooted {A : Type 0} (web : List (Phi A)) : A → Type 0 where
  outside : (n : A) → IsOutside web n → Rooted web n
  through : (phi : Phi A) (o : A) → Contains web phi → Contains phi.operands o → Rooted web o → Rooted web phi.name

abbrev pub AllRooted : {A : Type 0} → List (Phi A) → Type 0
AllRooted {A} web = (phi : Phi A) → Contains web phi → Rooted web phi.name

-- by what names have become, the operands of a phi are itself and this one other name
pub record IsTrivial {A : Type 0} (web : List (Phi A)) (now : A → A) (phi : Phi A) (value : A) : Type 0 where
  pub stands : Contains web phi
  pub kept : now phi.name ≡ phi.name
  pub other : value ≢ phi.name
  pub some : (o : A) × Contains phi.operands o × (now o ≡ value)
  pub all : (o : A) → Contains phi.operands o → (now o ≡ phi.name) ⊎ (now o ≡ value)

-- a name where another takes the place of one
abbrev pub replaced : {A : Type 0} → (A → A → Bool) → A → A → A → A
replaced same name value n = if same n name then value else n

-- what each name becomes as trivial phis are removed, one after another, each for its other name
pub data Removal {A : Type 0} (same : A → A → Bool) (web : List (Phi A)) : (A → A) → Type 0 where
  none : Removal same web (λ n. n)
  one : (now : A → A) (phi : Phi A) (value : A) → Removal same web now → IsTrivial web now phi value
      → Removal same web (λ n. replaced same phi.name value (now n))

-- no phi that is kept is trivial
abbrev pub IsMinimal : {A : Type 0} → List (Phi A) → (A → A) → Type 0
IsMinimal {A} web now = (phi : Phi A) (value : A) → ¬ IsTrivial web now phi value
