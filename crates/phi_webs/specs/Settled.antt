-- Webs over numbers, and what is found of them.
use Rattle.std.specs.Prelude.{◌≡◌, ℕ, ◌==◌, ◌<◌, ◌≤◌, ◌≢◌, ◌⊎◌, Bool, List, length, map, Option, Some, None, slice_index_or}
use Rattle.std.specs.List.{Contains}
use Rattle.phi_webs.specs.declared.rows.PhiRow.{PhiRow}
use Rattle.phi_webs.specs.declared.rows.Replaced.{Replaced}
use Rattle.phi_webs.specs.Webs.{Phi, NamedOnce, AllRooted, IsTrivial, Removal, IsMinimal}
use Rattle.phi_webs.specs.Becomes.{becomes}
use Rattle.phi_webs.specs.Forests.{Leads}

abbrev pub same : ℕ → ℕ → Bool
same x y = x == y

-- a phi over numbers, and a web
abbrev pub phi_of : PhiRow → Phi ℕ
phi_of row = record { name = row.name; operands = row.operands.now }

abbrev pub web_of : List PhiRow → List (Phi ℕ)
web_of rows = map phi_of rows

-- the answer: a minimal removal, in which each name stands at its own place
pub record IsSettled (web : List (Phi ℕ)) (ends : List ℕ) : Type 0 where
  pub now : ℕ → ℕ
  pub removal : Removal same web now
  pub minimal : IsMinimal web now
  pub at : (n : ℕ) → slice_index_or ends n n ≡ now n

abbrev pub AnswersBecomes : List (Phi ℕ) → List ℕ → Type 0
AnswersBecomes web ends = NamedOnce web → AllRooted web → (n : ℕ) → slice_index_or ends n n ≡ becomes same web n

-- a phi whose one other name is known
abbrev pub HasOther : List ℕ → Phi ℕ → ℕ → Type 0
HasOther ups phi value = (now : ℕ → ℕ) (last : ℕ) → Leads ups now last → (web : List (Phi ℕ)) → Contains web phi → IsTrivial web now phi value

abbrev pub HasNoOther : List ℕ → Phi ℕ → Type 0
HasNoOther ups phi = (now : ℕ → ℕ) (last : ℕ) → Leads ups now last → (web : List (Phi ℕ)) (value : ℕ) → ¬ IsTrivial web now phi value

-- what stands beside one other name so far, and the name that one operand more has become
abbrev pub EndIsNoted : ℕ → Option ℕ → ℕ → Option (Option ℕ) → Type 0
EndIsNoted name found end None = (value : ℕ) × (found ≡ Some value) × (value ≢ end) × (end ≢ name)
EndIsNoted name found end (Some next) =
    ((end ≡ name) × (next ≡ found)) ⊎ ((end ≢ name) × (found ≡ None) × (next ≡ Some end)) ⊎ ((found ≡ Some end) × (next ≡ found))

-- a phi of the web that can go
pub record CanGo (ups : List ℕ) (web : List (Phi ℕ)) (gone : Replaced) : Type 0 where
  pub phi : Phi ℕ
  pub stands : Contains web phi
  pub name_is : gone.name ≡ phi.name
  pub other : HasOther ups phi gone.value

-- none can go
abbrev pub NoneCanGo : List ℕ → List (Phi ℕ) → Type 0
NoneCanGo ups web = (phi : Phi ℕ) → Contains web phi → HasNoOther ups phi

-- the names of a web's phis have places
abbrev pub HasRoom : List ℕ → List (Phi ℕ) → Type 0
HasRoom ups web = (phi : Phi ℕ) → Contains web phi → phi.name < length ups

-- how far the removal has come, after so many steps at most
pub record IsUnderWay (web : List (Phi ℕ)) (ups : List ℕ) (steps : ℕ) : Type 0 where
  pub now : ℕ → ℕ
  pub last : ℕ
  pub removal : Removal same web now
  pub leads : Leads ups now last
  pub within : last ≤ steps
  pub room : HasRoom ups web
