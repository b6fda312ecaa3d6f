-- What is proved of names where inserted phis become other names.
use Rattle.std.specs.Prelude.{◌≡◌, ◌≢◌, ℕ, ◌<◌, Bool, true, List, length}
use Rattle.std.specs.List.{Contains}
use Rattle.ir_ast.specs.declared.ops.Operand.{Operand}
use Rattle.ir_ast.specs.Funcs.{Function}
use Rattle.phi_webs.specs.Webs.{AllRooted, IsMinimal, IsOutside, Phi, Removal}
use Rattle.rewriting_forms.specs.Liveness.{live_table}
use Rattle.rewriting_forms.specs.Names.{Name, Naming, full_naming, least_naming, naming_after, phis_of, phis_with, same_name}
use Rattle.rewriting_laws.specs.Laws.{Fits, IsReached, owner_of}

-- what names become: all but phis stay, each name keeps its value, and where a phi becomes another name its operands all become that name
pub record SolvesPhis (func : Function) (table : List Operand) (naming : Naming) (now : Name → Name) : Type 0 where
  pub fixes : (n : Name) → IsOutside (phis_with func table naming) n → now n ≡ n
  pub owner : (n : Name) → owner_of (now n) ≡ owner_of n
  pub solved : (phi : Phi Name) → Contains (phis_with func table naming) phi → now phi.name ≢ phi.name
      → (o : Name) → Contains phi.operands o → now o ≡ now phi.name

-- where the names fit at every edge, so do what they become
abbrev pub SolvedFits : Type 0
SolvedFits = (func : Function) (table : List Operand) (naming : Naming) (live : ℕ → ℕ → ℕ → Bool) → Fits func table naming live
    → ((b v : ℕ) → naming.joins b v ≡ true → b < length func.blocks)
    → (now : Name → Name) → SolvesPhis func table naming now → Fits func table (naming_after naming now) live

-- so whichever trivial phis are removed, what is left fits
abbrev pub RemovalFits : Type 0
RemovalFits = (func : Function) (table : List Operand) → IsReached func → (now : Name → Name) → Removal same_name (phis_of func table) now
    → Fits func table (naming_after (full_naming func table) now) (live_table func table)

-- each inserted phi comes from a name that is no phi
abbrev pub PhisAreRooted : Type 0
PhisAreRooted = (func : Function) (table : List Operand) → IsReached func → AllRooted (phis_of func table)

-- the order in which phis are removed doesn't matter: where none is left that is trivial, there is one naming
abbrev pub LeastIsOne : Type 0
LeastIsOne = (func : Function) (table : List Operand) → IsReached func → (now : Name → Name) → Removal same_name (phis_of func table) now
    → IsMinimal (phis_of func table) now → naming_after (full_naming func table) now ≡ least_naming func table
