-- The law of removal, at a source module.
use Rattle.std.specs.Prelude.{◌≡◌, ◌↔◌, ℕ, ℤ, List, Option}
use Rattle.std.specs.List.{All}
use Rattle.ir_ast.specs.Modules.{ModuleContent}
use Rattle.ir_cfg.specs.DefiniteUses.{UsesAreDefinite}
use Rattle.ir_cfg.specs.SourceModules.{IsSourceModule}
use Rattle.ir_cfg.specs.Unreached.{ModuleDropsUnreached}
use Rattle.object_meaning.specs.Outcomes.{Outcome}
use Rattle.object_meaning.specs.SourceRuns.{SourceGives}
use Rattle.object_meaning.specs.TargetRuns.{TargetGives}
use Rattle.base_forms.specs.Based.{based_module}
use Rattle.pair_facts.specs.Faults.{IsVerified}
use Rattle.phi_webs.specs.Webs.{IsMinimal, Phi, Removal}
use Rattle.rewriting_forms.specs.Names.{Name, full_naming, naming_after, phis_of, same_name}
use Rattle.rewriting_forms.specs.Rewritten.{Choice}
use Rattle.rewriting_laws.specs.Statements.{func_of}
use Rattle.rewritten_sound.specs.Definite.{base_tables, rewritten_source, rewritten_source_by}

-- the inserted phis of each function of the module with bases, by its number
abbrev pub phis_in : ModuleContent → ℕ → List (Phi Name)
phis_in reached g = phis_of (func_of (based_module reached) g) (base_tables reached g)

-- for each function what its names become as trivial phis are removed, any of them in any order
abbrev pub AreRemovals : ModuleContent → (ℕ → Name → Name) → Type 0
AreRemovals reached now = (g : ℕ) → Removal same_name (phis_in reached g) (now g)

-- and no phi that is left is trivial
abbrev pub AreMinimal : ModuleContent → (ℕ → Name → Name) → Type 0
AreMinimal reached now = (g : ℕ) → IsMinimal (phis_in reached g) (now g)

-- the module that is left
abbrev pub choice_after : (ℕ → Name → Name) → Choice
choice_after now g func table = naming_after (full_naming func table) (now g)

abbrev pub source_after : ModuleContent → (ℕ → Name → Name) → ModuleContent
source_after reached now = rewritten_source_by reached (choice_after now)

-- it gives what the source gives, each path to a use meets the definition before it, and no line has a fault of the verifier
pub record KeepsAll (content after : ModuleContent) : Type 0 where
  pub meaning : (input : List ℤ) (go : ℕ → Option ℕ) (bound : ℕ) (outcome : Outcome)
      → SourceGives content input go bound outcome ↔ TargetGives after input go bound outcome
  pub definite : All UsesAreDefinite after.funcs
  pub verified : IsVerified after

-- the law of removal: whichever phis go
abbrev pub RemovalKeepsAll : Type 0
RemovalKeepsAll = (content reached : ModuleContent) → IsSourceModule content → ModuleDropsUnreached content reached
    → (now : ℕ → Name → Name) → AreRemovals reached now → KeepsAll content (source_after reached now)

-- so before and after one removal more the module gives the same
abbrev pub RemovalIsNoMatter : Type 0
RemovalIsNoMatter = (content reached : ModuleContent) → IsSourceModule content → ModuleDropsUnreached content reached
    → (now other : ℕ → Name → Name) → AreRemovals reached now → AreRemovals reached other
    → (input : List ℤ) (go : ℕ → Option ℕ) (bound : ℕ) (outcome : Outcome)
    → TargetGives (source_after reached now) input go bound outcome ↔ TargetGives (source_after reached other) input go bound outcome

-- some removals leave no trivial phi
abbrev pub RemovalEnds : Type 0
RemovalEnds = (reached : ModuleContent) → (now : ℕ → Name → Name) × AreRemovals reached now × AreMinimal reached now

-- and whichever phis went first, what is left then is the rewritten module
abbrev pub RemovalEndsThere : Type 0
RemovalEndsThere = (content reached : ModuleContent) → IsSourceModule content → ModuleDropsUnreached content reached
    → (now : ℕ → Name → Name) → AreRemovals reached now → AreMinimal reached now → source_after reached now ≡ rewritten_source reached
