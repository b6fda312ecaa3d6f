-- What is proved of folded modules.
use Rattle.std.specs.Prelude.{ℕ, ℤ, ◌↔◌, List, Option}
use Rattle.ir_ast.specs.Modules.{ModuleContent}
use Rattle.ir_cfg.specs.SourceModules.{IsSourceModule}
use Rattle.object_meaning.specs.Outcomes.{Outcome}
use Rattle.object_meaning.specs.SourceRuns.{SourceGives}
use Rattle.folded_forms.specs.Foldings.{IsFolding, IsThinning}
use Rattle.folded_source.specs.Statements.{ModuleIsUnder}

-- for every input, `go` lines and bound both runs give the same
abbrev pub GiveTheSame : ModuleContent → ModuleContent → Type 0
GiveTheSame content after = (input : List ℤ) (go : ℕ → Option ℕ) (bound : ℕ) (outcome : Outcome) → SourceGives content input go bound outcome ↔ SourceGives after input go bound outcome

-- a source module where only what reads the same stands for a value
abbrev pub FoldedGiveTheSame : Type 0
FoldedGiveTheSame = (content after : ModuleContent) → IsSourceModule content → ModuleIsUnder IsFolding content after → GiveTheSame content after

-- one from which only goes what nothing needs
abbrev pub ThinnedGiveTheSame : Type 0
ThinnedGiveTheSame = (content after : ModuleContent) → IsSourceModule content → ModuleIsUnder IsThinning content after → GiveTheSame content after

-- and so if it is folded first and then thinned
abbrev pub FoldedAndThinnedGiveTheSame : Type 0
FoldedAndThinnedGiveTheSame = (content between after : ModuleContent) → IsSourceModule content → ModuleIsUnder IsFolding content between → ModuleIsUnder IsThinning between after
    → GiveTheSame content after
