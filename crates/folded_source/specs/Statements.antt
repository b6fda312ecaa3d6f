-- What is proved of a source module whose functions stand under tables.
use Rattle.std.specs.Prelude.{◌≡◌}
use Rattle.std.specs.List.{AllZip}
use Rattle.ir_ast.specs.Funcs.{Function}
use Rattle.ir_ast.specs.Modules.{ModuleContent}
use Rattle.ir_cfg.specs.SourceModules.{IsSourceModule}
use Rattle.folded_forms.specs.Folded.{Table, folded}
use Rattle.folded_forms.specs.Foldings.{IsFolding, IsThinning}
use Rattle.folded_forms.specs.Simplified.{SameFunction}

-- the other function is this one under a table of which this holds
pub record IsUnder (Holds : Function → Table → Type 0) (func after : Function) : Type 0 where
  pub table : Table
  pub holds : Holds func table
  pub is : after ≡ folded func table

-- the other module has the functions of this one, each under such a table
pub record ModuleIsUnder (Holds : Function → Table → Type 0) (content after : ModuleContent) : Type 0 where
  pub layouts : after.layouts ≡ content.layouts
  pub form : after.form ≡ content.form
  pub functions : AllZip (IsUnder Holds) content.funcs after.funcs

-- it is a source module, with the same functions, blocks and labels of terminators
pub record StaysSource (content after : ModuleContent) : Type 0 where
  pub source : IsSourceModule after
  pub functions : AllZip SameFunction content.funcs after.funcs

-- under tables in which only what reads the same stands for a value a source module stays one
abbrev pub FoldedStaysSource : Type 0
FoldedStaysSource = (content after : ModuleContent) → IsSourceModule content → ModuleIsUnder IsFolding content after → StaysSource content after

-- and so under tables that drop what nothing needs
abbrev pub ThinnedStaysSource : Type 0
ThinnedStaysSource = (content after : ModuleContent) → IsSourceModule content → ModuleIsUnder IsThinning content after → StaysSource content after

-- and so if it is folded first and then thinned
abbrev pub FoldedAndThinnedStaysSource : Type 0
FoldedAndThinnedStaysSource = (content between after : ModuleContent) → IsSourceModule content → ModuleIsUnder IsFolding content between → ModuleIsUnder IsThinning between after
    → StaysSource content after
