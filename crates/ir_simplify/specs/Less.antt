-- What becomes of a module: operands stand for some results, and then what nothing needs goes.
use Rattle.ir_ast.specs.Modules.{ModuleContent}
use Rattle.folded_forms.specs.Foldings.{IsFolding, IsThinning}
use Rattle.folded_source.specs.Statements.{ModuleIsUnder}

pub record IsLess (content after : ModuleContent) : Type 0 where
  pub between : ModuleContent
  pub folded : ModuleIsUnder IsFolding content between
  pub thinned : ModuleIsUnder IsThinning between after
