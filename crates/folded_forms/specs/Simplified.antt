-- A simplified module.
use Rattle.std.specs.Prelude.{◌≡◌, ℕ, ℤ, List, Option}
use Rattle.std.specs.List.{All, AllZip}
use Rattle.ir_ast.specs.Blocks.{BasicBlock}
use Rattle.ir_ast.specs.Edges.{targets}
use Rattle.ir_ast.specs.Funcs.{Function}
use Rattle.ir_ast.specs.Modules.{ModuleContent}
use Rattle.ir_cfg.specs.SourceModules.{IsSourceModule}
use Rattle.object_meaning.specs.Outcomes.{Outcome}
use Rattle.object_meaning.specs.SourceRuns.{SourceGives}
use Rattle.folded_forms.specs.Foldable.{IsReduced}

-- the same name, and the same labels of the terminator
pub record SameBlock (one other : BasicBlock) : Type 0 where
  pub name : other.name ≡ one.name
  pub labels : targets other ≡ targets one

pub record SameFunction (one other : Function) : Type 0 where
  pub name : other.name ≡ one.name
  pub answer : other.answer ≡ one.answer
  pub args : other.args ≡ one.args
  pub blocks : AllZip SameBlock one.blocks other.blocks

-- a source module with the same functions, blocks and labels, whose runs give the same; nothing foldable and nothing dead is left
pub record IsSimplified (content after : ModuleContent) : Type 0 where
  pub source : IsSourceModule after
  pub layouts : after.layouts ≡ content.layouts
  pub functions : AllZip SameFunction content.funcs after.funcs
  pub gives : (input : List ℤ) (go : ℕ → Option ℕ) (bound : ℕ) (outcome : Outcome) → SourceGives content input go bound outcome → SourceGives after input go bound outcome
  pub reduced : All IsReduced after.funcs
