-- The first line of a module with a use that some path reaches without its definition.
use Rattle.std.specs.Prelude.{◌≡◌, ℕ, ◌<◌, Some, slice_get}
use Rattle.ir_ast.specs.Funcs.{Function}
use Rattle.ir_ast.specs.Modules.{LinedModule, line_at}
use Rattle.ir_cfg.specs.DefiniteUses.{UsesAreDefinite}
use Rattle.definite_assign.specs.Faults.{HasMissedUse, LineIsDefinite}

-- the line of the first such instruction of the first function that has one
pub record IsFirstMissed (whole : LinedModule) (line : ℕ) : Type 0 where
  pub number : ℕ
  pub func : Function
  pub stands : slice_get whole.content.funcs number ≡ Some func
  pub place : ℕ
  pub missed : HasMissedUse func place
  pub at : line ≡ line_at whole.lines number place
  pub first_place : (earlier : ℕ) → earlier < place → LineIsDefinite func earlier
  pub first_function : (earlier : ℕ) (one : Function) → earlier < number → slice_get whole.content.funcs earlier ≡ Some one
      → UsesAreDefinite one
