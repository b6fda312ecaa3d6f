-- The first function: what has no fault of code 11.
use Rattle.std.specs.Prelude.{◌≡◌, ◌≢◌, ◌⊎◌, List, [], ◌∷◌, ◌++◌, codes}
use Rattle.std.specs.List.{All}
use Rattle.ir_ast.specs.declared.types.Ty.TheVariants.{Int}
use Rattle.ir_ast.specs.Funcs.{Function}
use Rattle.ir_ast.specs.Modules.{ModuleContent}

-- the first function named `@main` takes nothing and answers `i32` or `i64`
pub record HasMain (content : ModuleContent) : Type 0 where
  pub earlier : List Function
  pub main : Function
  pub later : List Function
  pub whole : content.funcs ≡ earlier ++ main ∷ later
  pub first : All (λ func. func.name ≢ codes "main") earlier
  pub name : main.name ≡ codes "main"
  pub args : main.args ≡ []
  pub answer : (main.answer ≡ Int 32) ⊎ (main.answer ≡ Int 64)
