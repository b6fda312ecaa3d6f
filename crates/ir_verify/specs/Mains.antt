-- A function where a program can begin.
use Rattle.std.specs.Prelude.{◌≡◌, ◌⊎◌, []}
use Rattle.ir_ast.specs.declared.types.Ty.TheVariants.{Int}
use Rattle.ir_ast.specs.Funcs.{Function}

pub record IsMain (func : Function) : Type 0 where
  pub args : func.args ≡ []
  pub answer : (func.answer ≡ Int 32) ⊎ (func.answer ≡ Int 64)
