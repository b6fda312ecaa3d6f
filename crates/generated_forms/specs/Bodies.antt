-- What is drawn for a function: its shape, and then the constant of its body.
use Rattle.std.specs.Prelude.{ℕ, zero, suc, ◌+◌, ◌*◌, List}
use Rattle.ir_ast.specs.Blocks.{BasicBlock}
use Rattle.generated_forms.specs.Draws.{drawn, state_after}
use Rattle.generated_forms.specs.Shapes.{making, merging, looping}

pub data Shape : Type 0 where
  Making : Shape
  Merging : Shape
  Looping : Shape

abbrev pub shape_of : ℕ → Shape
shape_of zero = Making
shape_of (suc zero) = Merging
shape_of _ = Looping

-- what the constant is below
abbrev pub bound_of : Shape → ℕ
bound_of Looping = 10
bound_of _ = 100

abbrev pub body : Shape → ℕ → ℕ → List BasicBlock
body Making place constant = making constant
body Merging place constant = merging place constant
body Looping place constant = looping constant

-- each function takes two draws
abbrev pub shape_at : ℕ → ℕ → Shape
shape_at seed place = shape_of (drawn 3 (state_after seed (2 * place + 1)))

abbrev pub constant_at : ℕ → ℕ → ℕ
constant_at seed place = drawn (bound_of (shape_at seed place)) (state_after seed (2 * place + 2))
