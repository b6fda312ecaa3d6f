-- The definitions at the seed 0, where the first state is the increment, and the first function a loop over 4.
use Rattle.std.proofs.Common.{◌≡◌, [], ◌∷◌, refl, codes, arith}
use Rattle.std.proofs.lemmas.Fmt.{decimal_digit}
use Rattle.generated_forms.specs.Draws.{next_state, state_after, drawn}
use Rattle.generated_forms.specs.Shapes.{looping}
use Rattle.generated_forms.specs.Bodies.{Looping, shape_at, constant_at}
use Rattle.generated_forms.specs.Lines.{new_line, call_line, print_line, return_line}
use Rattle.generated_forms.specs.Modules.{function_at, main_of, generated, node, parameters}
use Rattle.ir_ast.specs.declared.ops.Operand.TheVariants.{Int}
use Rattle.ir_ast.specs.declared.types.Ty.TheVariants.{Int as Integer}
use Rattle.ir_ast.specs.declared.modules.Form.TheVariants.{Source}

first_states : (state_after 0 1 ∷ state_after 0 2 ∷ []) ≡ 1442695040888963407 ∷ 1876011003808476466 ∷ []
unfolding state_after next_state
first_states = refl

first_shape : shape_at 0 0 ≡ Looping
unfolding state_after next_state drawn
first_shape = refl

first_constant : constant_at 0 0 ≡ 4
unfolding state_after next_state drawn
first_constant = refl

smallest_module : generated 0 1 ≡ record {
  layouts = node ∷ [];
  funcs = record { name = codes "g1"; answer = Integer 64; args = parameters; blocks = looping 4 }
      ∷ record {
        name = codes "main";
        answer = Integer 64;
        args = [];
        blocks = record {
          name = codes "entry";
          insts = new_line (codes "o") 1 ∷ call_line (codes "v1") 0 0 (Int 1) ∷ print_line 1 ∷ return_line (Int 0) ∷ [];
        } ∷ [];
      } ∷ [];
  form = Source;
}
unfolding generated function_at main_of state_after next_state drawn
smallest_module = rw (decimal_digit 1 (omega arith)) refl
