-- The functions of a generated module are small, and are those that the random numbers say.
use Rattle.std.proofs.Common.{◌≡◌, ◌∙◌, ℕ, zero, suc, ◌+◌, ◌*◌, ◌<◌, ◌≤◌, ◌^◌, List, [], ◌∷◌, ◌++◌, length, map, refl, ap, sym, subst, arith}
use Rattle.std.proofs.lemmas.List.{append-nil, map-append, length-append, length-map}
use Rattle.std.specs.List.{range_with_len}
use Rattle.std.proofs.lemmas.List.FromFn.{map-range_with_len_more, length-map-range_with_len}
use Rattle.ir_ast.specs.declared.ops.Operand.TheVariants.{Int}
use Rattle.ir_ast.specs.declared.modules.Form.TheVariants.{Source}
use Rattle.ir_ast.specs.declared.funcs.Arg.{Arg}
use Rattle.ir_ast.specs.Layouts.{ObjectLayout}
use Rattle.ir_ast.specs.Insts.{Instruction}
use Rattle.ir_ast.specs.Funcs.{Function, LinedFunction, IsSmall, content_of, lines_of}
use Rattle.ir_cfg.specs.Unreached.{zeros_of}
use Rattle.generated_forms.specs.Draws.{next_state, drawn, state_after}
use Rattle.generated_forms.specs.Bodies.{Shape, Making, Merging, Looping, shape_of, bound_of, shape_at, constant_at, body}
use Rattle.generated_forms.specs.Lines.{return_line}
use Rattle.generated_forms.specs.Modules.{node, function, function_at, visits, main_of, generated}
use Rattle.generated_forms.proofs.Visits.{main_length}
use Rattle.module_gen.proofs.DrawLaws.{state_more}

pub small_body : (args : List Arg) (shape : Shape) (place constant : ℕ) → length args ≡ 2 → IsSmall args (body shape place constant)
small_body args Making place constant two = record { few_arguments = omega arith; few_blocks = omega arith; few_instructions = omega arith }
small_body args Merging zero constant two = record { few_arguments = omega arith; few_blocks = omega arith; few_instructions = omega arith }
small_body args Merging (suc before) constant two = record { few_arguments = omega arith; few_blocks = omega arith; few_instructions = omega arith }
small_body args Looping place constant two = record { few_arguments = omega arith; few_blocks = omega arith; few_instructions = omega arith }

pub small_main : (size : ℕ) (name : List ℕ) → size < 2 ^ 28 → IsSmall [] (record { name = name; insts = visits size ++ return_line (Int 0) ∷ [] } ∷ [])
small_main size name few = record {
  few_arguments = omega arith;
  few_blocks = omega arith;
  few_instructions = subst (λ (insts : List Instruction). length insts < 2 ^ 30) (sym (append-nil (visits size ++ return_line (Int 0) ∷ []))) (omega (arith, main_length size));
}

-- two draws give the function at a place
pub function_drawn : (seed place first second third number constant bound : ℕ) (shape : Shape) → first ≡ state_after seed (2 * place)
    → second ≡ next_state first → number ≡ drawn 3 second → shape ≡ shape_of number → bound ≡ bound_of shape
    → third ≡ next_state second → constant ≡ drawn bound third → function place (body shape place constant) ≡ function_at seed place
unfolding function_at
function_drawn seed place first second third number constant bound shape first_is second_is number_is shape_is bound_is third_is constant_is =
    let one : second ≡ state_after seed (2 * place + 1) = second_is ∙ ap next_state first_is ∙ state_more seed (2 * place) (2 * place + 1) refl in
    let two : third ≡ state_after seed (2 * place + 2) = third_is ∙ ap next_state one ∙ state_more seed (2 * place + 1) (2 * place + 2) (omega arith) in
    let drawn_shape : shape ≡ shape_at seed place = shape_is ∙ ap shape_of (number_is ∙ ap (drawn 3) one) in
    let drawn_constant : constant ≡ constant_at seed place =
    constant_is ∙ ap (λ (b : ℕ). drawn b third) (bound_is ∙ ap bound_of drawn_shape) ∙ ap (drawn (bound_of (shape_at seed place))) two in
    rw (drawn_shape, drawn_constant) refl

pub functions_more : (seed place : ℕ) (funcs : List LinedFunction) (func : LinedFunction)
    → map content_of funcs ≡ map (function_at seed) (range_with_len 0 place) → func.content ≡ function_at seed place
    → map content_of (funcs ++ func ∷ []) ≡ map (function_at seed) (range_with_len 0 (place + 1))
functions_more seed place funcs func so_far is =
    map-append content_of funcs (func ∷ []) ∙ ap (λ (before : List Function). before ++ func.content ∷ []) so_far
    ∙ ap (λ (last : Function). map (function_at seed) (range_with_len 0 place) ++ last ∷ []) is
    ∙ sym (map-range_with_len_more (function_at seed) 0 place place (omega arith))

pub few_functions : (seed size : ℕ) (funcs : List LinedFunction) (main : LinedFunction) → map content_of funcs ≡ map (function_at seed) (range_with_len 0 size)
    → size ≤ 1000 → length (funcs ++ main ∷ []) < 2 ^ 32
few_functions seed size funcs main is few =
    omega (arith, length-append funcs (main ∷ []), length-map funcs content_of, ap length is, length-map-range_with_len (function_at seed) 0 size)

pub generated_made : (seed size : ℕ) (layouts : List ObjectLayout) (funcs : List LinedFunction) (main : LinedFunction) → layouts ≡ node ∷ []
    → map content_of funcs ≡ map (function_at seed) (range_with_len 0 size) → main.content ≡ main_of size
    → record { layouts = layouts; funcs = map content_of (funcs ++ main ∷ []); form = Source } ≡ generated seed size
unfolding generated
generated_made seed size layouts funcs main layouts_is funcs_is main_is =
    rw (layouts_is, map-append content_of funcs (main ∷ []), funcs_is, main_is) refl
