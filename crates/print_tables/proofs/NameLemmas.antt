-- Names of values.
use Rattle.std.proofs.Common.{◌≡◌, ℕ, ◌+◌, ◌-◌, ◌<◌, ◌≤◌, List, [], ◌∷◌, ◌++◌, Some, None, suc, length, drop, get_or, map, filter, is_some, zero, slice_get, unwrap_or, ◌∙◌, refl, add-one, drop-cons, arith}
use Rattle.std.specs.Option.{option_map_or}
use Rattle.ir_ast.specs.Insts.{Instruction}
use Rattle.ir_ast.specs.declared.funcs.Arg.{Arg}
use Rattle.ir_ast.specs.Blocks.{BasicBlock}
use Rattle.ir_ast.specs.Funcs.{Function, instructions_of}
use Rattle.ir_ast.specs.Values.{Definition, argument, outcome, definition_name}
use Rattle.print_tables.specs.Names.{result_name, value_name}

pub result_name-none : (inst : Instruction) (insts : List Instruction) (number : ℕ) → inst.result ≡ None → result_name (inst ∷ insts) number ≡ result_name insts number
unfolding result_name
result_name-none inst insts number none = rw none

pub result_name-first : (inst : Instruction) (insts : List Instruction) (name : List ℕ) → inst.result ≡ Some name → result_name (inst ∷ insts) 0 ≡ name
unfolding result_name
result_name-first inst insts name some = rw some

pub result_name-later : (inst : Instruction) (insts : List Instruction) (name : List ℕ) (number : ℕ) → inst.result ≡ Some name → result_name (inst ∷ insts) (suc number) ≡ result_name insts number
unfolding result_name
result_name-later inst insts name number some = rw some

pub result_name-nil : (number : ℕ) → result_name [] number ≡ []
unfolding result_name
result_name-nil number = refl

-- the name that is looked for, where the instruction at the place gives it
pub result_name-at_first : (items : List Instruction) (place : ℕ) (inst : Instruction) (later : List Instruction) (left : ℕ) (name : List ℕ) → place < length items → inst ≡ get_or items place inst → inst.result ≡ Some name → left ≡ 0 → result_name (drop place items ++ later) left ≡ name
result_name-at_first items place inst later left name within is some none =
    rw (drop-cons items place inst, ← is, none) (result_name-first inst _ name some)

-- where it gives an earlier one
pub result_name-at_later : (items : List Instruction) (place : ℕ) (inst : Instruction) (later : List Instruction) (left rest : ℕ) (name : List ℕ) → place < length items → inst ≡ get_or items place inst → inst.result ≡ Some name → left ≡ suc rest → result_name (drop place items ++ later) left ≡ result_name (drop (place + 1) items ++ later) rest
result_name-at_later items place inst later left rest name within is some above =
    rw (drop-cons items place inst, add-one, ← is, above) (result_name-later inst _ name rest some)

-- where it gives none
pub result_name-at_none : (items : List Instruction) (place : ℕ) (inst : Instruction) (later : List Instruction) (left : ℕ) → place < length items → inst ≡ get_or items place inst → inst.result ≡ None → result_name (drop place items ++ later) left ≡ result_name (drop (place + 1) items ++ later) left
result_name-at_none items place inst later left within is none =
    rw (drop-cons items place inst, add-one, ← is) (result_name-none inst _ left none)

definition_at : List Definition → ℕ → List ℕ
definition_at definitions value = option_map_or definition_name (slice_get definitions value) []

-- the name of an argument
argument-at : (args : List Arg) (later : List Definition) (value : ℕ) (arg : Arg) → value < length args → arg ≡ get_or args value arg → definition_at (map argument args ++ later) value ≡ arg.name
unfolding definition_at
argument-at [] later value arg within is = absurd (omega arith)
argument-at (first ∷ args) later zero arg within is = rw (← is)
argument-at (first ∷ args) later (suc value) arg within is = argument-at args later value arg (omega arith) is

-- past the arguments stand the results
past-arguments : (args : List Arg) (later : List Definition) (value : ℕ) → length args ≤ value → definition_at (map argument args ++ later) value ≡ definition_at later (value - length args)
unfolding definition_at
past-arguments [] later value past = let e : value - 0 ≡ value = omega arith in rw e
past-arguments (first ∷ args) later zero past = absurd (omega arith)
past-arguments (first ∷ args) later (suc value) past =
    let e : suc value - suc (length args) ≡ value - length args = omega arith in
    rw e (past-arguments args later value (omega arith))

outcome-at : (insts : List Instruction) (value : ℕ) → definition_at (map outcome insts) value ≡ option_map_or (λ inst. unwrap_or inst.result []) (slice_get insts value) []
unfolding definition_at
outcome-at [] value = refl
outcome-at (first ∷ insts) zero = refl
outcome-at (first ∷ insts) (suc value) = outcome-at insts value

pub value_name-argument : (func : Function) (value : ℕ) (arg : Arg) → value < length func.args → arg ≡ get_or func.args value arg → value_name func value ≡ arg.name
unfolding value_name definition_at
value_name-argument func value arg within is = argument-at func.args _ value arg within is

pub value_name-result : (func : Function) (value : ℕ) → length func.args ≤ value → value_name func value ≡ result_name (instructions_of func.blocks) (value - length func.args)
unfolding value_name result_name definition_at
value_name-result func value past =
    past-arguments func.args _ value past ∙ outcome-at (filter (λ inst. is_some inst.result) (instructions_of func.blocks)) (value - length func.args)
