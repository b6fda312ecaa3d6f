-- How many instructions and values a function has, and functions that weren't read.
use Rattle.std.proofs.Common.{◌≡◌, ◌∙◌, inl, inr, ℕ, zero, suc, ◌+◌, ◌≤◌, Bool, List, [], ◌∷◌, ◌++◌, length, take, map, filter, ap, sym, arith, length-append}
use Rattle.std.specs.Prelude.{is_some}
use Rattle.std.proofs.lemmas.Bool.{cases_Bool}
use Rattle.std.proofs.lemmas.List.{length-map, map-append}
use Rattle.ir_ast.specs.Insts.{Instruction}
use Rattle.ir_ast.specs.Blocks.{BasicBlock}
use Rattle.ir_ast.specs.Funcs.{Function, LinedFunction, content_of, instructions_of, lines_of, zeros_of}
use Rattle.ir_ast.specs.Values.{argument, outcome, definitions_of, definition_type, value_types}

pub starts_low : (blocks : List BasicBlock) (k : ℕ) → length (instructions_of (take k blocks)) ≤ length (instructions_of blocks)
starts_low blocks zero = omega arith
starts_low [] (suc k) = omega arith
starts_low (first ∷ blocks) (suc k) =
    omega (arith, starts_low blocks k, length-append first.insts (instructions_of (take k blocks)), length-append first.insts (instructions_of blocks))

pub few_filtered : {A : Type 0} (p : A → Bool) (xs : List A) → length (filter p xs) ≤ length xs
few_filtered p [] = omega arith
few_filtered p (x ∷ xs) = elim (cases_Bool (p x)) [
  | inl passes ↦ (let rest = few_filtered p xs in rw passes (omega (arith, rest)))
  | inr fails ↦ (let rest = few_filtered p xs in rw fails (omega (arith, rest)))
]

pub few_values : (func : Function) → length (value_types func) ≤ length func.args + length (instructions_of func.blocks)
few_values func =
    let results = filter (λ (inst : Instruction). is_some inst.result) (instructions_of func.blocks) in
    let all = length-map (definitions_of func) definition_type in
    let split = length-append (map argument func.args) (map outcome results) in
    let args = length-map func.args argument in
    let outcomes = length-map results outcome in
    let few = few_filtered (λ (inst : Instruction). is_some inst.result) (instructions_of func.blocks) in
    omega (arith, all, split, args, outcomes, few)

pub lines_push : (funcs : List LinedFunction) (func : LinedFunction) → map lines_of funcs ≡ map zeros_of (map content_of funcs)
    → func.lines ≡ zeros_of func.content → map lines_of (funcs ++ func ∷ []) ≡ map zeros_of (map content_of (funcs ++ func ∷ []))
lines_push funcs func before one =
    map-append lines_of funcs (func ∷ [])
    ∙ ap (λ (lines : List (List ℕ)). lines ++ func.lines ∷ []) before
    ∙ ap (λ (lines : List ℕ). map zeros_of (map content_of funcs) ++ lines ∷ []) one
    ∙ sym (ap (map zeros_of) (map-append content_of funcs (func ∷ [])) ∙ map-append zeros_of (map content_of funcs) (func.content ∷ []))
