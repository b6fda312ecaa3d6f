-- The text before a place of a block, and how many results stand in it.
use Rattle.std.proofs.Common.{◌≡◌, ℕ, zero, suc, ◌+◌, ◌≤◌, List, [], ◌∷◌, ◌++◌, length, take, refl, sym, ap, ◌∙◌, append_assoc, arith}
use Rattle.std.specs.Prelude.{Some, slice_get, filter}
use Rattle.std.proofs.lemmas.List.{length-append, take-append-le}
use Rattle.std.proofs.lemmas.List.Elements.{filter-append}
use Rattle.std.proofs.Math.Seq.{take-append-add}
use Rattle.ir_ast.specs.Insts.{Instruction}
use Rattle.ir_ast.specs.Blocks.{BasicBlock}
use Rattle.ir_ast.specs.Funcs.{Function, instructions_of}
use Rattle.ir_ast.specs.Faults.GroupShape.{number_at}
use Rattle.ir_cfg.specs.DefiniteUses.{text_place}
use Rattle.object_meaning.proofs.GivenLaws.{has_result}

pub text_take : (blocks : List BasicBlock) (number place : ℕ) (block : BasicBlock) → slice_get blocks number ≡ Some block → place ≤ length block.insts
    → take (length (instructions_of (take number blocks)) + place) (instructions_of blocks) ≡ instructions_of (take number blocks) ++ take place block.insts
text_take [] number place block found within = absurd cc
text_take (first ∷ blocks) zero place block found within =
    let same : first ≡ block = cc in
    let zero_is : 0 + place ≡ place = omega arith in
    let inside : place ≤ length first.insts = (let long = ap (λ (b : BasicBlock). length b.insts) same in omega arith) in
    ap (λ n. take n (first.insts ++ instructions_of blocks)) zero_is
    ∙ (take-append-le place first.insts (instructions_of blocks) inside ∙ ap (λ (b : BasicBlock). take place b.insts) same)
text_take (first ∷ blocks) (suc number) place block found within =
    let long = length-append first.insts (instructions_of (take number blocks)) in
    let sum : length (first.insts ++ instructions_of (take number blocks)) + place ≡ length first.insts + (length (instructions_of (take number blocks)) + place) = omega arith in
    ap (λ n. take n (first.insts ++ instructions_of blocks)) sum
    ∙ (take-append-add first.insts (instructions_of blocks) (length (instructions_of (take number blocks)) + place)
    ∙ (ap (λ rest. first.insts ++ rest) (text_take blocks number place block found within)
    ∙ sym (append_assoc first.insts (instructions_of (take number blocks)) (take place block.insts))))

abbrev pub results_in : List Instruction → ℕ
results_in insts = length (filter has_result insts)

pub results_append : (xs ys : List Instruction) → results_in (xs ++ ys) ≡ results_in xs + results_in ys
results_append xs ys = ap length (filter-append has_result xs ys) ∙ length-append (filter has_result xs) (filter has_result ys)

-- the number of the next result at a place of a block
pub number_cut : (func : Function) (number place : ℕ) (block : BasicBlock) → slice_get func.blocks number ≡ Some block → place ≤ length block.insts
    → number_at func (text_place func number place) ≡ length func.args + (results_in (instructions_of (take number func.blocks)) + results_in (take place block.insts))
number_cut func number place block found within =
    ap (λ n. length func.args + n)
    (ap results_in (text_take func.blocks number place block found within) ∙ results_append (instructions_of (take number func.blocks)) (take place block.insts))

pub take_next : {A : Type 0} (xs : List A) (place : ℕ) (x : A) → slice_get xs place ≡ Some x → take (suc place) xs ≡ take place xs ++ x ∷ []
take_next [] place x at = absurd cc
take_next (y ∷ xs) zero x at = let same : y ≡ x = cc in ap (λ z. z ∷ []) same
take_next (y ∷ xs) (suc place) x at = ap (λ rest. y ∷ rest) (take_next xs place x at)
