-- The visits of `@main`, one function after the other.
use Rattle.std.proofs.Common.{◌≡◌, ◌∙◌, ℕ, zero, suc, ◌+◌, ◌*◌, ◌<◌, ◌^◌, Bool, true, not, List, [], ◌∷◌, ◌++◌, length, refl, ap, sym, codes, arith, append_assoc}
use Rattle.std.specs.List.{flat_map, list_all, range_with_len}
use Rattle.std.proofs.lemmas.Grind.{flat_map-append}
use Rattle.std.proofs.lemmas.List.{length-append}
use Rattle.std.proofs.lemmas.List.FromFn.{length-range_with_len}
use Rattle.ir_ast.specs.declared.ops.Operand.TheVariants.{Int}
use Rattle.ir_ast.specs.Insts.{Instruction}
use Rattle.ir_ast.specs.Blocks.{EndsAtTerminator}
use Rattle.ir_ast.specs.Ops.{is_terminator}
use Rattle.generated_forms.specs.Lines.{numbered_name, new_line, call_line, print_line, return_line}
use Rattle.generated_forms.specs.Modules.{visit, visits}

pub range_more : (start count : ℕ) → range_with_len start (suc count) ≡ range_with_len start count ++ (start + count) ∷ []
range_more start zero = ap (λ (n : ℕ). n ∷ []) (omega arith)
range_more start (suc count) =
    ap (λ (ns : List ℕ). start ∷ ns)
    (range_more (start + 1) count ∙ ap (λ (n : ℕ). range_with_len (start + 1) count ++ n ∷ []) (omega arith))

pub visits_more : (place : ℕ) → visits (place + 1) ≡ visits place ++ visit place
visits_more place =
    let next : place + 1 ≡ suc place = omega arith in
    let range : range_with_len 0 (suc place) ≡ range_with_len 0 place ++ place ∷ [] =
    range_more 0 place ∙ ap (λ (n : ℕ). range_with_len 0 place ++ n ∷ []) (omega arith) in
    ap visits next ∙ ap (λ (ns : List ℕ). new_line (codes "o") 1 ∷ flat_map visit ns) range
    ∙ ap (λ (insts : List Instruction). new_line (codes "o") 1 ∷ insts) (flat_map-append visit (range_with_len 0 place) (place ∷ []))

-- a call and a line that prints its answer are the next visit
pub visits_step : (place number next : ℕ) (name : List ℕ) (insts : List Instruction) (call print : Instruction) → insts ≡ visits place
    → next ≡ place + 1 → number ≡ place + 1 → name ≡ numbered_name (codes "v") (place + 1)
    → call ≡ call_line name place 0 (Int number) → print ≡ print_line next → (insts ++ call ∷ []) ++ print ∷ [] ≡ visits (place + 1)
visits_step place number next name insts call print so_far next_is number_is name_is call_is print_is =
    rw (so_far, call_is, print_is, name_is, number_is, next_is)
    (append_assoc (visits place) (call_line (numbered_name (codes "v") (place + 1)) place 0 (Int (place + 1)) ∷ []) (print_line (place + 1) ∷ [])
    ∙ sym (visits_more place))

plain : Instruction → Bool
plain inst = not (is_terminator inst.op)

flat_plain : (places : List ℕ) → list_all (λ inst. not (is_terminator inst.op)) (flat_map visit places) ≡ true
flat_plain [] = refl
flat_plain (place ∷ places) = flat_plain places

pub main_ends : (size : ℕ) → EndsAtTerminator (visits size ++ return_line (Int 0) ∷ [])
main_ends size = record { before = visits size; last = return_line (Int 0); whole = refl; ends = refl; inside = flat_plain (range_with_len 0 size) }

flat_length : (places : List ℕ) → length (flat_map visit places) ≡ 2 * length places
flat_length [] = refl
flat_length (place ∷ places) = omega (arith, flat_length places)

pub main_length : (size : ℕ) → length (visits size ++ return_line (Int 0) ∷ []) ≡ 2 * size + 2
main_length size =
    omega (arith, length-append (visits size) (return_line (Int 0) ∷ []), flat_length (range_with_len 0 size), length-range_with_len 0 size)
