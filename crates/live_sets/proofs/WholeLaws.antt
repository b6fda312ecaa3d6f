-- The lists of all calls.
use Rattle.std.proofs.Common.{◌≡◌, ℕ, zero, suc, slice_get, ◌+◌, ◌-◌, ◌≤◌, Bool, List, [], ◌∷◌, ◌++◌, length, map, filter, refl, ap, sym, arith, inl, inr, ◌∙◌}
use Rattle.std.specs.Prelude.{is_some, reverse}
use Rattle.std.specs.List.{list_any, range_with_len, flat_map}
use Rattle.std.specs.Option.{option_map_or}
use Rattle.std.specs.Global.{Vec}
use Rattle.std.proofs.lemmas.Bool.{cases_Bool}
use Rattle.std.proofs.lemmas.List.{map-append, length-map, length-append, reverse-append, reverse-reverse}
use Rattle.sp_ids.specs.declared.ids.ValueId.{ValueId}
use Rattle.ir_ast.specs.declared.ops.Operand.{Operand}
use Rattle.ir_ast.specs.Insts.{Instruction}
use Rattle.ir_ast.specs.Blocks.{BasicBlock}
use Rattle.object_meaning.specs.Lines.{insts_in}
use Rattle.ir_ast.specs.Funcs.{Function, instructions_of}
use Rattle.ir_ast.specs.Types.{is_pointer}
use Rattle.ir_ast.specs.Values.{argument, outcome, definition_type, definitions_of, value_types}
use Rattle.rewriting_forms.specs.Numbered.{is_call, lines_at, pointers}
use Rattle.rewriting_forms.specs.Liveness.{lists_from, live_lists}
use Rattle.live_sets.specs.Lists.{items_of}
use Rattle.live_sets.proofs.UseLemmas.{pointer_at}
use Rattle.ir_ast.specs.Operands.{valued}
use Rattle.ir_ast.specs.Lists.{has_mark}

few_results : (insts : List Instruction) → length (filter (λ (inst : Instruction). is_some inst.result) insts) ≤ length insts
few_results [] = omega arith
few_results (inst ∷ insts) = elim (cases_Bool (is_some inst.result)) [
  | inl some ↦ (let rest = few_results insts in rw some (omega (arith, rest)))
  | inr none ↦ (let rest = few_results insts in rw none (omega (arith, rest)))
]

same_filter : (p q : ℕ → Bool) (xs : List ℕ) → ((x : ℕ) → p x ≡ q x) → filter p xs ≡ filter q xs
same_filter p q [] same = refl
same_filter p q (x ∷ xs) same =
    let here = same x in
    let rest = same_filter p q xs same in
    rw (here, rest) refl

pub values_are : (func : Function) (marks : List Bool) → marks ≡ map is_pointer (value_types func)
    → map valued (filter (has_mark marks) (range_with_len 0 (length marks))) ≡ map valued (pointers func)
values_are func marks right =
    let long = ap length right ∙ length-map (value_types func) is_pointer in
    ap (λ (n : ℕ). map valued (filter (has_mark marks) (range_with_len 0 n))) long
    ∙ ap (map valued) (same_filter (has_mark marks) _ (range_with_len 0 (length (value_types func))) (λ x. sym (pointer_at func marks right x)))

pub calling_at : (func : Function) (b : ℕ)
    → has_mark (map (λ (block : BasicBlock). list_any (λ (inst : Instruction). is_call inst.op) block.insts) func.blocks) b ≡ list_any (λ (inst : Instruction). is_call inst.op) (insts_in func b)
calling_at func b = go func.blocks b
  where
    go : (blocks : List BasicBlock) (b : ℕ) → has_mark (map (λ (block : BasicBlock). list_any (λ (inst : Instruction). is_call inst.op) block.insts) blocks) b
        ≡ list_any (λ (inst : Instruction). is_call inst.op) (option_map_or (λ (block : BasicBlock). block.insts) (slice_get blocks b) [])
    go [] b = refl
    go (block ∷ blocks) zero = refl
    go (block ∷ blocks) (suc b) = go blocks b

items_reverse : (lists : List (Vec ValueId)) → items_of (reverse lists) ≡ reverse (items_of lists)
items_reverse [] = refl
items_reverse (x ∷ lists) =
    ap items_of (reverse-append (x ∷ []) lists) ∙ map-append (λ (list : Vec ValueId). list.items) (reverse lists) (x ∷ [])
    ∙ ap (λ (xs : List (List ValueId)). xs ++ x.items ∷ []) (items_reverse lists) ∙ sym (reverse-append (x.items ∷ []) (items_of lists))

pub whole : (func : Function) (table : List Operand) (number : ℕ) (lists turned : List (Vec ValueId)) → number ≡ 0
    → items_of lists ≡ reverse (map (map valued) (flat_map (λ (b : ℕ). lists_from func table b 0 (lines_at func b)) (range_with_len number (length func.blocks - number))))
    → turned ≡ reverse lists → items_of turned ≡ map (map valued) (live_lists func table)
whole func table number lists turned at_front are turn =
    let each = λ (n : ℕ). map (map valued) (flat_map (λ (b : ℕ). lists_from func table b 0 (lines_at func b)) (range_with_len n (length func.blocks - n))) in
    let all : length func.blocks - 0 ≡ length func.blocks = omega arith in
    ap items_of turn ∙ items_reverse lists ∙ ap reverse are ∙ reverse-reverse (each number) ∙ ap each at_front
    ∙ ap (λ (n : ℕ). map (map valued) (flat_map (λ (b : ℕ). lists_from func table b 0 (lines_at func b)) (range_with_len 0 n))) all
