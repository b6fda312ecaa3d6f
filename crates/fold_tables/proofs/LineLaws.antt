-- Instructions in text order, and the values that they give.
use Rattle.std.proofs.Common.{◌≡◌, ◌∙◌, ℕ, ◌+◌, ◌<◌, ◌≤◌, Bool, true, false, if◌then◌else◌, List, [], ◌∷◌, ◌++◌, length, take, sym, ap, subst, inl, inr, arith}
use Rattle.std.specs.Prelude.{Some, filter, is_some, slice_get}
use Rattle.std.proofs.lemmas.List.{length-append}
use Rattle.std.proofs.lemmas.List.Elements.{filter-append}
use Rattle.std.proofs.lemmas.Option.{get_or_from_slice_get, same_Some, slice_get_within}
use Rattle.list_laws.proofs.Places.{cases_below, take_item}
use Rattle.ir_ast.specs.Insts.{Instruction}
use Rattle.object_meaning.specs.Lines.{following}
use Rattle.fold_tables.specs.Lines.{EachLine, results_of, value_at}

abbrev has_result : Instruction → Bool
has_result inst = is_some inst.result

one_more : (count : ℕ) (inst : Instruction) → count + results_of (inst ∷ []) ≡ following count inst
one_more count inst = by (has_result inst)
  where
    by : (b : Bool) → count + length (if b then inst ∷ [] else []) ≡ (if b then count + 1 else count)
    by true = omega arith
    by false = omega arith

pub value_next : (first : ℕ) (insts : List Instruction) (place : ℕ) (inst : Instruction) → slice_get insts place ≡ Some inst
    → value_at first insts (place + 1) ≡ following (value_at first insts place) inst
value_next first insts place inst at =
    let front : take (place + 1) insts ≡ take place insts ++ inst ∷ [] =
    take_item insts place inst (slice_get_within insts place inst at) (sym (get_or_from_slice_get insts place inst inst at)) in
    let joined = ap length (filter-append has_result (take place insts) (inst ∷ []))
    ∙ length-append (filter has_result (take place insts)) (filter has_result (inst ∷ [])) in
    let whole : results_of (take (place + 1) insts) ≡ results_of (take place insts) + results_of (inst ∷ []) = ap results_of front ∙ joined in
    let sum : value_at first insts (place + 1) ≡ value_at first insts place + results_of (inst ∷ []) = omega (arith, whole) in
    sum ∙ one_more (value_at first insts place) inst

module _ (Is : ℕ → Instruction → Type 0) (first : ℕ) (insts : List Instruction) where
  pub each_more : (count : ℕ) (item : Instruction) → slice_get insts count ≡ Some item
      → ((place : ℕ) (inst : Instruction) → place < count → slice_get insts place ≡ Some inst → Is (value_at first insts place) inst)
      → Is (value_at first insts count) item
      → (place : ℕ) (inst : Instruction) → place < count + 1 → slice_get insts place ≡ Some inst → Is (value_at first insts place) inst
  each_more count item item_at each own place inst below at = elim (cases_below place count below) [
    | inl less ↦ each place inst less at
    | inr last ↦
        let here : slice_get insts count ≡ Some inst = ap (slice_get insts) (sym last) ∙ at in
        let same : item ≡ inst = same_Some item inst (sym item_at ∙ here) in
        subst (λ (i : Instruction). Is (value_at first insts place) i) same (subst (λ (k : ℕ). Is (value_at first insts k) item) (sym last) own)
  ]

  pub each_whole : (count : ℕ) → length insts ≤ count
      → ((place : ℕ) (inst : Instruction) → place < count → slice_get insts place ≡ Some inst → Is (value_at first insts place) inst)
      → EachLine Is first insts
  each_whole count whole each place inst at = each place inst (let within = slice_get_within insts place inst at in omega arith) at
