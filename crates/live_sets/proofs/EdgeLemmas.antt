-- Edges into blocks and out of them.
use Rattle.std.proofs.Common.{◌≡◌, ℕ, zero, suc, ◌+◌, ◌<◌, ◌≤◌, Bool, true, eqb, if◌then◌else◌, List, [], ◌∷◌, length, map, replicate, get_or, refl, ap, sym, arith, inl, inr, Some, None, Option, slice_get, ◌∙◌, subst}
use Rattle.std.specs.List.{range_with_len, Contains}
use Rattle.std.specs.Option.{option_map_or}
use Rattle.std.proofs.lemmas.Bool.{cases_eq, cases_lt, eq-eqb, ne_eqb, false≢true}
use Rattle.std.proofs.lemmas.List.{get_or_past, length-map}
use Rattle.std.proofs.lemmas.List.Sums.{sum_by-cons}
use Rattle.sp_ids.specs.declared.ids.BlockId.{BlockId}
use Rattle.ir_ast.specs.Insts.{Instruction}
use Rattle.ir_ast.specs.Blocks.{BasicBlock}
use Rattle.ir_ast.specs.Funcs.{Function}
use Rattle.ir_ast.specs.Edges.{targets, count_of, edges}
use Rattle.ir_ast.specs.Faults.PhiEdges.{is_phi, PhisAreRight}
use Rattle.ir_cfg.specs.Graphs.{graph_of, succs_of, preds_of, block_at}
use Rattle.list_laws.proofs.Places.{split_at}
use Rattle.list_laws.proofs.Contents.{contains_get, get_contained, contains_none, contains_first, contains_later, contains_cons, contains_map, joined_contains}
use Rattle.rewriting_forms.specs.Numbered.{among, succs, preds}
use Rattle.rewriting_laws.proofs.LiveLaws.{edge_succs}
use Rattle.rewriting_laws.proofs.LiveExact.{any_found}
use Rattle.list_laws.proofs.Ranges.{range_contains}
use Rattle.std.proofs.lemmas.Map.Keys.{any_passes_from_place}

pub among_has : (xs : List ℕ) (x : ℕ) → Contains xs x → among x xs ≡ true
among_has xs x has = let at = get_contained xs x has in any_passes_from_place (λ (y : ℕ). eqb y x) xs at.0 x at.1 (eq-eqb x x refl)

pub has_among : (xs : List ℕ) (x : ℕ) → among x xs ≡ true → Contains xs x
has_among xs x is = let at = any_found (λ (y : ℕ). eqb y x) xs is in contains_get xs at.0 x (at.2 ∙ ap Some (eqb_is at.1 x at.3))
  where
    eqb_is : (a b : ℕ) → eqb a b ≡ true → a ≡ b
    eqb_is a b is = elim (cases_eq a b) [ inl e ↦ e | inr ne ↦ absurd (let h = rw (ne_eqb a b ne) at is in false≢true h) ]

-- an edge into a block is one out of the block before
pub pred_succ : (func : Function) (from to : ℕ) → Contains (preds func to) from → Contains (succs func from) to
pred_succ func from to has = has_among (succs func from) to (edge_succs func from to (among_has (preds func to) from has))

counted : (to : ℕ) (labels : List BlockId) → Contains (map (λ (l : BlockId). l.0) labels) to → 0 < count_of to labels
counted to [] has = absurd (contains_none to has)
counted to (l ∷ labels) has =
    let split = sum_by-cons (λ (x : BlockId). if eqb x.0 to then 1 else 0) l labels in
    elim (contains_cons l.0 to (map (λ (l : BlockId). l.0) labels) has) [
      | inl here ↦ let one : (if eqb l.0 to then 1 else 0) ≡ 1 = ap (λ (t : Bool). let n : ℕ = if t then 1 else 0 in n) (eq-eqb l.0 to here) in omega (arith, split, one)
      | inr there ↦ let rest = counted to labels there in omega (arith, split, rest)
    ]

repeated : (n : ℕ) (x : BlockId) → 0 < n → Contains (replicate n x) x
repeated zero x some = absurd (omega arith)
repeated (suc n) x some = contains_first x (replicate n x)

in_range : (from count x : ℕ) → from ≤ x → x < from + count → Contains (range_with_len from count) x
in_range from zero x low high = absurd (omega arith)
in_range from (suc count) x low high = elim (cases_eq from x) [
  | inl e ↦ subst (λ (y : ℕ). Contains (from ∷ range_with_len (from + 1) count) y) e (contains_first from (range_with_len (from + 1) count))
  | inr ne ↦ contains_later from x (range_with_len (from + 1) count) (in_range (from + 1) count x (omega arith) (omega arith))
]

-- a block with an edge out of it is a block
pub succ_within : (func : Function) (from to : ℕ) → Contains (succs func from) to → from < length func.blocks
succ_within func from to has = elim (cases_lt from (length func.blocks)) [
  | inl below ↦ below
  | inr past ↦
      let none : succs func from ≡ [] = ap (map (λ (l : BlockId). l.0)) (get_or_past (graph_of func) from [] (rw (length-map func.blocks targets) past)) in
      absurd (contains_none to (subst (λ (xs : List ℕ). Contains xs to) none has))
]

-- and an edge out of a block is one into the block where it leads
pub succ_pred : (func : Function) (from to : ℕ) → Contains (succs func from) to → Contains (preds func to) from
succ_pred func from to has =
    let below = succ_within func from to has in
    let within : from < length (graph_of func) = rw (length-map func.blocks targets) below in
    let some = counted to (succs_of (graph_of func) from) has in
    let here = repeated (count_of to (succs_of (graph_of func) from)) (block_at from) some in
    contains_map (λ (l : BlockId). l.0) (preds_of (graph_of func) to) (block_at from)
    (joined_contains (λ (p : ℕ). replicate (count_of to (succs_of (graph_of func) p)) (block_at p)) (range_with_len 0 (length (graph_of func))) from (block_at from)
    (range_contains (length (graph_of func)) from within) here)

label_counted : (labels : List BlockId) (place : ℕ) (label : BlockId) → slice_get labels place ≡ Some label → 0 < count_of label.0 labels
label_counted labels place label is = counted label.0 labels (contains_map (λ (l : BlockId). l.0) labels label (contains_get labels place label is))

has_label : (to : ℕ) (labels : List BlockId) → 0 < count_of to labels → Contains (map (λ (l : BlockId). l.0) labels) to
has_label to [] some = absurd (omega arith)
has_label to (l ∷ labels) some = elim (cases_eq l.0 to) [
  | inl e ↦ subst (λ (y : ℕ). Contains (l.0 ∷ map (λ (l : BlockId). l.0) labels) y) e (contains_first l.0 (map (λ (l : BlockId). l.0) labels))
  | inr ne ↦
      let split = sum_by-cons (λ (x : BlockId). if eqb x.0 to then 1 else 0) l labels in
      let none : (if eqb l.0 to then 1 else 0) ≡ 0 = ap (λ (t : Bool). let n : ℕ = if t then 1 else 0 in n) (ne_eqb l.0 to ne) in
      contains_later l.0 to (map (λ (l : BlockId). l.0) labels) (has_label to labels (omega (arith, split, none, some)))
]

row : (blocks : List BasicBlock) (k : ℕ) (b : BasicBlock) → slice_get blocks k ≡ Some b → get_or (map targets blocks) k [] ≡ targets b
row [] k b is = absurd (cc)
row (x ∷ blocks) zero b is = let e : x ≡ b = cc in ap targets e
row (x ∷ blocks) (suc k) b is = row blocks k b is

-- the label of a phi's entry names a block with an edge to the phi's
pub label_edge : (func : Function) → PhisAreRight func → (number place entry : ℕ) (block : BasicBlock) (phi : Instruction) (label : BlockId)
    → slice_get func.blocks number ≡ Some block → slice_get block.insts place ≡ Some phi → is_phi phi.op ≡ true → slice_get phi.labels entry ≡ Some label
    → Contains (succs func label.0) number
label_edge func right number place entry block phi label in_function in_block is at =
    let split = split_at block.insts place phi in_block in
    let one = right number block _ _ phi in_function split is in
    let some = label_counted phi.labels entry label at in
    go (slice_get func.blocks label.0) refl (omega (arith, some, one.counted label.0))
  where
    go : (o : Option BasicBlock) → slice_get func.blocks label.0 ≡ o → 0 < edges func label.0 number → Contains (succs func label.0) number
    go None none some = absurd (let h = ap (λ (o : Option BasicBlock). option_map_or (λ (b : BasicBlock). count_of number (targets b)) o 0) none in omega (arith, h, some))
    go (Some from) stands some =
        let h = ap (λ (o : Option BasicBlock). option_map_or (λ (b : BasicBlock). count_of number (targets b)) o 0) stands in
        let same : succs_of (graph_of func) label.0 ≡ targets from = row func.blocks label.0 from stands in
        subst (λ (labels : List BlockId). Contains (map (λ (l : BlockId). l.0) labels) number) (sym same) (has_label number (targets from) (omega (arith, h, some)))
