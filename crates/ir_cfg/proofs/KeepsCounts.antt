-- Counts of labels, and the edges of a function without its unreached blocks.
use Rattle.std.proofs.Common.{◌≡◌, ℕ, zero, suc, ◌<◌, ◌≤◌, ◌+◌, eqb, Bool, true, false, cond, List, [], ◌∷◌, length, get_or, map, refl, ap, sym, arith, Some, slice_get, inl, inr, ◌∙◌}
use Rattle.std.specs.Option.{option_map_or}
use Rattle.std.proofs.lemmas.List.Sums.{sum_by-cons}
use Rattle.std.proofs.lemmas.Option.{none-some, same_Some, slice_get_past, get_or_from_slice_get}
use Rattle.std.proofs.lemmas.Bool.{cases_eq, cases_Bool, eq-eqb, eqb-true, ne_eqb, true≢false}
use Rattle.sp_ids.specs.declared.ids.BlockId.{BlockId}
use Rattle.ir_ast.specs.Blocks.{BasicBlock}
use Rattle.ir_ast.specs.Funcs.{Function}
use Rattle.ir_ast.specs.Edges.{targets, count_of, edges}
use Rattle.graph_search.specs.Paths.{Marked}
use Rattle.ir_cfg.specs.Unreached.{kept_of, kept_by, new_numbers, label_kept, has_mark}
use Rattle.ir_cfg.proofs.KeepsPlaces.{before_same, marks_before, number_of_marked}
use Rattle.ir_cfg.proofs.KeepsPaths.{marked_block}

abbrev one_if : Bool → ℕ
one_if test = cond test 1 0

-- counts of labels, a label at a time
pub count_cons : (n : ℕ) (label : BlockId) (labels : List BlockId)
    → count_of n (label ∷ labels) ≡ cond (eqb label.0 n) 1 0 + count_of n labels
count_cons n label labels = sum_by-cons (λ (l : BlockId). cond (eqb l.0 n) 1 0) label labels

same_test : (marks : List Bool) (block n : ℕ) → Marked marks block → Marked marks n
    → eqb (get_or (new_numbers marks) block 0) (marks_before marks n) ≡ eqb block n
same_test marks block n marked_block marked =
    ap (λ (k : ℕ). eqb k (marks_before marks n)) (number_of_marked marks block marked_block)
    ∙ elim (cases_eq block n) [
      | inl same ↦ eq-eqb (marks_before marks block) (marks_before marks n) (ap (marks_before marks) same) ∙ sym (eq-eqb block n same)
      | inr other ↦ ne_eqb (marks_before marks block) (marks_before marks n) (λ same. other (before_same marks block n marked_block marked same)) ∙ sym (ne_eqb block n other)
    ]

-- new numbers change no count of kept labels
pub count_new : (marks : List Bool) (func : Function) (n : ℕ) (labels : List BlockId) → Marked marks n
    → ((k : ℕ) (label : BlockId) → slice_get labels k ≡ Some label → Marked marks label.0)
    → count_of (marks_before marks n) (map (label_kept (kept_by marks func)) labels) ≡ count_of n labels
count_new marks func n [] marked each = refl
count_new marks func n (label ∷ labels) marked each =
    let test = same_test marks label.0 n (each 0 label refl) marked in
    count_cons (marks_before marks n) (label_kept (kept_by marks func) label) (map (label_kept (kept_by marks func)) labels)
    ∙ ap (λ (b : Bool). cond b 1 0 + count_of (marks_before marks n) (map (label_kept (kept_by marks func)) labels)) test
    ∙ ap (λ (k : ℕ). cond (eqb label.0 n) 1 0 + k) (count_new marks func n labels marked (λ k one at. each (suc k) one at))
    ∙ sym (count_cons n label labels)

left_case : (marks : List Bool) (func : Function) (n : ℕ) (label : BlockId) (labels : List BlockId) (mark : Bool) → Marked marks n
    → has_mark (kept_by marks func) label ≡ mark
    → count_of n (kept_of (map (has_mark (kept_by marks func)) labels) labels) ≡ count_of n labels
    → count_of n (kept_of (mark ∷ map (has_mark (kept_by marks func)) labels) (label ∷ labels)) ≡ count_of n (label ∷ labels)
left_case marks func n label labels true marked is rest =
    count_cons n label (kept_of (map (has_mark (kept_by marks func)) labels) labels)
    ∙ ap (λ (k : ℕ). cond (eqb label.0 n) 1 0 + k) rest
    ∙ sym (count_cons n label labels)
left_case marks func n label labels false marked is rest =
    let other : eqb label.0 n ≡ false = ne_eqb label.0 n (λ same.
    true≢false (sym (get_or_from_slice_get marks n true false marked) ∙ ap (λ (k : ℕ). get_or marks k false) (sym same) ∙ is)) in
    rest
    ∙ (let e : count_of n labels ≡ cond false 1 0 + count_of n labels = omega arith in e)
    ∙ ap (λ (b : Bool). cond b 1 0 + count_of n labels) (sym other)
    ∙ sym (count_cons n label labels)

-- the entries that a phi loses name no kept block
pub count_left : (marks : List Bool) (func : Function) (n : ℕ) (labels : List BlockId) → Marked marks n
    → count_of n (kept_of (map (has_mark (kept_by marks func)) labels) labels) ≡ count_of n labels
count_left marks func n [] marked = refl
count_left marks func n (label ∷ labels) marked =
    left_case marks func n label labels (has_mark (kept_by marks func) label) marked refl (count_left marks func n labels marked)

pub count_none : (n : ℕ) (labels : List BlockId) → ((k : ℕ) (label : BlockId) → slice_get labels k ≡ Some label → label.0 ≡ n → ⊥)
    → count_of n labels ≡ 0
count_none n [] none = refl
count_none n (label ∷ labels) none =
    count_cons n label labels
    ∙ ap (λ (b : Bool). cond b 1 0 + count_of n labels) (ne_eqb label.0 n (none 0 label refl))
    ∙ (let rest = count_none n labels (λ k one at. none (suc k) one at) in let e : cond false 1 0 + count_of n labels ≡ 0 = omega arith in e)

pub count_some : (n : ℕ) (labels : List BlockId) (k : ℕ) (label : BlockId) → slice_get labels k ≡ Some label → label.0 ≡ n
    → 0 < count_of n labels
count_some n [] k label at same = absurd (none-some label at)
count_some n (first ∷ labels) zero label at same =
    let cons = count_cons n first labels in
    let is : eqb first.0 n ≡ true = eq-eqb first.0 n (ap (λ (b : BlockId). b.0) (same_Some first label at) ∙ same) in
    let one : one_if (eqb first.0 n) ≡ 1 = ap one_if is in
    omega (arith, cons, one)
count_some n (first ∷ labels) (suc k) label at same =
    let cons = count_cons n first labels in
    let rest = count_some n labels k label at same in
    omega (arith, cons, rest)

pub count_found : (n : ℕ) (labels : List BlockId) → 0 < count_of n labels
    → (k : ℕ) × (label : BlockId) × (slice_get labels k ≡ Some label) × (label.0 ≡ n)
count_found n [] some = absurd (omega arith)
count_found n (label ∷ labels) some =
    elim (cases_Bool (eqb label.0 n)) [
      | inl is ↦ (0, label, refl, eqb-true label.0 n is)
      | inr not ↦
          let cons = count_cons n label labels in
          let none : one_if (eqb label.0 n) ≡ 0 = ap one_if not in
          let rest = count_found n labels (omega (arith, cons, none, some)) in
          (suc rest.0, rest.1, rest.2, rest.3)
    ]

pub edges_at : (func : Function) (from to : ℕ) (block : BasicBlock) → slice_get func.blocks from ≡ Some block
    → edges func from to ≡ count_of to (targets block)
edges_at func from to block is = ap (λ found. option_map_or (λ (b : BasicBlock). count_of to (targets b)) found 0) is

pub edges_past : (func : Function) (from to : ℕ) → length func.blocks ≤ from → edges func from to ≡ 0
edges_past func from to past = ap (λ found. option_map_or (λ (b : BasicBlock). count_of to (targets b)) found 0) (slice_get_past func.blocks from past)
