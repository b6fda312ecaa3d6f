-- A function of which all blocks are kept stays as it is.
use Rattle.std.proofs.Common.{◌≡◌, ℕ, zero, suc, ◌<◌, ◌≤◌, ◌+◌, Bool, true, false, List, [], ◌∷◌, ◌++◌, length, get_or, map, replicate, refl, ap, sym, arith, Some, slice_get, ◌∙◌, subst}
use Rattle.std.specs.List.{All, filter_map}
use Rattle.std.proofs.lemmas.List.{length-replicate, get_or-replicate}
use Rattle.std.proofs.lemmas.List.Elements.{All-head, All-tail, filter_map-append}
use Rattle.list_laws.proofs.Contents.{all_at, all_front, all_back}
use Rattle.sp_ids.specs.declared.ids.BlockId.{BlockId}
use Rattle.ir_ast.specs.declared.types.Ty.{Ty}
use Rattle.ir_ast.specs.declared.ops.Op.{Op}
use Rattle.ir_ast.specs.declared.ops.Op.TheVariants.{Phi}
use Rattle.ir_ast.specs.declared.ops.Operand.{Operand}
use Rattle.ir_ast.specs.declared.ops.Operand.TheVariants.{Value, Int, Null, Fun}
use Rattle.ir_ast.specs.Insts.{Instruction}
use Rattle.ir_ast.specs.Blocks.{BasicBlock}
use Rattle.ir_ast.specs.Funcs.{Function}
use Rattle.ir_ast.specs.Formed.{IsFormed}
use Rattle.ir_ast.specs.Lines.{LineOf, IsLine}
use Rattle.ir_ast.specs.Operands.{value_in}
use Rattle.ir_ast.specs.Values.{definitions_of}
use Rattle.ir_ast.specs.Faults.UnknownName.{NamesOfFunction}
use Rattle.ir_cfg.specs.Unreached.{Kept, kept_of, kept_by, new_numbers, result_count, result_marks, value_marks, operand_kept, label_kept, has_mark, inst_kept, block_kept, function_kept}
use Rattle.ir_cfg.proofs.KeepsPlaces.{marks_before, number_of}
use Rattle.ir_cfg.proofs.KeepsLines.{inst_at, inst_left, inst_new, labels_left, operands_left, two_steps}
use Rattle.ir_cfg.proofs.KeepsNames.{values_whole}

kept_whole : {A : Type 0} (xs : List A) → kept_of (replicate (length xs) true) xs ≡ xs
kept_whole [] = refl
kept_whole (x ∷ xs) = ap (λ zs. x ∷ zs) (kept_whole xs)

map_same : {A : Type 0} (f : A → A) (xs : List A) → ((k : ℕ) (x : A) → slice_get xs k ≡ Some x → f x ≡ x) → map f xs ≡ xs
map_same f [] same = refl
map_same f (x ∷ xs) same = ap (λ z. z ∷ map f xs) (same 0 x refl) ∙ ap (λ zs. x ∷ zs) (map_same f xs (λ k y is. same (suc k) y is))

map_true : {A : Type 0} (f : A → Bool) (xs : List A) → ((k : ℕ) (x : A) → slice_get xs k ≡ Some x → f x ≡ true)
    → map f xs ≡ replicate (length xs) true
map_true f [] same = refl
map_true f (x ∷ xs) same =
    ap (λ z. z ∷ map f xs) (same 0 x refl) ∙ ap (λ zs. true ∷ zs) (map_true f xs (λ k y is. same (suc k) y is))

-- ---- numbers stay

replicate_more : (m n : ℕ) → replicate m true ++ replicate n true ≡ replicate (m + n) true
replicate_more zero n = let e : 0 + n ≡ n = omega arith in rw e refl
replicate_more (suc m) n =
    let e : suc m + n ≡ suc (m + n) = omega arith in
    rw e (ap (λ zs. true ∷ zs) (replicate_more m n))

before_all : (n k : ℕ) → k ≤ n → marks_before (replicate n true) k ≡ k
before_all zero zero le = refl
before_all zero (suc k) le = absurd (omega arith)
before_all (suc n) zero le = refl
before_all (suc n) (suc k) le = ap suc (before_all n k (omega arith))

number_all : (n place : ℕ) → place < n → get_or (new_numbers (replicate n true)) place 0 ≡ place
number_all n place below =
    let long = length-replicate n true in
    number_of (replicate n true) place (omega (arith, below, long)) ∙ before_all n place (omega (arith, below))

results_all : (blocks : List BasicBlock)
    → (n : ℕ) × (result_marks (replicate (length blocks) true) blocks ≡ replicate n true)
results_all [] = (0, refl)
results_all (block ∷ blocks) =
    let rest = results_all blocks in (
      result_count block + rest.0,
      ap (λ (zs : List Bool). replicate (result_count block) true ++ zs) rest.1 ∙ replicate_more (result_count block) rest.0,
    )

abbrev marks_of : Function → List Bool
marks_of func = replicate (length func.blocks) true

values_all : (func : Function) → value_marks (marks_of func) func ≡ replicate (length (definitions_of func)) true
values_all func =
    let rest = results_all func.blocks in
    let is : value_marks (marks_of func) func ≡ replicate (length func.args + rest.0) true =
    ap (λ (zs : List Bool). replicate (length func.args) true ++ zs) rest.1 ∙ replicate_more (length func.args) rest.0 in
    let count : length func.args + rest.0 ≡ length (definitions_of func) =
    sym (length-replicate (length func.args + rest.0) true) ∙ sym (ap length is) ∙ values_whole (marks_of func) func in
    is ∙ ap (λ (n : ℕ). replicate n true) count

value_same : (func : Function) (value : ℕ) → value < length (definitions_of func)
    → get_or (kept_by (marks_of func) func).values value 0 ≡ value
value_same func value below =
    ap (λ (marks : List Bool). get_or (new_numbers marks) value 0) (values_all func) ∙ number_all (length (definitions_of func)) value below

-- ---- so operands, bundles and labels stay

-- numbers below this one stay
abbrev Stay : List ℕ → ℕ → Type 0
Stay numbers n = (value : ℕ) → value < n → get_or numbers value 0 ≡ value

abbrev Below : ℕ → List Operand → Type 0
Below n operands = All (λ value. value < n) (filter_map value_in operands)

operand_same : (kept : Kept) (n : ℕ) (operand : Operand) (rest : List Operand) → Stay kept.values n → Below n (operand ∷ rest)
    → (operand_kept kept operand ≡ operand) × Below n rest
operand_same kept n (Value value) rest stay below = (
  ap (λ (v : ℕ). (let one : Operand = Value (record { 0 = v }) in one))
      (stay value.0 (All-head (λ (v : ℕ). v < n) value.0 (filter_map value_in rest) below)),
  All-tail (λ (v : ℕ). v < n) value.0 (filter_map value_in rest) below,
)
operand_same kept n (Int number) rest stay below = (refl, below)
operand_same kept n Null rest stay below = (refl, below)
operand_same kept n (Fun func) rest stay below = (refl, below)

operands_same : (kept : Kept) (n : ℕ) (operands : List Operand) → Stay kept.values n → Below n operands
    → map (operand_kept kept) operands ≡ operands
operands_same kept n [] stay below = refl
operands_same kept n (operand ∷ operands) stay below =
    let one = operand_same kept n operand operands stay below in
    ap (λ (z : Operand). z ∷ map (operand_kept kept) operands) one.0
    ∙ ap (λ (zs : List Operand). operand ∷ zs) (operands_same kept n operands stay one.1)

abbrev entry_kept : Kept → (Ty × Operand) → (Ty × Operand)
entry_kept kept entry = (entry.0, operand_kept kept entry.1)

bundle_same : (kept : Kept) (n : ℕ) (bundle : List (Ty × Operand)) → Stay kept.values n → Below n (map (λ entry. entry.1) bundle)
    → map (entry_kept kept) bundle ≡ bundle
bundle_same kept n [] stay below = refl
bundle_same kept n (entry ∷ bundle) stay below =
    let one = operand_same kept n entry.1 (map (λ (e : Ty × Operand). e.1) bundle) stay below in
    ap (λ (o : Operand). (let first : Ty × Operand = (entry.0, o) in first) ∷ map (entry_kept kept) bundle) one.0
    ∙ ap (λ (zs : List (Ty × Operand)). entry ∷ zs) (bundle_same kept n bundle stay one.1)

labels_same : (kept : Kept) (n : ℕ) (labels : List BlockId) → Stay kept.blocks n → All (λ label. label.0 < n) labels
    → map (label_kept kept) labels ≡ labels
labels_same kept n labels stay below =
    map_same (label_kept kept) labels (λ k label is.
    ap (λ (b : ℕ). (let one : BlockId = record { 0 = b } in one)) (stay label.0 (all_at (λ (l : BlockId). l.0 < n) labels k label below is)))

labels_marked : (kept : Kept) (n : ℕ) (labels : List BlockId) → kept.marks ≡ replicate n true → All (λ label. label.0 < n) labels
    → map (has_mark kept) labels ≡ replicate (length labels) true
labels_marked kept n labels marks below =
    map_true (has_mark kept) labels (λ k label is.
    ap (λ (ms : List Bool). get_or ms label.0 false) marks
    ∙ get_or-replicate n label.0 true false (all_at (λ (l : BlockId). l.0 < n) labels k label below is))

operands_stay : (kept : Kept) (op : Op) (inst : Instruction) → LineOf op inst
    → map (has_mark kept) inst.labels ≡ replicate (length inst.labels) true → operands_left kept op inst.labels inst.operands ≡ inst.operands
operands_stay kept Phi inst line marked =
    ap (λ (ms : List Bool). kept_of ms inst.operands) (marked ∙ ap (λ (n : ℕ). replicate n true) line.0.label_count)
    ∙ kept_whole inst.operands
operands_stay kept op inst line marked = refl

labels_stay : (kept : Kept) (op : Op) (labels : List BlockId) → map (has_mark kept) labels ≡ replicate (length labels) true
    → labels_left kept op labels ≡ labels
labels_stay kept Phi labels marked = ap (λ (ms : List Bool). kept_of ms labels) marked ∙ kept_whole labels
labels_stay kept op labels marked = refl

parts_same : (inst : Instruction) (operands : List Operand) (labels : List BlockId) (bundle : List (Ty × Operand))
    → operands ≡ inst.operands → labels ≡ inst.labels → bundle ≡ inst.bundle
    → (let one : Instruction = record inst { operands = operands; labels = labels; bundle = bundle } in one) ≡ inst
parts_same inst operands labels bundle same_operands same_labels same_bundle = rw (same_operands, same_labels, same_bundle) refl

inst_same : (func : Function) (inst : Instruction) → IsLine inst → NamesOfFunction func inst
    → inst_kept (kept_by (marks_of func) func) inst ≡ inst
inst_same func inst line known =
    let kept = kept_by (marks_of func) func in
    let count = length (definitions_of func) in
    let second : (Ty × Operand) → Operand = λ entry. entry.1 in
    let used : All (λ value. value < count) (filter_map value_in inst.operands ++ filter_map value_in (map second inst.bundle)) =
    subst (All (λ value. value < count)) (filter_map-append value_in inst.operands (map second inst.bundle)) known.values in
    let marked = labels_marked kept (length func.blocks) inst.labels refl known.blocks in
    let left : inst_left kept inst ≡ inst =
    parts_same inst _ _ inst.bundle (operands_stay kept inst.op inst line marked) (labels_stay kept inst.op inst.labels marked) refl in
    two_steps kept inst ∙ ap (inst_new kept) left
    ∙ parts_same inst _ _ _
    (operands_same kept count inst.operands (value_same func)
    (all_front (λ (value : ℕ). value < count) (filter_map value_in inst.operands) (filter_map value_in (map second inst.bundle)) used))
    (labels_same kept (length func.blocks) inst.labels (number_all (length func.blocks)) known.blocks)
    (bundle_same kept count inst.bundle (value_same func)
    (all_back (λ (value : ℕ). value < count) (filter_map value_in inst.operands) (filter_map value_in (map second inst.bundle)) used))

-- a function of which all blocks are kept stays as it is
pub kept_as_is : (func : Function) → IsFormed func → function_kept (replicate (length func.blocks) true) func ≡ func
kept_as_is func formed =
    let kept = kept_by (marks_of func) func in
    let each : (number : ℕ) (block : BasicBlock) → slice_get func.blocks number ≡ Some block → block_kept kept block ≡ block =
    λ number block there.
    ap (λ (insts : List Instruction). (let one : BasicBlock = record block { insts = insts } in one))
    (map_same (inst_kept kept) block.insts (λ place inst is.
    inst_same func inst (inst_at IsLine func.blocks number place block inst there is formed.lines)
    (inst_at (NamesOfFunction func) func.blocks number place block inst there is formed.known))) in
    ap (λ (blocks : List BasicBlock). (let one : Function = record func { blocks = blocks } in one))
    (ap (map (block_kept kept)) (kept_whole func.blocks) ∙ map_same (block_kept kept) func.blocks each)
