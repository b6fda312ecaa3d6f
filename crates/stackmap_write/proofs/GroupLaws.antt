-- The results and relocates behind a statepoint of a target module are parts of its group, so they are few.
use Rattle.std.proofs.Common.{◌≡◌, ◌∙◌, ℕ, zero, suc, ◌+◌, ◌*◌, ◌<◌, ◌≤◌, ◌⊎◌, inl, inr, Bool, true, false, cond, ◌&&◌, List, [], ◌∷◌, ◌++◌, length, take, filter, Option, Some, slice_get, IfSome, refl, ap, sym, subst, arith, append_assoc, eq-eqb, length-append}
use Rattle.std.specs.List.{flat_map, prefix_len}
use Rattle.std.proofs.Math.Bool.{and-true}
use Rattle.list_laws.proofs.Places.{cases_below, get_middle}
use Rattle.ir_ast.specs.declared.ops.Op.{Op}
use Rattle.ir_ast.specs.declared.ops.Op.TheVariants.{Statepoint, GcResult, GcRelocate}
use Rattle.ir_ast.specs.declared.ops.Operand.{Operand}
use Rattle.ir_ast.specs.Insts.{Instruction}
use Rattle.ir_ast.specs.Funcs.{Function, instructions_of}
use Rattle.ir_ast.specs.Faults.GroupShape.{Group, GroupsInShape, ShapeOf, is_statepoint, is_part, number_at}
use Rattle.ir_cfg.specs.Statepoints.{is_relocate}
use Rattle.object_meaning.specs.Frames.{is_member}
use Rattle.stackmap_write.specs.ModuleMaps.{member_places, pair_places}

-- a statepoint stands at a place of a function
pub record Head (func : Function) (head : ℕ) : Type 0 where
  pub statepoint : Instruction
  pub stands : slice_get (instructions_of func.blocks) head ≡ Some statepoint
  pub op : is_statepoint statepoint.op ≡ true

-- only parts of its group stand between it and another place
abbrev pub PartsTo : Function → ℕ → ℕ → Type 0
PartsTo func head place = (k : ℕ) → head < k → k < place
    → IfSome (slice_get (instructions_of func.blocks) k) (λ inst. is_part (number_at func head) inst ≡ true)

statepoint_apart : (token : ℕ) (inst : Instruction) (op : Op) → inst.op ≡ op → is_statepoint op ≡ true → is_part token inst ≡ false
statepoint_apart token inst (Statepoint id callee types) is head = ap (λ (o : Op). is_part token (record inst { op = o })) is
statepoint_apart token inst _ is head = cc

not_part : (func : Function) (token place : ℕ) (inst : Instruction) → slice_get (instructions_of func.blocks) place ≡ Some inst → is_statepoint inst.op ≡ true
    → IfSome (slice_get (instructions_of func.blocks) place) (λ one. is_part token one ≡ true) → ⊥
not_part func token place inst stands head part =
    let P : Option Instruction → Type 0 = λ o. IfSome o (λ one. is_part token one ≡ true) in
    let yes : is_part token inst ≡ true = subst P stands part in
    let no : is_part token inst ≡ false = statepoint_apart token inst inst.op refl head in
    let wrong : true ≡ false = sym yes ∙ no in
    cc

compared : (m n : ℕ) → (m < n) ⊎ ((m ≡ n) ⊎ (n < m))
compared zero zero = inr (inl refl)
compared zero (suc n) = inl (omega arith)
compared (suc m) zero = inr (inr (omega arith))
compared (suc m) (suc n) = elim (compared m n) [
  | inl less ↦ inl (omega arith)
  | inr rest ↦ elim rest [ inl same ↦ inr (inl (ap suc same)) | inr more ↦ inr (inr (omega arith)) ]
]

-- the group of a part that stands there is that of this statepoint
same_head : (func : Function) (head : ℕ) → Head func head → (place token : ℕ) → head < place → PartsTo func head place
    → (group : Group func token place) → group.head ≡ head
same_head func head at place token before parts group =
    elim (compared group.head head) [
      | inl less ↦ absurd (not_part func token head at.statepoint at.stands at.op (group.between head less before))
      | inr rest ↦ elim rest [
        | inl same ↦ same
        | inr more ↦ absurd (not_part func (number_at func head) group.head group.statepoint group.stands group.op (parts group.head more group.before))
      ]
    ]

is_token : (func : Function) (head : ℕ) → Head func head → (place token : ℕ) → head < place → PartsTo func head place
    → Group func token place → token ≡ number_at func head
is_token func head at place token before parts group = sym group.gives ∙ ap (number_at func) (same_head func head at place token before parts group)

pub part_here : (func : Function) (head : ℕ) → Head func head → (place : ℕ) → head < place → PartsTo func head place
    → (inst : Instruction) (op : Op) → inst.op ≡ op → is_member op ≡ true → ShapeOf func place inst op → is_part (number_at func head) inst ≡ true
part_here func head at place before parts inst GcResult is member shape =
    let token = number_at func head in
    ap (λ (o : Op). is_part token (record inst { op = o })) is
    ∙ ap (λ (os : List Operand). is_part token (record inst { op = GcResult; operands = os })) shape.operands
    ∙ eq-eqb shape.token.0 token (is_token func head at place shape.token.0 before parts shape.group)
part_here func head at place before parts inst GcRelocate is member shape =
    let token = number_at func head in
    ap (λ (o : Op). is_part token (record inst { op = o })) is
    ∙ ap (λ (os : List Operand). is_part token (record inst { op = GcRelocate; operands = os })) shape.operands
    ∙ eq-eqb shape.token.0 token (is_token func head at place shape.token.0 before parts shape.group)
part_here func head at place before parts inst _ is member shape = cc

abbrev IsRelocateOf : ℕ → Instruction → Bool
IsRelocateOf token inst = is_relocate inst.op && is_part token inst

pair_count : (op : Op) (operands : List Operand) → length (pair_places op operands) ≡ cond (is_relocate op) 2 0
pair_count GcRelocate operands = refl
pair_count _ operands = refl

counted_by : (relocate : Bool) (one rest found : ℕ) (token : ℕ) (inst : Instruction) (insts : List Instruction) → one ≡ cond relocate 2 0
    → rest ≤ 2 * length (filter (IsRelocateOf token) insts) → IsRelocateOf token inst ≡ relocate
    → one + rest ≤ 2 * length (filter (IsRelocateOf token) (inst ∷ insts))
counted_by true one rest found token inst insts pair more is =
    let longer : length (filter (IsRelocateOf token) (inst ∷ insts)) ≡ suc (length (filter (IsRelocateOf token) insts))
    = ap (λ b. length (cond b (inst ∷ filter (IsRelocateOf token) insts) (filter (IsRelocateOf token) insts))) is in
    omega arith
counted_by false one rest found token inst insts pair more is =
    let same : length (filter (IsRelocateOf token) (inst ∷ insts)) ≡ length (filter (IsRelocateOf token) insts)
    = ap (λ b. length (cond b (inst ∷ filter (IsRelocateOf token) insts) (filter (IsRelocateOf token) insts))) is in
    omega arith

abbrev group_count : ℕ → List Instruction → ℕ
group_count size insts = length (flat_map member_places (take size insts))

abbrev run_of : List Instruction → ℕ
run_of insts = prefix_len (λ inst. is_member inst.op) insts

part_counts : (token : ℕ) (inst : Instruction) (rest : List Instruction) → is_part token inst ≡ true
    → group_count (run_of rest) rest ≤ 2 * length (filter (IsRelocateOf token) rest)
    → group_count (1 + run_of rest) (inst ∷ rest) ≤ 2 * length (filter (IsRelocateOf token) (inst ∷ rest))
part_counts token inst rest part more =
    let n = run_of rest in
    let next : 1 + n ≡ suc n = omega arith in
    let split : group_count (1 + n) (inst ∷ rest) ≡ length (member_places inst) + group_count n rest
    = ap (λ m. group_count m (inst ∷ rest)) next ∙ length-append (member_places inst) (flat_map member_places (take n rest)) in
    let found : IsRelocateOf token inst ≡ is_relocate inst.op = ap (λ b. is_relocate inst.op && b) part ∙ and-true (is_relocate inst.op) in
    let bound = counted_by (is_relocate inst.op) (length (member_places inst)) (group_count n rest) 0 token inst rest (pair_count inst.op inst.operands) more found in
    omega (arith, split, bound)

run_by : (member : Bool) (token : ℕ) (inst : Instruction) (rest : List Instruction) → is_member inst.op ≡ member
    → (member ≡ true → (is_part token inst ≡ true) × (group_count (run_of rest) rest ≤ 2 * length (filter (IsRelocateOf token) rest)))
    → group_count (run_of (inst ∷ rest)) (inst ∷ rest) ≤ 2 * length (filter (IsRelocateOf token) (inst ∷ rest))
run_by true token inst rest is more =
    let size : run_of (inst ∷ rest) ≡ 1 + run_of rest = ap (λ b. cond b (1 + run_of rest) 0) is in
    let known = more refl in
    let bound = part_counts token inst rest known.0 known.1 in
    omega (arith, ap (λ n. group_count n (inst ∷ rest)) size, bound)
run_by false token inst rest is more =
    let size : run_of (inst ∷ rest) ≡ 0 = ap (λ b. cond b (1 + run_of rest) 0) is in
    omega (arith, ap (λ n. group_count n (inst ∷ rest)) size)

parts_on : (func : Function) (head place : ℕ) (inst : Instruction) → slice_get (instructions_of func.blocks) place ≡ Some inst
    → PartsTo func head place → is_part (number_at func head) inst ≡ true → PartsTo func head (place + 1)
parts_on func head place inst stands parts part k after below =
    let P : Option Instruction → Type 0 = λ o. IfSome o (λ one. is_part (number_at func head) one ≡ true) in
    elim (cases_below k place below) [
      | inl less ↦ parts k after less
      | inr same ↦ subst P (sym (ap (slice_get (instructions_of func.blocks)) same ∙ stands)) part
    ]

-- a group has at most two locations for each relocate of its statepoint
pub run_count : (func : Function) → GroupsInShape func → (head : ℕ) → Head func head → (front rest : List Instruction) → instructions_of func.blocks ≡ front ++ rest
    → head < length front → PartsTo func head (length front)
    → group_count (run_of rest) rest ≤ 2 * length (filter (IsRelocateOf (number_at func head)) rest)
run_count func shape head at front [] whole before parts = omega arith
run_count func shape head at front (inst ∷ rest) whole before parts =
    let place = length front in
    let token = number_at func head in
    let stands : slice_get (instructions_of func.blocks) place ≡ Some inst = ap (λ (xs : List Instruction). slice_get xs place) whole ∙ get_middle front inst rest in
    let further : length (front ++ inst ∷ []) ≡ place + 1 = length-append front (inst ∷ []) in
    run_by (is_member inst.op) token inst rest refl
    (λ member.
    let part = part_here func head at place before parts inst inst.op refl member (shape place inst stands) in (
      part,
      run_count func shape head at (front ++ inst ∷ []) rest (whole ∙ sym (append_assoc front (inst ∷ []) rest)) (omega arith)
          (subst (PartsTo func head) (sym further) (parts_on func head place inst stands parts part)),
    ))
