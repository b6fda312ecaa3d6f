-- The entries of a phi, counted by block, and by their values.
use Rattle.std.proofs.Common.{◌≡◌, ◌≢◌, ◌∙◌, ℕ, zero, suc, ◌+◌, ◌<◌, ◌≤◌, ◌⊎◌, inl, inr, Bool, true, false, not, cond, ◌&&◌, ◌||◌, List, [], ◌∷◌, ◌++◌, length, set, take, drop, refl, ap, sym, arith}
use Rattle.std.specs.Prelude.{nat_eq, IsTrue, ◌↔◌, Option, Some, slice_get, slice_index}
use Rattle.std.specs.List.{All, list_all}
use Rattle.std.specs.List.Sorted.{IsNonDecreasing}
use Rattle.std.specs.Str.{bytes_eq}
use Rattle.std.proofs.lemmas.Bool.{not-true, cases_lt}
use Rattle.std.proofs.lemmas.Bool.Decides.{eqb_tells}
use Rattle.std.proofs.lemmas.List.{get_or-set_same, get_or-set_other, length-append, take-append-drop}
use Rattle.std.proofs.lemmas.Grind.{flat_map-append}
use Rattle.std.proofs.lemmas.Option.{slice_get_past, none-some, same_Some}
use Rattle.std.proofs.lemmas.List.Sums.{sum_by-cons}
use Rattle.std.proofs.lemmas.List.Folds.{list_any_at}
use Rattle.std.proofs.lemmas.Slice.Eq.{bytes_eq-Decides}
use Rattle.list_laws.proofs.Places.{cases_below, get_some}
use Rattle.list_laws.proofs.Contents.{all_from_at, contains_get, joined_contains}
use Rattle.sp_ids.specs.declared.ids.BlockId.{BlockId}
use Rattle.ir_ast.specs.declared.ops.Operand.{Operand}
use Rattle.ir_ast.specs.Insts.{Instruction}
use Rattle.ir_ast.specs.Blocks.{BasicBlock}
use Rattle.ir_ast.specs.Funcs.{Function, LinedFunction, instructions_of}
use Rattle.ir_ast.specs.Edges.{count_of, edges}
use Rattle.ir_ast.specs.Faults.PhiEdges.{is_phi, PhiIsRight}
use Rattle.ir_lines.specs.declared.faults.Fault.{Fault}
use Rattle.ir_lines.specs.Notes.{Notes}
use Rattle.ir_lines.proofs.NoteLemmas.{notes-nothing}
use Rattle.ir_verify.specs.Founds.{FoundIn}
use Rattle.ir_verify.specs.FunctionFaults.{BlockFaultAt, start_of}
use Rattle.ir_verify.specs.Phis.{times, numbers_of, Counts, Agree, AreRight, IsWrong}
use Rattle.ir_verify.proofs.CountLemmas.{count_by-map, IsApart, same-or-apart}
use Rattle.body_tables.specs.Bodies.{any_phi}
use Rattle.body_tables.proofs.Values.{taken_more}
use Rattle.ir_ast.proofs.FuncLaws.{starts_low}
use Rattle.ir_ast.proofs.OpLaws.{same_block}

-- ---- labels, counted

pub label-counts : (one : ℕ) (labels : List BlockId) → times one (numbers_of labels) ≡ count_of one labels
label-counts one labels = count_by-map (λ n. nat_eq n one) (λ (label : BlockId). label.0) labels

pub uncounted : (into : List ℕ) (labels : List BlockId) (numbers : List ℕ) (wrong : Bool)
    → IsNonDecreasing numbers → IsNonDecreasing into → ((one : ℕ) → times one numbers ≡ count_of one labels)
    → wrong ≡ not (bytes_eq numbers into) → wrong ≡ true → ¬ Counts into labels
uncounted into labels numbers wrong up down counts is t =
    to (not-true (bytes_eq numbers into) (sym is ∙ t)) (same-or-apart numbers into up down)
  where
    to : bytes_eq numbers into ≡ false → (numbers ≡ into) ⊎ IsApart numbers into → ¬ Counts into labels
    to e (inl same) all = let f : true ≡ false = sym ((bytes_eq-Decides numbers into).1 same) ∙ e in cc
    to e (inr a) all = a.1 (counts a.0 ∙ all a.0)

pub counted : (into : List ℕ) (labels : List BlockId) (numbers : List ℕ) (wrong : Bool)
    → ((one : ℕ) → times one numbers ≡ count_of one labels) → wrong ≡ not (bytes_eq numbers into) → wrong ≡ false → Counts into labels
counted into labels numbers wrong counts is f = by (bytes_eq numbers into) refl (sym is ∙ f)
  where
    by : (b : Bool) → bytes_eq numbers into ≡ b → not b ≡ false → Counts into labels
    by true e n = λ from. sym (counts from) ∙ ap (times from) ((bytes_eq-Decides numbers into).0 e)
    by false e n = absurd (let bad : true ≡ false = n in cc)

counts-cons : (block : ℕ) (l : BlockId) (ls : List BlockId) → count_of block (l ∷ ls) ≡ cond (nat_eq l.0 block) 1 0 + count_of block ls
counts-cons block l ls = sum_by-cons (λ (label : BlockId). cond (nat_eq label.0 block) 1 0) l ls

counted-one : (labels : List BlockId) (k : ℕ) (label : BlockId) → slice_get labels k ≡ Some label → 0 < count_of label.0 labels
counted-one [] k label at = absurd (none-some label at)
counted-one (l ∷ ls) zero label at =
    let same : l ≡ label = same_Some l label at in
    let alike : l.0 ≡ label.0 = ap (λ (b : BlockId). b.0) same in
    elim (eqb_tells l.0 label.0) [
      | inl t ↦ (let e : count_of label.0 (l ∷ ls) ≡ 1 + count_of label.0 ls
          = counts-cons label.0 l ls ∙ ap (λ b. cond b 1 0 + count_of label.0 ls) t.0 in omega (arith, e))
      | inr t ↦ absurd (t.1 alike)
    ]
counted-one (l ∷ ls) (suc k) label at =
    let h : 0 < count_of label.0 ls = counted-one ls k label at in
    let e = counts-cons label.0 l ls in
    omega (arith, h, e)

pub labels-inside : (into : List ℕ) (labels : List BlockId) (n : ℕ) → Counts into labels → ((from : ℕ) → 0 < times from into → from < n)
    → All (λ label. label.0 < n) labels
labels-inside into labels n counts inside =
    all_from_at (λ (label : BlockId). label.0 < n) labels
    (λ k label at. inside label.0 (let c = counts label.0 in let p = counted-one labels k label at in omega (arith, c, p)))

-- ---- values, by the places of labels

pub record Placed (labels : List BlockId) (operands : List Operand) (places : List ℕ) (n k : ℕ) (label : BlockId) : Type 0 where
  pub below : slice_index places label.0 < n
  pub same : slice_get labels (slice_index places label.0) ≡ slice_get labels k
  pub agree : slice_get operands (slice_index places label.0) ≡ slice_get operands k

-- the entries below a place agree, and each has a place of its label
abbrev pub IsFilled : List BlockId → List Operand → List ℕ → ℕ → Type 0
IsFilled labels operands places n = (k : ℕ) (label : BlockId) → k < n → slice_get labels k ≡ Some label → Placed labels operands places n k label

pub filled-none : (labels : List BlockId) (operands : List Operand) (places : List ℕ) → IsFilled labels operands places 0
filled-none labels operands places k label below at = absurd (omega (arith, below))

pub filled-more : (labels : List BlockId) (operands : List Operand) (places : List ℕ) (n : ℕ) (here : BlockId) → slice_get labels n ≡ Some here
    → here.0 < length places → IsFilled labels operands places n
    → (slice_index places here.0 < n → slice_get labels (slice_index places here.0) ≡ slice_get labels n
    → slice_get operands (slice_index places here.0) ≡ slice_get operands n)
    → IsFilled labels operands (set places here.0 n) (n + 1)
filled-more labels operands places n here at inside filled agrees k label below is =
    by (eqb_tells here.0 label.0) (cases_below k n below)
  where
    next : List ℕ
    next = set places here.0 n

    -- the place of its own label
    own : here.0 ≡ label.0 → slice_index (set places here.0 n) label.0 ≡ n
    own e = ap (slice_index (set places here.0 n)) (sym e) ∙ get_or-set_same places here.0 n 0 inside

    other : here.0 ≢ label.0 → slice_index (set places here.0 n) label.0 ≡ slice_index places label.0
    other ne = get_or-set_other places here.0 label.0 n 0 (λ e. ne (sym e))

    at-own : slice_get operands n ≡ slice_get operands k → here.0 ≡ label.0 → Placed labels operands (set places here.0 n) (n + 1) k label
    at-own agree e =
        let p = own e in
        let same : here ≡ label = same_block here label e in
        record {
          below = omega (arith, p);
          same = ap (slice_get labels) p ∙ at ∙ ap (λ (b : BlockId). Some b) same ∙ sym is;
          agree = ap (slice_get operands) p ∙ agree;
        }

    by : (nat_eq here.0 label.0 ≡ true) × (here.0 ≡ label.0) ⊎ (nat_eq here.0 label.0 ≡ false) × (here.0 ≢ label.0)
        → (k < n) ⊎ (k ≡ n) → Placed labels operands (set places here.0 n) (n + 1) k label
    by (inl t) (inr e) = at-own (ap (slice_get operands) (sym e)) t.1
    by (inl t) (inl lt) =
        let f = filled k label lt is in
        let same : here ≡ label = same_block here label t.1 in
        let there : slice_index places here.0 ≡ slice_index places label.0 = ap (slice_index places) t.1 in
        let low : slice_index places here.0 < n = omega (arith, f.below, there) in
        let alike : slice_get labels (slice_index places here.0) ≡ slice_get labels n
        = ap (slice_get labels) there ∙ f.same ∙ is ∙ ap (λ (b : BlockId). Some b) (sym same) ∙ sym at in
        at-own (sym (agrees low alike) ∙ ap (slice_get operands) there ∙ f.agree) t.1
    by (inr t) (inl lt) =
        let f = filled k label lt is in
        let p = other t.1 in
        record {
          below = omega (arith, p, f.below);
          same = ap (slice_get labels) p ∙ f.same;
          agree = ap (slice_get operands) p ∙ f.agree;
        }
    by (inr t) (inr e) =
        let same : Some here ≡ Some label = sym at ∙ ap (slice_get labels) (sym e) ∙ is in
        let alike : here ≡ label = cc in
        absurd (t.1 (ap (λ (b : BlockId). b.0) alike))

pub filled-agree : (labels : List BlockId) (operands : List Operand) (places : List ℕ) (n : ℕ) → n ≡ length labels → length operands ≤ length labels
    → IsFilled labels operands places n → Agree labels operands
filled-agree labels operands places n end few filled j k same = by (cases_lt j n) (cases_lt k n)
  where
    by : (j < n) ⊎ (n ≤ j) → (k < n) ⊎ (n ≤ k) → slice_get operands j ≡ slice_get operands k
    by (inl p) (inl q) =
        let s = get_some labels j (omega (arith, p, end)) in
        let f = filled j s.0 p s.1 in
        let g = filled k s.0 q (sym same ∙ s.1) in
        sym f.agree ∙ g.agree
    by (inl p) (inr q) =
        let s = get_some labels j (omega (arith, p, end)) in
        absurd (none-some s.0 (sym (slice_get_past labels k (omega (arith, q, end))) ∙ sym same ∙ s.1))
    by (inr p) (inl q) =
        let s = get_some labels k (omega (arith, q, end)) in
        absurd (none-some s.0 (sym (slice_get_past labels j (omega (arith, p, end))) ∙ same ∙ s.1))
    by (inr p) (inr q) =
        slice_get_past operands j (omega (arith, p, end, few)) ∙ sym (slice_get_past operands k (omega (arith, q, end, few)))

-- more values than labels
pub many-differ : (labels : List BlockId) (operands : List Operand) → length labels < length operands → ¬ Agree labels operands
many-differ labels operands many agree =
    let s = get_some operands (length labels) many in
    let n = length labels in
    let m = length operands in
    let past : slice_get labels n ≡ slice_get labels m = slice_get_past labels n (omega arith) ∙ sym (slice_get_past labels m (omega arith)) in
    none-some s.0 (sym (slice_get_past operands m (omega arith)) ∙ sym (agree n m past) ∙ s.1)

-- ---- what is wrong with a phi

abbrev pub is_late : List Instruction → Bool
is_late before = not (list_all (λ inst. is_phi inst.op) before)

pub wrong-iff : (func : Function) (block : ℕ) (before : List Instruction) (into : List ℕ) (late wrong : Bool) (inst : Instruction)
    → late ≡ not (list_all (λ one. is_phi one.op) before) → ((from : ℕ) → times from into ≡ edges func from block)
    → (IsTrue wrong ↔ IsWrong late into inst) → (IsTrue wrong ↔ (is_phi inst.op ≡ true) × ¬ PhiIsRight func block before inst)
wrong-iff func block before into late wrong inst is counts so = (
  (λ t. let w = so.0 t in (
    w.0,
    λ right. w.1 (
      is ∙ ap not right.first,
      ((λ from. right.counted from ∙ sym (counts from)), right.agree),
    ),
  )),
  (λ w. so.1 (
    w.0,
    λ right. w.1 (record {
      first = first (list_all (λ one. is_phi one.op) before) (sym is ∙ right.0);
      counted = λ from. right.1.0 from ∙ counts from;
      agree = right.1.1;
    }),
  )),
)
  where
    first : (b : Bool) → not b ≡ false → b ≡ true
    first true e = refl
    first false e = absurd (let bad : true ≡ false = e in cc)

-- ---- where blocks begin

pub start-more : (func : Function) (i : ℕ) (block : BasicBlock) → slice_get func.blocks i ≡ Some block
    → start_of func (i + 1) ≡ start_of func i + length block.insts
start-more func i block at =
    ap (λ (bs : List BasicBlock). length (instructions_of bs)) (taken_more func.blocks i block at)
    ∙ ap length (flat_map-append (λ (b : BasicBlock). b.insts) (take i func.blocks) (block ∷ []))
    ∙ length-append (instructions_of (take i func.blocks)) (instructions_of (block ∷ []))
    ∙ ap (λ n. start_of func i + n) (length-append block.insts [] ∙ (let z : length block.insts + 0 ≡ length block.insts = omega arith in z))

pub start-within : (func : Function) (i : ℕ) (block : BasicBlock) → slice_get func.blocks i ≡ Some block
    → start_of func i + length block.insts ≤ length (instructions_of func.blocks)
start-within func i block at =
    let more = start-more func i block at in
    let up = starts_low func.blocks (i + 1) in
    omega (arith, more, up)

pub late-more : (insts : List Instruction) (i : ℕ) (inst : Instruction) → slice_get insts i ≡ Some inst
    → is_late (take (i + 1) insts) ≡ (is_late (take i insts) || not (is_phi inst.op))
late-more insts i inst at =
    ap is_late (taken_more insts i inst at) ∙ by (take i insts)
  where
    by : (before : List Instruction) → is_late (before ++ inst ∷ []) ≡ (is_late before || not (is_phi inst.op))
    by [] = one (is_phi inst.op)
      where
        one : (b : Bool) → not (b && true) ≡ (false || not b)
        one true = refl
        one false = refl
    by (x ∷ xs) = more (is_phi x.op) (by xs)
      where
        more : (b : Bool) → is_late (xs ++ inst ∷ []) ≡ (is_late xs || not (is_phi inst.op))
            → not (b && list_all (λ one. is_phi one.op) (xs ++ inst ∷ [])) ≡ (not (b && list_all (λ one. is_phi one.op) xs) || not (is_phi inst.op))
        more true e = e
        more false e = refl

pub wrong-by : (wrong late : Bool) (into : List ℕ) (inst : Instruction) → late ≡ false → (wrong ≡ false → AreRight into inst) → IsWrong late into inst
    → wrong ≡ true
wrong-by true late into inst early right w = refl
wrong-by false late into inst early right w = absurd (w.1 (early, right refl))

-- ---- without a phi

pub no-phis : (func : LinedFunction) (kept : Option Fault) → any_phi (instructions_of func.content.blocks) ≡ false
    → Notes kept kept (FoundIn (BlockFaultAt func) func.content.blocks)
no-phis func kept none = notes-nothing kept (FoundIn (BlockFaultAt func) func.content.blocks) (λ line code found.
    let inner = found.faulty in
    let at = joined_contains (λ (block : BasicBlock). block.insts) func.content.blocks found.here inner.here
    (contains_get func.content.blocks found.place found.here found.stands) (contains_get found.here.insts inner.place inner.here inner.stands) in
    let phi = λ (inst : Instruction). is_phi inst.op in
    let some : any_phi (instructions_of func.content.blocks) ≡ true
    = list_any_at phi (instructions_of func.content.blocks) at.0 inner.here at.1 (ap phi at.2 ∙ inner.faulty.2.0) in
    let bad : false ≡ true = sym none ∙ some in
    cc)
