-- Each rule of a module that an instruction can break is decided, or holds where it isn't refuted.
use Rattle.std.proofs.Common.{◌≡◌, ◌≢◌, ◌∙◌, ◌⊎◌, inl, inr, ℕ, zero, suc, ◌+◌, ◌<◌, ◌^◌, Bool, true, false, ◌==◌, List, [], ◌∷◌, length, refl, ap, sym, subst, arith}
use Rattle.std.specs.Prelude.{Option, Some, None, IfSome, nat_lt, slice_get}
use Rattle.std.specs.List.{AllZip}
use Rattle.std.proofs.lemmas.Bool.Decides.{Decides-eqb, Decides-ltb, not_from_Decides}
use Rattle.std.proofs.lemmas.Option.{same_Some, none-some}
use Rattle.sp_ids.specs.declared.ids.ValueId.{ValueId}
use Rattle.sp_ids.specs.declared.ids.FuncId.{FuncId}
use Rattle.ir_ast.specs.declared.types.Ty.{Ty}
use Rattle.ir_ast.specs.declared.types.Ty.TheVariants as tys
use Rattle.ir_ast.specs.declared.cells.Cell.{Cell}
use Rattle.ir_ast.specs.declared.ops.Elem.{Elem}
use Rattle.ir_ast.specs.declared.ops.Elem.TheVariants as elements
use Rattle.ir_ast.specs.declared.ops.Op.{Op}
use Rattle.ir_ast.specs.declared.ops.Op.TheVariants as ops
use Rattle.ir_ast.specs.declared.ops.Operand.{Operand}
use Rattle.ir_ast.specs.declared.ops.Operand.TheVariants as operands
use Rattle.ir_ast.specs.Cells.{cell_in}
use Rattle.ir_ast.proofs.CellLaws.{has_type, type_found}
use Rattle.ir_ast.specs.Insts.{Instruction}
use Rattle.ir_ast.specs.Funcs.{Function, instructions_of}
use Rattle.ir_ast.specs.Values.{value_types}
use Rattle.ir_ast.specs.Scope.{Scope}
use Rattle.ir_ast.specs.Edges.{count_of, edges}
use Rattle.ir_ast.specs.Faults.TypeClash.{Fits, IsNarrower, IsWider, IsCellType, HasField, asked}
use Rattle.ir_ast.specs.Faults.PhiEdges.{is_phi, PhiIsRight}
use Rattle.ir_ast.specs.Faults.GroupShape.{Group, is_statepoint, is_part, number_at, entries_of, ResultInShape, RelocateInShape, IsApart, holds_live, ShapeOf}
use Rattle.ir_resolve.specs.ModuleFaults.{RuleBesidesCalls, IsTypedBesidesCalls}

abbrev Decided : Type 0 → Type 0
Decided P = P ⊎ (¬ P)

-- what isn't refuted
abbrev Likely : Type 0 → Type 0
Likely P = ¬ (¬ P)

holds : {P : Type 0} → Decided P → Likely P → P
holds (inl is) likely = is
holds (inr not) likely = absurd (likely not)

-- ---- parts of instructions

number_decided : (a b : ℕ) → Decided (a ≡ b)
number_decided a b = by (a == b) refl
  where
    by : (x : Bool) → (a == b) ≡ x → Decided (a ≡ b)
    by true e = inl ((Decides-eqb a b).0 e)
    by false e = inr (not_from_Decides (a == b) (Decides-eqb a b) e)

pub stable : (a b : ℕ) → ¬ (a ≢ b) → a ≡ b
stable a b likely = holds (number_decided a b) likely

below_decided : (a b : ℕ) → Decided (a < b)
below_decided a b = by (nat_lt a b) refl
  where
    by : (x : Bool) → nat_lt a b ≡ x → Decided (a < b)
    by true e = inl ((Decides-ltb a b).0 e)
    by false e = inr (not_from_Decides (nat_lt a b) (Decides-ltb a b) e)

truth_decided : (b : Bool) → Decided (b ≡ true)
truth_decided true = inl refl
truth_decided false = inr (λ e. (cc))

type_decided : (a b : Ty) → Decided (a ≡ b)
type_decided tys.Void tys.Void = inl refl
type_decided (tys.Int a) (tys.Int b) =
    elim (number_decided a b) [ inl e ↦ inl (ap tys.Int e) | inr f ↦ inr (λ e. f (let g : a ≡ b = cc in g)) ]
type_decided tys.Ptr tys.Ptr = inl refl
type_decided tys.Token tys.Token = inl refl
type_decided _ _ = inr (λ e. (cc))

operand_decided : (a b : Operand) → Decided (a ≡ b)
operand_decided (operands.Value a) (operands.Value b) = elim (number_decided a.0 b.0) [
  | inl e ↦ inl (ap (λ (n : ℕ). operands.Value (record { 0 = n })) e)
  | inr f ↦ inr (λ e. f (let g : a ≡ b = cc in ap (λ (v : ValueId). v.0) g))
]
operand_decided (operands.Int a) (operands.Int b) =
    elim (number_decided a b) [ inl e ↦ inl (ap operands.Int e) | inr f ↦ inr (λ e. f (let g : a ≡ b = cc in g)) ]
operand_decided operands.Null operands.Null = inl refl
operand_decided (operands.Fun a) (operands.Fun b) = elim (number_decided a.0 b.0) [
  | inl e ↦ inl (ap (λ (n : ℕ). operands.Fun (record { 0 = n })) e)
  | inr f ↦ inr (λ e. f (let g : a ≡ b = cc in ap (λ (v : FuncId). v.0) g))
]
operand_decided _ _ = inr (λ e. (cc))

option_decided : {A : Type 0} → ((a b : A) → Decided (a ≡ b)) → (x y : Option A) → Decided (x ≡ y)
option_decided each None None = inl refl
option_decided each None (Some y) = inr (λ e. none-some y e)
option_decided each (Some x) None = inr (λ e. none-some x (sym e))
option_decided each (Some x) (Some y) = elim (each x y) [ inl e ↦ inl (ap Some e) | inr f ↦ inr (λ e. f (same_Some x y e)) ]

-- ---- code 5

width_of : (n : ℕ) (width : ℕ) → Fits [] (operands.Int n) (tys.Int width) → n < 2 ^ width
width_of n width fit =
    let same : fit.0 ≡ width = (let e : tys.Int width ≡ tys.Int fit.0 = fit.1 in cc) in
    subst (λ (w : ℕ). n < 2 ^ w) same fit.2

fit_decided : (values : List Ty) (op : Operand) (ty : Ty) → Decided (Fits values op ty)
fit_decided values (operands.Value v) ty = option_decided type_decided (slice_get values v.0) (Some ty)
fit_decided values (operands.Int n) (tys.Int width) =
    elim (below_decided n (2 ^ width)) [ inl low ↦ inl (width, refl, low) | inr high ↦ inr (λ fit. high (width_of n width fit)) ]
fit_decided values (operands.Int n) tys.Void = inr (λ fit. let e : tys.Void ≡ tys.Int fit.0 = fit.1 in cc)
fit_decided values (operands.Int n) tys.Ptr = inr (λ fit. let e : tys.Ptr ≡ tys.Int fit.0 = fit.1 in cc)
fit_decided values (operands.Int n) tys.Token = inr (λ fit. let e : tys.Token ≡ tys.Int fit.0 = fit.1 in cc)
fit_decided values operands.Null ty = type_decided ty tys.Ptr
fit_decided values (operands.Fun f) ty = type_decided ty tys.Void

zip_holds : (values : List Ty) (os : List Operand) (ts : List Ty) → Likely (AllZip (Fits values) os ts) → AllZip (Fits values) os ts
zip_holds values [] [] likely = tt
zip_holds values (o ∷ os) (t ∷ ts) likely =
    (holds (fit_decided values o t) (λ lacks. likely (λ all. lacks all.0)), zip_holds values os ts (λ lacks. likely (λ all. lacks all.1)))
zip_holds values [] (t ∷ ts) likely = absurd (likely (λ all. all))
zip_holds values (o ∷ os) [] likely = absurd (likely (λ all. all))

narrower_decided : (width : ℕ) (ty : Ty) → Decided (IsNarrower width ty)
narrower_decided width (tys.Int than) = elim (below_decided width than) [
  | inl low ↦ inl (than, refl, low)
  | inr high ↦ inr (λ is. high (let same : than ≡ is.0 = (let e : tys.Int than ≡ tys.Int is.0 = is.1 in cc) in let low = is.2 in omega arith))
]
narrower_decided width tys.Void = inr (λ is. let e : tys.Void ≡ tys.Int is.0 = is.1 in cc)
narrower_decided width tys.Ptr = inr (λ is. let e : tys.Ptr ≡ tys.Int is.0 = is.1 in cc)
narrower_decided width tys.Token = inr (λ is. let e : tys.Token ≡ tys.Int is.0 = is.1 in cc)

wider_decided : (width : ℕ) (ty : Ty) → Decided (IsWider width ty)
wider_decided width (tys.Int than) = elim (below_decided than width) [
  | inl low ↦ inl (than, refl, low)
  | inr high ↦ inr (λ is. high (let same : than ≡ is.0 = (let e : tys.Int than ≡ tys.Int is.0 = is.1 in cc) in let low = is.2 in omega arith))
]
wider_decided width tys.Void = inr (λ is. let e : tys.Void ≡ tys.Int is.0 = is.1 in cc)
wider_decided width tys.Ptr = inr (λ is. let e : tys.Ptr ≡ tys.Int is.0 = is.1 in cc)
wider_decided width tys.Token = inr (λ is. let e : tys.Token ≡ tys.Int is.0 = is.1 in cc)

cell_decided : (ty : Ty) → Decided (IsCellType ty)
cell_decided ty = by (cell_in ty) refl
  where
    by : (found : Option Cell) → cell_in ty ≡ found → Decided (IsCellType ty)
    by (Some cell) e = inl (cell, has_type ty cell e)
    by None e = inr (λ is. let bad : None ≡ Some is.0 = sym e ∙ ap cell_in (sym is.1) ∙ type_found is.0 in cc)

below_decided-if : (place : ℕ) (o : Option ℕ) → Decided (IfSome o (λ count. place < count))
below_decided-if place None = inl tt
below_decided-if place (Some count) = below_decided place count

field_decided : (fields : List ℕ) (elem : Elem) (place : Option ℕ) → Decided (HasField fields elem place)
field_decided fields (elements.Layout layout) (Some place) = below_decided-if place (slice_get fields layout)
field_decided fields _ _ = inl tt

rule_decided : (scope : Scope) (op : Op) (inst : Instruction) → Decided (RuleBesidesCalls scope op inst)
rule_decided scope (ops.Trunc width) inst = narrower_decided width inst.ty
rule_decided scope (ops.Zext width) inst = wider_decided width inst.ty
rule_decided scope (ops.Sext width) inst = wider_decided width inst.ty
rule_decided scope (ops.Gep elem index_width place) inst = field_decided scope.fields elem place
rule_decided scope ops.Load inst = cell_decided inst.ty
rule_decided scope ops.Store inst = cell_decided inst.ty
rule_decided scope ops.Ret inst = type_decided inst.ty scope.answer
rule_decided scope _ inst = inl tt

pub typed_holds : (scope : Scope) (inst : Instruction) → Likely (IsTypedBesidesCalls scope inst) → IsTypedBesidesCalls scope inst
typed_holds scope inst likely = record {
  operands = zip_holds scope.values inst.operands (asked inst.op inst.ty (length inst.operands)) (λ lacks. likely (λ typed. lacks typed.operands));
  bundle = λ k d low. let entry = Rattle.std.proofs.Common.get_or inst.bundle k d in
      holds (fit_decided scope.values entry.1 entry.0) (λ lacks. likely (λ typed. lacks (typed.bundle k d low)));
  rule = holds (rule_decided scope inst.op inst) (λ lacks. likely (λ typed. lacks typed.rule));
}

-- ---- code 7

pub phi_holds : (func : Function) (block : ℕ) (before : List Instruction) (phi : Instruction) → Likely (PhiIsRight func block before phi) → PhiIsRight func block before phi
phi_holds func block before phi likely = record {
  first = holds (truth_decided (Rattle.std.specs.List.list_all (λ (inst : Instruction). is_phi inst.op) before)) (λ lacks. likely (λ right. lacks right.first));
  counted = λ from. stable (count_of from phi.labels) (edges func from block) (λ lacks. likely (λ right. lacks (right.counted from)));
  agree = λ j k same.
      holds (option_decided operand_decided (slice_get phi.operands j) (slice_get phi.operands k)) (λ lacks. likely (λ right. lacks (right.agree j k same)));
}

-- ---- code 18: the group of a token by search

search : (R : ℕ → Type 0) → ((k : ℕ) → Decided (R k)) → (n : ℕ) → Decided ((k : ℕ) × (k < n) × R k)
search R each zero = inr (λ found. let low = found.1 in omega arith)
search R each (suc n) = by (each n) (search R each n)
  where
    last : ¬ R n → ¬ ((k : ℕ) × (k < n) × R k) → ¬ ((k : ℕ) × (k < suc n) × R k)
    last lacks none found = elim (number_decided found.0 n) [
      | inl e ↦ lacks (subst R e found.2)
      | inr other ↦ none (found.0, (let low = found.1 in omega arith), found.2)
    ]

    by : Decided (R n) → Decided ((k : ℕ) × (k < n) × R k) → Decided ((k : ℕ) × (k < suc n) × R k)
    by (inl here) before = inl (n, omega arith, here)
    by (inr lacks) (inl found) = inl (found.0, (let low = found.1 in omega arith), found.2)
    by (inr lacks) (inr none) = inr (last lacks none)

all_decided : (R : ℕ → Type 0) → ((k : ℕ) → Decided (R k)) → (n : ℕ) → Decided ((k : ℕ) → k < n → R k)
all_decided R each n = by (search (λ k. ¬ R k) (λ k. other (each k)) n)
  where
    other : {P : Type 0} → Decided P → Decided (¬ P)
    other (inl is) = inr (λ lacks. lacks is)
    other (inr lacks) = inl lacks

    by : Decided ((k : ℕ) × (k < n) × ¬ R k) → Decided ((k : ℕ) → k < n → R k)
    by (inl found) = inr (λ all. found.2 (all found.0 found.1))
    by (inr none) = inl (λ k low. holds (each k) (λ lacks. none (k, low, lacks)))

module _ (func : Function) (token place : ℕ) where
  insts : List Instruction
  insts = instructions_of func.blocks

  abbrev IsPartAt : ℕ → Type 0
  IsPartAt k = IfSome (slice_get (instructions_of func.blocks) k) (λ inst. is_part token inst ≡ true)

  part_decided : (o : Option Instruction) → Decided (IfSome o (λ inst. is_part token inst ≡ true))
  part_decided None = inl tt
  part_decided (Some inst) = truth_decided (is_part token inst)

  between_decided : (head : ℕ) → Decided ((k : ℕ) → head < k → k < place → IsPartAt k)
  between_decided head = by (all_decided (λ k. head < k → IsPartAt k) each place)
    where
      each : (k : ℕ) → Decided (head < k → IsPartAt k)
      each k = on (below_decided head k) (part_decided (slice_get (instructions_of func.blocks) k))
        where
          on : Decided (head < k) → Decided (IsPartAt k) → Decided (head < k → IsPartAt k)
          on (inr early) part = inl (λ behind. absurd (early behind))
          on (inl behind) (inl part) = inl (λ _. part)
          on (inl behind) (inr lacks) = inr (λ all. lacks (all behind))

      by : Decided ((k : ℕ) → k < place → head < k → IsPartAt k) → Decided ((k : ℕ) → head < k → k < place → IsPartAt k)
      by (inl all) = inl (λ k behind low. all k low behind)
      by (inr lacks) = inr (λ all. lacks (λ k low behind. all k behind low))

  -- what a group's statepoint has at its place, and what the line asks of it
  record HeadAt (Asks : ℕ → Instruction → Type 0) (head : ℕ) : Type 0 where
    statepoint : Instruction
    stands : slice_get (instructions_of func.blocks) head ≡ Some statepoint
    op : is_statepoint statepoint.op ≡ true
    gives : number_at func head ≡ token
    between : (k : ℕ) → head < k → k < place → IsPartAt k
    asks : Asks head statepoint

  head_decided : (Asks : ℕ → Instruction → Type 0) → ((k : ℕ) (inst : Instruction) → Decided (Asks k inst)) → (head : ℕ) → Decided (HeadAt Asks head)
  head_decided Asks each head = by (slice_get (instructions_of func.blocks) head) refl
    where
      with_parts : (point : Instruction) → slice_get (instructions_of func.blocks) head ≡ Some point → Decided (is_statepoint point.op ≡ true)
          → Decided (number_at func head ≡ token) → Decided ((k : ℕ) → head < k → k < place → IsPartAt k) → Decided (Asks head point) → Decided (HeadAt Asks head)
      with_parts point stands (inl op) (inl gives) (inl between) (inl asks) =
          inl (record { statepoint = point; stands = stands; op = op; gives = gives; between = between; asks = asks })
      with_parts point stands (inr lacks) gives between asks =
          inr (λ h. lacks (subst (λ (inst : Instruction). is_statepoint inst.op ≡ true) (same_Some h.statepoint point (sym h.stands ∙ stands)) h.op))
      with_parts point stands (inl op) (inr lacks) between asks = inr (λ h. lacks h.gives)
      with_parts point stands (inl op) (inl gives) (inr lacks) asks = inr (λ h. lacks h.between)
      with_parts point stands (inl op) (inl gives) (inl between) (inr lacks) =
          inr (λ h. lacks (subst (Asks head) (same_Some h.statepoint point (sym h.stands ∙ stands)) h.asks))

      by : (o : Option Instruction) → slice_get (instructions_of func.blocks) head ≡ o → Decided (HeadAt Asks head)
      by None none = inr (λ h. none-some h.statepoint (sym none ∙ h.stands))
      by (Some point) stands =
          with_parts point stands (truth_decided (is_statepoint point.op)) (number_decided (number_at func head) token) (between_decided head) (each head point)

  head_holds : (Asks : ℕ → Instruction → Type 0) → ((k : ℕ) (inst : Instruction) → Decided (Asks k inst))
      → Likely ((g : Group func token place) × Asks g.head g.statepoint) → (g : Group func token place) × Asks g.head g.statepoint
  head_holds Asks each likely =
      let found = holds (search (HeadAt Asks) (head_decided Asks each) place) (λ none. likely (λ g. none (
        g.0.head,
        g.0.before,
        record {
          statepoint = g.0.statepoint;
          stands = g.0.stands;
          op = g.0.op;
          gives = g.0.gives;
          between = g.0.between;
          asks = g.1;
        },
      ))) in
      let at : HeadAt Asks found.0 = found.2 in (
        record {
          head = found.0;
          statepoint = at.statepoint;
          stands = at.stands;
          op = at.op;
          gives = at.gives;
          before = found.1;
          between = at.between;
        },
        at.asks,
      )

both_decided : {P Q : Type 0} → Decided P → Decided Q → Decided (P × Q)
both_decided (inl p) (inl q) = inl (p, q)
both_decided (inr lacks) q = inr (λ h. lacks h.0)
both_decided (inl p) (inr lacks) = inr (λ h. lacks h.1)

value_decided : (o : Option Operand) → Decided ((value : ValueId) × (o ≡ Some (operands.Value value)))
value_decided (Some (operands.Value value)) = inl (value, refl)
value_decided (Some op) = inr (λ h. let same : op ≡ operands.Value h.0 = same_Some op (operands.Value h.0) h.1 in cc)
value_decided None = inr (λ h. none-some (operands.Value h.0) h.1)

abbrev AsksResult : ℕ → Instruction → ℕ → Instruction → Type 0
AsksResult place inst head point = (head + 1 ≡ place) × (inst.ty ≡ point.ty)

result_holds : (func : Function) (place : ℕ) (inst : Instruction) → Likely (ResultInShape func place inst) → ResultInShape func place inst
result_holds func place inst likely = by inst.operands refl
  where
    with_token : (token : ValueId) → inst.operands ≡ operands.Value token ∷ [] → ResultInShape func place inst
    with_token token e =
        let found = head_holds func token.0 place (AsksResult place inst) (λ head point. both_decided (number_decided (head + 1) place) (type_decided inst.ty point.ty))
        (λ none. likely (λ r.
        let same : r.token ≡ token = (let g : operands.Value token ∷ [] ≡ operands.Value r.token ∷ [] = sym e ∙ r.operands in cc) in
        none (subst (λ (t : ValueId). (g : Group func t.0 place) × AsksResult place inst g.head g.statepoint) same (r.group, (r.directly, r.type))))) in
        record { token = token; operands = e; group = found.0; directly = found.1.0; type = found.1.1 }

    by : (os : List Operand) → inst.operands ≡ os → ResultInShape func place inst
    by (operands.Value token ∷ []) e = with_token token e
    by os e = absurd (likely (λ r. let bad : os ≡ operands.Value r.token ∷ [] = sym e ∙ r.operands in cc))

abbrev AsksEntries : ℕ → ℕ → ℕ → Instruction → Type 0
AsksEntries base derived head point =
    (base < length (entries_of point)) × ((value : ValueId) × (slice_get (entries_of point) derived ≡ Some (operands.Value value)))

-- what is asked of the group of the operands
abbrev Asked : Function → ℕ → ValueId → ℕ → ℕ → Type 0
Asked func place token base derived = (g : Group func token.0 place) × AsksEntries base derived g.head g.statepoint

relocate_holds : (func : Function) (place : ℕ) (inst : Instruction) → Likely (RelocateInShape func place inst) → RelocateInShape func place inst
relocate_holds func place inst likely = by inst.operands refl
  where
    asked_of : (token : ValueId) (base derived : ℕ) → inst.operands ≡ operands.Value token ∷ operands.Int base ∷ operands.Int derived ∷ []
        → RelocateInShape func place inst → Asked func place token base derived
    asked_of token base derived e r =
        let g : operands.Value token ∷ operands.Int base ∷ operands.Int derived ∷ [] ≡ operands.Value r.token ∷ operands.Int r.base ∷ operands.Int r.derived ∷ [] = sym e ∙ r.operands in
        let same_token : r.token ≡ token = cc in
        let same_base : r.base ≡ base = cc in
        let same_derived : r.derived ≡ derived = cc in
        subst (λ (t : ValueId). Asked func place t base derived) same_token
        (subst (λ (b : ℕ). Asked func place r.token b derived) same_base
        (subst (λ (d : ℕ). Asked func place r.token r.base d) same_derived (r.group, (r.base_entry, r.derived_entry))))

    with_operands : (token : ValueId) (base derived : ℕ) → inst.operands ≡ operands.Value token ∷ operands.Int base ∷ operands.Int derived ∷ [] → RelocateInShape func place inst
    with_operands token base derived e =
        let found = head_holds func token.0 place (AsksEntries base derived)
        (λ head point. both_decided (below_decided base (length (entries_of point))) (value_decided (slice_get (entries_of point) derived)))
        (λ none. likely (λ r. none (asked_of token base derived e r))) in
        record { token = token; base = base; derived = derived; operands = e; group = found.0; base_entry = found.1.0; derived_entry = found.1.1 }

    by : (os : List Operand) → inst.operands ≡ os → RelocateInShape func place inst
    by (operands.Value token ∷ operands.Int base ∷ operands.Int derived ∷ []) e = with_operands token base derived e
    by os e = absurd (likely (λ r. let bad : os ≡ operands.Value r.token ∷ operands.Int r.base ∷ operands.Int r.derived ∷ [] = sym e ∙ r.operands in cc))

apart_holds : (func : Function) (inst : Instruction) → Likely (IsApart func inst) → IsApart func inst
apart_holds func inst likely = (
  λ k d low is. likely (λ apart. apart.0 k d low is),
  λ k d low. holds (fit_decided (value_types func) (Rattle.std.proofs.Common.get_or (entries_of inst) k d) tys.Ptr) (λ lacks. likely (λ apart. lacks (apart.1 k d low))),
)

pub shape_holds : (func : Function) (place : ℕ) (inst : Instruction) (op : Op) → Likely (ShapeOf func place inst op) → ShapeOf func place inst op
shape_holds func place inst ops.GcResult likely = result_holds func place inst likely
shape_holds func place inst ops.GcRelocate likely = relocate_holds func place inst likely
shape_holds func place inst (ops.Statepoint id callee types) likely = (
  apart_holds func inst (λ lacks. likely (λ shape. lacks shape.0)),
  holds (truth_decided (holds_live inst)) (λ lacks. likely (λ shape. lacks shape.1)),
)
shape_holds func place inst _ likely = apart_holds func inst likely
