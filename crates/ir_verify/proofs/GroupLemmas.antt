-- The statepoint group that is open before an instruction, one instruction after another.
use Rattle.std.proofs.Common.{◌≡◌, ◌≢◌, ◌∙◌, ℕ, ◌+◌, ◌<◌, ◌≤◌, ◌⊎◌, inl, inr, Bool, true, false, cond, List, [], ◌∷◌, length, take, refl, ap, sym, subst, arith}
use Rattle.std.specs.Prelude.{Option, Some, None, ◌↔◌, IfSome, slice_get, filter, map, min}
use Rattle.std.specs.List.{All, filter_map}
use Rattle.std.proofs.lemmas.Bool.{false≢true}
use Rattle.std.proofs.lemmas.Bool.Decides.{eqb_tells}
use Rattle.std.proofs.lemmas.List.{length-append, length-take}
use Rattle.std.proofs.lemmas.List.Elements.{All-nil, All-cons, All-head, All-tail, All-append, filter_map-append, filter-append}
use Rattle.std.proofs.lemmas.Option.{none-some, same_Some}
use Rattle.list_laws.proofs.Contents.{all_front, all_back}
use Rattle.list_laws.proofs.Places.{cases_below}
use Rattle.ir_ast.specs.declared.types.Ty.{Ty}
use Rattle.ir_ast.specs.declared.types.Ty.TheVariants.{Token}
use Rattle.ir_ast.specs.declared.ops.Operand.{Operand}
use Rattle.ir_ast.specs.declared.ops.Operand.TheVariants.{Value, Int, Null, Fun}
use Rattle.ir_ast.specs.declared.ops.Op.{Op}
use Rattle.ir_ast.specs.declared.ops.Op.TheVariants.{Statepoint, GcResult, GcRelocate}
use Rattle.ir_ast.specs.Insts.{Instruction}
use Rattle.ir_ast.specs.Funcs.{Function, instructions_of}
use Rattle.ir_ast.specs.Values.{value_types}
use Rattle.ir_ast.specs.Operands.{value_in, named}
use Rattle.ir_ast.specs.Faults.GroupShape.{Group, ResultInShape, RelocateInShape, ShapeOf, entries_of, is_part, is_statepoint, number_at}
use Rattle.body_tables.specs.Bodies.{given_by}
use Rattle.ir_verify.specs.Groups.{is_value_of, OpenGroup, kept_by, kept_open, behind_op, IsResultOf, IsRelocateOf, ResultFits, RelocateFits, number_in, HaveEntries, NamesToken, UsesNo, IsApartBy, ShapeBy, IsOpen, Opened}
use Rattle.body_tables.proofs.Values.{gives, taken_more}

-- ---- parts by their first operand

part-by : (op : Op) (token : ℕ) (inst : Instruction) → inst.op ≡ op → is_part token inst ≡ is_part token (record inst { op = op })
part-by op token inst is = ap (λ (o : Op). is_part token (record inst { op = o })) is

first-result : (token : ℕ) (inst : Instruction) (operands : List Operand)
    → is_part token (record inst { op = GcResult; operands = operands }) ≡ is_value_of token (slice_get operands 0)
first-result token inst [] = refl
first-result token inst (Value value ∷ operands) = refl
first-result token inst (operand ∷ operands) = refl

first-relocate : (token : ℕ) (inst : Instruction) (operands : List Operand)
    → is_part token (record inst { op = GcRelocate; operands = operands }) ≡ is_value_of token (slice_get operands 0)
first-relocate token inst [] = refl
first-relocate token inst (Value value ∷ operands) = refl
first-relocate token inst (operand ∷ operands) = refl

pub part-result : (token : ℕ) (inst : Instruction) → inst.op ≡ GcResult → is_value_of token (slice_get inst.operands 0) ≡ is_part token inst
part-result token inst is = sym (part-by GcResult token inst is ∙ first-result token inst inst.operands)

pub part-relocate : (token : ℕ) (inst : Instruction) → inst.op ≡ GcRelocate → is_value_of token (slice_get inst.operands 0) ≡ is_part token inst
part-relocate token inst is = sym (part-by GcRelocate token inst is ∙ first-relocate token inst inst.operands)

-- a statepoint is no part
no-part : (op : Op) (token : ℕ) (inst : Instruction) → is_statepoint op ≡ true → is_part token (record inst { op = op }) ≡ false
no-part (Statepoint id callee types) token inst starts_group = refl
no-part op token inst starts_group = absurd (false≢true starts_group)

head-no-part : (token : ℕ) (inst : Instruction) → is_statepoint inst.op ≡ true → is_part token inst ≡ true → ⊥
head-no-part token inst starts_group part = false≢true (sym (no-part inst.op token inst starts_group) ∙ part)

-- ---- heads

some-holds : (P : Instruction → Type 0) (o : Option Instruction) (inst : Instruction) → o ≡ Some inst → IfSome o P → P inst
some-holds P o inst is holds = let h : IfSome (Some inst) P = subst (λ (x : Option Instruction). IfSome x P) is holds in h

later-head : (func : Function) (token other place : ℕ) (a : Group func token place) (b : Group func other place) → a.head < b.head → ⊥
later-head func token other place a b lt =
    head-no-part token b.statepoint b.op
    (some-holds (λ (inst : Instruction). is_part token inst ≡ true) (slice_get (instructions_of func.blocks) b.head) b.statepoint b.stands
    (a.between b.head lt b.before))

order : (x y : ℕ) → (x < y) ⊎ ((y < x) ⊎ (x ≡ y))
order x y = grind arith

one-head : (func : Function) (token other place : ℕ) (a : Group func token place) (b : Group func other place) → a.head ≡ b.head
one-head func token other place a b = elim (order a.head b.head) [
  | inl lt ↦ absurd (later-head func token other place a b lt)
  | inr rest ↦ elim rest [ inl gt ↦ absurd (later-head func other token place b a gt) | inr e ↦ e ]
]

one-statepoint : (func : Function) (token other place : ℕ) (a : Group func token place) (b : Group func other place) → a.statepoint ≡ b.statepoint
one-statepoint func token other place a b =
    let e : Some a.statepoint ≡ Some b.statepoint
    = sym a.stands ∙ ap (slice_get (instructions_of func.blocks)) (one-head func token other place a b) ∙ b.stands in cc

-- ---- what is open

pub opened-start : (func : Function) → Opened func 0 None
opened-start func = record {
  is = λ one e. absurd (none-some one e);
  only = λ token g. absurd (let b = g.before in omega (arith, b));
}

module _ (func : Function) (place number : ℕ) (inst : Instruction) (held : Option OpenGroup)
    (at : slice_get (instructions_of func.blocks) place ≡ Some inst) (numbered : number_at func place ≡ number) (opened : Opened func place held) where
  -- a group goes on over a part
  goes-on : (group : OpenGroup) → IsOpen func place group → is_part group.number inst ≡ true → IsOpen func (place + 1) (record group { is_fresh = false })
  goes-on group o part = record {
    group = record {
      head = o.group.head;
      statepoint = o.group.statepoint;
      stands = o.group.stands;
      op = o.group.op;
      gives = o.group.gives;
      before = (let b = o.group.before in omega (arith, b));
      between = λ k low high. between k low (cases_below k place high);
    };
    answer = o.answer;
    live = o.live;
    fresh = ((λ bad. absurd (false≢true bad)), (λ e. absurd (let b = o.group.before in omega (arith, b, e))));
  }
    where
      here : IfSome (slice_get (instructions_of func.blocks) place) (λ (one : Instruction). is_part group.number one ≡ true)
      here = subst (λ (o : Option Instruction). IfSome o (λ (one : Instruction). is_part group.number one ≡ true)) (sym at) part

      between : (k : ℕ) → o.group.head < k → (k < place) ⊎ (k ≡ place)
          → IfSome (slice_get (instructions_of func.blocks) k) (λ (one : Instruction). is_part group.number one ≡ true)
      between k low (inl lt) = o.group.between k low lt
      between k low (inr e) =
          subst (λ (n : ℕ). IfSome (slice_get (instructions_of func.blocks) n) (λ (one : Instruction). is_part group.number one ≡ true)) (sym e) here

  kept-is : (held : Option OpenGroup) → Opened func place held → (one : OpenGroup) → kept_open held inst ≡ Some one → IsOpen func (place + 1) one
  kept-is None o one e = absurd (none-some one e)
  kept-is (Some group) o one e = by (is_part group.number inst) refl e
    where
      by : (b : Bool) → is_part group.number inst ≡ b → kept_by b group ≡ Some one → IsOpen func (place + 1) one
      by true part is =
          let same : record group { is_fresh = false } ≡ one = same_Some (record group { is_fresh = false }) one is in
          subst (IsOpen func (place + 1)) same (goes-on group (o.is group refl) part)
      by false part is = absurd (none-some one is)

  starts : (op : Op) → inst.op ≡ op → is_statepoint op ≡ true
      → IsOpen func (place + 1) (record { number = number; answer = inst.ty; live = entries_of inst; is_fresh = true })
  starts op is starts_group = record {
    group = record {
      head = place;
      statepoint = inst;
      stands = at;
      op = ap is_statepoint is ∙ starts_group;
      gives = numbered;
      before = omega arith;
      between = λ k low high. absurd (omega (arith, low, high));
    };
    answer = refl;
    live = refl;
    fresh = ((λ t. refl), (λ e. refl));
  }

  behind-is : (op : Op) → inst.op ≡ op → (one : OpenGroup) → behind_op held number op inst ≡ Some one → IsOpen func (place + 1) one
  behind-is (Statepoint id callee types) is one e =
      let first : OpenGroup = record { number = number; answer = inst.ty; live = entries_of inst; is_fresh = true } in
      subst (IsOpen func (place + 1)) (same_Some first one e) (starts (Statepoint id callee types) is refl)
  behind-is GcResult is one e = kept-is held opened one e
  behind-is GcRelocate is one e = kept-is held opened one e
  behind-is op is one e = absurd (none-some one e)

  -- ---- and only that

  -- a group that was open before
  earlier : (token : ℕ) (g : Group func token (place + 1)) → g.head < place → Group func token place
  earlier token g lt = record {
    head = g.head;
    statepoint = g.statepoint;
    stands = g.stands;
    op = g.op;
    gives = g.gives;
    before = lt;
    between = λ k low high. g.between k low (omega (arith, high));
  }

  part-here : (token : ℕ) (g : Group func token (place + 1)) → g.head < place → is_part token inst ≡ true
  part-here token g lt =
      some-holds (λ (one : Instruction). is_part token one ≡ true) (slice_get (instructions_of func.blocks) place) inst at (g.between place lt (omega arith))

  kept-only : (token : ℕ) (g : Group func token (place + 1)) → g.head < place → (one : OpenGroup) × (kept_open held inst ≡ Some one) × (one.number ≡ token)
  kept-only token g lt =
      let before = opened.only token (earlier token g lt) in
      let group = before.0 in
      let part : is_part group.number inst ≡ true = ap (λ n. is_part n inst) before.2 ∙ part-here token g lt in (
        record group { is_fresh = false },
        ap (λ (o : Option OpenGroup). kept_open o inst) before.1 ∙ ap (λ (b : Bool). kept_by b group) part,
        before.2,
      )

  -- the statepoint of a group is no part, and a part is no statepoint
  head-here : (token : ℕ) (g : Group func token (place + 1)) → g.head ≡ place → is_statepoint inst.op ≡ true
  head-here token g e =
      let same : Some g.statepoint ≡ Some inst = sym g.stands ∙ ap (slice_get (instructions_of func.blocks)) e ∙ at in
      let alike : g.statepoint ≡ inst = cc in
      ap (λ (one : Instruction). is_statepoint one.op) (sym alike) ∙ g.op

  only-by : (op : Op) → inst.op ≡ op → (token : ℕ) (g : Group func token (place + 1)) → (g.head < place) ⊎ (g.head ≡ place)
      → (one : OpenGroup) × (behind_op held number op inst ≡ Some one) × (one.number ≡ token)
  only-by (Statepoint id callee types) is token g (inl lt) =
      absurd (head-no-part token inst (ap is_statepoint is) (part-here token g lt))
  only-by (Statepoint id callee types) is token g (inr e) =
      (record { number = number; answer = inst.ty; live = entries_of inst; is_fresh = true }, refl, sym numbered ∙ ap (number_at func) (sym e) ∙ g.gives)
  only-by GcResult is token g (inl lt) = kept-only token g lt
  only-by GcResult is token g (inr e) = absurd (false≢true (sym (ap is_statepoint is) ∙ head-here token g e))
  only-by GcRelocate is token g (inl lt) = kept-only token g lt
  only-by GcRelocate is token g (inr e) = absurd (false≢true (sym (ap is_statepoint is) ∙ head-here token g e))
  only-by op is token g (inl lt) =
      absurd (false≢true (sym (part-by op token inst is) ∙ part-here token g lt))
  only-by op is token g (inr e) = absurd (false≢true (sym (ap is_statepoint is) ∙ head-here token g e))

  pub opened-more : (next : Option OpenGroup) → next ≡ behind_op held number inst.op inst → Opened func (place + 1) next
  opened-more next e = subst (Opened func (place + 1)) (sym e) (record {
    is = λ one is. behind-is inst.op refl one is;
    only = λ token g. only-by inst.op refl token g (cases_below g.head place g.before);
  })

-- ---- the number of the next value

pub number-start : (func : Function) → length func.args ≡ number_at func 0
number-start func = let e : length func.args ≡ length func.args + 0 = omega arith in e

given-long : (inst : Instruction) → length (filter gives (inst ∷ [])) ≡ length (given_by inst)
given-long inst = by (gives inst) refl
  where
    by : (b : Bool) → gives inst ≡ b → length (filter gives (inst ∷ [])) ≡ length (given_by inst)
    by true is = rw is refl
    by false is = rw is refl

pub number-more : (func : Function) (place : ℕ) (inst : Instruction) → slice_get (instructions_of func.blocks) place ≡ Some inst
    → number_at func (place + 1) ≡ number_at func place + length (given_by inst)
number-more func place inst at =
    let insts = instructions_of func.blocks in
    let e : length (filter gives (take (place + 1) insts)) ≡ length (filter gives (take place insts)) + length (given_by inst)
    = ap (λ (xs : List Instruction). length (filter gives xs)) (taken_more insts place inst at)
    ∙ ap length (filter-append gives (take place insts) (inst ∷ []))
    ∙ length-append (filter gives (take place insts)) (filter gives (inst ∷ []))
    ∙ ap (λ n. length (filter gives (take place insts)) + n) (given-long inst) in
    omega (arith, e)

-- ---- results and relocates

module _ (func : Function) (place : ℕ) (inst : Instruction) where
  result-to : (held : Option OpenGroup) → Opened func place held → ResultFits held inst → ResultInShape func place inst
  result-to None opened fits = absurd fits
  result-to (Some group) opened fits =
      let o = opened.is group refl in
      record {
        token = record { 0 = group.number };
        operands = fits.operands;
        group = o.group;
        directly = o.fresh.0 fits.fresh;
        type = fits.type ∙ o.answer;
      }

  result-by : (held : Option OpenGroup) → Opened func place held → ResultInShape func place inst → ResultFits held inst
  result-by held opened shape =
      let found = opened.only shape.token.0 shape.group in
      let group = found.0 in
      let o = opened.is group found.1 in
      let head = one-head func shape.token.0 group.number place shape.group o.group in
      let same = one-statepoint func shape.token.0 group.number place shape.group o.group in
      let fits : IsResultOf group inst = record {
        operands = shape.operands ∙ ap (λ (n : ℕ). named n ∷ []) (sym found.2);
        fresh = o.fresh.1 (ap (λ n. n + 1) (sym head) ∙ shape.directly);
        type = shape.type ∙ ap (λ (one : Instruction). one.ty) same ∙ sym o.answer;
      } in
      subst (λ (x : Option OpenGroup). ResultFits x inst) (sym found.1) fits

  relocate-to : (held : Option OpenGroup) → Opened func place held → RelocateFits held inst → RelocateInShape func place inst
  relocate-to None opened fits = absurd fits
  relocate-to (Some group) opened fits =
      let o = opened.is group refl in
      let size : length group.live ≡ length (entries_of o.group.statepoint) = ap length o.live in
      record {
        token = record { 0 = group.number };
        base = fits.base;
        derived = fits.derived;
        operands = fits.operands;
        group = o.group;
        base_entry = (let b = fits.base_entry in omega (arith, b, size));
        derived_entry = (fits.derived_entry.0, ap (λ (live : List Operand). slice_get live fits.derived) (sym o.live) ∙ fits.derived_entry.1);
      }

  relocate-by : (held : Option OpenGroup) → Opened func place held → RelocateInShape func place inst → RelocateFits held inst
  relocate-by held opened shape =
      let found = opened.only shape.token.0 shape.group in
      let group = found.0 in
      let o = opened.is group found.1 in
      let same = one-statepoint func shape.token.0 group.number place shape.group o.group in
      let live : entries_of shape.group.statepoint ≡ group.live = ap entries_of same ∙ sym o.live in
      let size : length (entries_of shape.group.statepoint) ≡ length group.live = ap length live in
      let fits : IsRelocateOf group inst = record {
        base = shape.base;
        derived = shape.derived;
        operands = shape.operands ∙ ap (λ (n : ℕ). named n ∷ Int shape.base ∷ Int shape.derived ∷ []) (sym found.2);
        base_entry = (let b = shape.base_entry in omega (arith, b, size));
        derived_entry = (shape.derived_entry.0, ap (λ (es : List Operand). slice_get es shape.derived) (sym live) ∙ shape.derived_entry.1);
      } in
      subst (λ (x : Option OpenGroup). RelocateFits x inst) (sym found.1) fits

  shape-to : (types : List Ty) (held : Option OpenGroup) → types ≡ value_types func → Opened func place held → (op : Op) → ShapeBy types held op inst → ShapeOf func place inst op
  shape-to types held typed opened GcResult s = result-to held opened s
  shape-to types held typed opened GcRelocate s = relocate-to held opened s
  shape-to types held typed opened (Statepoint id callee params) s = (subst (λ (ts : List Ty). IsApartBy ts inst) typed s.0, s.1)
  shape-to types held typed opened op s = subst (λ (ts : List Ty). IsApartBy ts inst) typed s

  shape-by : (types : List Ty) (held : Option OpenGroup) → types ≡ value_types func → Opened func place held → (op : Op) → ShapeOf func place inst op → ShapeBy types held op inst
  shape-by types held typed opened GcResult s = result-by held opened s
  shape-by types held typed opened GcRelocate s = relocate-by held opened s
  shape-by types held typed opened (Statepoint id callee params) s = (subst (λ (ts : List Ty). IsApartBy ts inst) (sym typed) s.0, s.1)
  shape-by types held typed opened op s = subst (λ (ts : List Ty). IsApartBy ts inst) (sym typed) s

  pub shape-iff : (types : List Ty) (held : Option OpenGroup) → types ≡ value_types func → Opened func place held
      → ShapeBy types held inst.op inst ↔ ShapeOf func place inst inst.op
  shape-iff types held typed opened = (shape-to types held typed opened inst.op, shape-by types held typed opened inst.op)

-- ---- tokens elsewhere

abbrev pub IsOther : List Ty → ℕ → Type 0
IsOther types value = slice_get types value ≢ Some Token

named-to : (types : List Ty) (operands : List Operand) → All (λ operand. ¬ NamesToken types operand) operands → All (IsOther types) (filter_map value_in operands)
named-to types [] all = All-nil (IsOther types)
named-to types (Value value ∷ operands) all =
    All-cons (IsOther types) value.0 (filter_map value_in operands) (All-head (λ (o : Operand). ¬ NamesToken types o) (Value value) operands all)
    (named-to types operands (All-tail (λ (o : Operand). ¬ NamesToken types o) (Value value) operands all))
named-to types (Int number ∷ operands) all = named-to types operands (All-tail (λ (o : Operand). ¬ NamesToken types o) (Int number) operands all)
named-to types (Null ∷ operands) all = named-to types operands (All-tail (λ (o : Operand). ¬ NamesToken types o) Null operands all)
named-to types (Fun func ∷ operands) all = named-to types operands (All-tail (λ (o : Operand). ¬ NamesToken types o) (Fun func) operands all)

named-by : (types : List Ty) (operands : List Operand) → All (IsOther types) (filter_map value_in operands) → All (λ operand. ¬ NamesToken types operand) operands
named-by types [] all = All-nil (λ (o : Operand). ¬ NamesToken types o)
named-by types (Value value ∷ operands) all =
    All-cons (λ (o : Operand). ¬ NamesToken types o) (Value value) operands (All-head (IsOther types) value.0 (filter_map value_in operands) all)
    (named-by types operands (All-tail (IsOther types) value.0 (filter_map value_in operands) all))
named-by types (Int number ∷ operands) all = All-cons (λ (o : Operand). ¬ NamesToken types o) (Int number) operands (λ bad. bad) (named-by types operands all)
named-by types (Null ∷ operands) all = All-cons (λ (o : Operand). ¬ NamesToken types o) Null operands (λ bad. bad) (named-by types operands all)
named-by types (Fun func ∷ operands) all = All-cons (λ (o : Operand). ¬ NamesToken types o) (Fun func) operands (λ bad. bad) (named-by types operands all)

entries-to : (types : List Ty) (bundle : List (Ty × Operand)) → All (λ entry. ¬ NamesToken types entry.1) bundle → All (λ operand. ¬ NamesToken types operand) (map (λ entry. entry.1) bundle)
entries-to types [] all = All-nil (λ (o : Operand). ¬ NamesToken types o)
entries-to types (entry ∷ bundle) all =
    All-cons (λ (o : Operand). ¬ NamesToken types o) entry.1 (map (λ (one : Ty × Operand). one.1) bundle)
    (All-head (λ (one : Ty × Operand). ¬ NamesToken types one.1) entry bundle all)
    (entries-to types bundle (All-tail (λ (one : Ty × Operand). ¬ NamesToken types one.1) entry bundle all))

entries-by : (types : List Ty) (bundle : List (Ty × Operand)) → All (λ operand. ¬ NamesToken types operand) (map (λ entry. entry.1) bundle) → All (λ entry. ¬ NamesToken types entry.1) bundle
entries-by types [] all = All-nil (λ (one : Ty × Operand). ¬ NamesToken types one.1)
entries-by types (entry ∷ bundle) all =
    All-cons (λ (one : Ty × Operand). ¬ NamesToken types one.1) entry bundle
    (All-head (λ (o : Operand). ¬ NamesToken types o) entry.1 (map (λ (one : Ty × Operand). one.1) bundle) all)
    (entries-by types bundle (All-tail (λ (o : Operand). ¬ NamesToken types o) entry.1 (map (λ (one : Ty × Operand). one.1) bundle) all))

pub uses-to : (types : List Ty) (inst : Instruction) → All (λ operand. ¬ NamesToken types operand) inst.operands → All (λ entry. ¬ NamesToken types entry.1) inst.bundle
    → UsesNo types inst
uses-to types inst all also =
    let bundle = map (λ (entry : Ty × Operand). entry.1) inst.bundle in
    subst (All (IsOther types)) (sym (filter_map-append value_in inst.operands bundle))
    (All-append (IsOther types) (filter_map value_in inst.operands) (filter_map value_in bundle) (named-to types inst.operands all)
    (named-to types bundle (entries-to types inst.bundle also)))

pub uses-front : (types : List Ty) (inst : Instruction) → UsesNo types inst → All (λ operand. ¬ NamesToken types operand) inst.operands
uses-front types inst all =
    let bundle = map (λ (entry : Ty × Operand). entry.1) inst.bundle in
    named-by types inst.operands (all_front (IsOther types) (filter_map value_in inst.operands) (filter_map value_in bundle)
    (subst (All (IsOther types)) (filter_map-append value_in inst.operands bundle) all))

pub uses-back : (types : List Ty) (inst : Instruction) → UsesNo types inst → All (λ entry. ¬ NamesToken types entry.1) inst.bundle
uses-back types inst all =
    let bundle = map (λ (entry : Ty × Operand). entry.1) inst.bundle in
    entries-by types inst.bundle (named-by types bundle (all_back (IsOther types) (filter_map value_in inst.operands) (filter_map value_in bundle)
    (subst (All (IsOther types)) (filter_map-append value_in inst.operands bundle) all)))

filter-within : (xs : List Instruction) → length (filter gives xs) ≤ length xs
filter-within [] = omega arith
filter-within (x ∷ xs) = by (gives x) (filter-within xs)
  where
    by : (b : Bool) → length (filter gives xs) ≤ length xs → length (cond b (x ∷ filter gives xs) (filter gives xs)) ≤ length (x ∷ xs)
    by true h = omega (arith, h)
    by false h = omega (arith, h)

pub number-below : (func : Function) (place : ℕ) → number_at func place ≤ length func.args + place
number-below func place =
    let insts = instructions_of func.blocks in
    let h = filter-within (take place insts) in
    let t = length-take place insts in
    let m = min-le place (length insts) in
    omega (arith, h, t, m)
  where
    min-le : (a b : ℕ) → min a b ≤ a
    min-le a b = omega arith

-- ---- the operands of a relocate

value-first : (token : ℕ) (operand : Operand) → is_value_of token (Some operand) ≡ true → operand ≡ named token
value-first token (Value value) e = elim (eqb_tells value.0 token) [
  | inl t ↦ ap named t.1
  | inr t ↦ absurd (false≢true (sym t.0 ∙ e))
]
value-first token operand e = absurd (false≢true e)

of-three : (group : OpenGroup) (inst : Instruction) (operands : List Operand) → operands ≡ inst.operands → length operands ≡ 3
    → is_value_of group.number (slice_get operands 0) ≡ true
    → HaveEntries group (number_in (slice_get operands 1)) (number_in (slice_get operands 2)) → IsRelocateOf group inst
of-three group inst [] is long first have = absurd (omega arith)
of-three group inst (x ∷ []) is long first have = absurd (omega arith)
of-three group inst (x ∷ y ∷ []) is long first have = absurd (omega arith)
of-three group inst (x ∷ Int base ∷ Int derived ∷ []) is long first have = record {
  base = base;
  derived = derived;
  operands = sym is ∙ ap (λ (o : Operand). o ∷ Int base ∷ Int derived ∷ []) (value-first group.number x first);
  base_entry = have.base_entry;
  derived_entry = have.derived_entry;
}
of-three group inst (x ∷ Int base ∷ z ∷ []) is long first have = absurd have
of-three group inst (x ∷ y ∷ z ∷ []) is long first have = absurd have
of-three group inst (x ∷ y ∷ z ∷ w ∷ rest) is long first have = absurd (omega arith)

pub relocate-is : (group : OpenGroup) (inst : Instruction) (operands : List Operand) → operands ≡ inst.operands → length operands ≡ 3
    → is_value_of group.number (slice_get operands 0) ≡ true
    → HaveEntries group (number_in (slice_get operands 1)) (number_in (slice_get operands 2)) → IsRelocateOf group inst
relocate-is = of-three

pub relocate-long : (group : OpenGroup) (inst : Instruction) (operands : List Operand) → operands ≡ inst.operands → IsRelocateOf group inst → length operands ≡ 3
relocate-long group inst operands is r = ap length is ∙ ap length r.operands

pub relocate-first : (group : OpenGroup) (inst : Instruction) (operands : List Operand) → operands ≡ inst.operands → IsRelocateOf group inst
    → is_value_of group.number (slice_get operands 0) ≡ true
relocate-first group inst operands is r =
    ap (λ (os : List Operand). is_value_of group.number (slice_get os 0)) (is ∙ r.operands)
    ∙ elim (eqb_tells group.number group.number) [ inl t ↦ t.0 | inr t ↦ absurd (t.1 refl) ]

pub relocate-entries : (group : OpenGroup) (inst : Instruction) (operands : List Operand) → operands ≡ inst.operands → IsRelocateOf group inst
    → HaveEntries group (number_in (slice_get operands 1)) (number_in (slice_get operands 2))
relocate-entries group inst operands is r =
    subst (λ (os : List Operand). HaveEntries group (number_in (slice_get os 1)) (number_in (slice_get os 2))) (sym (is ∙ r.operands))
    (record { base_entry = r.base_entry; derived_entry = r.derived_entry })
