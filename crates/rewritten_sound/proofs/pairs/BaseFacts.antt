-- The base of a pointer is `null` or a pointer that is its own base, in a typed function whose bases aren't derived; and what
-- the types of lines say besides.
use Rattle.std.proofs.Common.{◌≡◌, ℕ, zero, suc, ◌+◌, ◌<◌, ◌≤◌, Bool, true, false, not, if◌then◌else◌, List, [], ◌∷◌, length, refl, sym, ap, subst, ◌∙◌, inl, inr, arith}
use Rattle.std.specs.Prelude.{Option, Some, None, is_some, slice_get}
use Rattle.std.specs.List.{All, AllZip, Contains, range_with_len}
use Rattle.std.specs.Option.{option_map_or}
use Rattle.std.proofs.lemmas.Bool.{cases_eq, false≢true}
use Rattle.std.proofs.lemmas.Option.{none-some, slice_get_within}
use Rattle.list_laws.proofs.Contents.{all_at, get_contained}
use Rattle.sp_ids.specs.declared.ids.ValueId.{ValueId}
use Rattle.ir_ast.specs.declared.types.Ty.{Ty}
use Rattle.ir_ast.specs.declared.types.Ty.TheVariants as types
use Rattle.ir_ast.specs.declared.ops.Callee.TheVariants as callees
use Rattle.ir_ast.specs.declared.ops.Op.{Op}
use Rattle.ir_ast.specs.declared.ops.Op.TheVariants as ops
use Rattle.ir_ast.specs.declared.ops.Operand.{Operand}
use Rattle.ir_ast.specs.declared.ops.Operand.TheVariants as operands
use Rattle.ir_ast.specs.Bases.{Base, HasBases, IsBaseTable, of_itself, of_merge, of_null, of_step}
use Rattle.ir_ast.specs.Derived.{Derived, is_merge, is_step}
use Rattle.ir_ast.specs.Insts.{Instruction}
use Rattle.ir_ast.specs.Funcs.{Function, instructions_of}
use Rattle.ir_ast.specs.Lines.{IsLine, LineOf}
use Rattle.ir_ast.specs.Modules.{ModuleContent}
use Rattle.ir_ast.specs.Scope.{Signature, scope_of}
use Rattle.ir_ast.specs.Types.{is_pointer, is_void}
use Rattle.ir_ast.specs.Values.{Gives, outcome, outcome_type, value_types}
use Rattle.ir_ast.specs.Faults.GroupShape.{number_at}
use Rattle.ir_ast.specs.Faults.TypeClash.{Fits, IsTyped, RuleOf, asked}
use Rattle.ir_ast.proofs.BaseLemmas.{one_base}
use Rattle.ir_ast.proofs.OpLaws.{pointer_is as type_is}
use Rattle.ir_cfg.specs.DefiniteUses.{text_place}
use Rattle.definite_assign.proofs.TextLemmas.{stands_in_text}
use Rattle.object_meaning.specs.Lines.{Line}
use Rattle.rewriting_forms.specs.Numbered.{among, base_at, lines_at, named, pointers}
use Rattle.rewriting_laws.proofs.NameLemmas.{among_filter, among_here, among_there, filter_among}
use Rattle.base_laws.proofs.TypeLaws.{type_of_given}
use Rattle.base_definite.proofs.base_relations.GroupLaws.{given_at}
use Rattle.base_definite.proofs.LinePlaces.{line_from}
use Rattle.rewritten_sound.specs.Takes.{IsOwn, IsPointer, base_of}
use Rattle.rewritten_sound.proofs.pairs.StayFacts.{numbered, table_there}

among_range : (v from count : ℕ) → from ≤ v → v < from + count → among v (range_with_len from count) ≡ true
among_range v from zero low high = absurd (omega (arith, low, high))
among_range v from (suc count) low high = elim (cases_eq from v) [
  | inl same ↦ subst (λ (n : ℕ). among v (n ∷ range_with_len (from + 1) count) ≡ true) (sym same) (among_here v (range_with_len (from + 1) count))
  | inr apart ↦ among_there v from (range_with_len (from + 1) count) (among_range v (from + 1) count (omega (arith, low, apart)) (omega (arith, high)))
]

-- a value whose type is that of pointers is one of them
pub pointer_among : (func : Function) (v : ℕ) → slice_get (value_types func) v ≡ Some types.Ptr → among v (pointers func) ≡ true
pointer_among func v is =
    let below = slice_get_within (value_types func) v types.Ptr is in
    filter_among (λ (x : ℕ). option_map_or is_pointer (slice_get (value_types func) x) false) v (range_with_len 0 (length (value_types func)))
    (among_range v 0 (length (value_types func)) (omega arith) (omega (arith, below)))
    (ap (λ (t : Option Ty). option_map_or is_pointer t false) is)

pointer_type : (ty : Option Ty) → option_map_or is_pointer ty false ≡ true → ty ≡ Some types.Ptr
pointer_type None is = absurd (false≢true is)
pointer_type (Some types.Ptr) is = refl
pointer_type (Some ty) is = absurd cc

pub pointer_is : (func : Function) (v : ℕ) → among v (pointers func) ≡ true → slice_get (value_types func) v ≡ Some types.Ptr
pointer_is func v is =
    pointer_type (slice_get (value_types func) v)
    (among_filter (λ (x : ℕ). option_map_or is_pointer (slice_get (value_types func) x) false) v (range_with_len 0 (length (value_types func))) is).1

pub fits_pointer : (func : Function) (table : List Operand) (o : Operand) → Fits (value_types func) o types.Ptr → IsPointer func table o
fits_pointer func table (operands.Value value) fits = pointer_among func value.0 fits
fits_pointer func table (operands.Int word) fits = (let is = fits.1 in cc)
fits_pointer func table operands.Null fits = tt
fits_pointer func table (operands.Fun called) fits = (let is : types.Ptr ≡ types.Void = fits in cc)

first_fits : (values : List Ty) (given : List Operand) (ty : Ty) (rest : List Ty) (o : Operand) → AllZip (Fits values) given (ty ∷ rest) → slice_get given 0 ≡ Some o → Fits values o ty
first_fits values [] ty rest o fits at = absurd (none-some o at)
first_fits values (x ∷ given) ty rest o fits at = let same : x ≡ o = cc in subst (λ (y : Operand). Fits values y ty) same fits.0

merge_type : (op : Op) (ty : Ty) → is_merge op ≡ true → outcome_type op ty ≡ ty
merge_type ops.Phi ty is = refl
merge_type ops.Select ty is = refl
merge_type op ty is = absurd (false≢true is)

module _ (content : ModuleContent) (func : Function) (table : List Operand) (merged : ℕ → ValueId) (has : HasBases func merged) (bases : IsBaseTable func merged table)
    (typed : All (IsTyped (scope_of content func)) (instructions_of func.blocks))
    (underived : (pointer base : ValueId) → Base func merged (operands.Value pointer) (operands.Value base) → Derived func base.0 → ⊥) where
  typed_inst : (v : ℕ) (inst : Instruction) → Gives func v inst → IsTyped (scope_of content func) inst
  typed_inst v inst given = let at = given_at func v inst given in all_at (IsTyped (scope_of content func)) (instructions_of func.blocks) at.place inst typed at.stands

  gives_type : (v : ℕ) (inst : Instruction) → Gives func v inst → slice_get (value_types func) v ≡ Some (outcome_type inst.op inst.ty)
  gives_type v inst given = type_of_given func v (outcome inst) given

  -- what a `getelementptr` steps from is a pointer
  pub step_pointer : (v : ℕ) (inst : Instruction) (pointer : Operand) → Gives func v inst → is_step inst.op ≡ true → slice_get inst.operands 0 ≡ Some pointer → IsPointer func table pointer
  step_pointer v inst pointer given step first = by inst.op refl step
    where
      by : (op : Op) → inst.op ≡ op → is_step op ≡ true → IsPointer func table pointer
      by (ops.Gep elem index_width place) is step =
          let fits = subst (λ (op : Op). AllZip (Fits (value_types func)) inst.operands (asked op inst.ty (length inst.operands))) is (typed_inst v inst given).operands in
          fits_pointer func table pointer (first_fits (value_types func) inst.operands types.Ptr (types.Int index_width ∷ []) pointer fits first)
      by op is step = absurd (false≢true step)

  base_pointer : (one two : Operand) → Base func merged one two → IsPointer func table one → IsPointer func table two
  base_pointer _ _ of_null pointer = tt
  base_pointer _ _ (of_itself value none) pointer = pointer
  base_pointer _ _ (of_step value inst from two given step first rest) pointer = base_pointer from two rest (step_pointer value.0 inst from given step first)
  base_pointer _ _ (of_merge value inst given merge derived) pointer =
      let inserted = has.each value.0 inst given merge derived in
      let line = has.inserted value.0 in
      let line_type = gives_type (merged value.0).0 (has.inserted value.0) inserted.given in
      let merge_here : is_merge (has.inserted value.0).op ≡ true = ap is_merge inserted.op ∙ merge in
      let own_type : Some (outcome_type inst.op inst.ty) ≡ Some types.Ptr = sym (gives_type value.0 inst given) ∙ pointer_is func value.0 pointer in
      pointer_among func (merged value.0).0
      (line_type ∙ ap (λ (ty : Ty). Some ty) (merge_type (has.inserted value.0).op (has.inserted value.0).ty merge_here ∙ inserted.ty ∙ sym (merge_type inst.op inst.ty merge)) ∙ own_type)

  pub entry_base : (v : ℕ) → among v (pointers func) ≡ true → Base func merged (named v) (base_at table v)
  entry_base v pointer = bases.each (numbered v) (base_at table v) (table_there func table merged bases v pointer)

  -- a pointer that isn't derived is its own base
  pub underived_own : (v : ℕ) → among v (pointers func) ≡ true → (Derived func v → ⊥) → base_at table v ≡ named v
  underived_own v pointer none = sym (one_base (named v) (named v) (base_at table v) (of_itself (numbered v) none) (entry_base v pointer))

  pub base_is : (v : ℕ) → among v (pointers func) ≡ true → IsOwn func table (base_at table v)
  base_is v pointer = (base_pointer (named v) (base_at table v) (entry_base v pointer) pointer, by (base_at table v) refl)
    where
      by : (o : Operand) → base_at table v ≡ o → base_of func table o ≡ o
      by (operands.Value value) is =
          let whole = subst (Base func merged (named v)) is (entry_base v pointer) in
          underived_own value.0 (base_pointer (named v) (operands.Value value) whole pointer) (underived (numbered v) value whole)
      by (operands.Int word) is = refl
      by operands.Null is = refl
      by (operands.Fun called) is = refl

  typed_line : (b k : ℕ) (line : Line) → slice_get (lines_at func b) k ≡ Some line → IsTyped (scope_of content func) line.inst
  typed_line b k line at = all_at (IsTyped (scope_of content func)) (instructions_of func.blocks) _ line.inst typed (stands_in_text func b k line.inst (line_from func b k line at).stands)

  -- a pointer that a bundle holds is one
  pub held_pointer : (b k v : ℕ) (line : Line) (entry : Ty × Operand) → slice_get (lines_at func b) k ≡ Some line → Contains line.inst.bundle entry → is_pointer entry.0 ≡ true
      → entry.1 ≡ named v → among v (pointers func) ≡ true
  held_pointer b k v line entry at contained pointer is =
      let place = get_contained line.inst.bundle entry contained in
      let fits = all_at (λ (e : Ty × Operand). Fits (value_types func) e.1 e.0) line.inst.bundle place.0 entry (typed_line b k line at).bundle place.1 in
      pointer_among func v (subst (λ (o : Operand). Fits (value_types func) o types.Ptr) is (subst (Fits (value_types func) entry.1) (type_is entry.0 pointer) fits))

  -- a check gives nothing
  pub silent : All IsLine (instructions_of func.blocks) → (b k : ℕ) (line : Line) (passed : List Ty) → slice_get (lines_at func b) k ≡ Some line
      → line.inst.op ≡ ops.Call callees.Check passed → line.to ≡ None
  silent forms b k line passed at op =
      let from = line_from func b k line at in
      let form = subst (λ (o : Op). LineOf o line.inst) op (all_at IsLine (instructions_of func.blocks) _ line.inst forms (stands_in_text func b k line.inst from.stands)) in
      let rule = subst (λ (o : Op). RuleOf (scope_of content func) o line.inst) op (typed_line b k line at).rule in
      let type : types.Void ≡ line.inst.ty = ap (λ (s : Option Signature). option_map_or (λ (t : Signature). t.answer) s types.Void) rule.signature in
      let unnamed : is_some line.inst.result ≡ false = form.result ∙ ap (λ (ty : Ty). not (is_void ty)) (sym type) in
      from.to ∙ ap (λ (t : Bool). if t then Some (number_at func (text_place func b k)) else None) unnamed
