-- In a typed function no base is derived.
use Rattle.std.proofs.Common.{◌≡◌, ℕ, zero, suc, true, List, [], ◌∷◌, length, map, refl, sym, ap, subst, ◌∙◌, ◌⊎◌, inl, inr}
use Rattle.std.specs.Prelude.{Some, slice_get}
use Rattle.std.specs.List.{All, AllZip, Contains}
use Rattle.std.proofs.lemmas.Bool.{false≢true}
use Rattle.std.proofs.lemmas.Option.{none-some, same_Some}
use Rattle.list_laws.proofs.Contents.{all_at, get_contained}
use Rattle.list_laws.proofs.Places.{filter_map_back, get_joined}
use Rattle.sp_ids.specs.declared.ids.ValueId.{ValueId}
use Rattle.ir_ast.specs.declared.types.Ty.{Ty}
use Rattle.ir_ast.specs.declared.types.Ty.TheVariants as types
use Rattle.ir_ast.specs.declared.ops.Op.{Op}
use Rattle.ir_ast.specs.declared.ops.Op.TheVariants as ops
use Rattle.ir_ast.specs.declared.ops.Operand.{Operand}
use Rattle.ir_ast.specs.declared.ops.Operand.TheVariants as operands
use Rattle.ir_ast.specs.Bases.{Base, HasBases, MergesBases, of_itself, of_merge, of_null, of_step}
use Rattle.ir_ast.specs.Derived.{Derived, by_merge, by_step, is_merge, is_step}
use Rattle.ir_ast.specs.Insts.{Instruction}
use Rattle.ir_ast.specs.Funcs.{Function, instructions_of}
use Rattle.ir_ast.specs.Lines.{IsLine, LineOf}
use Rattle.ir_ast.specs.Modules.{ModuleContent}
use Rattle.ir_ast.specs.Operands.{operands_of, value_in, values_used}
use Rattle.ir_ast.specs.Scope.{scope_of}
use Rattle.ir_ast.specs.Types.{is_pointer}
use Rattle.ir_ast.specs.Values.{Gives, outcome, outcome_type, value_types}
use Rattle.ir_ast.specs.Faults.TypeClash.{Fits, IsTyped, asked}
use Rattle.ir_ast.proofs.BaseLemmas.{same_instruction, steps_or_merges}
use Rattle.rewriting_forms.specs.Numbered.{named}
use Rattle.base_laws.proofs.TypeLaws.{type_of_given}
use Rattle.base_definite.proofs.base_relations.GroupLaws.{given_at}
use Rattle.rewritten_sound.proofs.pairs.PhiFacts.{fits_repeated}
use Rattle.ir_ast.proofs.OpLaws.{pointer_is}

value_back : (o : Operand) (v : ℕ) → value_in o ≡ Some v → o ≡ named v
value_back (operands.Value value) v is = let same : value.0 ≡ v = cc in ap named same
value_back (operands.Int word) v is = absurd cc
value_back operands.Null v is = absurd cc
value_back (operands.Fun called) v is = absurd cc

no_place : {A : Type 0} (k : ℕ) (x : A) → slice_get [] k ≡ Some x → ⊥
no_place k x at = none-some x at

-- a value that a line without a bundle uses is one of its operands
used_operand : (inst : Instruction) (v : ℕ) → inst.bundle ≡ [] → Contains (values_used inst) v → (k : ℕ) × (slice_get inst.operands k ≡ Some (named v))
used_operand inst v bare used =
    let place = get_contained (values_used inst) v used in
    let from = filter_map_back value_in (operands_of inst) v place.0 place.1 in
    let item = value_back from.item v from.gives in
    elim (get_joined inst.operands (map (λ (entry : Ty × Operand). entry.1) inst.bundle) from.place from.item from.stands) [
      | inl here ↦ (from.place, here ∙ ap (λ o. Some o) item)
      | inr there ↦
          absurd (no_place there.0 from.item (ap (λ (entries : List (Ty × Operand)). slice_get (map (λ (entry : Ty × Operand). entry.1) entries) there.0) (sym bare) ∙ there.2))
    ]

select_at : (values : List Ty) (given : List Operand) (ty : Ty) (k : ℕ) (o : Operand) → AllZip (Fits values) given (types.Int 1 ∷ ty ∷ ty ∷ []) → slice_get given k ≡ Some o
    → Fits values o (types.Int 1) ⊎ Fits values o ty
select_at values [] ty k o fits at = absurd (none-some o at)
select_at values (x ∷ given) ty zero o fits at = let same : x ≡ o = cc in inl (subst (λ (y : Operand). Fits values y (types.Int 1)) same fits.0)
select_at values (x ∷ given) ty (suc k) o fits at = inr (fits_repeated values given 2 k ty o fits.1 at)

zip_from : (func : Function) (merged : ℕ → ValueId) (given others : List Operand) (k : ℕ) (o : Operand) → AllZip (Base func merged) given others → slice_get others k ≡ Some o
    → (x : Operand) × Base func merged x o
zip_from func merged given [] k o zip at = absurd (none-some o at)
zip_from func merged [] (y ∷ others) k o zip at = absurd zip
zip_from func merged (x ∷ given) (y ∷ others) zero o zip at = let same : y ≡ o = cc in (x, subst (Base func merged x) same zip.0)
zip_from func merged (x ∷ given) (y ∷ others) (suc k) o zip at = zip_from func merged given others k o zip.1 at

module _ (content : ModuleContent) (func : Function) (merged : ℕ → ValueId) (has : HasBases func merged) (forms : All IsLine (instructions_of func.blocks))
    (typed : All (IsTyped (scope_of content func)) (instructions_of func.blocks)) where
  typed_inst : (v : ℕ) (inst : Instruction) → Gives func v inst → IsTyped (scope_of content func) inst
  typed_inst v inst given = let at = given_at func v inst given in all_at (IsTyped (scope_of content func)) (instructions_of func.blocks) at.place inst typed at.stands

  form_of : (v : ℕ) (inst : Instruction) → Gives func v inst → IsLine inst
  form_of v inst given = let at = given_at func v inst given in all_at IsLine (instructions_of func.blocks) at.place inst forms at.stands

  gives_type : (v : ℕ) (inst : Instruction) → Gives func v inst → slice_get (value_types func) v ≡ Some (outcome_type inst.op inst.ty)
  gives_type v inst given = type_of_given func v (outcome inst) given

  merge_bare : (inst : Instruction) (op : Op) → inst.op ≡ op → is_merge op ≡ true → IsLine inst → inst.bundle ≡ []
  merge_bare inst ops.Phi is merge form = (subst (λ (o : Op). LineOf o inst) is form).0.no_bundle
  merge_bare inst ops.Select is merge form = (subst (λ (o : Op). LineOf o inst) is form).no_bundle
  merge_bare inst op is merge form = absurd (false≢true merge)

  step_type : (inst : Instruction) (op : Op) → inst.op ≡ op → is_step op ≡ true → IsLine inst → outcome_type inst.op inst.ty ≡ types.Ptr
  step_type inst (ops.Gep elem index_width place) is step form =
      ap (λ (o : Op). outcome_type o inst.ty) is ∙ pointer_is inst.ty (subst (λ (o : Op). LineOf o inst) is form).0.type
  step_type inst op is step form = absurd (false≢true step)

  -- a merge of a pointer is one
  merge_pointer : (inst : Instruction) (op : Op) → inst.op ≡ op → is_merge op ≡ true → IsTyped (scope_of content func) inst → (k o : ℕ) → slice_get inst.operands k ≡ Some (named o)
      → slice_get (value_types func) o ≡ Some types.Ptr → outcome_type inst.op inst.ty ≡ types.Ptr
  merge_pointer inst ops.Phi is merge line k o at pointer =
      let fits = fits_repeated (value_types func) inst.operands (length inst.operands) k inst.ty (named o)
      (subst (λ (x : Op). AllZip (Fits (value_types func)) inst.operands (asked x inst.ty (length inst.operands))) is line.operands) at in
      ap (λ (x : Op). outcome_type x inst.ty) is ∙ same_Some inst.ty types.Ptr (sym fits ∙ pointer)
  merge_pointer inst ops.Select is merge line k o at pointer =
      elim (select_at (value_types func) inst.operands inst.ty k (named o)
      (subst (λ (x : Op). AllZip (Fits (value_types func)) inst.operands (asked x inst.ty (length inst.operands))) is line.operands) at) [
        | inl condition ↦ absurd (let both : Some (types.Int 1) ≡ Some types.Ptr = sym condition ∙ pointer in cc)
        | inr fits ↦ ap (λ (x : Op). outcome_type x inst.ty) is ∙ same_Some inst.ty types.Ptr (sym fits ∙ pointer)
      ]
  merge_pointer inst op is merge line k o at pointer = absurd (false≢true merge)

  derived_pointer : (v : ℕ) → Derived func v → slice_get (value_types func) v ≡ Some types.Ptr
  derived_pointer _ (by_step v inst given step) = gives_type v inst given ∙ ap (λ t. Some t) (step_type inst inst.op refl step (form_of v inst given))
  derived_pointer _ (by_merge v o inst given merge used derived) =
      let place = used_operand inst o (merge_bare inst inst.op refl merge (form_of v inst given)) used in
      gives_type v inst given ∙ ap (λ t. Some t) (merge_pointer inst inst.op refl merge (typed_inst v inst given) place.0 o place.1 (derived_pointer o derived))

  -- an operand of the line of the bases is a base, or the condition of a select
  merged_operand : (inst inserted : Instruction) (op : Op) → inst.op ≡ op → MergesBases func merged op inst.operands inserted.operands → IsTyped (scope_of content func) inst
      → (k o : ℕ) → slice_get inserted.operands k ≡ Some (named o) → slice_get (value_types func) o ≡ Some types.Ptr → (x : Operand) × Base func merged x (named o)
  merged_operand inst inserted ops.Phi is zip line k o at pointer = zip_from func merged inst.operands inserted.operands k (named o) zip at
  merged_operand inst inserted ops.Select is zip line k o at pointer =
      by inst.operands inserted.operands k zip (subst (λ (x : Op). AllZip (Fits (value_types func)) inst.operands (asked x inst.ty (length inst.operands))) is line.operands) at
    where
      by : (given others : List Operand) (k : ℕ) → MergesBases func merged ops.Select given others → AllZip (Fits (value_types func)) given (types.Int 1 ∷ inst.ty ∷ inst.ty ∷ [])
          → slice_get others k ≡ Some (named o) → (x : Operand) × Base func merged x (named o)
      by [] others k zip fits at = absurd fits
      by (c ∷ given) [] k zip fits at = absurd (none-some (named o) at)
      by (c ∷ given) (d ∷ others) zero zip fits at =
          let same : d ≡ named o = cc in
          let condition = subst (λ (y : Operand). Fits (value_types func) y (types.Int 1)) (sym zip.0 ∙ same) fits.0 in
          absurd (let both : Some (types.Int 1) ≡ Some types.Ptr = sym condition ∙ pointer in cc)
      by (c ∷ given) (d ∷ others) (suc k) zip fits at = zip_from func merged given others k (named o) zip.1 at
  merged_operand inst inserted op is zip line k o at pointer = absurd zip

  never : (w : ℕ) → Derived func w → (one base : Operand) → Base func merged one base → base ≡ named w → ⊥
  never w derived _ _ of_null is = cc
  never w derived _ _ (of_itself value none) is =
      let both : Some value.0 ≡ Some w = ap value_in is in
      let same : value.0 ≡ w = cc in
      none (subst (Derived func) (sym same) derived)
  never w derived _ _ (of_step value inst pointer base given step first rest) is = never w derived pointer base rest is
  never _ (by_step w line given step) _ _ (of_merge value inst gives_inst merge derived) is =
      let both : Some (merged value.0).0 ≡ Some w = ap value_in is in
      let same : (merged value.0).0 ≡ w = cc in
      let as_in = has.each value.0 inst gives_inst merge derived in
      let same_line = same_instruction func w line (has.inserted value.0) given (subst (λ (n : ℕ). Gives func n (has.inserted value.0)) same as_in.given) in
      steps_or_merges line.op step (ap (λ (i : Instruction). is_merge i.op) same_line ∙ ap is_merge as_in.op ∙ merge)
  never _ (by_merge w o line given line_merge used derived_o) _ _ (of_merge value inst gives_inst merge derived) is =
      let both : Some (merged value.0).0 ≡ Some w = ap value_in is in
      let same : (merged value.0).0 ≡ w = cc in
      let as_in = has.each value.0 inst gives_inst merge derived in
      let same_line = same_instruction func w line (has.inserted value.0) given (subst (λ (n : ℕ). Gives func n (has.inserted value.0)) same as_in.given) in
      let place = used_operand line o (merge_bare line line.op refl line_merge (form_of w line given)) used in
      let there : slice_get (has.inserted value.0).operands place.0 ≡ Some (named o) = ap (λ (i : Instruction). slice_get i.operands place.0) (sym same_line) ∙ place.1 in
      let relation = merged_operand inst (has.inserted value.0) inst.op refl as_in.operands (typed_inst value.0 inst gives_inst) place.0 o there (derived_pointer o derived_o) in
      never o derived_o relation.0 (named o) relation.1 refl

  pub underived : (pointer base : ValueId) → Base func merged (operands.Value pointer) (operands.Value base) → Derived func base.0 → ⊥
  underived pointer base relation derived = never base.0 derived (operands.Value pointer) (operands.Value base) relation refl
