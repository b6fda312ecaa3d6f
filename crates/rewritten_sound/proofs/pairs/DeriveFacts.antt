-- Where the base of a line's result comes from, by its operator.
use Rattle.std.proofs.Common.{◌≡◌, ℕ, true, false, List, [], ◌∷◌, length, refl, sym, ap, subst, ◌∙◌, ◌⊎◌, inl, inr, arith}
use Rattle.std.specs.Prelude.{Option, Some, is_some, slice_get}
use Rattle.std.specs.List.{All, AllZip}
use Rattle.std.specs.Option.{option_map_or}
use Rattle.std.proofs.lemmas.Bool.{eq-eqb, true≢false}
use Rattle.std.proofs.lemmas.Option.{get_or_from_slice_get, same_Some}
use Rattle.list_laws.proofs.Contents.{all_at}
use Rattle.sp_ids.specs.declared.ids.ValueId.{ValueId}
use Rattle.ir_ast.specs.declared.types.Ty.{Ty}
use Rattle.ir_ast.specs.declared.types.Ty.TheVariants as types
use Rattle.ir_ast.specs.declared.ops.Callee.{Callee}
use Rattle.ir_ast.specs.declared.ops.Callee.TheVariants as callees
use Rattle.ir_ast.specs.declared.ops.Op.{Op}
use Rattle.ir_ast.specs.declared.ops.Op.TheVariants as ops
use Rattle.ir_ast.specs.declared.ops.Operand.{Operand}
use Rattle.ir_ast.specs.declared.ops.Operand.TheVariants as operands
use Rattle.ir_ast.specs.Bases.{Base, IsBaseTable, MergesBases}
use Rattle.ir_ast.specs.Callees.{is_leaf}
use Rattle.ir_ast.specs.Derived.{Derived, by_merge, by_step, is_merge, is_step}
use Rattle.ir_ast.specs.Insts.{Instruction}
use Rattle.ir_ast.specs.Funcs.{Function, instructions_of}
use Rattle.ir_ast.specs.Lines.{IsLine, LineOf}
use Rattle.ir_ast.specs.Modules.{ModuleContent}
use Rattle.ir_ast.specs.Scope.{Signature, scope_of}
use Rattle.ir_ast.specs.Types.{is_integer, is_pointer}
use Rattle.ir_ast.specs.Values.{Gives, outcome, outcome_type, value_types}
use Rattle.ir_ast.specs.Faults.GroupShape.{is_statepoint}
use Rattle.ir_ast.specs.Faults.PhiEdges.{PhisAreRight, is_phi}
use Rattle.ir_ast.specs.Faults.TypeClash.{Fits, IsTyped, RuleOf, asked}
use Rattle.definite_assign.proofs.TextLemmas.{one_definition, stands_in_text}
use Rattle.object_meaning.specs.Frames.{is_member}
use Rattle.object_meaning.specs.Lines.{Line}
use Rattle.rewriting_forms.specs.Numbered.{among, base_at, gives, is_given, lines_at, named, pointers}
use Rattle.rewriting_laws.specs.Laws.{IsPlain}
use Rattle.base_laws.proofs.TypeLaws.{type_of_given}
use Rattle.base_definite.specs.Paths.{HasDefiniteBases}
use Rattle.base_definite.proofs.base_paths.GivesLaws.{given_named}
use Rattle.base_definite.proofs.LinePlaces.{line_from}
use Rattle.rewritten_sound.specs.LeadsOut.{PhisAreBare}
use Rattle.rewritten_sound.proofs.definite.LineLaws.{given_defines}
use Rattle.rewritten_sound.proofs.definite.UsedLaws.{uses_operand}
use Rattle.pair_facts.specs.Lines.{operand_at, same_operand}
use Rattle.rewritten_sound.specs.Takes.{Derives, IsOwn, IsPointer, Merges, base_of}
use Rattle.rewritten_sound.proofs.pairs.BaseFacts.{fits_pointer, pointer_is, step_pointer, underived_own}
use Rattle.rewritten_sound.proofs.pairs.EdgeFacts.{operand_there}
use Rattle.rewritten_sound.proofs.pairs.PhiFacts.{Shape, base_same, entry_of, gives_here, is_merged, is_own, is_stepped, merged_line, shape}
use Rattle.rewritten_sound.proofs.pairs.StayFacts.{numbered, others}
use Rattle.object_meaning.proofs.LineLaws.{given_is}
use Rattle.ir_cfg.specs.Paths.{IsReached}

-- the operands of a select
select_fits : (values : List Ty) (given : List Operand) (ty : Ty) → AllZip (Fits values) given (types.Int 1 ∷ ty ∷ ty ∷ [])
    → Fits values (operand_at given 0) (types.Int 1) × Fits values (operand_at given 1) ty × Fits values (operand_at given 2) ty
select_fits values [] ty fits = absurd fits
select_fits values (c ∷ []) ty fits = absurd fits.1
select_fits values (c ∷ x ∷ []) ty fits = absurd fits.1.1
select_fits values (c ∷ x ∷ y ∷ more) ty fits = (fits.0, fits.1.0, fits.1.1.0)

select_zip : (func : Function) (merged : ℕ → ValueId) (given others : List Operand) → length given ≡ 3 → MergesBases func merged ops.Select given others
    → (operand_at others 0 ≡ operand_at given 0) × Base func merged (operand_at given 1) (operand_at others 1) × Base func merged (operand_at given 2) (operand_at others 2)
select_zip func merged [] others long zip = absurd (omega (arith, long))
select_zip func merged (c ∷ []) others long zip = absurd (omega (arith, long))
select_zip func merged (c ∷ x ∷ []) others long zip = absurd (omega (arith, long))
select_zip func merged (c ∷ x ∷ y ∷ more) [] long zip = absurd zip
select_zip func merged (c ∷ x ∷ y ∷ more) (d ∷ []) long zip = absurd zip.1
select_zip func merged (c ∷ x ∷ y ∷ more) (d ∷ e ∷ []) long zip = absurd zip.1.1
select_zip func merged (c ∷ x ∷ y ∷ more) (d ∷ e ∷ f ∷ rest) long zip = (zip.0, zip.1.0, zip.1.1.0)

condition_same : (values : List Ty) (o : Operand) → Fits values o (types.Int 1) → same_operand o o ≡ true
condition_same values (operands.Value value) fits = eq-eqb value.0 value.0 refl
condition_same values (operands.Int word) fits = eq-eqb word word refl
condition_same values operands.Null fits = refl
condition_same values (operands.Fun called) fits = (let is : types.Int 1 ≡ types.Void = fits in absurd cc)

module _ (content : ModuleContent) (func : Function) (table : List Operand) (merged : ℕ → ValueId) (has : HasDefiniteBases func merged) (bases : IsBaseTable func merged table)
    (bare : PhisAreBare func) (phis_right : PhisAreRight func) (reached : IsReached func) (forms : All IsLine (instructions_of func.blocks))
    (typed : All (IsTyped (scope_of content func)) (instructions_of func.blocks))
    (underived : (pointer base : ValueId) → Base func merged (operands.Value pointer) (operands.Value base) → Derived func base.0 → ⊥)
    (room : ℕ) (plain_form : IsPlain func room) where
  module _ (b k v : ℕ) (line : Line) (at : slice_get (lines_at func b) k ≡ Some line) (no_phi : is_phi line.inst.op ≡ false) (given : gives line v ≡ true)
      (pointer : among v (pointers func) ≡ true) where
    inst_gives : Gives func v line.inst
    inst_gives = gives_here content func table merged has bases bare phis_right reached forms typed underived b k v line at given

    line_form : IsLine line.inst
    line_form = all_at IsLine (instructions_of func.blocks) _ line.inst forms (stands_in_text func b k line.inst (line_from func b k line at).stands)

    line_typed : IsTyped (scope_of content func) line.inst
    line_typed = all_at (IsTyped (scope_of content func)) (instructions_of func.blocks) _ line.inst typed (stands_in_text func b k line.inst (line_from func b k line at).stands)

    type_here : outcome_type line.inst.op line.inst.ty ≡ types.Ptr
    type_here = same_Some (outcome_type line.inst.op line.inst.ty) types.Ptr (sym (type_of_given func v (outcome line.inst) inst_gives) ∙ pointer_is func v pointer)

    relation : Base func merged (named v) (base_at table v)
    relation = entry_of content func table merged has bases bare phis_right reached forms typed underived v pointer

    shape_here : Shape func merged v line.inst (base_at table v)
    shape_here = shape func merged (named v) (base_at table v) relation v line.inst refl inst_gives

    own_when : is_step line.inst.op ≡ false → is_merge line.inst.op ≡ false → base_at table v ≡ named v
    own_when no_step no_merge = elim shape_here [
      | is_own none base ↦ base
      | is_stepped from step first rest ↦ absurd (true≢false (sym step ∙ no_step))
      | is_merged merge derived base ↦ absurd (true≢false (sym merge ∙ no_merge))
    ]

    not_itself : (o : Operand) → Derived func v → base_at table v ≡ named v → ⊥
    not_itself o derived base = underived (numbered v) (numbered v) (subst (Base func merged (named v)) base relation) derived

    operand_own : (place : ℕ) → line.inst.op ≡ ops.Select → (Derived func v → ⊥) → (o : Operand) → operand_at line.inst.operands place ≡ o → IsPointer func table o → base_of func table o ≡ o
    operand_own place op none (operands.Value value) is pointer_there =
        underived_own content func table merged has.bases bases typed underived value.0 pointer_there
        (λ derived. none (by_merge v value.0 line.inst inst_gives (ap is_merge op) (uses_operand line.inst place value.0 (operand_there line.inst.operands place value.0 is)) derived))
    operand_own place op none (operands.Int word) is pointer_there = refl
    operand_own place op none operands.Null is pointer_there = refl
    operand_own place op none (operands.Fun called) is pointer_there = refl

    gep_derives : (elem : _) (index_width : _) (place : _) → line.inst.op ≡ ops.Gep elem index_width place
        → IsPointer func table (operand_at line.inst.operands 0) × (base_at table v ≡ base_of func table (operand_at line.inst.operands 0)) × (base_at table v ≡ named v → ⊥)
    gep_derives elem index_width place op = elim shape_here [
      | is_own none base ↦ absurd (none (by_step v line.inst inst_gives (ap is_step op)))
      | is_stepped from step first rest ↦
          let first_is : operand_at line.inst.operands 0 ≡ from = get_or_from_slice_get line.inst.operands 0 from (operands.Int 0) first in
          let is = step_pointer content func table merged has.bases bases typed underived v line.inst from inst_gives step first in (
            subst (IsPointer func table) (sym first_is) is,
            sym (ap (base_of func table) first_is ∙ base_same content func table merged has bases bare phis_right reached forms typed underived from (base_at table v) is rest),
            not_itself from (by_step v line.inst inst_gives step),
          )
      | is_merged merge derived base ↦ absurd (true≢false (sym merge ∙ ap is_merge op))
    ]

    select_merges : line.inst.op ≡ ops.Select → line.inst.ty ≡ types.Ptr → Derived func v → base_at table v ≡ named (merged v).0 → Merges func table b k v line
    select_merges op type derived base =
        let merge : is_merge line.inst.op ≡ true = ap is_merge op in
        let before = merged_line content func table merged has bases bare phis_right reached forms typed underived b k v line at given merge derived in
        let as_in = has.bases.each v line.inst inst_gives merge derived in
        let form = subst (λ (o : Op). LineOf o line.inst) op line_form in
        let zip = select_zip func merged line.inst.operands (has.bases.inserted v).operands form.operand_count
        (subst (λ (o : Op). MergesBases func merged o line.inst.operands (has.bases.inserted v).operands) op as_in.operands) in
        let fits = select_fits (value_types func) line.inst.operands line.inst.ty
        (subst (λ (o : Op). AllZip (Fits (value_types func)) line.inst.operands (asked o line.inst.ty (length line.inst.operands))) op line_typed.operands) in
        let first_pointer = fits_pointer func table (operand_at line.inst.operands 1) (subst (Fits (value_types func) (operand_at line.inst.operands 1)) type fits.1) in
        let second_pointer = fits_pointer func table (operand_at line.inst.operands 2) (subst (Fits (value_types func) (operand_at line.inst.operands 2)) type fits.2) in
        let same_operands = ap (λ (i : Instruction). i.operands) before.is_inserted in
        let condition : operand_at before.line.inst.operands 0 ≡ operand_at line.inst.operands 0 = ap (λ (os : List Operand). operand_at os 0) same_operands ∙ zip.0 in
        let first : operand_at before.line.inst.operands 1 ≡ base_of func table (operand_at line.inst.operands 1) = ap (λ (os : List Operand). operand_at os 1) same_operands
        ∙ sym (base_same content func table merged has bases bare phis_right reached forms typed underived (operand_at line.inst.operands 1) (operand_at (has.bases.inserted v).operands 1) first_pointer zip.1) in
        let second : operand_at before.line.inst.operands 2 ≡ base_of func table (operand_at line.inst.operands 2) = ap (λ (os : List Operand). operand_at os 2) same_operands
        ∙ sym (base_same content func table merged has bases bare phis_right reached forms typed underived (operand_at line.inst.operands 2) (operand_at (has.bases.inserted v).operands 2) second_pointer zip.2) in
        let select : before.line.inst.op ≡ ops.Select = ap (λ (i : Instruction). i.op) before.is_inserted ∙ as_in.op ∙ op in
        let gives_it : gives before.line (merged v).0 ≡ true = ap (λ (t : Option ℕ). is_given t (merged v).0) before.gives_merged ∙ eq-eqb (merged v).0 (merged v).0 refl in
        let unused : (place : ℕ) → operand_at before.line.inst.operands place ≡ named (merged v).0 → ⊥ =
        λ place is. true≢false (sym gives_it ∙ others func table merged has bases bare phis_right reached b before.before place (merged v).0 before.line before.stands (ap is_phi select)
        (operand_there before.line.inst.operands place (merged v).0 is)) in
        record {
          before = before.before;
          next = sym before.next;
          given = before.line;
          stands = before.stands;
          select = select;
          type = ap (λ (i : Instruction). is_pointer i.ty) before.is_inserted ∙ ap is_pointer as_in.ty ∙ ap is_pointer type;
          other = (merged v).0;
          gives_other = before.gives_merged;
          apart = λ same.
              let places = one_definition func v b k b before.before (given_defines func v b k line at (given_is line.to v given))
              (given_defines func v b before.before before.line before.stands (before.gives_merged ∙ ap (λ n. Some n) same)) in
              let next = before.next in
              omega (arith, places, next);
          base = base;
          is_condition = condition_same (value_types func) (operand_at line.inst.operands 0) fits.0;
          condition = condition;
          first = first;
          second = second;
          first_pointer = first_pointer;
          second_pointer = second_pointer;
          condition_kept = λ is. unused 0 (condition ∙ is);
          first_kept = λ is. unused 1 (first ∙ is);
          second_kept = λ is. unused 2 (second ∙ is);
        }

    select_derives : line.inst.op ≡ ops.Select → line.inst.ty ≡ types.Ptr
        → ((base_at table v ≡ named v) × IsOwn func table (operand_at line.inst.operands 1) × IsOwn func table (operand_at line.inst.operands 2)) ⊎ Merges func table b k v line
    select_derives op type = elim shape_here [
      | is_own none base ↦
          let fits = select_fits (value_types func) line.inst.operands line.inst.ty
          (subst (λ (o : Op). AllZip (Fits (value_types func)) line.inst.operands (asked o line.inst.ty (length line.inst.operands))) op line_typed.operands) in
          let first_pointer = fits_pointer func table (operand_at line.inst.operands 1) (subst (Fits (value_types func) (operand_at line.inst.operands 1)) type fits.1) in
          let second_pointer = fits_pointer func table (operand_at line.inst.operands 2) (subst (Fits (value_types func) (operand_at line.inst.operands 2)) type fits.2) in
          inl (
            base,
            (first_pointer, operand_own 1 op none (operand_at line.inst.operands 1) refl first_pointer),
            (second_pointer, operand_own 2 op none (operand_at line.inst.operands 2) refl second_pointer),
          )
      | is_stepped from step first rest ↦ absurd (true≢false (sym step ∙ ap is_step op))
      | is_merged merge derived base ↦ inr (select_merges op type derived base)
    ]

    -- a leaf answers no pointer
    leaf_answers : (callee : Callee) (passed : List Ty) → line.inst.op ≡ ops.Call callee passed → line.inst.ty ≡ types.Ptr → is_leaf callee ≡ false
    leaf_answers callee passed op type =
        by callee (ap (λ (s : Option Signature). option_map_or (λ (t : Signature). t.answer) s types.Void) (subst (λ (o : Op). RuleOf (scope_of content func) o line.inst) op line_typed.rule).signature ∙ type)
      where
        by : (callee : Callee) → option_map_or (λ (t : Signature). t.answer) ((scope_of content func).called callee) types.Void ≡ types.Ptr → is_leaf callee ≡ false
        by callees.Print answer = absurd cc
        by callees.Read answer = absurd cc
        by callees.Check answer = absurd cc
        by callees.Same answer = absurd cc
        by callee answer = refl

    gives_some : is_some line.inst.result ≡ true
    gives_some = given_named func v line.inst inst_gives

    no_integer : is_integer line.inst.ty ≡ true → line.inst.ty ≡ types.Ptr → ⊥
    no_integer is type = true≢false (sym is ∙ ap is_integer type)

    by_op : (op : Op) → line.inst.op ≡ op → LineOf op line.inst → outcome_type op line.inst.ty ≡ types.Ptr → Derives func table b k v line op
    by_op ops.Load is form type = (ap is_pointer type, own_when (ap is_step is) (ap is_merge is))
    by_op (ops.Gep elem index_width place) is form type = gep_derives elem index_width place is
    by_op ops.Select is form type = (ap is_pointer type, select_derives is type)
    by_op (ops.Call callee passed) is form type = (leaf_answers callee passed is type, ap is_pointer type, own_when (ap is_step is) (ap is_merge is))
    by_op ops.Phi is form type = absurd (true≢false (sym (ap is_phi is) ∙ no_phi))
    by_op (ops.Statepoint id callee passed) is form type = absurd (true≢false (sym (ap is_statepoint is) ∙ plain_form.no_statepoint b k line at))
    by_op ops.GcResult is form type = absurd (true≢false (sym (ap is_member is) ∙ plain_form.no_member b k line at))
    by_op ops.GcRelocate is form type = absurd (true≢false (sym (ap is_member is) ∙ plain_form.no_member b k line at))
    by_op ops.Add is form type = absurd (no_integer form.type type)
    by_op ops.Sub is form type = absurd (no_integer form.type type)
    by_op ops.Mul is form type = absurd (no_integer form.type type)
    by_op ops.Udiv is form type = absurd (no_integer form.type type)
    by_op ops.Sdiv is form type = absurd (no_integer form.type type)
    by_op ops.Urem is form type = absurd (no_integer form.type type)
    by_op ops.Srem is form type = absurd (no_integer form.type type)
    by_op ops.And is form type = absurd (no_integer form.type type)
    by_op ops.Or is form type = absurd (no_integer form.type type)
    by_op ops.Xor is form type = absurd (no_integer form.type type)
    by_op ops.Shl is form type = absurd (no_integer form.type type)
    by_op ops.Lshr is form type = absurd (no_integer form.type type)
    by_op ops.Ashr is form type = absurd (no_integer form.type type)
    by_op (ops.Icmp pred) is form type = absurd cc
    by_op (ops.Trunc width) is form type = absurd cc
    by_op (ops.Zext width) is form type = absurd cc
    by_op (ops.Sext width) is form type = absurd cc
    by_op ops.Store is form type = absurd (true≢false (sym gives_some ∙ form.result))
    by_op ops.Br is form type = absurd (true≢false (sym gives_some ∙ form.result))
    by_op ops.CondBr is form type = absurd (true≢false (sym gives_some ∙ form.result))
    by_op ops.Switch is form type = absurd (true≢false (sym gives_some ∙ form.0.result))
    by_op ops.Ret is form type = absurd (true≢false (sym gives_some ∙ form.result))
    by_op ops.Unreachable is form type = absurd (true≢false (sym gives_some ∙ form.result))

    pub derives : Derives func table b k v line line.inst.op
    derives = by_op line.inst.op refl line_form type_here
