-- In a source module without unreached blocks, each line of the functions with polls and bases takes pointers with their bases.
use Rattle.std.proofs.Common.{◌≡◌, ℕ, suc, ◌+◌, Bool, true, false, ◌&&◌, List, [], ◌∷◌, length, map, take, refl, sym, ap, subst, ◌∙◌, inl, inr, arith}
use Rattle.std.specs.Prelude.{Option, Some, None, slice_get}
use Rattle.std.specs.List.{All, AllZip, Contains}
use Rattle.std.specs.Option.{option_map_or}
use Rattle.std.proofs.lemmas.Bool.{eq-eqb, false≢true, true≢false}
use Rattle.std.proofs.lemmas.List.Elements.{All-nil}
use Rattle.list_laws.proofs.Contents.{all_at, all_from_at, contains_cons, contains_none, contains_one}
use Rattle.list_laws.proofs.Places.{filter_map_forth, map_back}
use Rattle.sp_ids.specs.declared.ids.ValueId.{ValueId}
use Rattle.ir_ast.specs.declared.types.Ty.{Ty}
use Rattle.ir_ast.specs.declared.types.Ty.TheVariants as types
use Rattle.ir_ast.specs.declared.ops.Op.{Op}
use Rattle.ir_ast.specs.declared.ops.Op.TheVariants as ops
use Rattle.ir_ast.specs.declared.ops.Operand.{Operand}
use Rattle.ir_ast.specs.declared.ops.Operand.TheVariants as operands
use Rattle.ir_ast.specs.declared.ops.Pred.{Pred}
use Rattle.ir_ast.specs.Bases.{Base}
use Rattle.ir_ast.specs.Cells.{kind_of}
use Rattle.ir_ast.specs.Derived.{Derived, by_merge, by_step, is_merge}
use Rattle.ir_ast.specs.Insts.{Instruction}
use Rattle.ir_ast.specs.Faultless.{FunctionHasNoFault, OfForm}
use Rattle.ir_ast.specs.Funcs.{Function, instructions_of}
use Rattle.ir_ast.specs.Lines.{IsLine, LineOf, is_rewritten}
use Rattle.ir_ast.specs.Modules.{ModuleContent}
use Rattle.ir_ast.specs.Operands.{value_in, values_used}
use Rattle.ir_ast.specs.Scope.{scope_of}
use Rattle.ir_ast.specs.Values.{value_types}
use Rattle.ir_ast.specs.Faults.DerivedEscapes.{DerivedStay, KeepsDerived, leaving, values_leaving}
use Rattle.ir_ast.specs.Faults.PointerOrder.{orders_pointers}
use Rattle.ir_ast.specs.Faults.Reserved.{IsSource}
use Rattle.ir_ast.specs.Faults.TypeClash.{Fits, IsTyped, asked}
use Rattle.ir_ast.proofs.OpLaws.{leaving_map}
use Rattle.ir_cfg.specs.DefiniteUses.{Stands, text_place}
use Rattle.ir_cfg.specs.Paths.{IsReached}
use Rattle.definite_assign.proofs.TextLemmas.{stands_in_text}
use Rattle.object_meaning.specs.Accesses.{cell_of}
use Rattle.object_meaning.specs.Lines.{Line, after_all}
use Rattle.base_forms.specs.Based.{base_table, based, based_insts, based_module, check, kept_line, lines_for, same_call}
use Rattle.base_forms.specs.Bases as origins
use Rattle.base_forms.specs.DerivedMarks.{derived_marks, has_mark}
use Rattle.base_forms.specs.Inserted.{new_number, renumbered}
use Rattle.base_forms.specs.Polls.{placed}
use Rattle.base_forms.proofs.DerivedLaws.{found_any, marked_derived}
use Rattle.base_laws.proofs.LineLaws.{IsReady}
use Rattle.base_forms.proofs.PlacedLaws.{all_placed, definitions_placed}
use Rattle.base_laws.proofs.ReadyLaws.{renamings}
use Rattle.base_definite.specs.Relations.{before}
use Rattle.base_definite.proofs.base_relations.BaseLaws.{derived_back, relation}
use Rattle.base_definite.proofs.base_relations.EndLaws.{no_step}
use Rattle.base_definite.proofs.base_relations.GroupLaws.{FoundIn, found_in}
use Rattle.base_definite.proofs.base_relations.TableInstance.{all_ready, ends_here, is_here, pointers}
use Rattle.base_definite.proofs.base_relations.ValueLaws.{one_number}
use Rattle.base_definite.proofs.LinePlaces.{line_from, line_forth}
use Rattle.rewriting_forms.specs.Numbered.{lines_at}
use Rattle.rewritten_sound.specs.Definite.{IsReachedSource}
use Rattle.rewritten_sound.proofs.definite.UsedLaws.{uses_operand}
use Rattle.pair_facts.specs.Lines.{operand_at, same_operand}
use Rattle.pair_facts.specs.Uses.{Use, accessed_at, checked, checks_access, compared, escaping, is_checked, use_at}
use Rattle.rewritten_sound.specs.Pairs.{FittingSourceIsVerified, SourceIsVerified, SourceTakesBases, TakesBases}
use Rattle.rewriting_forms.specs.Names.{naming_of}
use Rattle.rewritten_sound.proofs.definite.Instance.{source_fits}
use Rattle.rewritten_sound.specs.Takes.{IsBased, IsOwn, base_of}
use Rattle.rewritten_sound.proofs.pairs.BaseFacts.{fits_pointer, underived_own}
use Rattle.rewritten_sound.proofs.pairs.EscapeFacts.{compared_pointer, compared_type, left_pointer, no_checked, no_compared, no_source_takes, takes_pairs}
use Rattle.rewritten_sound.proofs.pairs.MadeFacts.{MadeBlock, MadeLine, accesses, block_made, checking, comparing, group_stands, is_compare, kept, made_lines, merging, negating, plain_compare}
use Rattle.rewritten_sound.proofs.pairs.PhiFacts.{base_same}
use Rattle.rewritten_sound.proofs.pairs.SourceFacts.{bare_there, bases_there, lines_there, phis_there, reached_there, table_there, taking_is_verified, typed_there}
use Rattle.rewritten_sound.proofs.pairs.UnderivedFacts.{underived}
use Rattle.list_laws.proofs.Booleans.{and_three}

-- a value with a new number is one
renumbered_value : (func : Function) (marks : List Bool) (operand : Operand) (value : ValueId) → operands.Value value ≡ renumbered func marks operand
    → (from : ValueId) × (operand ≡ operands.Value from) × (value.0 ≡ new_number func marks from.0)
renumbered_value func marks (operands.Value from) value is =
    let both : Some value.0 ≡ Some (new_number func marks from.0) = ap value_in is in
    (from, refl, cc)
renumbered_value func marks (operands.Int literal) value is = (let both : Some value.0 ≡ None = ap value_in is in absurd cc)
renumbered_value func marks operands.Null value is = (let both : Some value.0 ≡ None = ap value_in is in absurd cc)
renumbered_value func marks (operands.Fun called) value is = (let both : Some value.0 ≡ None = ap value_in is in absurd cc)

pointer_same : (values : List Ty) (operand : Operand) → Fits values operand types.Ptr → same_operand operand operand ≡ true
pointer_same values (operands.Value value) fits = eq-eqb value.0 value.0 refl
pointer_same values (operands.Int word) fits = eq-eqb word word refl
pointer_same values operands.Null fits = refl
pointer_same values (operands.Fun called) fits = (let is : types.Ptr ≡ types.Void = fits in absurd cc)

-- an access reads or writes at a pointer
accessed_pointer : (values : List Ty) (line : Instruction) (op : Op) (address : Operand) → AllZip (Fits values) line.operands (asked op line.ty (length line.operands))
    → accessed_at op line ≡ Some address → Fits values address types.Ptr
accessed_pointer values line ops.Load address fits is = by line.operands fits is
  where
    by : (given : List Operand) → AllZip (Fits values) given (types.Ptr ∷ []) → Some (operand_at given 0) ≡ Some address → Fits values address types.Ptr
    by [] fits is = absurd fits
    by (x ∷ given) fits is = let same : x ≡ address = cc in subst (λ (o : Operand). Fits values o types.Ptr) same fits.0
accessed_pointer values line ops.Store address fits is = by line.operands fits is
  where
    by : (given : List Operand) → AllZip (Fits values) given (line.ty ∷ types.Ptr ∷ []) → Some (operand_at given 1) ≡ Some address → Fits values address types.Ptr
    by [] fits is = absurd fits
    by (x ∷ []) fits is = absurd fits.1
    by (x ∷ y ∷ given) fits is = let same : y ≡ address = cc in subst (λ (o : Operand). Fits values o types.Ptr) same fits.1.0
accessed_pointer values line op address fits is = absurd cc

merge_escapes : (op : Op) (line : Instruction) (operand : Operand) → is_merge op ≡ true → Contains (escaping op line) operand → ⊥
merge_escapes ops.Phi line operand merge within = contains_none operand within
merge_escapes ops.Select line operand merge within = contains_none operand within
merge_escapes op line operand merge within = false≢true merge

module _ (content : ModuleContent) (is : IsReachedSource content) (number : ℕ) (func : Function) (found : slice_get content.funcs number ≡ Some func) where
  abbrev made : Function
  made = based (placed func)

  abbrev marks : List Bool
  marks = derived_marks (placed func)

  abbrev table : List Operand
  table = base_table (placed func)

  -- ---- the function with polls

  no_fault : FunctionHasNoFault content func
  no_fault = all_at (FunctionHasNoFault content) content.funcs number func ((is.source.typed).no_fault).functions found

  of_source : IsSource func × DerivedStay func
  of_source = subst (λ form. OfForm form func) (is.source.typed).of_form no_fault.form

  unplaced : (value : ℕ) → Derived (placed func) value → Derived func value
  unplaced _ (by_step value inst given step) = by_step value inst (sym (ap (λ all. slice_get all value) (definitions_placed func)) ∙ given) step
  unplaced _ (by_merge value operand inst given kind used derived) =
      by_merge value operand inst (sym (ap (λ all. slice_get all value) (definitions_placed func)) ∙ given) kind used (unplaced operand derived)

  stay : All (KeepsDerived (placed func)) (instructions_of (placed func).blocks)
  stay =
      all_placed (KeepsDerived (placed func)) (All-nil (λ (value : ℕ). Derived (placed func) value → ⊥)) 0 func.blocks
      (all_from_at (KeepsDerived (placed func)) (instructions_of func.blocks) (λ place inst at.
      let keeps = all_at (KeepsDerived func) (instructions_of func.blocks) place inst of_source.1 at in
      all_from_at (λ (value : ℕ). Derived (placed func) value → ⊥) (values_leaving inst) (λ k value stands derived.
      all_at (λ (value : ℕ). Derived func value → ⊥) (values_leaving inst) k value keeps stands (unplaced value derived))))

  unordered : All (λ (inst : Instruction). orders_pointers inst.op inst.ty ≡ false) (instructions_of (placed func).blocks)
  unordered = all_placed (λ (inst : Instruction). orders_pointers inst.op inst.ty ≡ false) refl 0 func.blocks no_fault.pointers

  no_helpers : All (λ (inst : Instruction). takes_pairs inst.op ≡ false) (instructions_of (placed func).blocks)
  no_helpers =
      all_placed (λ (inst : Instruction). takes_pairs inst.op ≡ false) refl 0 func.blocks
      (all_from_at (λ (inst : Instruction). takes_pairs inst.op ≡ false) (instructions_of func.blocks) (λ place inst at.
      no_source_takes inst.op (all_at (λ (each : Instruction). is_rewritten each.op ≡ false) (instructions_of func.blocks) place inst of_source.0.lines at)))

  -- ---- operands

  reached : IsReached func
  reached = all_at IsReached content.funcs number func is.reached found

  none_derived : (pointer base : ValueId) → Base made before (operands.Value pointer) (operands.Value base) → Derived made base.0 → ⊥
  none_derived = underived (based_module content) made before (bases_there content is number func found).bases (lines_there content is number func found) (typed_there content is number func found)

  -- a pointer without a mark in the function with polls is its own base
  unmarked_own : (operand : Operand) → Fits (value_types made) operand types.Ptr → (from : Operand) → operand ≡ renumbered (placed func) marks from
      → ((value : ValueId) → from ≡ operands.Value value → has_mark marks value.0 ≡ true → ⊥) → IsOwn made table operand
  unmarked_own operand fits from is_now none = (fits_pointer made table operand fits, by operand refl)
    where
      underived_value : (value : ValueId) → operand ≡ operands.Value value → Derived made value.0 → ⊥
      underived_value value same derived =
          let back = derived_back (renamings content) number (placed func) true (is_here content is.source number func found) (pointers content is.source number func found)
          (all_ready content is.source number func found) value.0 derived in
          let source = renumbered_value (placed func) marks from value (sym same ∙ is_now) in
          let one = one_number (placed func) source.0.0 back.from (sym source.2 ∙ back.is_now) in
          none source.0 source.1 (subst (λ (v : ℕ). has_mark marks v ≡ true) (sym one) back.marked)

      by : (o : Operand) → operand ≡ o → base_of made table o ≡ o
      by (operands.Value value) same =
          underived_own (based_module content) made table before (bases_there content is number func found).bases (table_there content is number func found) (typed_there content is number func found) none_derived value.0
          (fits_pointer made table (operands.Value value) (subst (λ (o : Operand). Fits (value_types made) o types.Ptr) same fits)) (underived_value value same)
      by (operands.Int literal) same = refl
      by operands.Null same = refl
      by (operands.Fun called) same = refl

  relation_of : (operand : Operand) → Fits (value_types made) (renumbered (placed func) marks operand) types.Ptr
      → Base made before (renumbered (placed func) marks operand) (origins.base_of (placed func) marks operand)
  relation_of (operands.Value value) fits =
      relation (renamings content) number (placed func) true (is_here content is.source number func found) (pointers content is.source number func found) (all_ready content is.source number func found)
      (operands.Value value) (ends_here content is.source number func found reached value) tt
  relation_of operands.Null fits =
      relation (renamings content) number (placed func) true (is_here content is.source number func found) (pointers content is.source number func found) (all_ready content is.source number func found)
      operands.Null (no_step operands.Null refl) tt
  relation_of (operands.Int literal) fits = (let same = fits.1 in absurd cc)
  relation_of (operands.Fun called) fits = (let same : types.Ptr ≡ types.Void = fits in absurd cc)

  -- a pointer with the base that is put in for it
  pair_based : (operand : Operand) → Fits (value_types made) (renumbered (placed func) marks operand) types.Ptr
      → IsBased made table (record { address = renumbered (placed func) marks operand; base = origins.base_of (placed func) marks operand })
  pair_based operand fits =
      let pointer = fits_pointer made table (renumbered (placed func) marks operand) fits in (
        pointer,
        sym
            (base_same (based_module content) made table before (bases_there content is number func found) (table_there content is number func found) (bare_there content is number func found)
            (phis_there content is number func found) (reached_there content is number func found) (lines_there content is number func found) (typed_there content is number func found) none_derived
            (renumbered (placed func) marks operand) (origins.base_of (placed func) marks operand) pointer (relation_of operand fits)),
      )

  -- ---- one line

  module _ (b k : ℕ) (line : Line) (at : slice_get (lines_at made b) k ≡ Some line) where
    stands : Stands made b k line.inst
    stands = (line_from made b k line at).stands

    block : MadeBlock (placed func) (placed func).blocks b stands.block
    block = block_made (placed func) (length func.args) (placed func).blocks b stands.block stands.in_function

    here : FoundIn (placed func) block.next block.from.insts k line.inst
    here = found_in (placed func) block.next block.from.insts k line.inst (ap (λ (insts : List Instruction). slice_get insts k) (sym block.is) ∙ stands.in_block)

    from_text : slice_get (instructions_of (placed func).blocks) (text_place (placed func) b here.from) ≡ Some here.inst
    from_text = stands_in_text (placed func) b here.from here.inst (record { block = block.from; in_function = block.stands; in_block = here.stands })

    no_helper : takes_pairs here.inst.op ≡ false
    no_helper = all_at (λ (inst : Instruction). takes_pairs inst.op ≡ false) (instructions_of (placed func).blocks) (text_place (placed func) b here.from) here.inst no_helpers from_text

    form : IsLine line.inst
    form = all_at IsLine (instructions_of made.blocks) (text_place made b k) line.inst (lines_there content is number func found) (stands_in_text made b k line.inst stands)

    operand_types : AllZip (Fits (value_types made)) line.inst.operands (asked line.inst.op line.inst.ty (length line.inst.operands))
    operand_types =
        (all_at (IsTyped (scope_of (based_module content) made)) (instructions_of made.blocks) (text_place made b k) line.inst (typed_there content is number func found)
        (stands_in_text made b k line.inst stands)).operands

    made_line : MadeLine (placed func) marks (after_all block.next (take here.from block.from.insts)) here.inst line.inst
    made_line =
        all_at (MadeLine (placed func) marks (after_all block.next (take here.from block.from.insts)) here.inst)
        (lines_for (placed func) marks (after_all block.next (take here.from block.from.insts)) here.inst here.inst.op) here.index line.inst
        (made_lines (placed func) marks (after_all block.next (take here.from block.from.insts)) here.inst) here.in_group

    left_own : line.inst ≡ kept_line (placed func) marks here.inst → (op : Op) → line.inst.op ≡ op → ((pred : Pred) → op ≡ ops.Icmp pred → ⊥) → (operand : Operand)
        → Contains (escaping op line.inst) operand → IsOwn made table operand
    left_own is_kept op same no_compare operand within =
        let op_before : here.inst.op ≡ op = sym (ap (λ (i : Instruction). i.op) is_kept) ∙ same in
        let pointer = left_pointer (value_types made) line.inst op operand (ap takes_pairs (sym op_before) ∙ no_helper) (subst (λ (o : Op). LineOf o line.inst) same form)
        (subst (λ (o : Op). AllZip (Fits (value_types made)) line.inst.operands (asked o line.inst.ty (length line.inst.operands))) same operand_types) within no_compare in
        let moved : slice_get (map (renumbered (placed func) marks) (leaving op here.inst.operands)) pointer.place ≡ Some operand =
        ap (λ (all : List Operand). slice_get all pointer.place)
        (sym (leaving_map (renumbered (placed func) marks) op here.inst.operands) ∙ ap (λ (i : Instruction). leaving op i.operands) (sym is_kept)) ∙ pointer.stands in
        let source = map_back (renumbered (placed func) marks) (leaving op here.inst.operands) pointer.place operand moved in
        unmarked_own operand pointer.fits source.before source.is (λ value is_value marked.
        let left = filter_map_forth value_in (leaving op here.inst.operands) pointer.place (operands.Value value) value.0 (source.stands ∙ ap (λ (o : Operand). Some o) is_value) refl in
        let keeps = all_at (KeepsDerived (placed func)) (instructions_of (placed func).blocks) (text_place (placed func) b here.from) here.inst stay from_text in
        all_at (λ (v : ℕ). Derived (placed func) v → ⊥) (values_leaving here.inst) left.0 value.0 keeps
        (ap (λ (o : Op). slice_get (values_leaving (record here.inst { op = o })) left.0) op_before ∙ left.1) (marked_derived (placed func) value.0 marked))

    compared_own : line.inst ≡ kept_line (placed func) marks here.inst → (pred : Pred) → line.inst.op ≡ ops.Icmp pred → (operand : Operand)
        → Contains (escaping (ops.Icmp pred) line.inst) operand → IsOwn made table operand
    compared_own is_kept pred same operand within =
        let op_before : here.inst.op ≡ ops.Icmp pred = sym (ap (λ (i : Instruction). i.op) is_kept) ∙ same in
        let pointer = compared_pointer (value_types made) line.inst pred operand (subst (λ (o : Op). LineOf o line.inst) same form)
        (subst (λ (o : Op). AllZip (Fits (value_types made)) line.inst.operands (asked o line.inst.ty (length line.inst.operands))) same operand_types) within in
        let source = map_back (renumbered (placed func) marks) here.inst.operands pointer.place operand (ap (λ (i : Instruction). slice_get i.operands pointer.place) (sym is_kept) ∙ pointer.stands) in
        elim
        (plain_compare (placed func) marks (after_all block.next (take here.from block.from.insts)) here.inst pred here.index line.inst
        (subst (λ (o : Op). slice_get (lines_for (placed func) marks (after_all block.next (take here.from block.from.insts)) here.inst o) here.index ≡ Some line.inst) op_before here.in_group)
        (ap is_compare same)) [
          | inl unused ↦
              unmarked_own operand pointer.fits source.before source.is (λ value is_value marked.
              true≢false
              (sym
              (found_any marks (values_used here.inst) value.0 (uses_operand here.inst pointer.place value.0 (source.stands ∙ ap (λ (o : Operand). Some o) is_value)) marked) ∙ unused))
          | inr order ↦
              let type : here.inst.ty ≡ types.Ptr = sym (ap (λ (i : Instruction). i.ty) is_kept)
              ∙ compared_type (value_types made) line.inst.ty (operand_at line.inst.operands 0) (operand_at line.inst.operands 1) operand within in
              let none = all_at (λ (inst : Instruction). orders_pointers inst.op inst.ty ≡ false) (instructions_of (placed func).blocks) (text_place (placed func) b here.from) here.inst unordered from_text in
              absurd (true≢false (sym order ∙ subst (λ (t : Ty). orders_pointers (ops.Icmp pred) t ≡ false) type (subst (λ (o : Op). orders_pointers o here.inst.ty ≡ false) op_before none)))
        ]

    kept_own : line.inst ≡ kept_line (placed func) marks here.inst → (operand : Operand) → Contains (escaping line.inst.op line.inst) operand → IsOwn made table operand
    kept_own is_kept operand within = by line.inst.op refl within
      where
        by : (op : Op) → line.inst.op ≡ op → Contains (escaping op line.inst) operand → IsOwn made table operand
        by (ops.Icmp pred) same within = compared_own is_kept pred same operand within
        by op same within = left_own is_kept op same (λ pred is_compare_op. cc) operand within

    own : (operand : Operand) → Contains (escaping line.inst.op line.inst) operand → IsOwn made table operand
    own operand within = elim made_line [
      | kept is_kept ↦ kept_own is_kept operand within
      | merging kind op ↦ absurd (merge_escapes line.inst.op line.inst operand (ap is_merge op ∙ kind) within)
      | checking address is_check ↦ absurd (contains_none operand (subst (λ (i : Instruction). Contains (escaping i.op i) operand) is_check within))
      | comparing result first second is_same ↦ absurd (contains_none operand (subst (λ (i : Instruction). Contains (escaping i.op i) operand) is_same within))
      | negating op ↦ absurd (contains_none operand (subst (λ (o : Op). Contains (escaping o line.inst) operand) op within))
    ]

    checks : (pair : Use) → Contains (checked line.inst.op line.inst) pair → IsBased made table pair
    checks pair within = elim made_line [
      | kept is_kept ↦ absurd (no_checked line.inst.op line.inst pair (ap (λ (i : Instruction). takes_pairs i.op) is_kept ∙ no_helper) within)
      | merging kind op ↦ absurd (no_checked line.inst.op line.inst pair (ap takes_pairs op ∙ no_helper) within)
      | checking address is_check ↦
          let fits = subst (λ (i : Instruction). AllZip (Fits (value_types made)) i.operands (asked i.op i.ty (length i.operands))) is_check operand_types in
          let same = contains_one (use_at (check (placed func) marks here.inst address).operands 0) pair (subst (λ (i : Instruction). Contains (checked i.op i) pair) is_check within) in
          subst (IsBased made table) same (pair_based address fits.1.0)
      | comparing result first second is_same ↦ absurd (contains_none pair (subst (λ (i : Instruction). Contains (checked i.op i) pair) is_same within))
      | negating op ↦ absurd (no_checked line.inst.op line.inst pair (ap takes_pairs op) within)
    ]

    compares : (pair : Use) → Contains (compared line.inst.op line.inst) pair → IsBased made table pair
    compares pair within = elim made_line [
      | kept is_kept ↦ absurd (no_compared line.inst.op line.inst pair (ap (λ (i : Instruction). takes_pairs i.op) is_kept ∙ no_helper) within)
      | merging kind op ↦ absurd (no_compared line.inst.op line.inst pair (ap takes_pairs op ∙ no_helper) within)
      | checking address is_check ↦ absurd (contains_none pair (subst (λ (i : Instruction). Contains (compared i.op i) pair) is_check within))
      | comparing result first second is_same ↦
          let fits = subst (λ (i : Instruction). AllZip (Fits (value_types made)) i.operands (asked i.op i.ty (length i.operands))) is_same operand_types in
          let given = (same_call (placed func) marks result first second).operands in
          elim (contains_cons (use_at given 0) pair (use_at given 2 ∷ []) (subst (λ (i : Instruction). Contains (compared i.op i) pair) is_same within)) [
            | inl same ↦ subst (IsBased made table) same (pair_based first fits.1.0)
            | inr later ↦ subst (IsBased made table) (contains_one (use_at given 2) pair later) (pair_based second fits.1.1.1.0)
          ]
      | negating op ↦ absurd (no_compared line.inst.op line.inst pair (ap takes_pairs op) within)
    ]

    checked_before : (address : Operand) → accessed_at line.inst.op line.inst ≡ Some address → is_checked (lines_at made b) k address line.inst.ty ≡ true
    checked_before address accessed =
        let inst_form = (all_at_ready from_text).typed.line in
        let access = accesses (placed func) marks (after_all block.next (take here.from block.from.insts)) here.inst inst_form here.index line.inst address here.in_group accessed in
        let start = length (based_insts (placed func) marks block.next (take here.from block.from.insts)) in
        let check_there = group_stands (placed func) block.next block.from.insts here.from here.inst here.stands 0 (check (placed func) marks here.inst access.from) access.before in
        let zero_is : start + 0 ≡ start = omega arith in
        let in_block : slice_get stands.block.insts start ≡ Some (check (placed func) marks here.inst access.from) =
        ap (λ (insts : List Instruction). slice_get insts start) block.is
        ∙ (ap (λ (n : ℕ). slice_get (based_insts (placed func) marks block.next block.from.insts) n) (sym zero_is) ∙ check_there) in
        let forth = line_forth made b start (check (placed func) marks here.inst access.from) (record { block = stands.block; in_function = stands.in_function; in_block = in_block }) in
        let next : k ≡ suc start = (let place = here.is in let one = access.behind in omega (arith, place, one)) in
        let is_address : same_operand (renumbered (placed func) marks access.from) address ≡ true =
        ap (λ (o : Operand). same_operand o address) (sym access.address_is)
        ∙ pointer_same (value_types made) address (accessed_pointer (value_types made) line.inst line.inst.op address operand_types accessed) in
        let is_kind : same_operand (operands.Int (kind_of (cell_of here.inst.ty))) (operands.Int (kind_of (cell_of line.inst.ty))) ≡ true =
        eq-eqb (kind_of (cell_of here.inst.ty)) (kind_of (cell_of line.inst.ty)) (ap (λ (t : Ty). kind_of (cell_of t)) (sym access.type_is)) in
        ap (λ (n : ℕ). is_checked (lines_at made b) n address line.inst.ty) next
        ∙ (ap (λ (l : Option Line). option_map_or (checks_access address line.inst.ty) l false) forth.1
        ∙ (ap (λ (i : Instruction). checks_access address line.inst.ty (record (forth.0) { inst = i })) forth.2 ∙ and_three true _ _ refl is_address is_kind))
      where
        all_at_ready : slice_get (instructions_of (placed func).blocks) (text_place (placed func) b here.from) ≡ Some here.inst → IsReady (renamings content) (placed func) here.inst
        all_at_ready at = all_at (IsReady (renamings content) (placed func)) (instructions_of (placed func).blocks) (text_place (placed func) b here.from) here.inst (all_ready content is.source number func found) at

  takes_there : TakesBases func
  takes_there b k line at = record {
    own = own b k line at;
    checks = checks b k line at;
    compares = compares b k line at;
    checked_before = checked_before b k line at;
  }

pub source_takes_bases : SourceTakesBases
source_takes_bases content is = all_from_at TakesBases content.funcs (λ number func found. takes_there content is number func found)

pub fitting_source_is_verified : FittingSourceIsVerified
fitting_source_is_verified content is choose fitting = taking_is_verified content is choose fitting (source_takes_bases content is)

pub source_is_verified : SourceIsVerified
source_is_verified content is = fitting_source_is_verified content is (λ g. naming_of) (source_fits content is)
