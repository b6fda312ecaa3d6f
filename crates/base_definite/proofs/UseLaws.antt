-- What the lines for an instruction use: what it uses under new numbers, the bases of it, and what the line before gives.
use Rattle.std.proofs.Common.{◌≡◌, ℕ, zero, suc, Bool, true, false, if◌then◌else◌, List, [], ◌∷◌, ◌++◌, map, refl, sym, ap, subst, ◌∙◌, ◌⊎◌, inl, inr, append-nil}
use Rattle.std.specs.Prelude.{Option, Some, is_some, slice_get, slice_index_or, codes}
use Rattle.std.specs.List.{All, Contains, filter_map}
use Rattle.std.proofs.lemmas.List.Elements.{All-cons, All-nil, All-head, All-tail}
use Rattle.list_laws.proofs.Places.{filter_map_forth, get_front, map_back}
use Rattle.list_laws.proofs.Contents.{all_from_at, contains_cons, contains_get, contains_image, contains_none}
use Rattle.sp_ids.specs.declared.ids.ValueId.{ValueId}
use Rattle.ir_ast.specs.declared.ops.Pred.{Pred}
use Rattle.ir_ast.specs.declared.ops.Pred.TheVariants as preds
use Rattle.ir_ast.specs.declared.ops.Op.{Op}
use Rattle.ir_ast.specs.declared.ops.Op.TheVariants as ops
use Rattle.ir_ast.specs.declared.ops.Operand.{Operand}
use Rattle.ir_ast.specs.declared.ops.Operand.TheVariants as operands
use Rattle.ir_ast.specs.Cells.{kind_of}
use Rattle.ir_ast.specs.Insts.{Instruction}
use Rattle.object_meaning.specs.Accesses.{cell_of}
use Rattle.ir_ast.specs.Derived.{is_merge}
use Rattle.ir_ast.specs.Funcs.{Function}
use Rattle.ir_ast.specs.Operands.{operands_of, value_in, values_used}
use Rattle.ir_ast.specs.Faults.PhiEdges.{is_phi}
use Rattle.base_forms.specs.DerivedMarks.{uses_marked}
use Rattle.base_forms.specs.Inserted.{inserted_number, is_merged, is_negated, new_number, renumbered}
use Rattle.base_forms.specs.Bases.{base_of, own_base}
use Rattle.base_forms.specs.Lines.{merged_bases, numbered_name, operand_at}
use Rattle.base_forms.specs.Based.{base_line, check, compared, insertion, kept_line, lines_for, negation, rank_of, same_call}
use Rattle.base_forms.proofs.OriginLaws.{origin-own}
use Rattle.base_definite.proofs.base_relations.ValueLaws.{merged_false, merged_true, used_now}

module _ (func : Function) (marks : List Bool) where
  -- what has a value for its base is a value
  pub value_of_base : (operand : Operand) (base : ValueId) → base_of func marks operand ≡ operands.Value base → (value : ValueId) × (operand ≡ operands.Value value)
  value_of_base (operands.Value value) base is = (value, refl)
  value_of_base (operands.Int literal) base is =
      let own : base_of func marks (operands.Int literal) ≡ operands.Int literal = ap (own_base func marks) (origin-own func (operands.Int literal) refl) in
      absurd (let both : operands.Int literal ≡ operands.Value base = sym own ∙ is in cc)
  value_of_base operands.Null base is =
      let own : base_of func marks operands.Null ≡ operands.Null = ap (own_base func marks) (origin-own func operands.Null refl) in
      absurd (let both : operands.Null ≡ operands.Value base = sym own ∙ is in cc)
  value_of_base (operands.Fun named) base is =
      let own : base_of func marks (operands.Fun named) ≡ operands.Fun named = ap (own_base func marks) (origin-own func (operands.Fun named) refl) in
      absurd (let both : operands.Fun named ≡ operands.Value base = sym own ∙ is in cc)

  module _ (inst : Instruction) where
    -- a value that an operand of one of its lines names
    pub data Names (value : ℕ) : Type 0 where
      by_now : (used : ℕ) → Contains (values_used inst) used → value ≡ new_number func marks used → Names value
      by_base : (used : ValueId) → Contains (values_used inst) used.0 → base_of func marks (operands.Value used) ≡ operands.Value (record { 0 = value }) → Names value

    abbrev IsUsed : Operand → Type 0
    IsUsed operand = (used : ValueId) → operand ≡ operands.Value used → Contains (values_used inst) used.0

    abbrev IsGood : Operand → Type 0
    IsGood operand = (value : ValueId) → operand ≡ operands.Value value → Names value.0

    pub operand_is_used : (place : ℕ) (operand : Operand) → slice_get inst.operands place ≡ Some operand → IsUsed operand
    operand_is_used place operand at used is =
        let here : slice_get inst.operands place ≡ Some (operands.Value used) = at ∙ ap (λ (o : Operand). Some o) is in
        let front = get_front inst.operands (map (λ entry. entry.1) inst.bundle) place (operands.Value used) here in
        let there = filter_map_forth value_in (operands_of inst) place (operands.Value used) used.0 front refl in
        contains_get (values_used inst) there.0 used.0 there.1

    there_or_null : (all : List Operand) (place : ℕ) (used : ValueId) → slice_index_or all place operands.Null ≡ operands.Value used → slice_get all place ≡ Some (operands.Value used)
    there_or_null [] place used is = absurd cc
    there_or_null (x ∷ all) zero used is = ap (λ (o : Operand). Some o) is
    there_or_null (x ∷ all) (suc place) used is = there_or_null all place used is

    asked_is_used : (place : ℕ) → IsUsed (operand_at inst place)
    asked_is_used place used is = operand_is_used place (operands.Value used) (there_or_null inst.operands place used is) used refl

    good_now : (operand : Operand) → IsUsed operand → IsGood (renumbered func marks operand)
    good_now (operands.Value used) is_used value is =
        let same : record { 0 = new_number func marks used.0 } ≡ value = cc in
        by_now used.0 (is_used used refl) (sym (ap (λ (id : ValueId). id.0) same))
    good_now (operands.Int literal) is_used value is = absurd cc
    good_now operands.Null is_used value is = absurd cc
    good_now (operands.Fun named) is_used value is = absurd cc

    good_base : (operand : Operand) → IsUsed operand → IsGood (base_of func marks operand)
    good_base operand is_used value is =
        let found = value_of_base operand value is in
        by_base found.0 (is_used found.0 found.1) (sym (ap (base_of func marks) found.1) ∙ is)

    good_literal : (literal : ℕ) → IsGood (operands.Int literal)
    good_literal literal value is = absurd cc

    named_in : (all : List Operand) → All IsGood all → (value : ℕ) → Contains (filter_map value_in all) value → Names value
    named_in [] good value inside = absurd (contains_none value inside)
    named_in (operand ∷ all) good value inside = by operand (All-head IsGood operand all good) inside (λ more. named_in all (All-tail IsGood operand all good) value more)
      where
        by : (operand : Operand) → IsGood operand → Contains (filter_map value_in (operand ∷ all)) value → (Contains (filter_map value_in all) value → Names value) → Names value
        by (operands.Value id) here inside further = elim (contains_cons id.0 value (filter_map value_in all) inside) [
          | inl same ↦ subst Names same (here id refl)
          | inr later ↦ further later
        ]
        by (operands.Int literal) here inside further = further inside
        by operands.Null here inside further = further inside
        by (operands.Fun named) here inside further = further inside

    -- a line without a bundle
    named_by : (all : List Operand) → All IsGood all → (value : ℕ) → Contains (filter_map value_in (all ++ [])) value → Names value
    named_by all good value inside = named_in all good value (subst (λ (list : List Operand). Contains (filter_map value_in list) value) (append-nil all) inside)

    kept_names : (value : ℕ) → Contains (values_used (kept_line func marks inst)) value → Names value
    kept_names value inside =
        let image = contains_image (new_number func marks) (values_used inst) value (subst (λ (list : List ℕ). Contains list value) (used_now func marks inst) inside) in
        by_now image.of image.inside (sym image.is)

    all_three : (one two three : Operand) → IsGood one → IsGood two → IsGood three → All IsGood (one ∷ two ∷ three ∷ [])
    all_three one two three first second third =
        All-cons IsGood one (two ∷ three ∷ []) first (All-cons IsGood two (three ∷ []) second (All-cons IsGood three [] third (All-nil IsGood)))

    check_names : (place : ℕ) (value : ℕ) → Contains (values_used (check func marks inst (operand_at inst place))) value → Names value
    check_names place value inside =
        named_by (base_of func marks (operand_at inst place) ∷ renumbered func marks (operand_at inst place) ∷ operands.Int (kind_of (cell_of inst.ty)) ∷ [])
        (all_three (base_of func marks (operand_at inst place)) (renumbered func marks (operand_at inst place)) (operands.Int (kind_of (cell_of inst.ty)))
        (good_base (operand_at inst place) (asked_is_used place)) (good_now (operand_at inst place) (asked_is_used place)) (good_literal (kind_of (cell_of inst.ty)))) value inside

    same_names : (result : Option (List ℕ)) (value : ℕ) → Contains (values_used (same_call func marks result (operand_at inst 0) (operand_at inst 1))) value → Names value
    same_names result value inside =
        named_by
        (base_of func marks (operand_at inst 0) ∷ renumbered func marks (operand_at inst 0) ∷ base_of func marks (operand_at inst 1) ∷ renumbered func marks (operand_at inst 1) ∷ [])
        (All-cons IsGood (base_of func marks (operand_at inst 0)) (renumbered func marks (operand_at inst 0) ∷ base_of func marks (operand_at inst 1) ∷ renumbered func marks (operand_at inst 1) ∷ [])
        (good_base (operand_at inst 0) (asked_is_used 0))
        (all_three (renumbered func marks (operand_at inst 0)) (base_of func marks (operand_at inst 1)) (renumbered func marks (operand_at inst 1)) (good_now (operand_at inst 0) (asked_is_used 0))
        (good_base (operand_at inst 1) (asked_is_used 1)) (good_now (operand_at inst 1) (asked_is_used 1)))) value inside

    select_good : (all : List Operand) → ((place : ℕ) (operand : Operand) → slice_get all place ≡ Some operand → IsUsed operand) → All IsGood (merged_bases (insertion func marks) ops.Select all)
    select_good [] used = All-nil IsGood
    select_good (condition ∷ rest) used =
        All-cons IsGood (renumbered func marks condition) (map (base_of func marks) rest) (good_now condition (used 0 condition refl))
        (all_from_at IsGood (map (base_of func marks) rest) (λ place base at.
        let from = map_back (base_of func marks) rest place base at in
        subst IsGood (sym from.is) (good_base from.before (used (suc place) from.before from.stands))))

    select_names : (next : ℕ) → inst.op ≡ ops.Select → (value : ℕ) → Contains (values_used (base_line func marks next inst)) value → Names value
    select_names next is value inside =
        named_by (merged_bases (insertion func marks) ops.Select inst.operands) (select_good inst.operands (λ place operand at. operand_is_used place operand at)) value
        (subst (λ (op : Op). Contains (filter_map value_in (merged_bases (insertion func marks) op inst.operands ++ [])) value) is inside)

    -- ---- the lines that aren't phis

    pub data LineNames (next index : ℕ) (group : List Instruction) (value : ℕ) : Type 0 where
      of_instruction : Names value → LineNames next index group value
      of_line_before : (first last : Instruction) → group ≡ first ∷ last ∷ [] → is_some first.result ≡ true → index ≡ 1 → value ≡ inserted_number func marks next → LineNames next index group value

    line_is : {A : Type 0} (x y : A) → Some x ≡ Some y → x ≡ y
    line_is x y same = cc

    kept_only : (next index : ℕ) (line : Instruction) → slice_get (kept_line func marks inst ∷ []) index ≡ Some line → (value : ℕ) → Contains (values_used line) value
        → (group : List Instruction) → LineNames next index group value
    kept_only next zero line at value inside group =
        of_instruction (kept_names value (subst (λ (l : Instruction). Contains (values_used l) value) (sym (line_is (kept_line func marks inst) line at)) inside))
    kept_only next (suc index) line at value inside group = absurd cc

    checked_only : (next place index : ℕ) (line : Instruction) → slice_get (check func marks inst (operand_at inst place) ∷ kept_line func marks inst ∷ []) index ≡ Some line → (value : ℕ)
        → Contains (values_used line) value → (group : List Instruction) → LineNames next index group value
    checked_only next place zero line at value inside group =
        of_instruction (check_names place value (subst (λ (l : Instruction). Contains (values_used l) value) (sym (line_is (check func marks inst (operand_at inst place)) line at)) inside))
    checked_only next place (suc zero) line at value inside group =
        of_instruction (kept_names value (subst (λ (l : Instruction). Contains (values_used l) value) (sym (line_is (kept_line func marks inst) line at)) inside))
    checked_only next place (suc (suc index)) line at value inside group = absurd cc

    negated_names : (next : ℕ) (value : ℕ) → Contains (values_used (negation func marks next inst)) value → value ≡ inserted_number func marks next
    negated_names next value inside = elim (contains_cons (inserted_number func marks next) value [] inside) [ inl same ↦ sym same | inr later ↦ absurd (contains_none value later) ]

    abbrev same_name : ℕ → Option (List ℕ)
    same_name next = Some (numbered_name (codes "sp.s") (rank_of func (is_negated marks) next))

    compared_only : (pred : Pred) (next index : ℕ) (line : Instruction) → slice_get (compared func marks next inst pred) index ≡ Some line → (value : ℕ) → Contains (values_used line) value
        → LineNames next index (compared func marks next inst pred) value
    compared_only preds.Eq next zero line at value inside =
        of_instruction (same_names inst.result value (subst (λ (l : Instruction). Contains (values_used l) value) (sym (line_is (same_call func marks inst.result (operand_at inst 0) (operand_at inst 1)) line at)) inside))
    compared_only preds.Eq next (suc index) line at value inside = absurd cc
    compared_only preds.Ne next zero line at value inside =
        of_instruction
        (same_names (same_name next) value
        (subst (λ (l : Instruction). Contains (values_used l) value) (sym (line_is (same_call func marks (same_name next) (operand_at inst 0) (operand_at inst 1)) line at)) inside))
    compared_only preds.Ne next (suc zero) line at value inside =
        of_line_before (same_call func marks (same_name next) (operand_at inst 0) (operand_at inst 1)) (negation func marks next inst) refl refl refl
        (negated_names next value (subst (λ (l : Instruction). Contains (values_used l) value) (sym (line_is (negation func marks next inst) line at)) inside))
    compared_only preds.Ne next (suc (suc index)) line at value inside = absurd cc
    compared_only pred next index line at value inside = kept_only next index line at value inside (kept_line func marks inst ∷ [])

    not_both : {A : Type 0} (b : Bool) → b ≡ true → b ≡ false → A
    not_both b one none = absurd cc

    merged_only : (op : Op) → inst.op ≡ op → is_merge op ≡ true → is_phi op ≡ false → (next index : ℕ) (line : Instruction) → slice_get (lines_for func marks next inst op) index ≡ Some line → (value : ℕ)
        → Contains (values_used line) value → inst.op ≡ ops.Select → (group : List Instruction) → LineNames next index group value
    merged_only op is kind no_phi next index line at value inside select group = by (is_merged marks inst) refl
      where
        two : (index : ℕ) → slice_get (base_line func marks next inst ∷ kept_line func marks inst ∷ []) index ≡ Some line → LineNames next index group value
        two zero at = of_instruction (select_names next select value (subst (λ (l : Instruction). Contains (values_used l) value) (sym (line_is (base_line func marks next inst) line at)) inside))
        two (suc zero) at = of_instruction (kept_names value (subst (λ (l : Instruction). Contains (values_used l) value) (sym (line_is (kept_line func marks inst) line at)) inside))
        two (suc (suc index)) at = absurd cc

        by : (b : Bool) → is_merged marks inst ≡ b → LineNames next index group value
        by true merges = two index (ap (λ lines. slice_get lines index) (sym (merged_true func marks next inst op is kind merges)) ∙ at)
        by false merges = kept_only next index line (ap (λ lines. slice_get lines index) (sym (merged_false func marks next inst op is kind merges)) ∙ at) value inside group

    pub phi_lines : (next index : ℕ) (line : Instruction) → inst.op ≡ ops.Phi → slice_get (lines_for func marks next inst ops.Phi) index ≡ Some line → is_phi line.op ≡ true
    phi_lines next index line is at = by (is_merged marks inst) refl
      where
        two : (index : ℕ) → slice_get (base_line func marks next inst ∷ kept_line func marks inst ∷ []) index ≡ Some line → is_phi line.op ≡ true
        two zero at = ap (λ (l : Instruction). is_phi l.op) (sym (line_is (base_line func marks next inst) line at)) ∙ ap is_phi is
        two (suc zero) at = ap (λ (l : Instruction). is_phi l.op) (sym (line_is (kept_line func marks inst) line at)) ∙ ap is_phi is
        two (suc (suc index)) at = absurd cc

        one : (index : ℕ) → slice_get (kept_line func marks inst ∷ []) index ≡ Some line → is_phi line.op ≡ true
        one zero at = ap (λ (l : Instruction). is_phi l.op) (sym (line_is (kept_line func marks inst) line at)) ∙ ap is_phi is
        one (suc index) at = absurd cc

        by : (b : Bool) → is_merged marks inst ≡ b → is_phi line.op ≡ true
        by true merges = two index (ap (λ lines. slice_get lines index) (sym (merged_true func marks next inst ops.Phi is refl merges)) ∙ at)
        by false merges = one index (ap (λ lines. slice_get lines index) (sym (merged_false func marks next inst ops.Phi is refl merges)) ∙ at)

    names_as : (op : Op) → inst.op ≡ op → (next index : ℕ) (line : Instruction) → slice_get (lines_for func marks next inst op) index ≡ Some line → is_phi line.op ≡ false → (value : ℕ)
        → Contains (values_used line) value → LineNames next index (lines_for func marks next inst op) value
    names_as ops.Phi is next index line at no_phi value inside = not_both (is_phi line.op) (phi_lines next index line is at) no_phi
    names_as ops.Select is next index line at no_phi value inside = merged_only ops.Select is refl refl next index line at value inside is (lines_for func marks next inst ops.Select)
    names_as (ops.Icmp pred) is next index line at no_phi value inside = by (uses_marked marks inst) at
      where
        by : (b : Bool) → slice_get (if b then compared func marks next inst pred else kept_line func marks inst ∷ []) index ≡ Some line
            → LineNames next index (if b then compared func marks next inst pred else kept_line func marks inst ∷ []) value
        by true at = compared_only pred next index line at value inside
        by false at = kept_only next index line at value inside (kept_line func marks inst ∷ [])
    names_as ops.Load is next index line at no_phi value inside = checked_only next 0 index line at value inside (lines_for func marks next inst ops.Load)
    names_as ops.Store is next index line at no_phi value inside = checked_only next 1 index line at value inside (lines_for func marks next inst ops.Store)
    names_as op is next index line at no_phi value inside = kept_only next index line at value inside (lines_for func marks next inst op)

    pub line_names : (next index : ℕ) (line : Instruction) → slice_get (lines_for func marks next inst inst.op) index ≡ Some line → is_phi line.op ≡ false → (value : ℕ) → Contains (values_used line) value
        → LineNames next index (lines_for func marks next inst inst.op) value
    line_names next index line at no_phi value inside = names_as inst.op refl next index line at no_phi value inside

  -- the lines for a phi are phis over what it is over, or over the bases
  pub no_phi_else : (inst : Instruction) (next index : ℕ) (line : Instruction) → slice_get (lines_for func marks next inst inst.op) index ≡ Some line → is_phi line.op ≡ true → is_phi inst.op ≡ true
      → (line ≡ kept_line func marks inst) ⊎ (line ≡ base_line func marks next inst)
  no_phi_else inst next index line at phi is_one = by inst.op refl is_one
    where
      two : (index : ℕ) → slice_get (base_line func marks next inst ∷ kept_line func marks inst ∷ []) index ≡ Some line → (line ≡ kept_line func marks inst) ⊎ (line ≡ base_line func marks next inst)
      two zero at = inr (let same : base_line func marks next inst ≡ line = cc in sym same)
      two (suc zero) at = inl (let same : kept_line func marks inst ≡ line = cc in sym same)
      two (suc (suc index)) at = absurd cc

      one : (index : ℕ) → slice_get (kept_line func marks inst ∷ []) index ≡ Some line → (line ≡ kept_line func marks inst) ⊎ (line ≡ base_line func marks next inst)
      one zero at = inl (let same : kept_line func marks inst ≡ line = cc in sym same)
      one (suc index) at = absurd cc

      merges : (op : Op) → inst.op ≡ op → is_merge op ≡ true → (b : Bool) → is_merged marks inst ≡ b → (line ≡ kept_line func marks inst) ⊎ (line ≡ base_line func marks next inst)
      merges op is kind true merged = two index (ap (λ lines. slice_get lines index) (sym (ap (λ o. lines_for func marks next inst o) is ∙ merged_true func marks next inst op is kind merged)) ∙ at)
      merges op is kind false merged = one index (ap (λ lines. slice_get lines index) (sym (ap (λ o. lines_for func marks next inst o) is ∙ merged_false func marks next inst op is kind merged)) ∙ at)

      by : (op : Op) → inst.op ≡ op → is_phi op ≡ true → (line ≡ kept_line func marks inst) ⊎ (line ≡ base_line func marks next inst)
      by ops.Phi is one_is = merges ops.Phi is refl (is_merged marks inst) refl
      by op is one_is = absurd cc
