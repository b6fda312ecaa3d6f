-- In a function with bases no use is one where the value isn't defined: where a base isn't defined, what is derived from it isn't.
use Rattle.std.proofs.Common.{◌≡◌, ℕ, suc, ◌+◌, ◌<◌, ◌≤◌, Bool, true, false, ◌&&◌, if◌then◌else◌, [], ◌∷◌, length, map, take, refl, sym, ap, subst, ◌∙◌, inl, inr, arith}
use Rattle.std.specs.Prelude.{Option, Some, None, slice_get}
use Rattle.std.specs.List.{All, Contains}
use Rattle.std.specs.Option.{option_and_then, option_map_or}
use Rattle.std.proofs.lemmas.Bool.{cases_eq, cases_lt}
use Rattle.std.proofs.lemmas.Option.{slice_get_within}
use Rattle.list_laws.proofs.Contents.{all_at, all_from_at}
use Rattle.list_laws.proofs.Places.{map_back}
use Rattle.sp_ids.specs.declared.ids.ValueId.{ValueId}
use Rattle.sp_ids.specs.declared.ids.BlockId.{BlockId}
use Rattle.ir_ast.specs.declared.ops.Op.{Op}
use Rattle.ir_ast.specs.declared.ops.Op.TheVariants as ops
use Rattle.ir_ast.specs.declared.ops.Operand.{Operand}
use Rattle.ir_ast.specs.declared.ops.Operand.TheVariants as operands
use Rattle.ir_ast.specs.Insts.{Instruction}
use Rattle.ir_ast.specs.Blocks.{BasicBlock}
use Rattle.ir_ast.specs.Derived.{is_merge, is_step}
use Rattle.ir_ast.specs.Funcs.{Function, instructions_of}
use Rattle.ir_ast.specs.Operands.{value_in, values_used}
use Rattle.ir_ast.specs.Values.{Definition, Gives, argument, outcome}
use Rattle.ir_ast.specs.Faults.PhiEdges.{is_phi}
use Rattle.ir_ast.specs.Faults.GroupShape.{number_at}
use Rattle.ir_cfg.specs.DefiniteUses.{Defines, Stands, UsesAreDefinite, by_entry, by_line, in_arguments, text_place}
use Rattle.ir_cfg.proofs.UsedLaws.{use_within}
use Rattle.object_meaning.specs.Lines.{after_all}
use Rattle.base_forms.specs.DerivedMarks.{derived_marks, uses_marked}
use Rattle.base_forms.specs.Inserted.{by_line as by_kind, inserted_number, is_merged, new_number, renumbered}
use Rattle.base_forms.specs.Bases.{base_of, gives_by, own_base, source_of, stepped_from}
use Rattle.base_forms.specs.Lines.{merged_bases}
use Rattle.base_forms.specs.Based.{base_line, based, based_insts, insertion, kept_line, lines_for}
use Rattle.base_forms.proofs.OriginLaws.{origin-own, origin-step}
use Rattle.renaming_laws.specs.Renamed.{Renaming}
use Rattle.base_definite.proofs.base_paths.GivesLaws.{defines_gives}
use Rattle.base_definite.proofs.base_paths.UndefinedLaws.{Undefined, at_first, behind_edge, behind_line, last_defines_none}
use Rattle.base_laws.proofs.TypeLaws.{IsTypedLine, MarksPointers}
use Rattle.base_laws.proofs.NumberLaws.{argument_keeps, renaming_of}
use Rattle.base_laws.proofs.LineLaws.{IsReady}
use Rattle.base_definite.proofs.base_relations.GroupLaws.{found_in}
use Rattle.base_definite.proofs.base_relations.ValueLaws.{MergeLine, alone_one, behind_inserted, gives_as, given_there, inserted_one, merge_of_line, step_before}
use Rattle.base_definite.proofs.base_relations.EndLaws.{argument_below}
use Rattle.base_definite.proofs.MeetLaws.{meets_or_not}
use Rattle.base_definite.proofs.ExpandLaws.{Expands, NoneHere, at_entry_none, none_here, one_more, over_edge_none}
use Rattle.base_definite.proofs.BasedLaws.{base_defines, based_at, expands_bases, group_defines, offset, offset_is, offset_same, value_there}
use Rattle.base_definite.proofs.PolledUses.{NoneUndefined}
use Rattle.base_definite.proofs.UseLaws.{LineNames, Names, by_base, by_now, line_names, phi_lines, of_instruction, of_line_before, operand_is_used, value_of_base}

module _ (functions : ℕ → Renaming) (index : ℕ) (func : Function) (called : Bool) (is : functions index ≡ renaming_of called func) (pointers : MarksPointers func (derived_marks func))
    (ready : All (IsReady functions func) (instructions_of func.blocks)) (none_undefined : NoneUndefined func) where
  abbrev now : ℕ → ℕ
  now = new_number func (derived_marks func)

  abbrev base : ℕ → Operand
  base value = base_of func (derived_marks func) (operands.Value (record { 0 = value }))

  abbrev expands : Expands func (based func) (new_number func (derived_marks func))
  expands = expands_bases functions index func called is pointers ready

  typed : All (IsTypedLine func) (instructions_of func.blocks)
  typed = all_from_at (IsTypedLine func) (instructions_of func.blocks) (λ place inst at. (all_at (IsReady functions func) (instructions_of func.blocks) place inst ready at).typed)

  abbrev None_here : ℕ → ℕ → ℕ → Type 0
  None_here value number place = NoneHere func (based func) (new_number func (derived_marks func)) expands value number place

  -- what has this base, and another number
  abbrev AllNone : ℕ → ℕ → ℕ → Type 0
  AllNone value number place = (used : ℕ) → base used ≡ operands.Value (record { 0 = value }) → (value ≡ now used → ⊥) → None_here used number place

  step_is_no_phi : (op : Op) → is_step op ≡ true → is_phi op ≡ false
  step_is_no_phi (ops.Gep elem width place) step = refl
  step_is_no_phi op step = absurd cc

  -- an argument is its own base
  argument_base : (value : ℕ) → value < length func.args → base value ≡ operands.Value (record { 0 = now value })
  argument_base value below =
      let found = argument_below func.args _ value below in
      let none : stepped_from func (operands.Value (record { 0 = value })) ≡ None = ap (λ (given : Option Definition). option_and_then source_of given) found.1 in
      ap (own_base func (derived_marks func)) (origin-own func (operands.Value (record { 0 = value })) none)
      ∙ ap (λ (b : Bool). operands.Value (record { 0 = if b then inserted_number func (derived_marks func) value else now value }))
      (gives_as func (derived_marks func) (is_merged (derived_marks func)) value (argument found.0) found.1)

  value_is : (one other : ValueId) → operands.Value one ≡ operands.Value other → one.0 ≡ other.0
  value_is one other same = let id : one ≡ other = cc in ap (λ (v : ValueId). v.0) id

  -- what is used here isn't an argument, where its base isn't one
  used_high : (value used : ℕ) → length func.args ≤ value → base used ≡ operands.Value (record { 0 = value }) → length func.args ≤ used
  used_high value used high based_on = elim (cases_lt used (length func.args)) [
    | inr above ↦ above
    | inl below ↦
        let same = value_is (record { 0 = value }) (record { 0 = now used }) (sym based_on ∙ argument_base used below) in
        let keeps = argument_keeps func used below in
        absurd (omega arith)
  ]

  now_high : (value used : ℕ) → length func.args ≤ value → value ≡ now used → length func.args ≤ used
  now_high value used high same = elim (cases_lt used (length func.args)) [
    | inr above ↦ above
    | inl below ↦ let keeps = argument_keeps func used below in absurd (omega arith)
  ]

  -- a value with this base isn't defined, be it the base itself or derived from it
  one_undefined : (value number place : ℕ) → Undefined (based func) value number place → AllNone value number place → (used : ℕ) → base used ≡ operands.Value (record { 0 = value }) → None_here used number place
  one_undefined value number place undefined others used based_on = elim (cases_eq value (now used)) [
    | inl same ↦ none_here func (based func) (new_number func (derived_marks func)) expands used number place (subst (λ (v : ℕ). Undefined (based func) v number place) same undefined)
    | inr apart ↦ others used based_on apart
  ]

  module _ (value : ℕ) (high : length func.args ≤ value) where
    no_step : (number place : ℕ) → Undefined (based func) value number place → AllNone value number place → (used own : ℕ) (block : BasicBlock) → slice_get func.blocks number ≡ Some block
        → own ≤ length block.insts → expands.offset number own ≤ place → base used ≡ operands.Value (record { 0 = value }) → (defines : Defines func used number own) → is_step (defines.inst).op ≡ true → ⊥
    no_step number place undefined others used own block found within no_later based_on defines step =
        let given = defines_gives func used number own defines in
        let from = step_before func pointers typed used defines.inst given step in
        let from_base : base_of func (derived_marks func) from.0 ≡ operands.Value (record { 0 = value }) =
        sym (ap (own_base func (derived_marks func)) (origin-step func (operands.Value (record { 0 = used })) from.0 from.2)) ∙ based_on in
        let id = value_of_base func (derived_marks func) from.0 (record { 0 = value }) from_base in
        let id_base : base id.0.0 ≡ operands.Value (record { 0 = value }) = sym (ap (base_of func (derived_marks func)) id.1) ∙ from_base in
        let clean = one_undefined value number place undefined others id.0.0 id_base own block found within no_later in
        let used_there = operand_is_used func (derived_marks func) defines.inst 0 from.0 from.1 id.0 id.1 in
        none_undefined (text_place func number own) id.0.0 number own
        (by_line number own id.0.0 defines.inst defines.stands (step_is_no_phi (defines.inst).op step) used_there) (used_high value id.0.0 high id_base) clean

    merged_of : (given : Definition) (inst : Instruction) → given ≡ outcome inst → by_kind (is_merged (derived_marks func)) given ≡ true → is_merged (derived_marks func) inst ≡ true
    merged_of given inst same merges = sym (ap (by_kind (is_merged (derived_marks func))) same) ∙ merges

    true_left : (a b : Bool) → a && b ≡ true → a ≡ true
    true_left true b both = refl
    true_left false b both = absurd cc

    no_definition : (number place : ℕ) → Undefined (based func) value number place → AllNone value number place → (used own : ℕ) (block : BasicBlock) → slice_get func.blocks number ≡ Some block
        → suc own ≤ length block.insts → expands.offset number (suc own) ≡ suc place → base used ≡ operands.Value (record { 0 = value }) → (value ≡ now used → ⊥) → Defines func used number own → ⊥
    no_definition number place undefined others used own block found within here based_on apart defines = by (is_step (defines.inst).op) refl
      where
        given : Gives func used defines.inst
        given = defines_gives func used number own defines

        no_later : expands.offset number own ≤ place
        no_later = let up = expands.rises number own block found (omega arith) in omega arith

        plain : stepped_from func (operands.Value (record { 0 = used })) ≡ None → (b : Bool) → gives_by func (derived_marks func) (is_merged (derived_marks func)) used ≡ b
            → operands.Value (record { 0 = if b then inserted_number func (derived_marks func) used else now used }) ≡ operands.Value (record { 0 = value }) → ⊥
        plain none true merges at =
            let there = given_there func (derived_marks func) (is_merged (derived_marks func)) used merges in
            let both : Some there.0 ≡ Some (outcome defines.inst) = sym there.1 ∙ given in
            let same : there.0 ≡ outcome defines.inst = cc in
            let merged = merged_of there.0 defines.inst same there.2 in
            let before = base_defines functions index func called is pointers ready used number own defines
            (true_left (is_merge (defines.inst).op) (uses_marked (derived_marks func) defines.inst) merged) merged in
            let number_same = value_is (record { 0 = inserted_number func (derived_marks func) used }) (record { 0 = value }) at in
            let same_offset = offset_same functions index func called is pointers ready number (suc own) in
            let place_is : place ≡ suc before.0 = (let end = before.1 in omega arith) in
            last_defines_none (based func) value number place undefined before.0 place_is (subst (λ (v : ℕ). Defines (based func) v number before.0) number_same before.2)
        plain none false unmerged at = apart (sym (value_is (record { 0 = now used }) (record { 0 = value }) at))

        by : (b : Bool) → is_step (defines.inst).op ≡ b → ⊥
        by true step = no_step number place undefined others used own block found (omega arith) no_later based_on defines step
        by false step =
            let none : stepped_from func (operands.Value (record { 0 = used })) ≡ None =
            ap (λ (found : Option Definition). option_and_then source_of found) given ∙ ap (λ (b : Bool). if b then slice_get (defines.inst).operands 0 else None) step in
            plain none (gives_by func (derived_marks func) (is_merged (derived_marks func)) used) refl
            (sym (ap (own_base func (derived_marks func)) (origin-own func (operands.Value (record { 0 = used })) none)) ∙ based_on)

    -- where a base isn't defined, what is derived from it isn't
    base_none : (number place : ℕ) → Undefined (based func) value number place → AllNone value number place
    base_none _ _ at_first = λ used based_on apart. at_entry_none func (based func) (new_number func (derived_marks func)) expands used
    base_none _ _ (behind_line number place inst before stands none) =
        let others = base_none number place before in
        λ used based_on apart.
        one_more func (based func) (new_number func (derived_marks func)) expands used number place (others used based_on apart)
        (λ own block found within here defines. no_definition number place before others used own block found within here based_on apart defines)
    base_none _ _ (behind_edge from to block before found edge) =
        let others = base_none from (length block.insts) before in
        λ used based_on apart. over_edge_none func (based func) (new_number func (derived_marks func)) expands used from to block (others used based_on apart) found edge

    -- ---- uses

    named_none : (number place : ℕ) → Undefined (based func) value number place → (own : ℕ) (block : BasicBlock) → slice_get func.blocks number ≡ Some block → own ≤ length block.insts
        → expands.offset number own ≤ place → (inst : Instruction) → Names func (derived_marks func) inst value
        → ((used : ℕ) → Contains (values_used inst) used → length func.args ≤ used → Undefined func used number own → ⊥) → ⊥
    named_none number place undefined own block found within no_later inst (by_now used inside same) no_use =
        no_use used inside (now_high value used high same)
        (none_here func (based func) (new_number func (derived_marks func)) expands used number place (subst (λ (v : ℕ). Undefined (based func) v number place) same undefined) own block found within no_later)
    named_none number place undefined own block found within no_later inst (by_base used inside based_on) no_use =
        no_use used.0 inside (used_high value used.0 high based_on)
        (one_undefined value number place undefined (base_none number place undefined) used.0 based_on own block found within no_later)

  -- ---- lines of the function with bases, and the instructions they stand for

  -- the value whose result is the next one
  abbrev next_of : ℕ → ℕ → BasicBlock → ℕ
  next_of number place own = after_all (after_all (length func.args) (instructions_of (take number func.blocks))) (take place own.insts)

  record SourceOf (number place : ℕ) (line : Instruction) : Type 0 where
    own : BasicBlock
    in_function : slice_get func.blocks number ≡ Some own
    from : ℕ
    inst : Instruction
    in_block : slice_get own.insts from ≡ Some inst
    nth : ℕ
    in_group : slice_get (lines_for func (derived_marks func) (next_of number from own) inst inst.op) nth ≡ Some line
    place_is : place ≡ offset functions index func called is pointers ready number from + nth

  stands_for : (number place : ℕ) (line : Instruction) → Stands (based func) number place line → SourceOf number place line
  stands_for number place line stands =
      let own = expands.found number stands.block stands.in_function in
      let same = based_at functions index func called is pointers ready number own.0 own.1 in
      let at : slice_get (based_insts func (derived_marks func) (after_all (length func.args) (instructions_of (take number func.blocks))) own.0.insts) place ≡ Some line =
      ap (λ (here : Option BasicBlock). slice_get (option_map_or (λ b. b.insts) here []) place) (sym same ∙ stands.in_function) ∙ stands.in_block in
      let found = found_in func (after_all (length func.args) (instructions_of (take number func.blocks))) own.0.insts place line at in
      let begins = offset_is functions index func called is pointers ready number found.from own.0 own.1 in
      record {
        own = own.0;
        in_function = own.1;
        from = found.from;
        inst = found.inst;
        in_block = found.stands;
        nth = found.index;
        in_group = found.in_group;
        place_is = found.is ∙ ap (λ n. n + found.index) (sym begins);
      }

  phi_is : (op : Op) → is_phi op ≡ true → op ≡ ops.Phi
  phi_is ops.Phi one = refl
  phi_is op one = absurd cc

  in_value : (operand : Operand) (value : ℕ) → value_in operand ≡ Some value → operand ≡ operands.Value (record { 0 = value })
  in_value (operands.Value id) value inside = let same : id.0 ≡ value = cc in ap (λ n. operands.Value (record { 0 = n })) same
  in_value (operands.Int literal) value inside = absurd cc
  in_value operands.Null value inside = absurd cc
  in_value (operands.Fun named) value inside = absurd cc

  in_now : (operand : Operand) (value : ℕ) → value_in (renumbered func (derived_marks func) operand) ≡ Some value → (used : ℕ) × (value_in operand ≡ Some used) × (value ≡ now used)
  in_now (operands.Value id) value inside = let same : now id.0 ≡ value = cc in (id.0, refl, sym same)
  in_now (operands.Int literal) value inside = absurd cc
  in_now operands.Null value inside = absurd cc
  in_now (operands.Fun named) value inside = absurd cc

  no_phi_here : (number place : ℕ) (line : Instruction) (from : SourceOf number place line) → is_phi line.op ≡ false → (b : Bool) → is_phi from.inst.op ≡ b → is_phi from.inst.op ≡ false
  no_phi_here number place line from no_phi false one = one
  no_phi_here number place line from no_phi true one =
      let op = phi_is from.inst.op one in
      let both : true ≡ false =
      sym (phi_lines func (derived_marks func) from.inst (next_of number from.from from.own) from.nth line op
      (ap (λ (o : Op). slice_get (lines_for func (derived_marks func) (next_of number from.from from.own) from.inst o) from.nth) (sym op)
      ∙ from.in_group)) ∙ no_phi in
      absurd cc

  -- ---- no use of a value is one where it isn't defined

  at_line : (number place value : ℕ) (line : Instruction) → Stands (based func) number place line → is_phi line.op ≡ false → Contains (values_used line) value → length func.args ≤ value
      → Undefined (based func) value number place → ⊥
  at_line number place value line stands no_phi used high undefined = by (line_names func (derived_marks func) from.inst (next_of number from.from from.own) from.nth line from.in_group no_phi value used)
    where
      from : SourceOf number place line
      from = stands_for number place line stands

      by : LineNames func (derived_marks func) from.inst (next_of number from.from from.own) from.nth (lines_for func (derived_marks func) (next_of number from.from from.own) from.inst from.inst.op) value → ⊥
      by (of_instruction names) =
          let same = offset_same functions index func called is pointers ready number from.from in
          let place_is = from.place_is in
          let within = slice_get_within from.own.insts from.from from.inst from.in_block in
          named_none value high number place undefined from.from from.own from.in_function (omega arith) (omega arith) from.inst names
          (λ one inside one_high clean.
          none_undefined (text_place func number from.from) one number from.from
          (by_line number from.from one from.inst (record { block = from.own; in_function = from.in_function; in_block = from.in_block })
          (no_phi_here number place line from no_phi (is_phi from.inst.op) refl) inside) one_high clean)
      by (of_line_before first last group named index_is value_is_before) =
          let within = slice_get_within from.own.insts from.from from.inst from.in_block in
          let there = group_defines functions index func called is pointers ready number from.from from.own from.inst from.in_function from.in_block [] (last ∷ []) first group named in
          let next_is = value_there functions index func called is pointers ready number from.from from.own from.in_function (omega arith) in
          let number_is : inserted_number func (derived_marks func) (number_at func (text_place func number from.from)) + 0 ≡ value =
          (let zero_is : inserted_number func (derived_marks func) (number_at func (text_place func number from.from)) + 0 ≡ inserted_number func (derived_marks func) (number_at func (text_place func number from.from)) =
          omega arith in
          zero_is ∙ (ap (inserted_number func (derived_marks func)) (sym next_is) ∙ sym value_is_before)) in
          let place_is : place ≡ suc (offset functions index func called is pointers ready number from.from + 0) = (let at = from.place_is in omega arith) in
          last_defines_none (based func) value number place undefined (offset functions index func called is pointers ready number from.from + 0) place_is
          (subst (λ (v : ℕ). Defines (based func) v number (offset functions index func called is pointers ready number from.from + 0)) number_is there)

  at_phi : (number place entry value : ℕ) (phi : Instruction) (operand : Operand) (label : BlockId) (block : BasicBlock) → Stands (based func) number place phi → is_phi phi.op ≡ true
      → slice_get phi.labels entry ≡ Some label → slice_get phi.operands entry ≡ Some operand → value_in operand ≡ Some value → slice_get (based func).blocks label.0 ≡ Some block → length func.args ≤ value
      → Undefined (based func) value label.0 (length block.insts) → ⊥
  at_phi number place entry value phi operand label block stands one label_at operand_at value_at found high undefined =
      by (merge_of_line func (derived_marks func) (next_of number from.from from.own) from.inst from.nth phi from.in_group (ap is_merge (phi_is phi.op one)))
    where
      from : SourceOf number place phi
      from = stands_for number place phi stands

      source_stands : Stands func number from.from from.inst
      source_stands = record { block = from.own; in_function = from.in_function; in_block = from.in_block }

      -- at the end of the block of the label
      end : (own : BasicBlock) × (slice_get func.blocks label.0 ≡ Some own) × (expands.offset label.0 (length own.insts) ≡ length block.insts)
      end = expands.found label.0 block found

      no_use : (used : ℕ) (source : Operand) → is_phi from.inst.op ≡ true → slice_get from.inst.labels entry ≡ Some label → slice_get from.inst.operands entry ≡ Some source → value_in source ≡ Some used
          → length func.args ≤ used → Undefined func used label.0 (length end.0.insts) → ⊥
      no_use used source is_one at_label at_operand at_value used_above clean =
          none_undefined (text_place func number from.from) used label.0 (length end.0.insts)
          (by_entry number from.from entry used from.inst source label end.0 source_stands is_one at_label at_operand at_value end.1) used_above clean

      kept : phi ≡ kept_line func (derived_marks func) from.inst → ⊥
      kept same =
          let source = map_back (renumbered func (derived_marks func)) from.inst.operands entry operand (ap (λ (i : Instruction). slice_get i.operands entry) (sym same) ∙ operand_at) in
          let used = in_now source.before value (sym (ap value_in source.is) ∙ value_at) in
          let last = end.2 in
          no_use used.0 source.before (ap (λ (i : Instruction). is_phi i.op) (sym same) ∙ one) (ap (λ (i : Instruction). slice_get i.labels entry) (sym same) ∙ label_at) source.stands used.1
          (now_high value used.0 high used.2)
          (none_here func (based func) (new_number func (derived_marks func)) expands used.0 label.0 (length block.insts)
          (subst (λ (v : ℕ). Undefined (based func) v label.0 (length block.insts)) used.2 undefined) (length end.0.insts) end.0 end.1 (omega arith) (omega arith))

      over_value : (source : Operand) (used : ValueId) → source ≡ operands.Value used → base_of func (derived_marks func) source ≡ operands.Value (record { 0 = value }) → is_phi from.inst.op ≡ true
          → slice_get from.inst.labels entry ≡ Some label → slice_get from.inst.operands entry ≡ Some source → ⊥
      over_value source used is_used based_on is_one at_label at_operand =
          let used_base : base used.0 ≡ operands.Value (record { 0 = value }) = sym (ap (base_of func (derived_marks func)) is_used) ∙ based_on in
          let last = end.2 in
          no_use used.0 source is_one at_label at_operand (ap value_in is_used) (used_high value used.0 high used_base)
          (one_undefined value label.0 (length block.insts) undefined (base_none value high label.0 (length block.insts) undefined) used.0 used_base (length end.0.insts) end.0 end.1 (omega arith) (omega arith))

      over_bases : phi ≡ base_line func (derived_marks func) (next_of number from.from from.own) from.inst → ⊥
      over_bases same =
          let is_one : is_phi from.inst.op ≡ true = ap (λ (i : Instruction). is_phi i.op) (sym same) ∙ one in
          let all_at_entry : slice_get (merged_bases (insertion func (derived_marks func)) from.inst.op from.inst.operands) entry ≡ Some operand =
          ap (λ (i : Instruction). slice_get i.operands entry) (sym same) ∙ operand_at in
          let bases : slice_get (map (base_of func (derived_marks func)) from.inst.operands) entry ≡ Some operand =
          ap (λ (op : Op). slice_get (merged_bases (insertion func (derived_marks func)) op from.inst.operands) entry) (sym (phi_is from.inst.op is_one)) ∙ all_at_entry in
          let source = map_back (base_of func (derived_marks func)) from.inst.operands entry operand bases in
          let based_on : base_of func (derived_marks func) source.before ≡ operands.Value (record { 0 = value }) = sym source.is ∙ in_value operand value value_at in
          let used = value_of_base func (derived_marks func) source.before (record { 0 = value }) based_on in
          over_value source.before used.0 used.1 based_on is_one (ap (λ (i : Instruction). slice_get i.labels entry) (sym same) ∙ label_at) source.stands

      by : MergeLine func (derived_marks func) (next_of number from.from from.own) from.inst from.nth phi → ⊥
      by (inserted_one kind merges same first) = over_bases same
      by (behind_inserted kind merges same second) = kept same
      by (alone_one kind unmerged same first) = kept same

  pub based_none : NoneUndefined (based func)
  based_none _ _ _ _ (by_line number place value line stands no_phi used) = λ high undefined. at_line number place value line stands no_phi used high undefined
  based_none _ _ _ _ (by_entry number place entry value phi operand label block stands one label_at operand_at value_at found) =
      λ high undefined. at_phi number place entry value phi operand label block stands one label_at operand_at value_at found high undefined

  pub based_definite : UsesAreDefinite (based func)
  based_definite line value number place usage path leads = elim (cases_lt value (length func.args)) [
    | inl below ↦ in_arguments below
    | inr above ↦
        let here = use_within (based func) line value number place usage in
        elim (meets_or_not (based func) value path number place here.0 leads here.1 here.2) [ inl meets ↦ meets | inr undefined ↦ absurd (based_none line value number place usage above undefined) ]
  ]
