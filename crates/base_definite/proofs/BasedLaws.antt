-- Bases and checks expand a function: the lines for an instruction end with the one that gives its value.
use Rattle.std.proofs.Common.{◌≡◌, ℕ, zero, suc, ◌+◌, ◌<◌, ◌≤◌, Bool, true, false, ◌&&◌, ◌||◌, if◌then◌else◌, List, [], ◌∷◌, ◌++◌, length, take, drop, refl, sym, ap, subst, ◌∙◌, append_assoc, append-nil, arith}
use Rattle.std.specs.Prelude.{Option, Some, None, is_some, slice_get}
use Rattle.std.specs.List.{All}
use Rattle.std.specs.Option.{option_map, option_map_or}
use Rattle.std.proofs.lemmas.List.{length-append}
use Rattle.std.proofs.lemmas.Option.{slice_get_within}
use Rattle.list_laws.proofs.Places.{get_some, split_at, get_middle, take_whole, take_front_of}
use Rattle.ir_ast.specs.declared.ops.Pred.{Pred}
use Rattle.ir_ast.specs.declared.ops.Pred.TheVariants as preds
use Rattle.ir_ast.specs.declared.ops.Op.{Op}
use Rattle.ir_ast.specs.declared.ops.Op.TheVariants as ops
use Rattle.ir_ast.specs.Insts.{Instruction}
use Rattle.ir_ast.specs.Blocks.{BasicBlock}
use Rattle.ir_ast.specs.Derived.{is_merge}
use Rattle.ir_ast.specs.Funcs.{Function, instructions_of}
use Rattle.ir_ast.specs.Values.{Gives, outcome}
use Rattle.ir_ast.specs.Faults.GroupShape.{number_at}
use Rattle.ir_cfg.specs.DefiniteUses.{Defines, text_place}
use Rattle.object_meaning.specs.Lines.{after_all, following, insts_in}
use Rattle.object_meaning.proofs.LineLaws.{after_append}
use Rattle.base_forms.specs.DerivedMarks.{derived_marks, uses_marked}
use Rattle.base_forms.specs.Inserted.{has_inserted, inserted_number, is_merged, is_unequal, new_number}
use Rattle.base_forms.specs.Lines.{operand_at}
use Rattle.base_forms.specs.Based.{base_line, based, based_blocks, based_insts, check, compared, kept_line, lines_for, negation, same_call}
use Rattle.renaming_laws.specs.Renamed.{Renaming}
use Rattle.definite_assign.proofs.TextLemmas.{stands_in_text}
use Rattle.base_definite.proofs.base_paths.GivesLaws.{defines_gives}
use Rattle.base_laws.proofs.TypeLaws.{MarksPointers}
use Rattle.base_laws.proofs.NumberLaws.{number_alone, number_behind, renaming_of}
use Rattle.base_laws.proofs.LineLaws.{IsReady}
use Rattle.base_laws.proofs.FormLaws.{based_append, edges_based}
use Rattle.base_definite.proofs.base_relations.GroupLaws.{start_number, text_now, value_is}
use Rattle.base_definite.proofs.base_relations.ValueLaws.{merged_false, merged_true}
use Rattle.base_definite.proofs.CutLaws.{number_cut, results_append, results_in, take_next, text_take}
use Rattle.base_definite.proofs.ExpandLaws.{Expands}

-- ---- how the lines for an instruction end

pub record GroupEnd (func : Function) (marks : List Bool) (inst : Instruction) (group : List Instruction) : Type 0 where
  pub front : List Instruction
  pub last : Instruction
  pub whole : group ≡ front ++ last ∷ []
  pub result : last.result ≡ inst.result
  pub count : results_in front ≡ (if has_inserted marks (outcome inst) then 1 else 0)

module _ (func : Function) (marks : List Bool) (value : ℕ) (inst : Instruction) where
  test_as : (op : Op) → inst.op ≡ op → has_inserted marks (outcome inst) ≡ (is_merge op && uses_marked marks inst) || (is_unequal op && uses_marked marks inst)
  test_as op is = ap (λ (each : Op). (is_merge each && uses_marked marks inst) || (is_unequal each && uses_marked marks inst)) is

  ends_with : (front : List Instruction) (last : Instruction) → last.result ≡ inst.result → (b : Bool) → has_inserted marks (outcome inst) ≡ b → results_in front ≡ (if b then 1 else 0)
      → GroupEnd func marks inst (front ++ last ∷ [])
  ends_with front last result b test count = record {
    front = front;
    last = last;
    whole = refl;
    result = result;
    count = count ∙ sym (ap (λ (t : Bool). if t then 1 else 0) test);
  }

  merged_ends : (op : Op) → inst.op ≡ op → is_merge op ≡ true → is_unequal op ≡ false → GroupEnd func marks inst (lines_for func marks value inst op)
  merged_ends op is kind unequal = by (is_merged marks inst) refl
    where
      test_is : (b : Bool) → is_merged marks inst ≡ b → has_inserted marks (outcome inst) ≡ b || false
      test_is b merges =
          ap (λ t. t || (is_unequal inst.op && uses_marked marks inst)) merges
          ∙ ap (λ t. b || (t && uses_marked marks inst)) (ap is_unequal is ∙ unequal)

      by : (b : Bool) → is_merged marks inst ≡ b → GroupEnd func marks inst (lines_for func marks value inst op)
      by true merges =
          subst (GroupEnd func marks inst) (sym (merged_true func marks value inst op is kind merges))
          (ends_with (base_line func marks value inst ∷ []) (kept_line func marks inst) refl true (test_is true merges) refl)
      by false merges =
          subst (GroupEnd func marks inst) (sym (merged_false func marks value inst op is kind merges)) (ends_with [] (kept_line func marks inst) refl false (test_is false merges) refl)

  compared_ends : (pred : Pred) → inst.op ≡ ops.Icmp pred → uses_marked marks inst ≡ true → GroupEnd func marks inst (compared func marks value inst pred)
  compared_ends preds.Eq is used = ends_with [] (same_call func marks inst.result (operand_at inst 0) (operand_at inst 1)) refl false (test_as (ops.Icmp preds.Eq) is) refl
  compared_ends preds.Ne is used = ends_with (same_call func marks (Some _) (operand_at inst 0) (operand_at inst 1) ∷ []) (negation func marks value inst) refl true (test_as (ops.Icmp preds.Ne) is ∙ used) refl
  compared_ends pred is used = ends_with [] (kept_line func marks inst) refl false (test_as (ops.Icmp pred) is) refl

  none_used : (a b : Bool) → (a && false) || (b && false) ≡ false
  none_used true true = refl
  none_used true false = refl
  none_used false true = refl
  none_used false false = refl

  group_end : (op : Op) → inst.op ≡ op → GroupEnd func marks inst (lines_for func marks value inst op)
  group_end ops.Phi is = merged_ends ops.Phi is refl refl
  group_end ops.Select is = merged_ends ops.Select is refl refl
  group_end (ops.Icmp pred) is = by (uses_marked marks inst) refl
    where
      by : (b : Bool) → uses_marked marks inst ≡ b → GroupEnd func marks inst (if b then compared func marks value inst pred else kept_line func marks inst ∷ [])
      by true used = compared_ends pred is used
      by false unused =
          ends_with [] (kept_line func marks inst) refl false
          (test_as (ops.Icmp pred) is ∙ (ap (λ (t : Bool). (is_merge (ops.Icmp pred) && t) || (is_unequal (ops.Icmp pred) && t)) unused ∙ none_used (is_merge (ops.Icmp pred)) (is_unequal (ops.Icmp pred)))) refl
  group_end ops.Load is = ends_with (check func marks inst (operand_at inst 0) ∷ []) (kept_line func marks inst) refl false (test_as ops.Load is) refl
  group_end ops.Store is = ends_with (check func marks inst (operand_at inst 1) ∷ []) (kept_line func marks inst) refl false (test_as ops.Store is) refl
  group_end op is = ends_with [] (kept_line func marks inst) refl false (test_as op is) refl

  pub ends_so : GroupEnd func marks inst (lines_for func marks value inst inst.op)
  ends_so = group_end inst.op refl

-- ---- blocks

module _ (func : Function) (marks : List Bool) where
  take_based : (next number : ℕ) (blocks : List BasicBlock) → take number (based_blocks func marks next blocks) ≡ based_blocks func marks next (take number blocks)
  take_based next zero blocks = refl
  take_based next (suc number) [] = refl
  take_based next (suc number) (block ∷ blocks) =
      ap (λ rest. record block { insts = based_insts func marks next block.insts } ∷ rest) (take_based (after_all next block.insts) number blocks)

  block_at_based : (next number : ℕ) (blocks : List BasicBlock) → slice_get (based_blocks func marks next blocks) number
      ≡ option_map (λ (block : BasicBlock). record block { insts = based_insts func marks (after_all next (instructions_of (take number blocks))) block.insts }) (slice_get blocks number)
  block_at_based next number [] = refl
  block_at_based next zero (block ∷ blocks) = refl
  block_at_based next (suc number) (block ∷ blocks) =
      block_at_based (after_all next block.insts) number blocks
      ∙ ap (λ n. option_map (λ (b : BasicBlock). record b { insts = based_insts func marks n b.insts }) (slice_get blocks number)) (sym (after_append next block.insts (instructions_of (take number blocks))))

module _ (functions : ℕ → Renaming) (index : ℕ) (func : Function) (called : Bool) (is : functions index ≡ renaming_of called func) (pointers : MarksPointers func (derived_marks func))
    (ready : All (IsReady functions func) (instructions_of func.blocks)) where
  abbrev marks_here : List Bool
  marks_here = derived_marks func

  -- the next value at the start of a block
  abbrev pub first_value : ℕ → ℕ
  first_value number = after_all (length func.args) (instructions_of (take number func.blocks))

  abbrev pub lines_before : ℕ → ℕ → List Instruction
  lines_before number place = based_insts func (derived_marks func) (first_value number) (take place (insts_in func number))

  pub offset : ℕ → ℕ → ℕ
  offset number place = length (based_insts func (derived_marks func) (first_value number) (take place (insts_in func number)))

  pub based_at : (number : ℕ) (own : BasicBlock) → slice_get func.blocks number ≡ Some own
      → slice_get (based func).blocks number ≡ Some (record own { insts = based_insts func (derived_marks func) (first_value number) own.insts })
  based_at number own found =
      block_at_based func (derived_marks func) (length func.args) number func.blocks
      ∙ ap (option_map (λ (block : BasicBlock). record block { insts = based_insts func (derived_marks func) (first_value number) block.insts })) found

  insts_are : (number : ℕ) (block : BasicBlock) → slice_get func.blocks number ≡ Some block → insts_in func number ≡ block.insts
  insts_are number block found = ap (λ (here : Option BasicBlock). option_map_or (λ b. b.insts) here []) found

  abbrev pub value_here : ℕ → ℕ → BasicBlock → ℕ
  value_here number place block = after_all (first_value number) (take place block.insts)

  further : (number place : ℕ) (block : BasicBlock) (inst : Instruction) → slice_get block.insts place ≡ Some inst
      → based_insts func (derived_marks func) (first_value number) (take (suc place) block.insts)
      ≡ based_insts func (derived_marks func) (first_value number) (take place block.insts) ++ lines_for func (derived_marks func) (value_here number place block) inst inst.op
  further number place block inst at =
      ap (based_insts func (derived_marks func) (first_value number)) (take_next block.insts place inst at)
      ∙ (based_append func (derived_marks func) (first_value number) (take place block.insts) (inst ∷ [])
      ∙ ap (λ rest. based_insts func (derived_marks func) (first_value number) (take place block.insts) ++ rest) (append-nil (lines_for func (derived_marks func) (value_here number place block) inst inst.op)))

  pub offset_is : (number place : ℕ) (block : BasicBlock) → slice_get func.blocks number ≡ Some block → offset number place ≡ length (based_insts func (derived_marks func) (first_value number) (take place block.insts))
  unfolding offset
  offset_is number place block found = ap (λ insts. length (based_insts func (derived_marks func) (first_value number) (take place insts))) (insts_are number block found)

  next_offset : (number place : ℕ) (block : BasicBlock) (inst : Instruction) → slice_get func.blocks number ≡ Some block → slice_get block.insts place ≡ Some inst
      → offset number (suc place) ≡ offset number place + length (lines_for func (derived_marks func) (value_here number place block) inst inst.op)
  next_offset number place block inst found at =
      offset_is number (suc place) block found
      ∙ (ap length (further number place block inst at)
      ∙ (length-append (based_insts func (derived_marks func) (first_value number) (take place block.insts)) (lines_for func (derived_marks func) (value_here number place block) inst inst.op)
      ∙ ap (λ n. n + length (lines_for func (derived_marks func) (value_here number place block) inst inst.op)) (sym (offset_is number place block found))))

  offset_first : (number : ℕ) → offset number 0 ≡ 0
  unfolding offset
  offset_first number = refl

  offset_rises : (number place : ℕ) (block : BasicBlock) → slice_get func.blocks number ≡ Some block → place < length block.insts → offset number place < offset number (suc place)
  offset_rises number place block found within =
      let some = get_some block.insts place within in
      let next = next_offset number place block some.0 found some.1 in
      let end = ends_so func (derived_marks func) (value_here number place block) some.0 in
      let long = ap length end.whole ∙ length-append end.front (end.last ∷ []) in
      omega arith

  offset_found : (number : ℕ) (block : BasicBlock) → slice_get (based func).blocks number ≡ Some block
      → (own : BasicBlock) × (slice_get func.blocks number ≡ Some own) × (offset number (length own.insts) ≡ length block.insts)
  offset_found number block found = by (slice_get func.blocks number) refl
    where
      by : (here : Option BasicBlock) → slice_get func.blocks number ≡ here
          → (own : BasicBlock) × (slice_get func.blocks number ≡ Some own) × (offset number (length own.insts) ≡ length block.insts)
      by None none =
          let gone = block_at_based func (derived_marks func) (length func.args) number func.blocks
          ∙ ap (option_map (λ (b : BasicBlock). record b { insts = based_insts func (derived_marks func) (first_value number) b.insts })) none in
          let both : None ≡ Some block = sym gone ∙ found in
          absurd cc
      by (Some own) at =
          let both : Some (record own { insts = based_insts func (derived_marks func) (first_value number) own.insts }) ≡ Some block = sym (based_at number own at) ∙ found in
          let same : record own { insts = based_insts func (derived_marks func) (first_value number) own.insts } ≡ block = cc in (
            own,
            at,
            offset_is number (length own.insts) own at
                ∙ (ap (λ insts. length (based_insts func (derived_marks func) (first_value number) insts)) (take_whole own.insts) ∙ ap (λ (b : BasicBlock). length b.insts) same),
          )

  -- what a line of a group defines
  pub group_defines : (number place : ℕ) (own : BasicBlock) (inst : Instruction) → slice_get func.blocks number ≡ Some own → slice_get own.insts place ≡ Some inst
      → (front back : List Instruction) (line : Instruction) → lines_for func (derived_marks func) (value_here number place own) inst inst.op ≡ front ++ line ∷ back → is_some line.result ≡ true
      → Defines (based func) (inserted_number func (derived_marks func) (number_at func (text_place func number place)) + results_in front) number (offset number place + length front)
  group_defines number place own inst found at front back line group named =
      let before_it : List Instruction = based_insts func (derived_marks func) (first_value number) (take place own.insts) in
      let behind : List Instruction = based_insts func (derived_marks func) (following (value_here number place own) inst) (drop (place + 1) own.insts) in
      let block : BasicBlock = record own { insts = based_insts func (derived_marks func) (first_value number) own.insts } in
      let found_there = based_at number own found in
      let whole : block.insts ≡ (before_it ++ front) ++ line ∷ (back ++ behind) =
      ap (based_insts func (derived_marks func) (first_value number)) (split_at own.insts place inst at)
      ∙ (based_append func (derived_marks func) (first_value number) (take place own.insts) (inst ∷ drop (place + 1) own.insts)
      ∙ (ap (λ lines. before_it ++ (lines ++ behind)) group
      ∙ (ap (λ rest. before_it ++ rest) (append_assoc front (line ∷ back) behind) ∙ sym (append_assoc before_it front (line ∷ (back ++ behind)))))) in
      let place_is : offset number place + length front ≡ length (before_it ++ front) =
      ap (λ n. n + length front) (offset_is number place own found) ∙ sym (length-append before_it front) in
      let stands_there : slice_get block.insts (offset number place + length front) ≡ Some line =
      ap (slice_get block.insts) place_is ∙ (ap (λ insts. slice_get insts (length (before_it ++ front))) whole ∙ get_middle (before_it ++ front) line (back ++ behind)) in
      let inside = slice_get_within block.insts (offset number place + length front) line stands_there in
      let cut = number_cut (based func) number (offset number place + length front) block found_there (omega arith) in
      let front_is : take (offset number place + length front) block.insts ≡ before_it ++ front =
      ap (λ n. take n block.insts) place_is ∙ (ap (take (length (before_it ++ front))) whole ∙ take_front_of (before_it ++ front) (line ∷ (back ++ behind))) in
      let counted : results_in (take (offset number place + length front) block.insts) ≡ results_in before_it + results_in front =
      ap results_in front_is ∙ results_append before_it front in
      let earlier : results_in (instructions_of (take number (based func).blocks))
      ≡ results_in (based_insts func (derived_marks func) (length func.args) (instructions_of (take number func.blocks))) =
      ap (λ blocks. results_in (instructions_of blocks)) (take_based func (derived_marks func) (length func.args) number func.blocks)
      ∙ ap results_in (text_now func (length func.args) (take number func.blocks)) in
      let own_inside = slice_get_within own.insts place inst at in
      let text_at = stands_in_text func number place inst (record { block = own; in_function = found; in_block = at }) in
      let start = start_number func functions index called is pointers ready (text_place func number place) inst text_at in
      let text_is : take (text_place func number place) (instructions_of func.blocks) ≡ instructions_of (take number func.blocks) ++ take place own.insts =
      text_take func.blocks number place own found (omega arith) in
      let together : results_in (based_insts func (derived_marks func) (length func.args) (take (text_place func number place) (instructions_of func.blocks)))
      ≡ results_in (based_insts func (derived_marks func) (length func.args) (instructions_of (take number func.blocks))) + results_in before_it =
      ap (λ insts. results_in (based_insts func (derived_marks func) (length func.args) insts)) text_is
      ∙ (ap results_in (based_append func (derived_marks func) (length func.args) (instructions_of (take number func.blocks)) (take place own.insts))
      ∙ results_append (based_insts func (derived_marks func) (length func.args) (instructions_of (take number func.blocks))) before_it) in
      let value_same = ap (inserted_number func (derived_marks func)) (value_is func (text_place func number place)) in
      record {
        inst = line;
        stands = record { block = block; in_function = found_there; in_block = stands_there };
        named = named;
        numbered = cut ∙ omega arith;
      }

  pub value_there : (number place : ℕ) (own : BasicBlock) → slice_get func.blocks number ≡ Some own → place ≤ length own.insts → value_here number place own ≡ number_at func (text_place func number place)
  value_there number place own found within =
      sym (after_append (length func.args) (instructions_of (take number func.blocks)) (take place own.insts))
      ∙ (ap (after_all (length func.args)) (sym (text_take func.blocks number place own found within)) ∙ sym (value_is func (text_place func number place)))

  offset_defines : (value number place : ℕ) → Defines func value number place
      → (before : ℕ) × (offset number (suc place) ≡ suc before) × Defines (based func) (new_number func (derived_marks func) value) number before
  offset_defines value number place defines =
      let own = defines.stands.block in
      let inst = defines.inst in
      let end = ends_so func (derived_marks func) (value_here number place own) inst in
      let last_named : is_some end.last.result ≡ true = ap (λ (result : Option (List ℕ)). is_some result) end.result ∙ defines.named in
      let there = group_defines number place own inst defines.stands.in_function defines.stands.in_block end.front [] end.last end.whole last_named in
      let next = next_offset number place own inst defines.stands.in_function defines.stands.in_block in
      let long = ap length end.whole ∙ length-append end.front (end.last ∷ []) in
      let given = defines_gives func value number place defines in
      let number_same = ap (λ n. inserted_number func (derived_marks func) n + results_in end.front) defines.numbered in
      let value_is_now : inserted_number func (derived_marks func) value + results_in end.front ≡ new_number func (derived_marks func) value =
      by (has_inserted (derived_marks func) (outcome inst)) refl given end.count in (
        offset number place + length end.front,
        omega arith,
        subst (λ (v : ℕ). Defines (based func) v number (offset number place + length end.front)) (number_same ∙ value_is_now) there,
      )
    where
      by : (b : Bool) → has_inserted (derived_marks func) (outcome defines.inst) ≡ b → Gives func value defines.inst → {count : ℕ}
          → count ≡ (if has_inserted (derived_marks func) (outcome defines.inst) then 1 else 0) → inserted_number func (derived_marks func) value + count ≡ new_number func (derived_marks func) value
      by true test given is =
          let one = is ∙ ap (λ (t : Bool). if t then 1 else 0) test in
          let behind = number_behind func value (outcome defines.inst) given test in
          omega arith
      by false test given is =
          let none = is ∙ ap (λ (t : Bool). if t then 1 else 0) test in
          let alone = number_alone func value (outcome defines.inst) given test in
          omega arith

  pub expands_bases : Expands func (based func) (new_number func (derived_marks func))
  expands_bases = record {
    offset = offset;
    first = offset_first;
    rises = offset_rises;
    found = offset_found;
    defines = offset_defines;
    graph = edges_based func (derived_marks func) (length func.args) func.blocks;
  }

  pub offset_same : (number place : ℕ) → expands_bases.offset number place ≡ offset number place
  unfolding expands_bases
  offset_same number place = refl

  -- the base of a phi or select stands directly before it
  pub base_defines : (value number place : ℕ) (defines : Defines func value number place) → is_merge (defines.inst).op ≡ true → is_merged (derived_marks func) defines.inst ≡ true
      → (before : ℕ) × (offset number (suc place) ≡ suc (suc before)) × Defines (based func) (inserted_number func (derived_marks func) value) number before
  base_defines value number place defines kind merges =
      let own = defines.stands.block in
      let inst = defines.inst in
      let group = merged_true func (derived_marks func) (value_here number place own) inst inst.op refl kind merges in
      let there = group_defines number place own inst defines.stands.in_function defines.stands.in_block [] (kept_line func (derived_marks func) inst ∷ [])
      (base_line func (derived_marks func) (value_here number place own) inst) group refl in
      let next = next_offset number place own inst defines.stands.in_function defines.stands.in_block in
      let long = ap length group in
      let number_same = ap (λ n. inserted_number func (derived_marks func) n + 0) defines.numbered in
      let zero_is : inserted_number func (derived_marks func) value + 0 ≡ inserted_number func (derived_marks func) value = omega arith in (
        offset number place + 0,
        omega arith,
        subst (λ (v : ℕ). Defines (based func) v number (offset number place + 0)) (number_same ∙ zero_is) there,
      )
