-- Where the base isn't defined, what is derived from it isn't; so it is undefined after each definition of its base.
use Rattle.std.proofs.Common.{◌≡◌, ℕ, zero, suc, ◌+◌, ◌≤◌, true, false, [], ◌∷◌, ◌++◌, length, map, refl, sym, ap, subst, ◌∙◌, ◌⊎◌, inl, inr, arith}
use Rattle.std.specs.Prelude.{Some, slice_get}
use Rattle.std.specs.List.{All, Contains}
use Rattle.std.proofs.lemmas.Bool.{cases_eq}
use Rattle.std.proofs.lemmas.Option.{slice_get_within}
use Rattle.std.proofs.lemmas.List.{length-append}
use Rattle.list_laws.proofs.Places.{filter_map_forth, get_front, get_middle, get_past, get_some}
use Rattle.list_laws.proofs.Contents.{all_at, contains_get}
use Rattle.sp_ids.specs.declared.ids.ValueId.{ValueId}
use Rattle.ir_ast.specs.declared.ops.Op.{Op}
use Rattle.ir_ast.specs.declared.ops.Op.TheVariants as ops
use Rattle.ir_ast.specs.declared.ops.Operand.{Operand}
use Rattle.ir_ast.specs.declared.ops.Operand.TheVariants.{Value}
use Rattle.ir_ast.specs.Insts.{Instruction}
use Rattle.ir_ast.specs.Blocks.{BasicBlock, EndsAtTerminator}
use Rattle.ir_ast.specs.Funcs.{Function, instructions_of}
use Rattle.ir_ast.specs.Ops.{is_terminator}
use Rattle.ir_ast.specs.Operands.{operands_of, value_in, values_used}
use Rattle.ir_ast.specs.Values.{Gives, outcome}
use Rattle.ir_ast.specs.Derived.{is_merge, is_step}
use Rattle.ir_ast.specs.Bases.{Base, HasBases, MergesAsIn, of_itself, of_merge, of_null, of_step}
use Rattle.ir_ast.specs.Faults.GroupShape.{number_at}
use Rattle.ir_ast.specs.Faults.PhiEdges.{is_phi}
use Rattle.ir_ast.proofs.BaseLemmas.{same_instruction}
use Rattle.ir_cfg.specs.DefiniteUses.{Defines, Stands, Uses, by_line, text_place}
use Rattle.definite_assign.proofs.TextLemmas.{stands_in_text, text_next}
use Rattle.base_definite.specs.Comings.{DefinedSince, just_now, over_edge, past_line}
use Rattle.base_definite.specs.Paths.{BasesStay, HasDefiniteBases}
use Rattle.base_definite.proofs.base_paths.GivesLaws.{defines_gives, given_high, given_named, gives_at, one_text_place, one_value, stands_one}
use Rattle.base_definite.proofs.base_paths.UndefinedLaws.{Undefined, at_first, behind_edge, behind_line, first_time, last_defines_none, undefined_unused}
use Rattle.ir_ast.proofs.OpLaws.{merge_goes_on}

-- ---- how a pointer has a base

-- what has a value for its base is a value
pointer_of : {func : Function} {merged : ℕ → ValueId} (pointer base : Operand) → Base func merged pointer base → (value : ValueId) → base ≡ Value value
    → (found : ValueId) × (pointer ≡ Value found)
pointer_of _ _ of_null value is = absurd cc
pointer_of _ _ (of_itself own none) value is = (own, refl)
pointer_of _ _ (of_step own inst pointer base gives step first rest) value is = (own, refl)
pointer_of _ _ (of_merge own inst gives merge derived) value is = (own, refl)

-- a pointer that isn't its own base steps from one with that base, or merges several
pub record StepsFrom (func : Function) (merged : ℕ → ValueId) (pointer base : ValueId) : Type 0 where
  pub inst : Instruction
  pub gives : Gives func pointer.0 inst
  pub step : is_step inst.op ≡ true
  pub from : ValueId
  pub first : slice_get inst.operands 0 ≡ Some (Value from)
  pub rest : Base func merged (Value from) (Value base)

pub record Merges (func : Function) (merged : ℕ → ValueId) (pointer base : ValueId) : Type 0 where
  pub inst : Instruction
  pub gives : Gives func pointer.0 inst
  pub merge : is_merge inst.op ≡ true
  pub line : Instruction
  pub as_in : MergesAsIn func merged pointer.0 inst line
  pub is : (merged pointer.0).0 ≡ base.0

same_value : (one other : ValueId) → Value one ≡ Value other → one.0 ≡ other.0
same_value one other is = let same : one ≡ other = cc in ap (λ id. id.0) same

steps_or_merges : {func : Function} {merged : ℕ → ValueId} → HasBases func merged → (one two : Operand) → Base func merged one two → (pointer base : ValueId) → one ≡ Value pointer → two ≡ Value base
    → (pointer.0 ≡ base.0 → ⊥) → StepsFrom func merged pointer base ⊎ Merges func merged pointer base
steps_or_merges bases _ _ of_null pointer base is_pointer is_base apart = absurd cc
steps_or_merges bases _ _ (of_itself own none) pointer base is_pointer is_base apart = absurd (apart (same_value pointer base (sym is_pointer ∙ is_base)))
steps_or_merges {func} {merged} bases _ _ (of_step own inst from two gives step first rest) pointer base is_pointer is_base apart =
    let same : own ≡ pointer = cc in
    let found = pointer_of from two rest base is_base in
    inl (record {
      inst = inst;
      gives = subst (λ (id : ValueId). Gives func id.0 inst) same gives;
      step = step;
      from = found.0;
      first = first ∙ ap (λ o. Some o) found.1;
      rest = subst (λ (o : Operand). Base func merged o (Value base)) found.1 (subst (Base func merged from) is_base rest);
    })
steps_or_merges {func} {merged} bases _ _ (of_merge own inst gives merge derived) pointer base is_pointer is_base apart =
    let same : own ≡ pointer = cc in
    inr (record {
      inst = inst;
      gives = subst (λ (id : ValueId). Gives func id.0 inst) same gives;
      merge = merge;
      line = bases.inserted own.0;
      as_in = subst (λ (id : ValueId). MergesAsIn func merged id.0 inst (bases.inserted own.0)) same (bases.each own.0 inst gives merge derived);
      is = ap (λ (id : ValueId). (merged id.0).0) (sym same) ∙ same_value (merged own.0) base is_base;
    })

step_is_no_phi : (op : Op) → is_step op ≡ true → is_phi op ≡ false
step_is_no_phi (ops.Gep elem width place) step = refl
step_is_no_phi op step = absurd cc

operand_used : (inst : Instruction) (value : ValueId) → slice_get inst.operands 0 ≡ Some (Value value) → Contains (values_used inst) value.0
operand_used inst value first =
    let at = get_front inst.operands (map (λ entry. entry.1) inst.bundle) 0 (Value value) first in
    let there = filter_map_forth value_in (operands_of inst) 0 (Value value) value.0 at refl in
    contains_get (values_used inst) there.0 value.0 there.1

-- ---- the line before a merge

-- the end of the text of a block is its terminator
pub last_of_block : (func : Function) → All (λ block. EndsAtTerminator block.insts) func.blocks → (number : ℕ) (block : BasicBlock) → slice_get func.blocks number ≡ Some block
    → (place : ℕ) × (length block.insts ≡ place + 1) × ((inst : Instruction) → Stands func number place inst → is_terminator inst.op ≡ true)
last_of_block func ends number block found =
    let ended = all_at (λ (each : BasicBlock). EndsAtTerminator each.insts) func.blocks number block ends found in
    let long = length-append ended.before (ended.last ∷ []) in
    let whole = ap length ended.whole in
    let here : slice_get block.insts (length ended.before) ≡ Some ended.last = ap (λ insts. slice_get insts (length ended.before)) ended.whole ∙ get_middle ended.before ended.last [] in (
      length ended.before,
      omega arith,
      λ inst stands.
          let same = stands_one func number (length ended.before) inst ended.last stands (record { block = block; in_function = found; in_block = here }) in
          ap (λ i. is_terminator i.op) same ∙ ended.ends,
    )

-- what stands directly before a place in the text stands before it in its block, if it is no terminator
pub text_before : (func : Function) → All (λ block. EndsAtTerminator block.insts) func.blocks → (number place : ℕ) (inst : Instruction) → Stands func number place inst
    → (line : Instruction) (at : ℕ) → slice_get (instructions_of func.blocks) at ≡ Some line → is_terminator line.op ≡ false → suc at ≡ text_place func number place
    → (before : ℕ) × (place ≡ suc before) × Stands func number before line
text_before func ends number (suc before) inst stands line at there goes_on next =
    let some = get_some stands.block.insts before (let within = slice_get_within stands.block.insts (suc before) inst stands.in_block in omega arith) in
    let stands_before : Stands func number before some.0 = record { block = stands.block; in_function = stands.in_function; in_block = some.1 } in
    let in_text = stands_in_text func number before some.0 stands_before in
    let same_place : at ≡ text_place func number before = omega arith in
    let both : Some line ≡ Some some.0 = sym there ∙ (ap (slice_get (instructions_of func.blocks)) same_place ∙ in_text) in
    let same : line ≡ some.0 = cc in
    (before, refl, subst (λ (i : Instruction). Stands func number before i) (sym same) stands_before)
text_before func ends zero zero inst stands line at there goes_on next = absurd (omega arith)
text_before func ends (suc number) zero inst stands line at there goes_on next =
    let some = get_some func.blocks number (let within = slice_get_within func.blocks (suc number) stands.block stands.in_function in omega arith) in
    let last = last_of_block func ends number some.0 some.1 in
    let further = text_next func number some.0 some.1 in
    let found = get_some some.0.insts last.0 (let long = last.1 in omega arith) in
    let stands_last : Stands func number last.0 found.0 = record { block = some.0; in_function = some.1; in_block = found.1 } in
    let in_text = stands_in_text func number last.0 found.0 stands_last in
    let number_is : number + 1 ≡ suc number = omega arith in
    let start : text_place func (suc number) 0 ≡ text_place func number 0 + length some.0.insts = ap (λ n. text_place func n 0) (sym number_is) ∙ further in
    let same_place : at ≡ text_place func number last.0 = let long = last.1 in omega arith in
    let both : Some line ≡ Some found.0 = sym there ∙ (ap (slice_get (instructions_of func.blocks)) same_place ∙ in_text) in
    let same : line ≡ found.0 = cc in
    let ends_here : is_terminator line.op ≡ true = ap (λ i. is_terminator i.op) same ∙ last.2 found.0 stands_last in
    absurd cc

-- the base of a merge is defined directly before it
merge_before : (func : Function) (merged : ℕ → ValueId) → HasDefiniteBases func merged → (pointer base : ValueId) → Merges func merged pointer base
    → (number place : ℕ) → Defines func pointer.0 number place → (before : ℕ) × (place ≡ suc before) × Defines func base.0 number before
merge_before func merged has pointer base merges number place defines =
    let beside = (merges.as_in).beside in
    let whole = beside.2 in
    let line_at : slice_get (instructions_of func.blocks) (length beside.0) ≡ Some merges.line =
    ap (λ insts. slice_get insts (length beside.0)) whole ∙ get_middle beside.0 merges.line (merges.inst ∷ beside.1) in
    let next_place : length beside.0 + 1 ≡ suc (length beside.0) = omega arith in
    let inst_at : slice_get (instructions_of func.blocks) (suc (length beside.0)) ≡ Some merges.inst =
    ap (λ insts. slice_get insts (suc (length beside.0))) whole
    ∙ (ap (λ n. slice_get (beside.0 ++ merges.line ∷ merges.inst ∷ beside.1) n) (sym next_place) ∙ get_past beside.0 (merges.line ∷ merges.inst ∷ beside.1) 1) in
    let named = given_named func pointer.0 merges.inst merges.gives in
    let number_is = one_value func has.names (number_at func (suc (length beside.0))) pointer.0 (outcome merges.inst)
    (gives_at func (suc (length beside.0)) merges.inst inst_at named) merges.gives in
    let at = one_text_place func (suc (length beside.0)) (text_place func number place) merges.inst defines.inst inst_at
    (stands_in_text func number place defines.inst defines.stands) named defines.named (number_is ∙ sym defines.numbered) in
    let goes_on : is_terminator (merges.line).op ≡ false = ap is_terminator (merges.as_in).op ∙ merge_goes_on (merges.inst).op merges.merge in
    let found = text_before func has.ends number place defines.inst defines.stands merges.line (length beside.0) line_at goes_on at in
    let line_named = given_named func (merged pointer.0).0 merges.line (merges.as_in).given in
    let line_number = one_value func has.names (number_at func (text_place func number found.0)) (merged pointer.0).0 (outcome merges.line)
    (gives_at func (text_place func number found.0) merges.line (stands_in_text func number found.0 merges.line found.2) line_named) (merges.as_in).given in
    (found.0, found.1, record { inst = merges.line; stands = found.2; named = line_named; numbered = line_number ∙ merges.is })

-- what isn't its own base is no argument
pub derived_high : (func : Function) (merged : ℕ → ValueId) → HasBases func merged → (pointer base : ValueId) → Base func merged (Value pointer) (Value base) → (pointer.0 ≡ base.0 → ⊥)
    → length func.args ≤ pointer.0
derived_high func merged bases pointer base based apart = elim (steps_or_merges bases (Value pointer) (Value base) based pointer base refl refl apart) [
  | inl steps ↦ given_high func pointer.0 steps.inst steps.gives
  | inr merges ↦ given_high func pointer.0 merges.inst merges.gives
]

-- ---- where the base isn't defined

module _ (func : Function) (merged : ℕ → ValueId) (has : HasDefiniteBases func merged) (base : ValueId) (high : length func.args ≤ base.0) where
  abbrev AllUndefined : ℕ → ℕ → Type 0
  AllUndefined block place =
      (pointer : ValueId) → Base func merged (Value pointer) (Value base) → (pointer.0 ≡ base.0 → ⊥) → Undefined func pointer.0 block place

  no_step : (block place : ℕ) → Undefined func base.0 block place → AllUndefined block place → (pointer : ValueId) → StepsFrom func merged pointer base
      → Defines func pointer.0 block place → ⊥
  no_step block place undefined others pointer steps defines =
      let same = same_instruction func pointer.0 steps.inst defines.inst steps.gives (defines_gives func pointer.0 block place defines) in
      let stands = subst (λ (i : Instruction). Stands func block place i) (sym same) defines.stands in
      let used = by_line block place (steps.from).0 steps.inst stands (step_is_no_phi (steps.inst).op steps.step) (operand_used steps.inst steps.from steps.first) in
      elim (cases_eq (steps.from).0 base.0) [
        | inl is ↦
            undefined_unused func has.definite base.0 high (text_place func block place) block place
            (subst (λ (v : ℕ). Uses func (text_place func block place) v block place) is used) undefined
        | inr apart ↦
            undefined_unused func has.definite (steps.from).0 (derived_high func merged has.bases steps.from base steps.rest apart) (text_place func block place) block place used
            (others steps.from steps.rest apart)
      ]

  no_definition : (block place : ℕ) → Undefined func base.0 block place → AllUndefined block place
      → (pointer : ValueId) → Base func merged (Value pointer) (Value base) → (pointer.0 ≡ base.0 → ⊥) → Defines func pointer.0 block place → ⊥
  no_definition block place undefined others pointer based apart defines =
      elim (steps_or_merges has.bases (Value pointer) (Value base) based pointer base refl refl apart) [
        | inl steps ↦ no_step block place undefined others pointer steps defines
        | inr merges ↦
            let before = merge_before func merged has pointer base merges block place defines in
            last_defines_none func base.0 block place undefined before.0 before.1 before.2
      ]

  -- what is derived from it isn't defined either
  pub base_first : (block place : ℕ) → Undefined func base.0 block place → AllUndefined block place
  base_first _ _ at_first = λ pointer based apart. at_first
  base_first _ _ (behind_line block place inst before stands none) =
      let others = base_first block place before in
      λ pointer based apart. behind_line block place inst (others pointer based apart) stands (no_definition block place before others pointer based apart)
  base_first _ _ (behind_edge from to block before found edge) =
      let others = base_first from (length block.insts) before in
      λ pointer based apart. behind_edge from to block (others pointer based apart) found edge

since_undefined : (func : Function) (merged : ℕ → ValueId) → HasDefiniteBases func merged → (pointer base : ValueId) → Base func merged (Value pointer) (Value base) → (pointer.0 ≡ base.0 → ⊥)
    → (block place : ℕ) → DefinedSince func base.0 pointer.0 block place → Undefined func pointer.0 block place
since_undefined func merged has pointer base based apart _ _ (just_now block place comes defines none) =
    let high = given_high func base.0 defines.inst (defines_gives func base.0 block place defines) in
    behind_line block place defines.inst (base_first func merged has base high block place (first_time func base.0 block place defines comes) pointer based apart) defines.stands none
since_undefined func merged has pointer base based apart _ _ (past_line block place inst before stands none) =
    behind_line block place inst (since_undefined func merged has pointer base based apart block place before) stands none
since_undefined func merged has pointer base based apart _ _ (over_edge from to block before found edge) =
    behind_edge from to block (since_undefined func merged has pointer base based apart from (length block.insts) before) found edge

pub bases_stay : BasesStay
bases_stay func merged has pointer base based apart line block place used since =
    undefined_unused func has.definite pointer.0 (derived_high func merged has.bases pointer base based apart) line block place used
    (since_undefined func merged has pointer base based apart block place since)
