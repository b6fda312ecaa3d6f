-- In a target module each result and relocate has a statepoint in its block.
use Rattle.std.proofs.Common.{◌≡◌, ◌∙◌, inl, inr, ℕ, zero, suc, ◌+◌, ◌-◌, ◌<◌, ◌≤◌, true, false, List, [], ◌∷◌, Option, Some, refl, ap, sym, subst, slice_get, length, arith, take}
use Rattle.std.specs.Prelude.{IfSome}
use Rattle.std.specs.List.{All}
use Rattle.std.proofs.lemmas.Bool.{false≢true, cases_Bool, cases_lt}
use Rattle.std.proofs.lemmas.List.{length-append}
use Rattle.std.proofs.lemmas.Option.{none-some, same_Some, slice_get_within}
use Rattle.list_laws.proofs.Places.{get_some, get_middle}
use Rattle.list_laws.proofs.Contents.{all_at}
use Rattle.ir_ast.specs.declared.modules.Form.{Form}
use Rattle.ir_ast.specs.declared.modules.Form.TheVariants.{Rewritten}
use Rattle.ir_ast.specs.declared.ops.Op.{Op}
use Rattle.ir_ast.specs.declared.ops.Op.TheVariants.{Statepoint, GcResult, GcRelocate}
use Rattle.ir_ast.specs.Insts.{Instruction}
use Rattle.ir_ast.specs.Blocks.{BasicBlock, EndsAtTerminator}
use Rattle.ir_ast.specs.Funcs.{Function, instructions_of}
use Rattle.ir_ast.specs.Modules.{ModuleContent}
use Rattle.ir_ast.specs.Ops.{is_terminator}
use Rattle.ir_ast.specs.Faultless.{FunctionHasNoFault, OfForm}
use Rattle.ir_ast.specs.Faults.GroupShape.{Group, GroupsInShape, ShapeOf, is_statepoint, is_part}
use Rattle.ir_cfg.specs.DefiniteUses.{Stands, text_place}
use Rattle.ir_cfg.specs.TypedModules.{IsTypedFunction}
use Rattle.ir_cfg.specs.TargetModules.{IsTargetModule}
use Rattle.definite_assign.proofs.TextLemmas.{stands_in_text, text_next}
use Rattle.object_meaning.specs.Frames.{is_member}
use Rattle.pair_facts.specs.Lines.{lines_at, line_in, head_at}
use Rattle.pair_facts.proofs.GroupLaws.{members_head}
use Rattle.fact_tables.proofs.NoteLemmas.{inst_at}
use Rattle.fact_tables.proofs.LineLemmas.{insts_are}
use Rattle.place_facts.specs.Before.{IsAskable}

-- ---- the instruction with a number

record IsFound (blocks : List BasicBlock) (number : ℕ) : Type 0 where
  block : ℕ
  place : ℕ
  found : BasicBlock
  inst : Instruction
  in_blocks : slice_get blocks block ≡ Some found
  in_block : slice_get found.insts place ≡ Some inst
  number_is : number ≡ length (instructions_of (take block blocks)) + place

find : (blocks : List BasicBlock) (number : ℕ) → number < length (instructions_of blocks) → IsFound blocks number
find [] number low = absurd (omega (arith, low))
find (first ∷ blocks) number low = elim (cases_lt number (length first.insts)) [
  | inl inside ↦ (let at = get_some first.insts number inside in
      record { block = 0; place = number; found = first; inst = at.0; in_blocks = refl; in_block = at.1; number_is = omega (arith, length_none) })
  | inr past ↦
      (let rest = find blocks (number - length first.insts) (omega (arith, low, past, length-append first.insts (instructions_of blocks))) in
      record {
        block = suc rest.block;
        place = rest.place;
        found = rest.found;
        inst = rest.inst;
        in_blocks = rest.in_blocks;
        in_block = rest.in_block;
        number_is = omega (arith, past, rest.number_is, length-append first.insts (instructions_of (take rest.block blocks)));
      })
]
  where
    length_none : length (instructions_of (take 0 (first ∷ blocks))) ≡ 0
    length_none = refl

-- ---- operators

part_member : (token : ℕ) (op : Op) (inst : Instruction) → is_part token (record inst { op = op }) ≡ true → is_member op ≡ true
part_member token GcResult inst is = refl
part_member token GcRelocate inst is = refl
part_member token op inst is = absurd (false≢true is)

terminator_apart : (op : Op) → is_terminator op ≡ true → (is_statepoint op ≡ false) × (is_member op ≡ false)
terminator_apart (Statepoint id callee types) is = absurd (false≢true is)
terminator_apart GcResult is = absurd (false≢true is)
terminator_apart GcRelocate is = absurd (false≢true is)
terminator_apart op is = (refl, refl)

-- a result or a relocate has a group
record HasGroup (func : Function) (place : ℕ) : Type 0 where
  token : ℕ
  group : Group func token place

has_group : (func : Function) (place : ℕ) (inst : Instruction) (op : Op) → is_member op ≡ true → ShapeOf func place inst op → HasGroup func place
has_group func place inst GcResult member shape = record { token = shape.token.0; group = shape.group }
has_group func place inst GcRelocate member shape = record { token = shape.token.0; group = shape.group }
has_group func place inst op member shape = absurd (false≢true member)

module _ (func : Function) (ends : All (λ (block : BasicBlock). EndsAtTerminator block.insts) func.blocks) (block place : ℕ) (inst : Instruction)
    (stands : Stands func block place inst) (token : ℕ) (group : Group func token (text_place func block place)) where
  between : (k : ℕ) (one : Instruction) → slice_get (instructions_of func.blocks) k ≡ Some one → group.head < k → k < text_place func block place
      → is_member one.op ≡ true
  between k one at low high =
      part_member token one.op one
      (subst (λ (found : Option Instruction). IfSome found (λ i. is_part token i ≡ true)) at (group.between k low high))

  -- the statepoint stands in the block, since the block before ends with a terminator
  start_low : text_place func block 0 ≤ group.head
  start_low = by block refl
    where
      by : (number : ℕ) → block ≡ number → text_place func block 0 ≤ group.head
      by zero first = (let none : text_place func block 0 ≡ 0 = ap (λ (n : ℕ). text_place func n 0) first in omega (arith, none))
      by (suc last) later = elim (cases_lt group.head (text_place func block 0)) [
        | inr past ↦ past
        | inl before ↦
            (let found = get_some func.blocks last (omega (arith, later, slice_get_within func.blocks block stands.block stands.in_function)) in
            let end = all_at (λ (one : BasicBlock). EndsAtTerminator one.insts) func.blocks last found.0 ends found.1 in
            let there : Stands func last (length end.before) end.last = record {
              block = found.0;
              in_function = found.1;
              in_block = ap (λ (xs : List Instruction). slice_get xs (length end.before)) end.whole ∙ get_middle end.before end.last [];
            } in
            let text = stands_in_text func last (length end.before) end.last there in
            let long : length found.0.insts ≡ length end.before + 1 = omega (arith, ap length end.whole, length-append end.before (end.last ∷ [])) in
            let next : text_place func block 0 ≡ text_place func (last + 1) 0 = (let same : block ≡ last + 1 = omega (arith, later) in ap (λ (n : ℕ). text_place func n 0) same) in
            let whole = text_next func last found.0 found.1 in
            let apart = terminator_apart end.last.op end.ends in
            elim (cases_lt group.head (text_place func last (length end.before))) [
              | inl under ↦ absurd (false≢true (sym apart.1 ∙ between (text_place func last (length end.before)) end.last text under (omega (arith, next, whole, long))))
              | inr over ↦
                  (let same : group.head ≡ text_place func last (length end.before) = omega (arith, before, over, next, whole, long) in
                  let one : group.statepoint ≡ end.last = same_Some group.statepoint end.last (sym group.stands ∙ ap (slice_get (instructions_of func.blocks)) same ∙ text) in
                  absurd (false≢true (sym apart.0 ∙ ap (λ (i : Instruction). is_statepoint i.op) (sym one) ∙ group.op)))
            ])
      ]

  in_lines : (at : ℕ) (one : Instruction) → slice_get stands.block.insts at ≡ Some one → (line_in (lines_at func block) at).inst ≡ one
  in_lines at one is = inst_at func block at one (ap (λ (xs : List Instruction). slice_get xs at) (insts_are func block stands.block stands.in_function) ∙ is)

  in_text : (at : ℕ) (one : Instruction) → slice_get stands.block.insts at ≡ Some one → slice_get (instructions_of func.blocks) (text_place func block at) ≡ Some one
  in_text at one is = stands_in_text func block at one (record { block = stands.block; in_function = stands.in_function; in_block = is })

  grouped : is_member inst.op ≡ true → head_at (lines_at func block) place ≡ Some (group.head - text_place func block 0)
  grouped member =
      let head = group.head - text_place func block 0 in
      let inside = slice_get_within stands.block.insts place inst stands.in_block in
      let text : text_place func block head ≡ group.head = omega (arith, start_low) in
      let below : head < place = omega (arith, start_low, group.before) in
      let own = get_some stands.block.insts head (omega (arith, below, inside)) in
      let same : group.statepoint ≡ own.0 = same_Some group.statepoint own.0 (sym group.stands ∙ ap (slice_get (instructions_of func.blocks)) (sym text) ∙ in_text head own.0 own.1) in
      let statepoint : is_statepoint (line_in (lines_at func block) head).inst.op ≡ true =
      ap (λ (i : Instruction). is_statepoint i.op) (in_lines head own.0 own.1 ∙ sym same) ∙ group.op in
      members_head (lines_at func block) head place statepoint (omega (arith, below)) (λ at low high. elim (cases_lt at place) [
        | inl under ↦
            (let one = get_some stands.block.insts at (omega (arith, under, inside)) in
            ap (λ (i : Instruction). is_member i.op) (in_lines at one.0 one.1)
            ∙ between (text_place func block at) one.0 (in_text at one.0 one.1) (omega (arith, low, text)) (omega (arith, under)))
        | inr last ↦
            (let level : at ≡ place = omega (arith, high, last) in
            ap (λ (i : Instruction). is_member i.op) (in_lines at inst (ap (slice_get stands.block.insts) level ∙ stands.in_block)) ∙ member)
      ])

askable : (func : Function) (number : ℕ) → GroupsInShape func → All (λ (block : BasicBlock). EndsAtTerminator block.insts) func.blocks
    → number < length (instructions_of func.blocks) → IsAskable func number
askable func number shaped ends low =
    let found = find func.blocks number low in
    let stands : Stands func found.block found.place found.inst = record { block = found.found; in_function = found.in_blocks; in_block = found.in_block } in
    record {
      block = found.block;
      place = found.place;
      numbered = record { inst = found.inst; stands = stands; number_is = found.number_is };
      grouped = λ none. elim (cases_Bool (is_member (line_in (lines_at func found.block) found.place).inst.op)) [
        | inr apart ↦ apart
        | inl member ↦
            (let line : (line_in (lines_at func found.block) found.place).inst ≡ found.inst =
            inst_at func found.block found.place found.inst (ap (λ (xs : List Instruction). slice_get xs found.place) (insts_are func found.block found.found found.in_blocks) ∙ found.in_block) in
            let own : is_member found.inst.op ≡ true = ap (λ (i : Instruction). is_member i.op) (sym line) ∙ member in
            let text = stands_in_text func found.block found.place found.inst stands in
            let group = has_group func (text_place func found.block found.place) found.inst found.inst.op own (shaped (text_place func found.block found.place) found.inst text) in
            absurd (none-some (group.group.head - text_place func found.block 0)
            (sym none ∙ grouped func ends found.block found.place found.inst stands group.token group.group own)))
      ];
    }

shape_of : (form : Form) (content : ModuleContent) (func : Function) → form ≡ Rewritten → OfForm form func → GroupsInShape func
shape_of form content func is shape = subst (λ (f : Form). OfForm f func) is shape

pub all_are_askable : (content : ModuleContent) (func : Function) (index number : ℕ) → IsTargetModule content → slice_get content.funcs index ≡ Some func
    → number < length (instructions_of func.blocks) → IsAskable func number
all_are_askable content func index number target at low =
    let faultless = all_at (FunctionHasNoFault content) content.funcs index func target.typed.no_fault.functions at in
    let typed = all_at (IsTypedFunction Rewritten) content.funcs index func target.typed.functions at in
    askable func number (shape_of content.form content func target.typed.of_form faultless.form) typed.ends low
