-- The entry stays without edges into it.
use Rattle.std.proofs.Common.{◌≡◌, ℕ, suc, Bool, true, false, if◌then◌else◌, List, [], ◌∷◌, map, refl, ap, sym, arith, Some, slice_get, inl, inr, ◌∙◌, subst}
use Rattle.std.specs.List.{flat_map}
use Rattle.std.proofs.lemmas.Option.{none-some}
use Rattle.std.proofs.lemmas.Bool.{cases_lt, false≢true}
use Rattle.list_laws.proofs.Places.{map_back}
use Rattle.list_laws.proofs.Contents.{all_at, all_from_at}
use Rattle.sp_ids.specs.declared.ids.BlockId.{BlockId}
use Rattle.ir_ast.specs.declared.ops.Op.{Op}
use Rattle.ir_ast.specs.declared.ops.Op.TheVariants.{Phi}
use Rattle.ir_ast.specs.Insts.{Instruction}
use Rattle.ir_ast.specs.Blocks.{BasicBlock}
use Rattle.ir_ast.specs.Funcs.{Function}
use Rattle.ir_ast.specs.Ops.{is_terminator}
use Rattle.ir_ast.specs.Edges.{targets}
use Rattle.ir_ast.specs.Faults.PhiEdges.{is_phi}
use Rattle.ir_ast.specs.Faults.EntryHasPred.{LeavesEntry, EntryHasNoPred}
use Rattle.ir_cfg.specs.Graphs.{graph_of}
use Rattle.ir_cfg.specs.Marks.{MarksReached}
use Rattle.ir_cfg.specs.Unreached.{kept_by, label_kept, function_kept}
use Rattle.ir_cfg.proofs.KeepsPlaces.{before_first, get_cases, marks_before, number_of_marked}
use Rattle.ir_cfg.proofs.KeepsLines.{IsKept, all_lines, inst_at, inst_left, inst_new, line_at, two_steps}
use Rattle.ir_cfg.proofs.KeepsPaths.{entry_marked}
use Rattle.ir_cfg.proofs.KeepsUses.{Lasts, plain_labels}

-- a terminator of the block has the label
record FromTerminator (insts : List Instruction) (label : BlockId) : Type 0 where
  pub place : ℕ
  pub inst : Instruction
  pub number : ℕ
  pub stands : slice_get insts place ≡ Some inst
  pub ends : is_terminator inst.op ≡ true
  pub at : slice_get inst.labels number ≡ Some label

own_found : (inst : Instruction) (insts : List Instruction) (ends : Bool) (k : ℕ) (label : BlockId) → is_terminator inst.op ≡ ends
    → slice_get (if ends then inst.labels else []) k ≡ Some label → FromTerminator (inst ∷ insts) label
own_found inst insts true k label is at = record { place = 0; inst = inst; number = k; stands = refl; ends = is; at = at }
own_found inst insts false k label is at = absurd (none-some label at)

target_back : (insts : List Instruction) (k : ℕ) (label : BlockId)
    → slice_get (flat_map (λ (inst : Instruction). if is_terminator inst.op then inst.labels else []) insts) k ≡ Some label
    → FromTerminator insts label
target_back [] k label at = absurd (none-some label at)
target_back (inst ∷ insts) k label at =
    elim (get_cases (if is_terminator inst.op then inst.labels else []) (flat_map (λ (inst : Instruction). if is_terminator inst.op then inst.labels else []) insts) k label at) [
      | inl here ↦ own_found inst insts (is_terminator inst.op) k label refl here
      | inr there ↦
          let rest = target_back insts there.0 label there.1 in
          record { place = suc rest.place; inst = rest.inst; number = rest.number; stands = rest.stands; ends = rest.ends; at = rest.at }
    ]

-- no edge leads to the entry
pub entry_alone : (func : Function) (number : ℕ) (block : BasicBlock) (k : ℕ) (label : BlockId) → EntryHasNoPred func
    → slice_get func.blocks number ≡ Some block → slice_get (targets block) k ≡ Some label → label.0 ≡ 0 → ⊥
entry_alone func number block k label alone is at same =
    let from = target_back block.insts k label at in
    let leaves = inst_at LeavesEntry func.blocks number from.place block from.inst is from.stands alone in
    all_at (λ (l : BlockId). l.0 ≡ 0 → ⊥) from.inst.labels from.number label (leaves from.ends) from.at same

ends_plain : (op : Op) → is_terminator op ≡ true → is_phi op ≡ false
ends_plain Phi ends = absurd (false≢true ends)
ends_plain op ends = refl

leaves_new : (marks : List Bool) (func : Function) (inst : Instruction) → MarksReached (graph_of func) marks → Lasts marks func inst
    → LeavesEntry inst → LeavesEntry (inst_new (kept_by marks func) (inst_left (kept_by marks func) inst))
leaves_new marks func inst reached lasts leaves = λ ends.
    let kept = kept_by marks func in
    let plain = ends_plain inst.op ends in
    all_from_at (λ (label : BlockId). label.0 ≡ 0 → ⊥) (map (label_kept kept) (inst_left kept inst).labels) (λ k label at.
    let m = map_back (label_kept kept) (inst_left kept inst).labels k label at in
    let marked = lasts.labels k m.before m.stands in
    let was : slice_get inst.labels k ≡ Some m.before =
    ap (λ (ls : List BlockId). slice_get ls k) (sym (plain_labels kept inst.op inst.labels plain)) ∙ m.stands in
    let other = all_at (λ (l : BlockId). l.0 ≡ 0 → ⊥) inst.labels k m.before (leaves ends) was in
    let is : label.0 ≡ marks_before marks m.before.0 = ap (λ (l : BlockId). l.0) m.is ∙ number_of_marked marks m.before.0 marked in
    elim (cases_lt 0 m.before.0) [
      | inl some ↦ let later = before_first marks m.before.0 (entry_marked marks func reached) some in λ none. omega arith
      | inr none ↦ absurd (other (omega arith))
    ])

-- no edge leads to the new entry
pub entry_kept : (marks : List Bool) (func : Function) → MarksReached (graph_of func) marks → EntryHasNoPred func
    → ((inst : Instruction) → IsKept marks func inst → Lasts marks func inst) → EntryHasNoPred (function_kept marks func)
entry_kept marks func reached alone lasts =
    all_lines LeavesEntry marks func (λ inst kept.
    subst LeavesEntry (sym (two_steps (kept_by marks func) inst))
    (leaves_new marks func inst reached (lasts inst kept) (line_at LeavesEntry func kept.number kept.place inst kept.stands alone)))
