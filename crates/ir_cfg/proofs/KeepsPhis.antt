-- Phis stay right, and those of reached blocks keep an entry.
use Rattle.std.proofs.Common.{◌≡◌, ℕ, ◌<◌, eqb, Bool, true, List, length, map, refl, ap, sym, arith, Some, slice_get, inl, inr, ◌⊎◌, ◌∙◌, subst}
use Rattle.std.specs.List.{list_all}
use Rattle.std.proofs.lemmas.List.Folds.{list_all-map}
use Rattle.std.proofs.lemmas.List.Sums.{count_by-le-length}
use Rattle.std.proofs.lemmas.Option.{same_Some, slice_get_within, slice_get_past}
use Rattle.std.proofs.lemmas.Bool.{cases_lt}
use Rattle.list_laws.proofs.Places.{get_middle, get_some, map_back}
use Rattle.sp_ids.specs.declared.ids.BlockId.{BlockId}
use Rattle.ir_ast.specs.declared.ops.Op.TheVariants.{Phi}
use Rattle.ir_ast.specs.declared.ops.Operand.{Operand}
use Rattle.ir_ast.specs.Insts.{Instruction}
use Rattle.ir_ast.specs.Blocks.{BasicBlock}
use Rattle.ir_ast.specs.Funcs.{Function}
use Rattle.ir_ast.specs.Edges.{targets, count_of, edges}
use Rattle.ir_ast.specs.Lines.{LineOf, IsLine}
use Rattle.ir_ast.specs.Faults.PhiEdges.{is_phi, PhiIsRight, PhisAreRight}
use Rattle.ir_ast.specs.Faults.EntryHasPred.{EntryHasNoPred}
use Rattle.ir_cfg.specs.Graphs.{Graph, Edge, block_at, graph_of}
use Rattle.ir_cfg.specs.Paths.{Path, Reached, at_entry, along}
use Rattle.ir_cfg.specs.DefiniteUses.{Stands}
use Rattle.graph_search.specs.Paths.{Marked}
use Rattle.ir_cfg.specs.Marks.{MarksReached}
use Rattle.ir_cfg.specs.Unreached.{Kept, kept_of, kept_by, operand_kept, label_kept, has_mark, inst_kept, block_kept, function_kept}
use Rattle.ir_cfg.proofs.KeepsPlaces.{all_marks, before_same, kept_back, marks_before, number_of_marked, split_at, split_back}
use Rattle.ir_cfg.proofs.KeepsLines.{IsKept, block_back, block_forth, inst_left, inst_new, two_steps}
use Rattle.ir_cfg.proofs.KeepsPaths.{marked_block, succs_at, target_marked, targets_kept}
use Rattle.ir_cfg.proofs.KeepsUses.{entry_back, mark_found, phi_labels, phi_operands}
use Rattle.ir_cfg.proofs.KeepsForms.{phi_line, same_count}
use Rattle.ir_cfg.proofs.KeepsCounts.{count_found, count_left, count_new, count_none, count_some, edges_at, edges_past}
use Rattle.ir_cfg.proofs.KeepsEntry.{entry_alone}

-- a reached block is the entry, or an edge leads to it from a reached block
reached_from : (graph : Graph) (blocks : List ℕ) (last : ℕ) → Path graph blocks last
    → (last ≡ 0) ⊎ ((from : ℕ) × Reached graph from × Edge graph from last)
reached_from graph _ _ at_entry = inl refl
reached_from graph _ _ (along blocks from to path edge) = inr (from, (blocks, path), edge)

-- some label of a phi is reached
phi_has_label : (marks : List Bool) (func : Function) (number place : ℕ) (inst : Instruction) → MarksReached (graph_of func) marks
    → EntryHasNoPred func → PhisAreRight func → Marked marks number → Stands func number place inst → is_phi inst.op ≡ true
    → 0 < length inst.labels → (from : ℕ) × Marked marks from × (0 < count_of from inst.labels)
phi_has_label marks func number place inst reached alone right marked stands phi some =
    let path = reached.sound number marked in
    let split = split_at stands.block.insts place inst stands.in_block in
    let is = right number stands.block split.0 split.1 inst stands.in_function split.2 phi in
    elim (reached_from (graph_of func) path.0 number path.1) [
      | inl entry ↦
          let first = get_some inst.labels 0 some in
          let many = count_some first.0.0 inst.labels 0 first.0 first.1 refl in
          let led : 0 < edges func first.0.0 0 = subst (λ (n : ℕ). 0 < edges func first.0.0 n) entry
          (subst (λ (n : ℕ). 0 < n) (is.counted first.0.0) many) in
          elim (cases_lt first.0.0 (length func.blocks)) [
            | inl within ↦
                let block = get_some func.blocks first.0.0 within in
                let found = count_found 0 (targets block.0) (subst (λ (n : ℕ). 0 < n) (edges_at func first.0.0 0 block.0 block.1) led) in
                absurd (entry_alone func first.0.0 block.0 found.0 found.1 alone block.1 found.2 found.3)
            | inr past ↦ let none = edges_past func first.0.0 0 past in absurd (omega arith)
          ]
      | inr from ↦
          let marked_from = reached.complete from.0 from.1 in
          let block = marked_block marks func from.0 reached marked_from in
          let leads : slice_get (targets block.0) from.2.number ≡ Some (block_at number) =
          ap (λ (ls : List BlockId). slice_get ls from.2.number) (sym (succs_at func from.0 block.0 block.1)) ∙ from.2.leads in
          let many = count_some number (targets block.0) from.2.number (block_at number) leads refl in
          (from.0, marked_from, subst (λ (n : ℕ). 0 < n) (sym (is.counted from.0 ∙ edges_at func from.0 number block.0 block.1)) many)
    ]

-- a phi of a reached block keeps an entry
pub phi_some : (marks : List Bool) (func : Function) (number place : ℕ) (inst : Instruction) → MarksReached (graph_of func) marks
    → EntryHasNoPred func → PhisAreRight func → Marked marks number → Stands func number place inst → IsLine inst → is_phi inst.op ≡ true
    → 0 < length (inst_left (kept_by marks func) inst).operands
phi_some marks func number place inst reached alone right marked stands line phi =
    let own = map (has_mark (kept_by marks func)) inst.labels in
    let form = phi_line inst.op inst phi line in
    let as_many : length inst.labels ≡ length inst.operands = form.0.label_count in
    let label = phi_has_label marks func number place inst reached alone right marked stands phi (subst (λ (n : ℕ). 0 < n) (sym as_many) form.1) in
    let left : count_of label.0 (kept_of own inst.labels) ≡ count_of label.0 inst.labels = count_left marks func label.0 inst.labels label.1 in
    let many = label.2 in
    let le = count_by-le-length (λ (l : BlockId). eqb l.0 label.0) (kept_of own inst.labels) in
    let same = same_count own inst.labels inst.operands as_many in
    let operands = ap length (phi_operands (kept_by marks func) inst.op inst.labels inst.operands phi) in
    omega (arith, left, many, le, same, operands)

left_marked : (marks : List Bool) (func : Function) (labels : List BlockId) (k : ℕ) (label : BlockId)
    → slice_get (kept_of (map (has_mark (kept_by marks func)) labels) labels) k ≡ Some label → Marked marks label.0
left_marked marks func labels k label at =
    let o = kept_back (map (has_mark (kept_by marks func)) labels) labels k label at in
    mark_found marks label.0 (all_marks (has_mark (kept_by marks func)) labels o.place label o.stands o.marked)

same_first : (kept : Kept) (front : List Instruction) → list_all (λ (inst : Instruction). is_phi inst.op) (map (inst_kept kept) front)
    ≡ list_all (λ (inst : Instruction). is_phi inst.op) front
same_first kept front = list_all-map (λ (inst : Instruction). is_phi inst.op) (inst_kept kept) front

counted_kept : (marks : List Bool) (func : Function) (number : ℕ) (before : List Instruction) (item : Instruction) → MarksReached (graph_of func) marks
    → Marked marks number → is_phi item.op ≡ true → PhiIsRight func number before item → (from : ℕ)
    → count_of from (inst_kept (kept_by marks func) item).labels ≡ edges (function_kept marks func) from (marks_before marks number)
counted_kept marks func number before item reached marked phi right from =
    let kept = kept_by marks func in
    let after = function_kept marks func in
    let own = map (has_mark kept) item.labels in
    let labels : (inst_kept kept item).labels ≡ map (label_kept kept) (kept_of own item.labels) =
    ap (λ (i : Instruction). i.labels) (two_steps kept item) ∙ ap (map (label_kept kept)) (phi_labels kept item.op item.labels phi) in
    elim (cases_lt from (length after.blocks)) [
      | inl within ↦
          let block = get_some after.blocks from within in
          let b = block_back marks func from block.0 block.1 in
          ap (count_of from) labels
          ∙ ap (λ (n : ℕ). count_of n (map (label_kept kept) (kept_of own item.labels))) (sym b.same)
          ∙ count_new marks func b.place (kept_of own item.labels) b.marked (left_marked marks func item.labels)
          ∙ count_left marks func b.place item.labels b.marked
          ∙ right.counted b.place
          ∙ edges_at func b.place number b.old b.stands
          ∙ sym (count_new marks func number (targets b.old) marked (λ k label at. target_marked marks func b.place b.old k label reached b.marked b.stands at))
          ∙ ap (count_of (marks_before marks number)) (sym (targets_kept kept b.old))
          ∙ ap (λ (x : BasicBlock). count_of (marks_before marks number) (targets x)) (sym b.is)
          ∙ sym (edges_at after from (marks_before marks number) block.0 block.1)
      | inr past ↦
          ap (count_of from) labels
          ∙ count_none from (map (label_kept kept) (kept_of own item.labels)) (λ k label at same.
          let m = map_back (label_kept kept) (kept_of own item.labels) k label at in
          let marked_label = left_marked marks func item.labels k m.before m.stands in
          let block = marked_block marks func m.before.0 reached marked_label in
          let forth = block_forth marks func m.before.0 block.0 marked_label block.1 in
          let within = slice_get_within after.blocks (marks_before marks m.before.0) (block_kept kept block.0) forth in
          let is : label.0 ≡ marks_before marks m.before.0 = ap (λ (l : BlockId). l.0) m.is ∙ number_of_marked marks m.before.0 marked_label in
          omega arith)
          ∙ sym (edges_past after from (marks_before marks number) past)
    ]

agree_at : (marks : List Bool) (func : Function) (number : ℕ) (before : List Instruction) (item : Instruction)
    → is_phi item.op ≡ true → PhiIsRight func number before item → (j k : ℕ) (label : BlockId) (one two : Operand)
    → slice_get (inst_new (kept_by marks func) (inst_left (kept_by marks func) item)).labels j ≡ Some label
    → slice_get (inst_new (kept_by marks func) (inst_left (kept_by marks func) item)).labels k ≡ Some label
    → slice_get (inst_new (kept_by marks func) (inst_left (kept_by marks func) item)).operands j ≡ Some one
    → slice_get (inst_new (kept_by marks func) (inst_left (kept_by marks func) item)).operands k ≡ Some two → one ≡ two
agree_at marks func number before item phi right j k label one two label_j label_k operand_j operand_k =
    let kept = kept_by marks func in
    let first = entry_back marks func item j label one phi label_j operand_j in
    let second = entry_back marks func item k label two phi label_k operand_k in
    let numbers : marks_before marks first.old_label.0 ≡ marks_before marks second.old_label.0 =
    sym (number_of_marked marks first.old_label.0 first.marked) ∙ ap (λ (l : BlockId). l.0) (sym first.label_is ∙ second.label_is)
    ∙ number_of_marked marks second.old_label.0 second.marked in
    let same : first.old_label.0 ≡ second.old_label.0 = before_same marks first.old_label.0 second.old_label.0 first.marked second.marked numbers in
    let labels : slice_get item.labels first.place ≡ slice_get item.labels second.place =
    first.at_label ∙ ap (λ (n : ℕ). Some (block_at n)) same ∙ sym second.at_label in
    let operands : first.old_operand ≡ second.old_operand =
    same_Some first.old_operand second.old_operand (sym first.at_operand ∙ right.agree first.place second.place labels ∙ second.at_operand) in
    first.operand_is ∙ ap (operand_kept kept) operands ∙ sym second.operand_is

agree_kept : (marks : List Bool) (func : Function) (number : ℕ) (before : List Instruction) (item : Instruction) → is_phi item.op ≡ true
    → LineOf Phi (inst_new (kept_by marks func) (inst_left (kept_by marks func) item)) → PhiIsRight func number before item → (j k : ℕ)
    → slice_get (inst_new (kept_by marks func) (inst_left (kept_by marks func) item)).labels j
    ≡ slice_get (inst_new (kept_by marks func) (inst_left (kept_by marks func) item)).labels k
    → slice_get (inst_new (kept_by marks func) (inst_left (kept_by marks func) item)).operands j
    ≡ slice_get (inst_new (kept_by marks func) (inst_left (kept_by marks func) item)).operands k
agree_kept marks func number before item phi line right j k same =
    let new = inst_new (kept_by marks func) (inst_left (kept_by marks func) item) in
    let as_many : length new.labels ≡ length new.operands = line.0.label_count in
    elim (cases_lt j (length new.labels)) [
      | inl within ↦
          let label = get_some new.labels j within in
          let other : slice_get new.labels k ≡ Some label.0 = sym same ∙ label.1 in
          let within_k = slice_get_within new.labels k label.0 other in
          let one = get_some new.operands j (omega arith) in
          let two = get_some new.operands k (omega arith) in
          one.1 ∙ ap (λ (o : Operand). Some o) (agree_at marks func number before item phi right j k label.0 one.0 two.0 label.1 other one.1 two.1) ∙ sym two.1
      | inr past ↦
          elim (cases_lt k (length new.labels)) [
            | inl within ↦
                let label = get_some new.labels k within in
                let within_j = slice_get_within new.labels j label.0 (same ∙ label.1) in
                absurd (omega arith)
            | inr past_k ↦ slice_get_past new.operands j (omega arith) ∙ sym (slice_get_past new.operands k (omega arith))
          ]
    ]

phi_right : (marks : List Bool) (func : Function) (number : ℕ) (front : List Instruction) (item : Instruction) → MarksReached (graph_of func) marks
    → Marked marks number → is_phi item.op ≡ true → IsLine (inst_new (kept_by marks func) (inst_left (kept_by marks func) item))
    → PhiIsRight func number front item
    → PhiIsRight (function_kept marks func) (marks_before marks number) (map (inst_kept (kept_by marks func)) front) (inst_kept (kept_by marks func) item)
phi_right marks func number front item reached marked phi line right =
    let kept = kept_by marks func in
    record {
      first = same_first kept front ∙ right.first;
      counted = counted_kept marks func number front item reached marked phi right;
      agree = λ j k.
          subst (λ (i : Instruction). slice_get i.labels j ≡ slice_get i.labels k → slice_get i.operands j ≡ slice_get i.operands k)
          (sym (two_steps kept item))
          (agree_kept marks func number front item phi (phi_line item.op (inst_new kept (inst_left kept item)) phi line) right j k);
    }

-- the phis stay right, where the lines stay lines
pub phis_kept : (marks : List Bool) (func : Function) → MarksReached (graph_of func) marks → PhisAreRight func
    → ((inst : Instruction) → IsKept marks func inst → IsLine (inst_new (kept_by marks func) (inst_left (kept_by marks func) inst)))
    → PhisAreRight (function_kept marks func)
phis_kept marks func reached right lines = λ number block before after phi in_function whole is.
    let kept = kept_by marks func in
    let b = block_back marks func number block in_function in
    let split = split_back (inst_kept kept) b.old.insts before phi after (sym (ap (λ (x : BasicBlock). x.insts) b.is) ∙ whole) in
    let was : is_phi split.item.op ≡ true = ap (λ (i : Instruction). is_phi i.op) split.items ∙ is in
    let at : slice_get b.old.insts (length split.front) ≡ Some split.item =
    ap (λ (xs : List Instruction). slice_get xs (length split.front)) split.whole ∙ get_middle split.front split.item split.back in
    let stands : Stands func b.place (length split.front) split.item = record { block = b.old; in_function = b.stands; in_block = at } in
    let line = lines split.item (record { number = b.place; place = length split.front; marked = b.marked; stands = stands }) in
    let new = phi_right marks func b.place split.front split.item reached b.marked was line
    (right b.place b.old split.front split.back split.item b.stands split.whole was) in
    subst (λ (n : ℕ). PhiIsRight (function_kept marks func) n before phi) b.same
    (subst (λ (xs : List Instruction). PhiIsRight (function_kept marks func) (marks_before marks b.place) xs phi) split.fronts
    (subst (λ (i : Instruction). PhiIsRight (function_kept marks func) (marks_before marks b.place) (map (inst_kept kept) split.front) i) split.items new))
