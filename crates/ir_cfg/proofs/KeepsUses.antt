-- What the lines of reached blocks use, and that uses stay definite.
use Rattle.std.proofs.Common.{◌≡◌, ℕ, zero, suc, ◌+◌, Bool, true, false, if◌then◌else◌, List, [], ◌∷◌, ◌++◌, length, get_or, map, refl, ap, sym, arith, append-nil, Some, slice_get, inl, inr, ◌∙◌, subst}
use Rattle.std.specs.List.{All, filter_map, flat_map}
use Rattle.std.proofs.lemmas.List.{map-append, length-map, get_or_past, nil_from_length}
use Rattle.std.proofs.lemmas.Option.{none-some, same_Some, slice_get-get_or}
use Rattle.std.proofs.lemmas.Bool.{cases_lt, cases_Bool, false≢true, true≢false}
use Rattle.list_laws.proofs.Places.{filter_map_back, get_front, get_middle, get_past, map_back}
use Rattle.list_laws.proofs.Contents.{contains_get, get_contained}
use Rattle.sp_ids.specs.declared.ids.BlockId.{BlockId}
use Rattle.ir_ast.specs.declared.types.Ty.{Ty}
use Rattle.ir_ast.specs.declared.ops.Op.{Op}
use Rattle.ir_ast.specs.declared.ops.Op.TheVariants.{Add, Sub, Mul, Udiv, Sdiv, Urem, Srem, And, Or, Xor, Shl, Lshr, Ashr, Icmp, Trunc, Zext, Sext, Select, Phi, Gep, Load, Store, Call, Statepoint, GcResult, GcRelocate, Br, CondBr, Switch, Ret, Unreachable}
use Rattle.ir_ast.specs.declared.ops.Operand.{Operand}
use Rattle.ir_ast.specs.declared.ops.Operand.TheVariants.{Value, Int, Null, Fun}
use Rattle.ir_ast.specs.Insts.{Instruction}
use Rattle.ir_ast.specs.Blocks.{BasicBlock}
use Rattle.ir_ast.specs.Funcs.{Function, instructions_of}
use Rattle.ir_ast.specs.Ops.{is_terminator}
use Rattle.ir_ast.specs.Lines.{LineOf, IsLine}
use Rattle.ir_ast.specs.Operands.{operands_of, value_in, values_used}
use Rattle.ir_ast.specs.Faults.PhiEdges.{is_phi}
use Rattle.ir_cfg.specs.Graphs.{graph_of}
use Rattle.ir_cfg.specs.Paths.{Path}
use Rattle.ir_cfg.specs.DefiniteUses.{Stands, Meets, IsDefinite, UsesAreDefinite, by_line, by_entry, in_arguments, in_earlier, in_last}
use Rattle.graph_search.specs.Paths.{Marked}
use Rattle.ir_cfg.specs.Marks.{MarksReached}
use Rattle.ir_cfg.specs.Unreached.{Kept, kept_of, kept_by, new_numbers, value_marks, operand_kept, label_kept, has_mark, inst_kept, function_kept}
use Rattle.ir_cfg.proofs.KeepsPlaces.{all_marks, before_le, before_same, kept_back, map_through, marks_before, number_of_marked}
use Rattle.ir_cfg.proofs.KeepsLines.{IsKept, block_back, inst_left, inst_new, labels_left, line_at, operands_left, stands_back, two_steps}
use Rattle.ir_cfg.proofs.KeepsValues.{argument_marked, defines_kept, value_marked}
use Rattle.ir_cfg.proofs.KeepsPaths.{marked_block, on_path, path_to, target_marked}

pub values_of_new : (kept : Kept) (operands : List Operand)
    → filter_map value_in (map (operand_kept kept) operands) ≡ map (λ (v : ℕ). get_or kept.values v 0) (filter_map value_in operands)
values_of_new kept [] = refl
values_of_new kept (Value value ∷ operands) = ap (λ zs. get_or kept.values value.0 0 ∷ zs) (values_of_new kept operands)
values_of_new kept (Int number ∷ operands) = values_of_new kept operands
values_of_new kept (Null ∷ operands) = values_of_new kept operands
values_of_new kept (Fun func ∷ operands) = values_of_new kept operands

pub operands_of_new : (kept : Kept) (inst : Instruction) → operands_of (inst_new kept inst) ≡ map (operand_kept kept) (operands_of inst)
operands_of_new kept inst =
    let entry_new : (Ty × Operand) → (Ty × Operand) = λ entry. (entry.0, operand_kept kept entry.1) in
    let second : (Ty × Operand) → Operand = λ entry. entry.1 in
    ap (λ (os : List Operand). map (operand_kept kept) inst.operands ++ os)
    (map_through second entry_new (λ entry. operand_kept kept entry.1) (λ entry. refl) inst.bundle
    ∙ sym (map_through (operand_kept kept) second (λ entry. operand_kept kept entry.1) (λ entry. refl) inst.bundle))
    ∙ sym (map-append (operand_kept kept) inst.operands (map second inst.bundle))

-- a line with new numbers uses the same values by their new numbers
pub used_new : (kept : Kept) (inst : Instruction)
    → values_used (inst_new kept inst) ≡ map (λ (v : ℕ). get_or kept.values v 0) (values_used inst)
used_new kept inst = ap (filter_map value_in) (operands_of_new kept inst) ∙ values_of_new kept (operands_of inst)

pub phi_operands : (kept : Kept) (op : Op) (labels : List BlockId) (operands : List Operand) → is_phi op ≡ true
    → operands_left kept op labels operands ≡ kept_of (map (has_mark kept) labels) operands
phi_operands kept Phi labels operands phi = refl
phi_operands kept op labels operands phi = absurd (false≢true phi)

pub phi_labels : (kept : Kept) (op : Op) (labels : List BlockId) → is_phi op ≡ true
    → labels_left kept op labels ≡ kept_of (map (has_mark kept) labels) labels
phi_labels kept Phi labels phi = refl
phi_labels kept op labels phi = absurd (false≢true phi)

pub plain_operands : (kept : Kept) (op : Op) (labels : List BlockId) (operands : List Operand) → is_phi op ≡ false
    → operands_left kept op labels operands ≡ operands
plain_operands kept Phi labels operands plain = absurd (true≢false plain)
plain_operands kept op labels operands plain = refl

pub plain_labels : (kept : Kept) (op : Op) (labels : List BlockId) → is_phi op ≡ false → labels_left kept op labels ≡ labels
plain_labels kept Phi labels plain = absurd (true≢false plain)
plain_labels kept op labels plain = refl

-- only phis and terminators have labels
no_labels : (op : Op) (inst : Instruction) → LineOf op inst → is_phi op ≡ false → is_terminator op ≡ false → inst.labels ≡ []
no_labels Add inst line plain inside = nil_from_length inst.labels line.label_count
no_labels Sub inst line plain inside = nil_from_length inst.labels line.label_count
no_labels Mul inst line plain inside = nil_from_length inst.labels line.label_count
no_labels Udiv inst line plain inside = nil_from_length inst.labels line.label_count
no_labels Sdiv inst line plain inside = nil_from_length inst.labels line.label_count
no_labels Urem inst line plain inside = nil_from_length inst.labels line.label_count
no_labels Srem inst line plain inside = nil_from_length inst.labels line.label_count
no_labels And inst line plain inside = nil_from_length inst.labels line.label_count
no_labels Or inst line plain inside = nil_from_length inst.labels line.label_count
no_labels Xor inst line plain inside = nil_from_length inst.labels line.label_count
no_labels Shl inst line plain inside = nil_from_length inst.labels line.label_count
no_labels Lshr inst line plain inside = nil_from_length inst.labels line.label_count
no_labels Ashr inst line plain inside = nil_from_length inst.labels line.label_count
no_labels (Icmp pred) inst line plain inside = nil_from_length inst.labels line.label_count
no_labels (Trunc width) inst line plain inside = nil_from_length inst.labels line.label_count
no_labels (Zext width) inst line plain inside = nil_from_length inst.labels line.label_count
no_labels (Sext width) inst line plain inside = nil_from_length inst.labels line.label_count
no_labels Select inst line plain inside = nil_from_length inst.labels line.label_count
no_labels Phi inst line plain inside = absurd (true≢false plain)
no_labels (Gep elem index_width place) inst line plain inside = nil_from_length inst.labels line.0.label_count
no_labels Load inst line plain inside = nil_from_length inst.labels line.label_count
no_labels Store inst line plain inside = nil_from_length inst.labels line.label_count
no_labels (Call callee types) inst line plain inside = line.no_labels
no_labels (Statepoint id callee types) inst line plain inside = line.no_labels
no_labels GcResult inst line plain inside = nil_from_length inst.labels line.0.label_count
no_labels GcRelocate inst line plain inside = nil_from_length inst.labels line.0.label_count
no_labels Br inst line plain inside = absurd (true≢false inside)
no_labels CondBr inst line plain inside = absurd (true≢false inside)
no_labels Switch inst line plain inside = absurd (true≢false inside)
no_labels Ret inst line plain inside = absurd (true≢false inside)
no_labels Unreachable inst line plain inside = absurd (true≢false inside)

-- a mark that a look-up finds
pub mark_found : (marks : List Bool) (n : ℕ) → get_or marks n false ≡ true → Marked marks n
mark_found marks n is =
    elim (cases_lt n (length marks)) [
      | inl within ↦ slice_get-get_or marks n false within ∙ ap (λ (b : Bool). Some b) is
      | inr past ↦ absurd (false≢true (sym (get_or_past marks n false past) ∙ is))
    ]

own_labels : (inst : Instruction) → is_terminator inst.op ≡ true → (if is_terminator inst.op then inst.labels else []) ≡ inst.labels
own_labels inst ends = rw ends refl

-- the labels of a terminator are edges of its block
target_of : (insts : List Instruction) (place k : ℕ) (inst : Instruction) (label : BlockId) → slice_get insts place ≡ Some inst
    → is_terminator inst.op ≡ true → slice_get inst.labels k ≡ Some label
    → (edge : ℕ) × (slice_get (flat_map (λ (inst : Instruction). if is_terminator inst.op then inst.labels else []) insts) edge ≡ Some label)
target_of [] place k inst label is ends at = absurd (none-some inst is)
target_of (first ∷ insts) zero k inst label is ends at =
    let same : first ≡ inst = same_Some first inst is in
    let terminates : is_terminator first.op ≡ true = ap (λ (i : Instruction). is_terminator i.op) same ∙ ends in
    let own : List BlockId = if is_terminator first.op then first.labels else [] in
    let labels : own ≡ inst.labels = own_labels first terminates ∙ ap (λ (i : Instruction). i.labels) same in (
      k,
      get_front own (flat_map (λ (inst : Instruction). if is_terminator inst.op then inst.labels else []) insts) k label
          (ap (λ (ls : List BlockId). slice_get ls k) labels ∙ at),
    )
target_of (first ∷ insts) (suc place) k inst label is ends at =
    let own : List BlockId = if is_terminator first.op then first.labels else [] in
    let rest = target_of insts place k inst label is ends at in
    (length own + rest.0, get_past own (flat_map (λ (inst : Instruction). if is_terminator inst.op then inst.labels else []) insts) rest.0 ∙ rest.1)

meets_marked : (marks : List Bool) (func : Function) (value last : ℕ) (path : List ℕ) (place : ℕ) → MarksReached (graph_of func) marks
    → Path (graph_of func) path last → Meets func value path place → Marked (value_marks marks func) value
meets_marked marks func value last path place reached walked (in_arguments below) = argument_marked marks func value below
meets_marked marks func value last path place reached walked (in_earlier front back block next at whole defines) =
    let stands : slice_get path (length front) ≡ Some block =
    ap (λ (p : List ℕ). slice_get p (length front)) whole ∙ get_middle front block (next ∷ back) in
    value_marked marks func value block at
    (reached.complete block (on_path (graph_of func) path last walked (length front) block stands)) defines
meets_marked marks func value last path place reached walked (in_last front block at whole defines before) =
    let stands : slice_get path (length front) ≡ Some block =
    ap (λ (p : List ℕ). slice_get p (length front)) whole ∙ get_middle front block [] in
    value_marked marks func value block at
    (reached.complete block (on_path (graph_of func) path last walked (length front) block stands)) defines

-- the value of a definite use in a reached block has a mark
pub definite_marked : (marks : List Bool) (func : Function) (value block place : ℕ) → MarksReached (graph_of func) marks
    → Marked marks block → IsDefinite func value block place → Marked (value_marks marks func) value
definite_marked marks func value block place reached marked definite =
    let path = reached.sound block marked in
    meets_marked marks func value block path.0 place reached path.1 (definite path.0 path.1)

meets_kept : (marks : List Bool) (func : Function) (value last : ℕ) (path : List ℕ) (place : ℕ) → MarksReached (graph_of func) marks
    → Path (graph_of func) path last → Meets func value path place
    → Meets (function_kept marks func) (marks_before (value_marks marks func) value) (map (marks_before marks) path) place
meets_kept marks func value last path place reached walked (in_arguments below) =
    let le = before_le (value_marks marks func) value in
    in_arguments (omega arith)
meets_kept marks func value last path place reached walked (in_earlier front back block next at whole defines) =
    let stands : slice_get path (length front) ≡ Some block =
    ap (λ (p : List ℕ). slice_get p (length front)) whole ∙ get_middle front block (next ∷ back) in
    let marked = reached.complete block (on_path (graph_of func) path last walked (length front) block stands) in
    in_earlier (map (marks_before marks) front) (map (marks_before marks) back) (marks_before marks block) (marks_before marks next) at
    (ap (map (marks_before marks)) whole ∙ map-append (marks_before marks) front (block ∷ next ∷ back))
    (defines_kept marks func value block at marked defines)
meets_kept marks func value last path place reached walked (in_last front block at whole defines before) =
    let stands : slice_get path (length front) ≡ Some block =
    ap (λ (p : List ℕ). slice_get p (length front)) whole ∙ get_middle front block [] in
    let marked = reached.complete block (on_path (graph_of func) path last walked (length front) block stands) in
    in_last (map (marks_before marks) front) (marks_before marks block) at
    (ap (map (marks_before marks)) whole ∙ map-append (marks_before marks) front (block ∷ []))
    (defines_kept marks func value block at marked defines) before

-- a definite use stays definite, with its new numbers
carried : (marks : List Bool) (func : Function) (value block place new_value new_block new_place : ℕ) → MarksReached (graph_of func) marks
    → Marked marks block → IsDefinite func value block place → new_value ≡ get_or (new_numbers (value_marks marks func)) value 0
    → marks_before marks block ≡ new_block → place ≡ new_place → IsDefinite (function_kept marks func) new_value new_block new_place
carried marks func value block place new_value new_block new_place reached marked definite same_value same_block same_place = λ path walked.
    let o = path_to marks func path block reached marked
    (subst (λ (n : ℕ). Path (graph_of (function_kept marks func)) path n) (sym same_block) walked) in
    let meets = meets_kept marks func value block o.0 place reached o.1 (definite o.0 o.1) in
    let marked_value = definite_marked marks func value block place reached marked definite in
    let is : marks_before (value_marks marks func) value ≡ new_value = sym (same_value ∙ number_of_marked (value_marks marks func) value marked_value) in
    subst (λ (n : ℕ). Meets (function_kept marks func) n path new_place) is
    (subst (λ (n : ℕ). Meets (function_kept marks func) (marks_before (value_marks marks func) value) path n) same_place
    (subst (λ (p : List ℕ). Meets (function_kept marks func) (marks_before (value_marks marks func) value) p place) o.2 meets))

value_in_new : (kept : Kept) (operand : Operand) (value : ℕ) → value_in (operand_kept kept operand) ≡ Some value
    → (old : ℕ) × (value_in operand ≡ Some old) × (value ≡ get_or kept.values old 0)
value_in_new kept (Value old) value is = (old.0, refl, sym (same_Some (get_or kept.values old.0 0) value is))
value_in_new kept (Int number) value is = absurd (none-some value is)
value_in_new kept Null value is = absurd (none-some value is)
value_in_new kept (Fun func) value is = absurd (none-some value is)

-- the entry of a phi that an entry of the new phi comes from
pub record EntryOrigin (marks : List Bool) (func : Function) (old : Instruction) (entry : ℕ) (label : BlockId) (operand : Operand) : Type 0 where
  pub place : ℕ
  pub old_label : BlockId
  pub old_operand : Operand
  pub at_label : slice_get old.labels place ≡ Some old_label
  pub at_operand : slice_get old.operands place ≡ Some old_operand
  pub marked : Marked marks old_label.0
  pub label_is : label ≡ label_kept (kept_by marks func) old_label
  pub operand_is : operand ≡ operand_kept (kept_by marks func) old_operand

pub entry_back : (marks : List Bool) (func : Function) (old : Instruction) (entry : ℕ) (label : BlockId) (operand : Operand) → is_phi old.op ≡ true
    → slice_get (inst_new (kept_by marks func) (inst_left (kept_by marks func) old)).labels entry ≡ Some label
    → slice_get (inst_new (kept_by marks func) (inst_left (kept_by marks func) old)).operands entry ≡ Some operand
    → EntryOrigin marks func old entry label operand
entry_back marks func old entry label operand phi at_label at_operand =
    let kept = kept_by marks func in
    let own = map (has_mark kept) old.labels in
    let ls : slice_get (map (label_kept kept) (kept_of own old.labels)) entry ≡ Some label =
    ap (λ (xs : List BlockId). slice_get (map (label_kept kept) xs) entry) (sym (phi_labels kept old.op old.labels phi)) ∙ at_label in
    let os : slice_get (map (operand_kept kept) (kept_of own old.operands)) entry ≡ Some operand =
    ap (λ (xs : List Operand). slice_get (map (operand_kept kept) xs) entry) (sym (phi_operands kept old.op old.labels old.operands phi)) ∙ at_operand in
    let ml = map_back (label_kept kept) (kept_of own old.labels) entry label ls in
    let mo = map_back (operand_kept kept) (kept_of own old.operands) entry operand os in
    let l = kept_back own old.labels entry ml.before ml.stands in
    let o = kept_back own old.operands entry mo.before mo.stands in
    let same : o.place ≡ l.place = before_same own o.place l.place o.marked l.marked (o.number ∙ sym l.number) in
    record {
      place = l.place;
      old_label = ml.before;
      old_operand = mo.before;
      at_label = l.stands;
      at_operand = subst (λ (n : ℕ). slice_get old.operands n ≡ Some mo.before) same o.stands;
      marked = mark_found marks ml.before.0 (all_marks (has_mark kept) old.labels l.place ml.before l.stands l.marked);
      label_is = ml.is;
      operand_is = mo.is;
    }

pub uses_kept : (marks : List Bool) (func : Function) → MarksReached (graph_of func) marks → UsesAreDefinite func
    → UsesAreDefinite (function_kept marks func)
uses_kept marks func reached definite _ _ _ _ (by_line number place value inst stands plain used) =
    let kept = kept_by marks func in
    let s = stands_back marks func number place inst stands in
    let is : inst ≡ inst_new kept (inst_left kept s.old) = s.is ∙ two_steps kept s.old in
    let was_plain : is_phi s.old.op ≡ false = sym (ap (λ (i : Instruction). is_phi i.op) s.is) ∙ plain in
    let at = get_contained (values_used inst) value used in
    let there : slice_get (map (λ (v : ℕ). get_or kept.values v 0) (values_used (inst_left kept s.old))) at.0 ≡ Some value =
    ap (λ (vs : List ℕ). slice_get vs at.0) (sym (ap values_used is ∙ used_new kept (inst_left kept s.old))) ∙ at.1 in
    let m = map_back (λ (v : ℕ). get_or kept.values v 0) (values_used (inst_left kept s.old)) at.0 value there in
    let was_used : slice_get (values_used s.old) at.0 ≡ Some m.before =
    ap (λ (os : List Operand). slice_get (filter_map value_in (os ++ map (λ entry. entry.1) s.old.bundle)) at.0)
    (sym (plain_operands kept s.old.op s.old.labels s.old.operands was_plain)) ∙ m.stands in
    carried marks func m.before s.block place value number place reached s.marked
    (definite _ m.before s.block place
    (by_line s.block place m.before s.old s.stands was_plain (contains_get (values_used s.old) at.0 m.before was_used)))
    m.is s.same_block refl
uses_kept marks func reached definite _ _ _ _ (by_entry number place entry value phi operand label from stands is at_label at_operand in_operand in_function) =
    let kept = kept_by marks func in
    let s = stands_back marks func number place phi stands in
    let new : phi ≡ inst_new kept (inst_left kept s.old) = s.is ∙ two_steps kept s.old in
    let was : is_phi s.old.op ≡ true = sym (ap (λ (i : Instruction). is_phi i.op) s.is) ∙ is in
    let e = entry_back marks func s.old entry label operand was
    (ap (λ (i : Instruction). slice_get i.labels entry) (sym new) ∙ at_label)
    (ap (λ (i : Instruction). slice_get i.operands entry) (sym new) ∙ at_operand) in
    let v = value_in_new kept e.old_operand value (sym (ap value_in e.operand_is) ∙ in_operand) in
    let same_label : label.0 ≡ marks_before marks e.old_label.0 =
    ap (λ (b : BlockId). b.0) e.label_is ∙ number_of_marked marks e.old_label.0 e.marked in
    let b = block_back marks func label.0 from in_function in
    let same_block : b.place ≡ e.old_label.0 = before_same marks b.place e.old_label.0 b.marked e.marked (b.same ∙ same_label) in
    let at_block : slice_get func.blocks e.old_label.0 ≡ Some b.old =
    subst (λ (n : ℕ). slice_get func.blocks n ≡ Some b.old) same_block b.stands in
    let long : length b.old.insts ≡ length from.insts =
    sym (ap (λ (x : BasicBlock). length x.insts) b.is ∙ length-map b.old.insts (inst_kept kept)) in
    carried marks func v.0 e.old_label.0 (length b.old.insts) value label.0 (length from.insts) reached e.marked
    (definite _ v.0 e.old_label.0 (length b.old.insts)
    (by_entry s.block place e.place v.0 s.old e.old_operand e.old_label b.old s.stands was e.at_label e.at_operand v.1 at_block))
    v.2 (sym same_label) long

-- the values and the blocks that a kept line still names are kept
pub record Lasts (marks : List Bool) (func : Function) (inst : Instruction) : Type 0 where
  pub values : (k value : ℕ) → slice_get (values_used (inst_left (kept_by marks func) inst)) k ≡ Some value → Marked (value_marks marks func) value
  pub labels : (k : ℕ) (label : BlockId) → slice_get (inst_left (kept_by marks func) inst).labels k ≡ Some label → Marked marks label.0

phi_values : (marks : List Bool) (func : Function) (number place : ℕ) (inst : Instruction) → MarksReached (graph_of func) marks
    → UsesAreDefinite func → Marked marks number → Stands func number place inst → inst.bundle ≡ [] → is_phi inst.op ≡ true
    → (k value : ℕ) → slice_get (values_used (inst_left (kept_by marks func) inst)) k ≡ Some value → Marked (value_marks marks func) value
phi_values marks func number place inst reached definite marked stands bare phi = λ k value used.
    let kept = kept_by marks func in
    let own = map (has_mark kept) inst.labels in
    let operands : operands_of (inst_left kept inst) ≡ kept_of own inst.operands =
    ap (λ (es : List (Ty × Operand)). (inst_left kept inst).operands ++ map (λ entry. entry.1) es) bare
    ∙ append-nil (inst_left kept inst).operands ∙ phi_operands kept inst.op inst.labels inst.operands phi in
    let from = filter_map_back value_in (kept_of own inst.operands) value k
    (ap (λ (os : List Operand). slice_get (filter_map value_in os) k) (sym operands) ∙ used) in
    let o = kept_back own inst.operands from.place from.item from.stands in
    let l = map_back (has_mark kept) inst.labels o.place true o.marked in
    let marked_label = mark_found marks l.before.0 (sym l.is) in
    let block = marked_block marks func l.before.0 reached marked_label in
    definite_marked marks func value l.before.0 (length block.0.insts) reached marked_label
    (definite _ value l.before.0 (length block.0.insts)
    (by_entry number place o.place value inst from.item l.before block.0 stands phi l.stands o.stands from.gives block.1))

plain_values : (marks : List Bool) (func : Function) (number place : ℕ) (inst : Instruction) → MarksReached (graph_of func) marks
    → UsesAreDefinite func → Marked marks number → Stands func number place inst → is_phi inst.op ≡ false
    → (k value : ℕ) → slice_get (values_used (inst_left (kept_by marks func) inst)) k ≡ Some value → Marked (value_marks marks func) value
plain_values marks func number place inst reached definite marked stands plain = λ k value used.
    let kept = kept_by marks func in
    let was_used : slice_get (values_used inst) k ≡ Some value =
    ap (λ (os : List Operand). slice_get (filter_map value_in (os ++ map (λ entry. entry.1) inst.bundle)) k)
    (sym (plain_operands kept inst.op inst.labels inst.operands plain)) ∙ used in
    definite_marked marks func value number place reached marked
    (definite _ value number place (by_line number place value inst stands plain (contains_get (values_used inst) k value was_used)))

phi_labels_marked : (marks : List Bool) (func : Function) (inst : Instruction) → is_phi inst.op ≡ true
    → (k : ℕ) (label : BlockId) → slice_get (inst_left (kept_by marks func) inst).labels k ≡ Some label → Marked marks label.0
phi_labels_marked marks func inst phi = λ k label at.
    let kept = kept_by marks func in
    let own = map (has_mark kept) inst.labels in
    let o = kept_back own inst.labels k label (ap (λ (ls : List BlockId). slice_get ls k) (sym (phi_labels kept inst.op inst.labels phi)) ∙ at) in
    mark_found marks label.0 (all_marks (has_mark kept) inst.labels o.place label o.stands o.marked)

plain_labels_marked : (marks : List Bool) (func : Function) (number place : ℕ) (inst : Instruction) → MarksReached (graph_of func) marks
    → Marked marks number → Stands func number place inst → IsLine inst → is_phi inst.op ≡ false
    → (k : ℕ) (label : BlockId) → slice_get (inst_left (kept_by marks func) inst).labels k ≡ Some label → Marked marks label.0
plain_labels_marked marks func number place inst reached marked stands line plain = λ k label at.
    let there : slice_get inst.labels k ≡ Some label =
    ap (λ (ls : List BlockId). slice_get ls k) (sym (plain_labels (kept_by marks func) inst.op inst.labels plain)) ∙ at in
    elim (cases_Bool (is_terminator inst.op)) [
      | inl ends ↦
          let edge = target_of stands.block.insts place k inst label stands.in_block ends there in
          target_marked marks func number stands.block edge.0 label reached marked stands.in_function edge.1
      | inr inside ↦
          let none = no_labels inst.op inst line plain inside in
          absurd (none-some label (ap (λ (ls : List BlockId). slice_get ls k) (sym none) ∙ there))
    ]

phi_bare : (op : Op) (inst : Instruction) → is_phi op ≡ true → LineOf op inst → inst.bundle ≡ []
phi_bare Phi inst phi line = line.0.no_bundle
phi_bare op inst phi line = absurd (false≢true phi)

pub lasts : (marks : List Bool) (func : Function) (inst : Instruction) → MarksReached (graph_of func) marks
    → All IsLine (instructions_of func.blocks) → UsesAreDefinite func → IsKept marks func inst → Lasts marks func inst
lasts marks func inst reached lines definite kept =
    let line : IsLine inst = line_at IsLine func kept.number kept.place inst kept.stands lines in
    elim (cases_Bool (is_phi inst.op)) [
      | inl phi ↦ record {
        values = phi_values marks func kept.number kept.place inst reached definite kept.marked kept.stands (phi_bare inst.op inst phi line) phi;
        labels = phi_labels_marked marks func inst phi;
      }
      | inr plain ↦ record {
        values = plain_values marks func kept.number kept.place inst reached definite kept.marked kept.stands plain;
        labels = plain_labels_marked marks func kept.number kept.place inst reached kept.marked kept.stands line plain;
      }
    ]
