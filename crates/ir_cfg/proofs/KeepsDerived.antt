-- Derived pointers are those that they were, and stay in registers.
use Rattle.std.proofs.Common.{◌≡◌, ℕ, Bool, List, [], length, get_or, map, refl, ap, sym, Some, slice_get, ◌∙◌, subst}
use Rattle.std.specs.Bool.{⊤}
use Rattle.std.specs.List.{All, filter, filter_map}
use Rattle.std.proofs.lemmas.List.Elements.{All-map, All-append, All-filter}
use Rattle.list_laws.proofs.Places.{filter_map_back, filter_map_forth, map_back}
use Rattle.list_laws.proofs.Contents.{all_at, all_from_at, contains_get, get_contained}
use Rattle.sp_ids.specs.declared.ids.BlockId.{BlockId}
use Rattle.ir_ast.specs.declared.ops.Op.{Op}
use Rattle.ir_ast.specs.declared.ops.Op.TheVariants.{Phi}
use Rattle.ir_ast.specs.declared.ops.Operand.{Operand}
use Rattle.ir_ast.specs.Insts.{Instruction}
use Rattle.ir_ast.specs.Funcs.{Function, instructions_of}
use Rattle.ir_ast.specs.Values.{Definition, argument, outcome, definitions_of, Gives}
use Rattle.ir_ast.specs.Operands.{value_in, values_used, operands_of}
use Rattle.ir_ast.specs.Derived.{Derived, by_step, by_merge, is_step, is_merge}
use Rattle.ir_ast.specs.Faults.DerivedEscapes.{leaving, values_leaving, KeepsDerived, DerivedStay}
use Rattle.ir_ast.proofs.OpLaws.{leaving_map}
use Rattle.graph_search.specs.Paths.{Marked}
use Rattle.ir_cfg.specs.Unreached.{Kept, kept_of, kept_by, value_marks, operand_kept, inst_kept, function_kept}
use Rattle.ir_cfg.proofs.KeepsPlaces.{before_same, kept_back, marks_before, number_of_marked}
use Rattle.ir_cfg.proofs.KeepsLines.{IsKept, all_insts, all_lines, inst_left, inst_new, line_at, operands_left, two_steps}
use Rattle.ir_cfg.proofs.KeepsValues.{definition_kept, left_definitions, named, new_definitions}
use Rattle.ir_cfg.proofs.KeepsUses.{Lasts, used_new, values_of_new}
use Rattle.ir_cfg.proofs.KeepsTypes.{operand_marked}
use Rattle.ir_cfg.proofs.KeepsNames.{left_operand_of}
use Rattle.ir_cfg.proofs.UsedLaws.{leaving_at}

-- an instruction that gives a value stands in a kept block
abbrev GivesInKept : List Bool → Function → Definition → Type 0
GivesInKept marks func (argument arg) = ⊤
GivesInKept marks func (outcome inst) = IsKept marks func inst

kept_insts : (marks : List Bool) (func : Function) → All (IsKept marks func) (instructions_of (kept_of marks func.blocks))
kept_insts marks func =
    all_insts (IsKept marks func) (kept_of marks func.blocks) (λ number place block inst in_blocks in_block.
    let o = kept_back marks func.blocks number block in_blocks in
    record { number = o.place; place = place; marked = o.marked; stands = record { block = block; in_function = o.stands; in_block = in_block } })

kept_definitions : (marks : List Bool) (func : Function) → length marks ≡ length func.blocks
    → All (GivesInKept marks func) (kept_of (value_marks marks func) (definitions_of func))
kept_definitions marks func whole =
    let P = GivesInKept marks func in
    let outcomes = filter named (instructions_of (kept_of marks func.blocks)) in
    subst (All P) (left_definitions marks func whole)
    (All-append P (map argument func.args) (map outcome outcomes)
    (All-map P argument func.args (λ k d below. tt))
    (All-map P outcome outcomes (All-filter named (IsKept marks func) (instructions_of (kept_of marks func.blocks)) (kept_insts marks func))))

-- what a result of the new function comes from
record GivesOrigin (marks : List Bool) (func : Function) (value : ℕ) (inst : Instruction) : Type 0 where
  pub old : ℕ
  pub line : Instruction
  pub marked : Marked (value_marks marks func) old
  pub same : marks_before (value_marks marks func) old ≡ value
  pub gives : Gives func old line
  pub kept : IsKept marks func line
  pub is : inst ≡ inst_kept (kept_by marks func) line

abbrev outcome_of : Instruction → Definition → Instruction
outcome_of inst (argument arg) = inst
outcome_of inst (outcome given) = given

given_cases : (marks : List Bool) (func : Function) (value old : ℕ) (inst : Instruction) (given : Definition) → Marked (value_marks marks func) old
    → marks_before (value_marks marks func) old ≡ value → slice_get (definitions_of func) old ≡ Some given → GivesInKept marks func given
    → outcome inst ≡ definition_kept (kept_by marks func) given → GivesOrigin marks func value inst
given_cases marks func value old inst (argument arg) marked same stands kept is = absurd (cc)
given_cases marks func value old inst (outcome line) marked same stands kept is = record {
  old = old;
  line = line;
  marked = marked;
  same = same;
  gives = stands;
  kept = kept;
  is = ap (outcome_of inst) is;
}

gives_back : (marks : List Bool) (func : Function) (value : ℕ) (inst : Instruction) → length marks ≡ length func.blocks
    → Gives (function_kept marks func) value inst → GivesOrigin marks func value inst
gives_back marks func value inst whole gives =
    let kept = kept_by marks func in
    let left = kept_of (value_marks marks func) (definitions_of func) in
    let there : slice_get (map (definition_kept kept) left) value ≡ Some (outcome inst) =
    ap (λ (ds : List Definition). slice_get ds value) (sym (new_definitions marks func whole)) ∙ gives in
    let m = map_back (definition_kept kept) left value (outcome inst) there in
    let o = kept_back (value_marks marks func) (definitions_of func) value m.before m.stands in
    given_cases marks func value o.place inst m.before o.marked o.number o.stands
    (all_at (GivesInKept marks func) left value m.before (kept_definitions marks func whole) m.stands) m.is

-- the derived value that one of the new function was
record DerivedOrigin (marks : List Bool) (func : Function) (value : ℕ) : Type 0 where
  pub old : ℕ
  pub marked : Marked (value_marks marks func) old
  pub same : marks_before (value_marks marks func) old ≡ value
  pub derived : Derived func old

derived_back : (marks : List Bool) (func : Function) → length marks ≡ length func.blocks
    → ((inst : Instruction) → IsKept marks func inst → Lasts marks func inst) → (value : ℕ)
    → Derived (function_kept marks func) value → DerivedOrigin marks func value
derived_back marks func whole lasts _ (by_step value inst gives step) =
    let o = gives_back marks func value inst whole gives in
    record {
      old = o.old;
      marked = o.marked;
      same = o.same;
      derived = by_step o.old o.line o.gives (ap (λ (i : Instruction). is_step i.op) (sym o.is) ∙ step);
    }
derived_back marks func whole lasts _ (by_merge value operand inst gives merge used derived) =
    let kept = kept_by marks func in
    let o = gives_back marks func value inst whole gives in
    let before = derived_back marks func whole lasts operand derived in
    let left = inst_left kept o.line in
    let at = get_contained (values_used inst) operand used in
    let there : slice_get (map (λ (v : ℕ). get_or kept.values v 0) (values_used left)) at.0 ≡ Some operand =
    ap (λ (vs : List ℕ). slice_get vs at.0) (sym (ap values_used (o.is ∙ two_steps kept o.line) ∙ used_new kept left)) ∙ at.1 in
    let m = map_back (λ (v : ℕ). get_or kept.values v 0) (values_used left) at.0 operand there in
    let marked = (lasts o.line o.kept).values at.0 m.before m.stands in
    let is : marks_before (value_marks marks func) m.before ≡ operand = sym (m.is ∙ number_of_marked (value_marks marks func) m.before marked) in
    let same : before.old ≡ m.before = before_same (value_marks marks func) before.old m.before before.marked marked (before.same ∙ sym is) in
    let item = filter_map_back value_in (operands_of left) m.before at.0 m.stands in
    let old = left_operand_of kept o.line item.place item.item item.stands in
    let forth = filter_map_forth value_in (operands_of o.line) old.0 item.item m.before old.1 item.gives in
    record {
      old = o.old;
      marked = o.marked;
      same = o.same;
      derived = by_merge o.old m.before o.line o.gives (ap (λ (i : Instruction). is_merge i.op) (sym o.is) ∙ merge)
          (contains_get (values_used o.line) forth.0 m.before forth.1) (subst (Derived func) same before.derived);
    }

leaving_left : (kept : Kept) (op : Op) (labels : List BlockId) (operands : List Operand)
    → leaving op (operands_left kept op labels operands) ≡ leaving op operands
leaving_left kept Phi labels operands = refl
leaving_left kept op labels operands = refl

stays_new : (marks : List Bool) (func : Function) (inst : Instruction) → length marks ≡ length func.blocks
    → ((inst : Instruction) → IsKept marks func inst → Lasts marks func inst) → IsKept marks func inst → KeepsDerived func inst
    → KeepsDerived (function_kept marks func) (inst_new (kept_by marks func) (inst_left (kept_by marks func) inst))
stays_new marks func inst whole lasts stands stay =
    let kept = kept_by marks func in
    let left = inst_left kept inst in
    let leaves = leaving inst.op left.operands in
    let new : values_leaving (inst_new kept left) ≡ map (λ (v : ℕ). get_or kept.values v 0) (filter_map value_in leaves) =
    ap (filter_map value_in) (leaving_map (operand_kept kept) inst.op left.operands) ∙ values_of_new kept leaves in
    all_from_at (λ (value : ℕ). Derived (function_kept marks func) value → ⊥) (values_leaving (inst_new kept left)) (λ k value at derived.
    let m = map_back (λ (v : ℕ). get_or kept.values v 0) (filter_map value_in leaves) k value (ap (λ (vs : List ℕ). slice_get vs k) (sym new) ∙ at) in
    let item = filter_map_back value_in leaves m.before k m.stands in
    let marked = operand_marked marks func inst (lasts inst stands) item.place item.item m.before (leaving_at inst.op left.operands item.place item.item item.stands) item.gives in
    let was : slice_get (values_leaving inst) k ≡ Some m.before =
    ap (λ (os : List Operand). slice_get (filter_map value_in os) k) (sym (leaving_left kept inst.op inst.labels inst.operands)) ∙ m.stands in
    let o = derived_back marks func whole lasts value derived in
    let is : marks_before (value_marks marks func) m.before ≡ value = sym (m.is ∙ number_of_marked (value_marks marks func) m.before marked) in
    let same : o.old ≡ m.before = before_same (value_marks marks func) o.old m.before o.marked marked (o.same ∙ sym is) in
    all_at (λ (v : ℕ). Derived func v → ⊥) (values_leaving inst) k m.before stay was (subst (Derived func) same o.derived))

-- no derived pointer leaves the registers
pub derived_kept : (marks : List Bool) (func : Function) → length marks ≡ length func.blocks
    → ((inst : Instruction) → IsKept marks func inst → Lasts marks func inst) → DerivedStay func → DerivedStay (function_kept marks func)
derived_kept marks func whole lasts stay =
    all_lines (KeepsDerived (function_kept marks func)) marks func (λ inst kept.
    subst (KeepsDerived (function_kept marks func)) (sym (two_steps (kept_by marks func) inst))
    (stays_new marks func inst whole lasts kept (line_at (KeepsDerived func) func kept.number kept.place inst kept.stands stay)))
