-- Names stay names, distinct and free, and what kept lines name exists.
use Rattle.std.proofs.Common.{◌≡◌, ℕ, ◌<◌, ◌+◌, Bool, true, false, List, [], ◌∷◌, length, get_or, map, replicate, refl, ap, sym, arith, Option, Some, slice_get, inl, inr, ◌∙◌, subst}
use Rattle.std.specs.List.{All, filter, filter_map}
use Rattle.std.proofs.lemmas.List.{length-append, length-map, length-replicate}
use Rattle.std.proofs.lemmas.List.Elements.{All-map, All-append, filter-append}
use Rattle.std.proofs.lemmas.Option.{slice_get_within}
use Rattle.list_laws.proofs.Places.{filter_map_back, filter_map_forth, get_front, get_map, get_past, get_some, map_back}
use Rattle.list_laws.proofs.Contents.{all_at, all_back, all_from_at, all_front, all_under as of_map}
use Rattle.sp_ids.specs.declared.ids.BlockId.{BlockId}
use Rattle.ir_ast.specs.declared.types.Ty.{Ty}
use Rattle.ir_ast.specs.declared.ops.Op.{Op}
use Rattle.ir_ast.specs.declared.ops.Op.TheVariants.{Phi}
use Rattle.ir_ast.specs.declared.ops.Operand.{Operand}
use Rattle.ir_ast.specs.declared.ops.Operand.TheVariants.{Value, Int, Null, Fun}
use Rattle.ir_ast.specs.Lists.{Distinct}
use Rattle.ir_ast.specs.Insts.{Instruction}
use Rattle.ir_ast.specs.Blocks.{BasicBlock}
use Rattle.ir_ast.specs.Funcs.{Function, instructions_of}
use Rattle.ir_ast.specs.Modules.{ModuleContent}
use Rattle.ir_ast.specs.Values.{argument, outcome, definitions_of, definition_name}
use Rattle.ir_ast.specs.Operands.{values_used, operands_of}
use Rattle.ir_ast.specs.Faults.UnknownName.{NamesOfFunction, NamesOfModule, LocalNamesAreKnown, GlobalNamesAreKnown}
use Rattle.ir_cfg.specs.Graphs.{graph_of}
use Rattle.graph_search.specs.Paths.{Marked}
use Rattle.ir_cfg.specs.Marks.{MarksReached}
use Rattle.ir_cfg.specs.Unreached.{Kept, kept_of, kept_by, result_count, result_marks, value_marks, operand_kept, label_kept, has_mark, inst_kept, block_kept, function_kept}
use Rattle.ir_cfg.proofs.KeepsPlaces.{get_cases, kept_all, kept_back, kept_distinct, kept_get, kept_map, map_through, marks_before, number_of_marked}
use Rattle.ir_cfg.proofs.KeepsLines.{IsKept, all_lines, block_forth, inst_left, inst_new, line_at, operands_left, two_steps}
use Rattle.ir_cfg.proofs.KeepsValues.{definition_kept, named, new_definitions, new_names}
use Rattle.ir_cfg.proofs.KeepsPaths.{marked_block, marks_whole}
use Rattle.ir_cfg.proofs.KeepsUses.{Lasts, operands_of_new, used_new}

-- what holds of the names of all values
pub values_named : (P : List ℕ → Type 0) (marks : List Bool) (func : Function) → length marks ≡ length func.blocks
    → All (λ given. P (definition_name given)) (definitions_of func)
    → All (λ given. P (definition_name given)) (definitions_of (function_kept marks func))
values_named P marks func whole all =
    of_map definition_name P (definitions_of (function_kept marks func))
    (subst (All P) (sym (new_names marks func whole))
    (kept_all P (value_marks marks func) (map definition_name (definitions_of func)) (All-map P definition_name (definitions_of func) all)))

-- what holds of the names of all blocks
pub blocks_named : (P : List ℕ → Type 0) (marks : List Bool) (func : Function) → All (λ block. P block.name) func.blocks
    → All (λ block. P block.name) (function_kept marks func).blocks
blocks_named P marks func all =
    All-map (λ (block : BasicBlock). P block.name) (block_kept (kept_by marks func)) (kept_of marks func.blocks)
    (kept_all (λ (block : BasicBlock). P block.name) marks func.blocks all)

pub values_distinct : (marks : List Bool) (func : Function) → length marks ≡ length func.blocks
    → Distinct (map definition_name (definitions_of func)) → Distinct (map definition_name (definitions_of (function_kept marks func)))
values_distinct marks func whole distinct =
    subst Distinct (sym (new_names marks func whole)) (kept_distinct (value_marks marks func) (map definition_name (definitions_of func)) distinct)

pub blocks_distinct : (marks : List Bool) (func : Function) → Distinct (map (λ block. block.name) func.blocks)
    → Distinct (map (λ block. block.name) (function_kept marks func).blocks)
blocks_distinct marks func distinct =
    let name : BasicBlock → List ℕ = λ block. block.name in
    let is : map name (function_kept marks func).blocks ≡ kept_of marks (map name func.blocks) =
    map_through name (block_kept (kept_by marks func)) name (λ block. refl) (kept_of marks func.blocks)
    ∙ sym (kept_map name marks func.blocks) in
    subst Distinct (sym is) (kept_distinct marks (map name func.blocks) distinct)

results_whole : (marks : List Bool) (blocks : List BasicBlock)
    → length (result_marks marks blocks) ≡ length (filter named (instructions_of blocks))
results_whole marks [] = refl
results_whole [] (block ∷ blocks) =
    let rest = results_whole [] blocks in
    let one = length-append (replicate (result_count block) false) (result_marks [] blocks) in
    let two = length-replicate (result_count block) false in
    let three = ap length (filter-append named block.insts (instructions_of blocks)) in
    let four = length-append (filter named block.insts) (filter named (instructions_of blocks)) in
    omega (arith, rest, one, two, three, four)
results_whole (mark ∷ marks) (block ∷ blocks) =
    let rest = results_whole marks blocks in
    let one = length-append (replicate (result_count block) mark) (result_marks marks blocks) in
    let two = length-replicate (result_count block) mark in
    let three = ap length (filter-append named block.insts (instructions_of blocks)) in
    let four = length-append (filter named block.insts) (filter named (instructions_of blocks)) in
    omega (arith, rest, one, two, three, four)

-- one mark for each value
pub values_whole : (marks : List Bool) (func : Function) → length (value_marks marks func) ≡ length (definitions_of func)
values_whole marks func =
    let rest = results_whole marks func.blocks in
    let outcomes = map outcome (filter named (instructions_of func.blocks)) in
    let one = length-append (replicate (length func.args) true) (result_marks marks func.blocks) in
    let two = length-replicate (length func.args) true in
    let three = length-append (map argument func.args) outcomes in
    let four = length-map func.args argument in
    let five = length-map (filter named (instructions_of func.blocks)) outcome in
    omega (arith, rest, one, two, three, four, five)

-- the new number of a kept value is that of a value
value_exists : (marks : List Bool) (func : Function) (value : ℕ) → length marks ≡ length func.blocks → Marked (value_marks marks func) value
    → marks_before (value_marks marks func) value < length (definitions_of (function_kept marks func))
value_exists marks func value whole marked =
    let within = slice_get_within (value_marks marks func) value true marked in
    let all = values_whole marks func in
    let given = get_some (definitions_of func) value (omega arith) in
    let kept = kept_get (value_marks marks func) (definitions_of func) value given.0 marked given.1 in
    let new = get_map (definition_kept (kept_by marks func)) (kept_of (value_marks marks func) (definitions_of func)) (marks_before (value_marks marks func) value) given.0 kept in
    let inside = slice_get_within (map (definition_kept (kept_by marks func)) (kept_of (value_marks marks func) (definitions_of func))) (marks_before (value_marks marks func) value) (definition_kept (kept_by marks func) given.0) new in
    let long = ap length (new_definitions marks func whole) in
    omega (arith, inside, long)

local_new : (marks : List Bool) (func : Function) (inst : Instruction) → MarksReached (graph_of func) marks → Lasts marks func inst
    → NamesOfFunction (function_kept marks func) (inst_new (kept_by marks func) (inst_left (kept_by marks func) inst))
local_new marks func inst reached lasts =
    let kept = kept_by marks func in
    let left = inst_left kept inst in
    record {
      values = all_from_at (λ (value : ℕ). value < length (definitions_of (function_kept marks func))) (values_used (inst_new kept left)) (λ k value at.
          let there : slice_get (map (λ (v : ℕ). get_or kept.values v 0) (values_used left)) k ≡ Some value =
          ap (λ (vs : List ℕ). slice_get vs k) (sym (used_new kept left)) ∙ at in
          let m = map_back (λ (v : ℕ). get_or kept.values v 0) (values_used left) k value there in
          let marked = lasts.values k m.before m.stands in
          let is : value ≡ marks_before (value_marks marks func) m.before = m.is ∙ number_of_marked (value_marks marks func) m.before marked in
          let exists = value_exists marks func m.before (marks_whole marks func reached) marked in
          omega arith);
      blocks = all_from_at (λ (label : BlockId). label.0 < length (function_kept marks func).blocks) (map (label_kept kept) left.labels) (λ k label at.
          let m = map_back (label_kept kept) left.labels k label at in
          let marked = lasts.labels k m.before m.stands in
          let is : label.0 ≡ marks_before marks m.before.0 = ap (λ (l : BlockId). l.0) m.is ∙ number_of_marked marks m.before.0 marked in
          let block = marked_block marks func m.before.0 reached marked in
          let forth = block_forth marks func m.before.0 block.0 marked block.1 in
          let within = slice_get_within (function_kept marks func).blocks (marks_before marks m.before.0) (block_kept kept block.0) forth in
          omega arith);
    }

pub local_kept : (marks : List Bool) (func : Function) → MarksReached (graph_of func) marks
    → ((inst : Instruction) → IsKept marks func inst → Lasts marks func inst) → LocalNamesAreKnown (function_kept marks func)
local_kept marks func reached lasts =
    all_lines (NamesOfFunction (function_kept marks func)) marks func (λ inst kept.
    subst (NamesOfFunction (function_kept marks func)) (sym (two_steps (kept_by marks func) inst)) (local_new marks func inst reached (lasts inst kept)))

same_item : (h : Operand → Option ℕ) → ((one two : ℕ) → h (Value (record { 0 = one })) ≡ h (Value (record { 0 = two }))) → (kept : Kept) (operand : Operand)
    → h (operand_kept kept operand) ≡ h operand
same_item h same kept (Value value) = same (get_or kept.values value.0 0) value.0
same_item h same kept (Int number) = refl
same_item h same kept Null = refl
same_item h same kept (Fun func) = refl

all_items : {A : Type 0} (P : ℕ → Type 0) (h : A → Option ℕ) (xs ys : List A)
    → ((k : ℕ) (y : A) → slice_get ys k ≡ Some y → (j : ℕ) × (x : A) × (slice_get xs j ≡ Some x) × (h x ≡ h y))
    → All P (filter_map h xs) → All P (filter_map h ys)
all_items P h xs ys from all = all_from_at P (filter_map h ys) (λ k n at.
    let item = filter_map_back h ys n k at in
    let old = from item.place item.item item.stands in
    let forth = filter_map_forth h xs old.0 old.1 n old.2 (old.3 ∙ item.gives) in
    all_at P (filter_map h xs) forth.0 n all forth.1)

-- the operands that a kept line has come from operands that it had
record OperandOrigin (kept : Kept) (inst : Instruction) (operand : Operand) : Type 0 where
  pub place : ℕ
  pub old : Operand
  pub stands : slice_get (operands_of inst) place ≡ Some old
  pub is : operand ≡ operand_kept kept old

left_operand : (kept : Kept) (op : Op) (labels : List BlockId) (operands : List Operand) (k : ℕ) (operand : Operand)
    → slice_get (operands_left kept op labels operands) k ≡ Some operand → (j : ℕ) × (slice_get operands j ≡ Some operand)
left_operand kept Phi labels operands k operand at =
    let o = kept_back (map (has_mark kept) labels) operands k operand at in
    (o.place, o.stands)
left_operand kept op labels operands k operand at = (k, at)

-- what a line that lost entries has, it had
pub left_operand_of : (kept : Kept) (inst : Instruction) (k : ℕ) (operand : Operand)
    → slice_get (operands_of (inst_left kept inst)) k ≡ Some operand → (j : ℕ) × (slice_get (operands_of inst) j ≡ Some operand)
left_operand_of kept inst k operand at =
    let given = map (λ (entry : Ty × Operand). entry.1) inst.bundle in
    elim (get_cases (inst_left kept inst).operands given k operand at) [
      | inl own ↦
          let old = left_operand kept inst.op inst.labels inst.operands k operand own in
          (old.0, get_front inst.operands given old.0 operand old.1)
      | inr bundled ↦ (length inst.operands + bundled.0, get_past inst.operands given bundled.0 ∙ bundled.1)
    ]

operand_back : (kept : Kept) (inst : Instruction) (k : ℕ) (operand : Operand)
    → slice_get (operands_of (inst_kept kept inst)) k ≡ Some operand → OperandOrigin kept inst operand
operand_back kept inst k operand at =
    let there : slice_get (map (operand_kept kept) (operands_of (inst_left kept inst))) k ≡ Some operand =
    ap (λ (os : List Operand). slice_get os k) (sym (ap operands_of (two_steps kept inst) ∙ operands_of_new kept (inst_left kept inst))) ∙ at in
    let m = map_back (operand_kept kept) (operands_of (inst_left kept inst)) k operand there in
    let old = left_operand_of kept inst k m.before m.stands in
    record { place = old.0; old = m.before; stands = old.1; is = m.is }

functions_kept : (P : ℕ → Type 0) (h : Operand → Option ℕ) → ((one two : ℕ) → h (Value (record { 0 = one })) ≡ h (Value (record { 0 = two })))
    → (kept : Kept) (inst : Instruction) → All P (filter_map h (operands_of inst)) → All P (filter_map h (operands_of (inst_kept kept inst)))
functions_kept P h same kept inst all =
    all_items P h (operands_of inst) (operands_of (inst_kept kept inst)) (λ k operand at.
    let o = operand_back kept inst k operand at in
    (o.place, o.old, o.stands, sym (ap h o.is ∙ same_item h same kept o.old))) all

global_new : (content : ModuleContent) (kept : Kept) (inst : Instruction) → NamesOfModule content inst → NamesOfModule content (inst_kept kept inst)
global_new content kept inst known = record {
  layouts = known.layouts;
  functions =
      let P : ℕ → Type 0 = λ named. named < length content.funcs in
      All-append P _ _ (all_front P _ _ known.functions) (functions_kept P _ (λ one two. refl) kept inst (all_back P _ _ known.functions));
}

pub global_kept : (content : ModuleContent) (marks : List Bool) (func : Function) → GlobalNamesAreKnown content func
    → GlobalNamesAreKnown content (function_kept marks func)
global_kept content marks func known =
    all_lines (NamesOfModule content) marks func (λ inst kept.
    global_new content (kept_by marks func) inst (line_at (NamesOfModule content) func kept.number kept.place inst kept.stands known))
