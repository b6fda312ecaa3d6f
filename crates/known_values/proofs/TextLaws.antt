-- The two meanings run the texts of typed functions: the target meaning as they stand, the source meaning with their polls.
use Rattle.std.proofs.Common.{◌≡◌, ℕ, zero, suc, ◌+◌, ◌-◌, ◌<◌, Bool, true, not, if◌then◌else◌, List, [], ◌∷◌, ◌++◌, length, drop, refl, sym, ap, subst, ◌∙◌, inl, inr, arith}
use Rattle.std.specs.Prelude.{⊤, Option, Some, None, slice_get, slice_index}
use Rattle.std.specs.List.{All, Contains}
use Rattle.std.specs.Option.{option_map, option_map_or}
use Rattle.std.proofs.lemmas.Bool.{false≢true}
use Rattle.std.proofs.lemmas.List.{length-append, length-drop, length-map}
use Rattle.std.proofs.lemmas.Option.{none-some, slice_get_within}
use Rattle.list_laws.proofs.Contents.{all_at, all_from_at, contains_get, get_contained, joined_contains}
use Rattle.list_laws.proofs.Places.{get_some, pushed_cases}
use Rattle.list_laws.proofs.Tests.{all_passes, position_within}
use Rattle.sp_ids.specs.declared.ids.BlockId.{BlockId}
use Rattle.ir_ast.specs.declared.modules.Form.{Form}
use Rattle.ir_ast.specs.declared.modules.Form.TheVariants.{Rewritten, Source}
use Rattle.ir_ast.specs.declared.ops.Op.{Op}
use Rattle.ir_ast.specs.declared.ops.Op.TheVariants as ops
use Rattle.ir_ast.specs.Blocks.{BasicBlock, EndsAtTerminator}
use Rattle.ir_ast.specs.Edges.{targets}
use Rattle.ir_ast.specs.Faultless.{FunctionHasNoFault}
use Rattle.ir_ast.specs.Faults.EntryHasPred.{EntryHasNoPred}
use Rattle.ir_ast.specs.Funcs.{Function, insts_in, instructions_of}
use Rattle.ir_ast.specs.Insts.{Instruction}
use Rattle.ir_ast.specs.Lines.{IsLine, LineOf}
use Rattle.ir_ast.specs.Modules.{ModuleContent}
use Rattle.ir_ast.specs.Ops.{is_terminator}
use Rattle.ir_ast.specs.Values.{definitions_of}
use Rattle.ir_cfg.specs.DefiniteUses.{Defines, Stands, UsesAreDefinite}
use Rattle.ir_cfg.specs.Graphs.{Edge, Graph, block_at, graph_of}
use Rattle.ir_cfg.specs.TypedModules.{IsTypedFunction, IsTypedModule}
use Rattle.ir_cfg.proofs.KeepsEntry.{entry_alone}
use Rattle.ir_cfg.proofs.KeepsLines.{line_at}
use Rattle.ir_cfg.proofs.KeepsPaths.{succs_at}
use Rattle.ir_cfg.proofs.PathLemmas.{edge_within}
use Rattle.object_meaning.specs.BlockLines.{lines_at}
use Rattle.object_meaning.specs.Jumps.{branch_taken, case_taken, is_case, label_at}
use Rattle.object_meaning.specs.Lines.{Line, after_all, lines_from, lines_of, poll, register_count, registers_of}
use Rattle.object_meaning.specs.Registers.{number_in}
use Rattle.object_meaning.specs.SourceRuns.{source_setting}
use Rattle.object_meaning.specs.TargetRuns.{plain_lines, target_setting}
use Rattle.object_meaning.proofs.LineLaws.{last_register, branch_within}
use Rattle.object_meaning.proofs.GivenLaws.{after_is, definition_count}
use Rattle.base_forms.specs.Polls.{placed, placed_block}
use Rattle.base_laws.proofs.FormLaws.{ends_placed}
use Rattle.base_forms.proofs.PlacedLaws.{all_placed, block_placed, plain_polled, registers_placed, results_placed}
use Rattle.base_laws.proofs.PollLaws.{graph_placed}
use Rattle.base_definite.proofs.PolledUses.{none_undefined}
use Rattle.base_definite.proofs.base_paths.GivesLaws.{defines_gives}
use Rattle.base_definite.proofs.base_paths.UndefinedLaws.{undefined_unused}
use Rattle.known_values.specs.Instances.{SourcesRunTheirPolls, TargetsRunTheirText}
use Rattle.known_values.specs.Texts.{LeadsAlong, RunsText}

-- ---- terminators

abbrev LabelsFit : Op → Instruction → Type 0
LabelsFit ops.Br inst = length inst.labels ≡ 1
LabelsFit ops.CondBr inst = length inst.labels ≡ 2
LabelsFit ops.Switch inst = (length inst.labels ≡ length inst.operands) × (0 < length inst.operands)
LabelsFit op inst = ⊤

abbrev Fits : Instruction → Type 0
Fits inst = LabelsFit inst.op inst

labels_fit : (op : Op) (inst : Instruction) → LineOf op inst → LabelsFit op inst
labels_fit ops.Br inst line = line.label_count
labels_fit ops.CondBr inst line = line.label_count
labels_fit ops.Switch inst line = (line.0.label_count, line.1)
labels_fit op inst line = tt

-- a function whose blocks end at their only terminator, which has as many labels as it takes
record IsLaidOut (func : Function) : Type 0 where
  ends : All (λ block. EndsAtTerminator block.insts) func.blocks
  labels : All Fits (instructions_of func.blocks)

module _ (func : Function) (out : IsLaidOut func) where
  last_stands : (block place : ℕ) (inst : Instruction) (own : BasicBlock) → Stands func block place inst → is_terminator inst.op ≡ true
      → slice_get func.blocks block ≡ Some own → suc place ≡ length own.insts
  last_stands block place inst own stands ends found =
      let ended = all_at (λ (each : BasicBlock). EndsAtTerminator each.insts) func.blocks block own out.ends found in
      let both : Some stands.block ≡ Some own = sym stands.in_function ∙ found in
      let same : stands.block ≡ own = cc in
      let at : slice_get (ended.before ++ ended.last ∷ []) place ≡ Some inst =
      ap (λ (insts : List Instruction). slice_get insts place) (sym ended.whole) ∙ (ap (λ (b : BasicBlock). slice_get b.insts place) (sym same) ∙ stands.in_block) in
      let here : place ≡ length ended.before =
      elim (pushed_cases ended.before ended.last place inst at) [
        | inl early ↦
            absurd (false≢true (sym (ap not ends) ∙ all_passes (λ (i : Instruction). not (is_terminator i.op)) ended.before place inst ended.inside early))
        | inr last ↦ last.0
      ] in
      let long = ap length ended.whole ∙ length-append ended.before (ended.last ∷ []) in
      omega arith

  leads_along : (block place : ℕ) (inst : Instruction) → Stands func block place inst → is_terminator inst.op ≡ true → (number : ℕ) → number < length inst.labels
      → Edge (graph_of func) block (label_at inst.labels number)
  leads_along block place inst stands ends number within =
      let label = get_some inst.labels number within in
      let own : Contains (if is_terminator inst.op then inst.labels else []) label.0 =
      subst (λ (b : Bool). Contains (if b then inst.labels else []) label.0) (sym ends) (contains_get inst.labels number label.0 label.1) in
      let inside = joined_contains (λ (i : Instruction). if is_terminator i.op then i.labels else []) stands.block.insts inst label.0 (contains_get stands.block.insts place inst stands.in_block) own in
      let there = get_contained (targets stands.block) label.0 inside in
      let edge : Edge (graph_of func) block label.0.0 = record {
        number = there.0;
        leads = ap (λ (row : List BlockId). slice_get row there.0) (succs_at func block stands.block stands.in_function) ∙ there.1;
      } in
      subst (λ (found : Option BlockId). Edge (graph_of func) block (option_map_or (λ label. label.0) found 0)) (sym label.1) edge

  leads_by : (block place : ℕ) (inst : Instruction) → Stands func block place inst → (op : Op) → inst.op ≡ op → LabelsFit op inst → LeadsAlong func block inst op
  leads_by block place inst stands ops.Br is count = leads_along block place inst stands (ap is_terminator is) 0 (omega arith)
  leads_by block place inst stands ops.CondBr is count = λ datum.
      let below = branch_within datum in
      leads_along block place inst stands (ap is_terminator is) (branch_taken datum) (omega (arith, count, below))
  leads_by block place inst stands ops.Switch is count = λ datum.
      let many = count.0 in
      let some = count.1 in
      let fewer = length-drop 1 inst.operands in
      let below = position_within (is_case (number_in datum)) (drop 1 inst.operands) in
      leads_along block place inst stands (ap is_terminator is) (case_taken datum (drop 1 inst.operands)) (omega (arith, many, some, fewer, below))
  leads_by block place inst stands op is count = tt

  leads_out : (block place : ℕ) (inst : Instruction) → Stands func block place inst → LeadsAlong func block inst inst.op
  leads_out block place inst stands = leads_by block place inst stands inst.op refl (line_at Fits func block place inst stands out.labels)

-- ---- registers

-- a result has a number below that of all definitions
defined_below : (func : Function) (value block place : ℕ) → Defines func value block place → value < after_all (length func.args) (instructions_of func.blocks)
defined_below func value block place defines =
    let within = slice_get_within (definitions_of func) value _ (defines_gives func value block place defines) in
    let count = definition_count func in
    let all = after_is (length func.args) (instructions_of func.blocks) in
    omega arith

count_at : (content : ModuleContent) (number : ℕ) (func : Function) → slice_get content.funcs number ≡ Some func
    → register_count content number ≡ after_all (length func.args) (instructions_of func.blocks)
count_at content number func found =
    ap (λ (here : Option Function). option_map_or (λ defined. slice_index (registers_of defined) (length (registers_of defined) - 1)) here 0) found
    ∙ last_register (length func.args) func.blocks

-- ---- typed functions

fits_typed : (form : Form) (func : Function) → IsTypedFunction form func → All Fits (instructions_of func.blocks)
fits_typed form func typed =
    all_from_at Fits (instructions_of func.blocks) (λ place inst at. labels_fit inst.op inst (all_at IsLine (instructions_of func.blocks) place inst typed.lines at))

-- no edge leads to the entry
no_entry : (func : Function) → EntryHasNoPred func → (from : ℕ) → Edge (graph_of func) from 0 → ⊥
no_entry func alone from edge =
    let within = edge_within (graph_of func) from 0 edge in
    let long = length-map func.blocks targets in
    let block = get_some func.blocks from (omega arith) in
    entry_alone func from block.0 edge.number (block_at 0) alone block.1 (ap (λ (row : List BlockId). slice_get row edge.number) (sym (succs_at func from block.0 block.1)) ∙ edge.leads) refl

target_text : (content : ModuleContent) → IsTypedModule Rewritten content → (go : ℕ → Option ℕ) (bound number : ℕ) (func : Function)
    → slice_get content.funcs number ≡ Some func → RunsText (target_setting content go bound) number func
target_text content typed go bound number func found = record {
  front = lines_here 0;
  blocks = λ from to edge. lines_here to;
  room = λ value block place defines. subst (λ (n : ℕ). value < n) (sym (count_at content number func found)) (defined_below func value block place defines);
  last = last_stands func out;
  leads = leads_out func out;
}
  where
    typed_function : IsTypedFunction Rewritten func
    typed_function = all_at (IsTypedFunction Rewritten) content.funcs number func typed.functions found

    out : IsLaidOut func
    out = record { ends = typed_function.ends; labels = fits_typed Rewritten func typed_function }

    lines_here : (block : ℕ) → (target_setting content go bound).lines number block ≡ lines_at func block
    lines_here block =
        ap (λ (here : Option Function). plain_lines (option_map_or (λ defined. slice_index (registers_of defined) block) here 0) (option_map_or (λ defined. insts_in defined block) here [])) found

source_text : (content : ModuleContent) → IsTypedModule Source content → (go : ℕ → Option ℕ) (bound number : ℕ) (func : Function)
    → slice_get content.funcs number ≡ Some func → RunsText (source_setting content go bound) number (placed func)
source_text content typed go bound number func found = record {
  front = (let block = get_some func.blocks 0 typed_function.has_block in ap (λ (lines : List Line). poll ∷ lines) (lines_before 0) ∙ front_at block.0 block.1);
  blocks = λ from to edge. behind_edge to (λ entry. no_entry func alone from (subst (λ (n : ℕ). Edge (graph_of func) from n) entry (subst (λ (g : Graph). Edge g from to) (graph_placed func) edge)));
  room = λ value block place defines.
      let below = defined_below (placed func) value block place defines in
      subst (λ (n : ℕ). value < n) (counts_same ∙ sym (count_at content number func found)) below;
  last = last_stands (placed func) out;
  leads = leads_out (placed func) out;
}
  where
    typed_function : IsTypedFunction Source func
    typed_function = all_at (IsTypedFunction Source) content.funcs number func typed.functions found

    alone : EntryHasNoPred func
    alone = (all_at (FunctionHasNoFault content) content.funcs number func (typed.no_fault).functions found).entry

    placed_there : (place : ℕ) (here : Option BasicBlock) → slice_get func.blocks place ≡ here → slice_get (placed func).blocks place ≡ option_map (placed_block place) here
    placed_there place here is =
        let same : 0 + place ≡ place = omega arith in
        block_placed 0 place func.blocks ∙ (ap (option_map (placed_block (0 + place))) is ∙ ap (λ n. option_map (placed_block n) here) same)

    out : IsLaidOut (placed func)
    out = record {
      ends = all_from_at (λ (block : BasicBlock). EndsAtTerminator block.insts) (placed func).blocks (λ place block at. ended place block at (slice_get func.blocks place) refl);
      labels = all_placed Fits tt 0 func.blocks (fits_typed Source func typed_function);
    }
      where
        ended : (place : ℕ) (block : BasicBlock) → slice_get (placed func).blocks place ≡ Some block → (here : Option BasicBlock) → slice_get func.blocks place ≡ here → EndsAtTerminator block.insts
        ended place block at None is = absurd (none-some block (sym (placed_there place None is) ∙ at))
        ended place block at (Some own) is =
            let both : Some (placed_block place own) ≡ Some block = sym (placed_there place (Some own) is) ∙ at in
            let same : placed_block place own ≡ block = cc in
            subst (λ (b : BasicBlock). EndsAtTerminator b.insts) same
            (ends_placed place own (all_at (λ (each : BasicBlock). EndsAtTerminator each.insts) func.blocks place own typed_function.ends is))

    counts_same : after_all (length func.args) (instructions_of (placed func).blocks) ≡ after_all (length func.args) (instructions_of func.blocks)
    counts_same =
        let one = after_is (length func.args) (instructions_of (placed func).blocks) in
        let other = after_is (length func.args) (instructions_of func.blocks) in
        let results = ap length (results_placed 0 func.blocks) in
        omega (arith, one, other, results)

    registers_are : registers_of (placed func) ≡ registers_of func
    registers_are = registers_placed 0 (length func.args) func.blocks

    lines_before : (block : ℕ) → lines_of content number block ≡ lines_from block (slice_index (registers_of func) block) (insts_in func block)
    lines_before block =
        ap (λ (here : Option Function). lines_from block (option_map_or (λ defined. slice_index (registers_of defined) block) here 0) (option_map_or (λ defined. insts_in defined block) here [])) found

    lines_placed : (place : ℕ) (here : Option BasicBlock) → slice_get func.blocks place ≡ here
        → lines_at (placed func) place ≡ plain_lines (slice_index (registers_of func) place) (option_map_or (λ block. block.insts) (option_map (placed_block place) here) [])
    lines_placed place here is =
        ap (λ (registers : List ℕ). plain_lines (slice_index registers place) (insts_in (placed func) place)) registers_are
        ∙ ap (λ (there : Option BasicBlock). plain_lines (slice_index (registers_of func) place) (option_map_or (λ block. block.insts) there [])) (placed_there place here is)

    front_at : (block : BasicBlock) → slice_get func.blocks 0 ≡ Some block
        → poll ∷ lines_from 0 (slice_index (registers_of func) 0) (insts_in func 0) ≡ lines_at (placed func) 0
    front_at block is =
        ap (λ (here : Option BasicBlock). poll ∷ lines_from 0 (slice_index (registers_of func) 0) (option_map_or (λ b. b.insts) here [])) is
        ∙ (ap (λ (lines : List Line). poll ∷ lines) (sym (plain_polled 0 (slice_index (registers_of func) 0) block.insts)) ∙ sym (lines_placed 0 (Some block) is))

    at_block : (place : ℕ) (here : Option BasicBlock) → slice_get func.blocks (suc place) ≡ here
        → lines_from (suc place) (slice_index (registers_of func) (suc place)) (option_map_or (λ b. b.insts) here []) ≡ lines_at (placed func) (suc place)
    at_block place None is = sym (lines_placed (suc place) None is)
    at_block place (Some block) is = sym (plain_polled (suc place) (slice_index (registers_of func) (suc place)) block.insts) ∙ sym (lines_placed (suc place) (Some block) is)

    behind_edge : (to : ℕ) → (to ≡ 0 → ⊥) → lines_of content number to ≡ lines_at (placed func) to
    behind_edge zero apart = absurd (apart refl)
    behind_edge (suc place) apart = lines_before (suc place) ∙ at_block place (slice_get func.blocks (suc place)) refl

-- ---- modules

pub targets_run_their_text : TargetsRunTheirText
targets_run_their_text content target go bound number func found = record {
  text = target_text content target.typed go bound number func found;
  uses = λ line value block place used high undefined.
      undefined_unused func (all_at UsesAreDefinite content.funcs number func target.definite found) value high line block place used undefined;
}

pub sources_run_their_polls : SourcesRunTheirPolls
sources_run_their_polls content source go bound number func found = record {
  text = source_text content source.typed go bound number func found;
  uses = none_undefined func filled (all_at UsesAreDefinite content.funcs number func source.definite found);
}
  where
    filled : (place : ℕ) (block : BasicBlock) → slice_get func.blocks place ≡ Some block → 0 < length block.insts
    filled place block at =
        let typed_function = all_at (IsTypedFunction Source) content.funcs number func (source.typed).functions found in
        let ends = all_at (λ (each : BasicBlock). EndsAtTerminator each.insts) func.blocks place block typed_function.ends at in
        let long = ap length ends.whole ∙ length-append ends.before (ends.last ∷ []) in
        omega arith
