-- The functions of the module with bases are in shape for liveness.
use Rattle.std.proofs.Common.{◌≡◌, ℕ, zero, suc, ◌+◌, ◌<◌, Bool, true, false, not, ◌&&◌, List, [], ◌∷◌, ◌++◌, length, map, refl, sym, ap, subst, ◌∙◌, append_assoc, arith}
use Rattle.std.specs.Prelude.{Option, Some, None, slice_get}
use Rattle.std.specs.List.{All, list_all}
use Rattle.std.specs.Option.{option_map, option_map_or}
use Rattle.std.proofs.lemmas.List.{length-map}
use Rattle.std.proofs.lemmas.List.Elements.{All-cons, All-nil}
use Rattle.std.proofs.lemmas.Slice.Zip.{AllZip-long}
use Rattle.list_laws.proofs.Places.{get_middle, get_some, map_back}
use Rattle.list_laws.proofs.Contents.{all_at, all_from_at}
use Rattle.ir_ast.specs.declared.modules.Form.TheVariants.{Source}
use Rattle.ir_ast.specs.declared.types.Ty.{Ty}
use Rattle.ir_ast.specs.declared.types.Ty.TheVariants.{Void, Ptr}
use Rattle.ir_ast.specs.declared.ops.Callee.{Callee}
use Rattle.ir_ast.specs.declared.ops.Callee.TheVariants as callees
use Rattle.ir_ast.specs.declared.ops.Op.{Op}
use Rattle.ir_ast.specs.declared.ops.Op.TheVariants as ops
use Rattle.ir_ast.specs.declared.ops.Operand.{Operand}
use Rattle.ir_ast.specs.declared.ops.Operand.TheVariants as operands
use Rattle.ir_ast.specs.Insts.{Instruction}
use Rattle.ir_ast.specs.Blocks.{BasicBlock, EndsAtTerminator}
use Rattle.ir_ast.specs.Derived.{is_merge}
use Rattle.ir_ast.specs.Edges.{count_of, edges, targets}
use Rattle.ir_ast.specs.Funcs.{Function, instructions_of, phis_of}
use Rattle.ir_ast.specs.Modules.{ModuleContent}
use Rattle.ir_ast.specs.Lines.{IsCall, IsLine, LineOf, is_argument, is_rewritten}
use Rattle.ir_ast.specs.Ops.{is_terminator}
use Rattle.ir_ast.specs.Scope.{Signature, scope_of, signature_of}
use Rattle.ir_ast.specs.Faultless.{FunctionHasNoFault, OfForm}
use Rattle.ir_ast.specs.Faults.EntryHasPred.{LeavesEntry}
use Rattle.ir_ast.specs.Faults.GroupShape.{is_statepoint}
use Rattle.ir_ast.specs.Faults.PhiEdges.{is_phi}
use Rattle.ir_ast.specs.Faults.TypeClash.{FunctionIsTyped, IsCallOf, IsTyped, RuleOf}
use Rattle.ir_ast.specs.Faults.Reserved.{IsSource}
use Rattle.ir_ast.proofs.OpLaws.{plain_member}
use Rattle.ir_cfg.specs.Graphs.{graph_of}
use Rattle.ir_cfg.proofs.KeepsCounts.{count_none, count_some}
use Rattle.ir_cfg.proofs.KeepsEntry.{entry_alone}
use Rattle.ir_cfg.proofs.KeepsLines.{inst_at}
use Rattle.object_meaning.specs.Lines.{after_all}
use Rattle.ir_cfg.specs.SourceModules.{IsSourceModule}
use Rattle.ir_cfg.specs.TypedModules.{IsTypedFunction}
use Rattle.object_meaning.specs.Calls.{function_in}
use Rattle.base_forms.specs.Polls.{placed, placed_block, placed_from, poll_call}
use Rattle.base_forms.specs.DerivedMarks.{derived_marks}
use Rattle.base_forms.specs.Inserted.{renumbered}
use Rattle.base_forms.specs.Based.{based, based_blocks, based_insts, based_module, lines_for}
use Rattle.base_laws.specs.BeforeLiveness.{CallsInShape, IsBeforeLiveness, IsPlainLine, PassesArguments, PhisStandFirst, arguments_of}
use Rattle.base_laws.specs.Statements.{BasedIsInShape}
use Rattle.base_forms.proofs.PlacedLaws.{all_placed}
use Rattle.base_laws.proofs.PollLaws.{graph_placed}
use Rattle.base_laws.proofs.FormLaws.{all_based_blocks, each_line, edges_based, ends_based, ends_placed, lead_based, lead_first, lead_of_none, lead_polled, phi_splits, phis_lead, quiet_polled}
use Rattle.base_laws.proofs.MeaningLaws.{found_now}
use Rattle.list_laws.proofs.Options.{is_none}

-- ---- calls

module _ (content : ModuleContent) where
  arguments_same : (number : ℕ) → arguments_of (based_module content) number ≡ arguments_of content number
  arguments_same number = by (slice_get content.funcs number) refl
    where
      by : (found : Option Function) → slice_get content.funcs number ≡ found → arguments_of (based_module content) number ≡ arguments_of content number
      by None none =
          ap (λ (each : Option Function). option_map_or (λ func. length func.args) each 0) (found_now content number None none)
          ∙ sym (ap (λ (each : Option Function). option_map_or (λ func. length func.args) each 0) none)
      by (Some func) found =
          ap (λ (each : Option Function). option_map_or (λ func. length func.args) each 0) (found_now content number (Some func) found)
          ∙ sym (ap (λ (each : Option Function). option_map_or (λ func. length func.args) each 0) found)

  arguments_found : (number : ℕ) (answer : Ty) (params : List Ty) → option_map signature_of (slice_get content.funcs number) ≡ Some (record { answer = answer; params = params })
      → length params ≡ arguments_of content number
  arguments_found number answer params is = by (slice_get content.funcs number) is
    where
      by : (found : Option Function) → option_map signature_of found ≡ Some (record { answer = answer; params = params }) → length params ≡ option_map_or (λ func. length func.args) found 0
      by None is = absurd cc
      by (Some func) is = sym (same_params (signature_of func) (record { answer = answer; params = params }) is) ∙ length-map func.args (λ arg. arg.ty)
        where
          same_params : (one other : Signature) → Some one ≡ Some other → length one.params ≡ length other.params
          same_params one other both = let same : one ≡ other = cc in ap (λ s. length s.params) same

  passes : (func : Function) (inst : Instruction) (callee : Callee) (types : List Ty) → IsCall callee types inst → IsCallOf (scope_of content func) callee types inst
      → PassesArguments (based_module content) callee inst.operands
  passes func inst (callees.Fun named) types line call =
      sym (AllZip-long (λ operand ty. is_argument (callees.Fun named) operand ty ≡ true) inst.operands types line.arguments)
      ∙ (arguments_found named.0 inst.ty types call.signature ∙ sym (arguments_same named.0))
  passes func inst callees.TaskStart types line call =
      let starts = call.operands in
      ap (λ (first : Option Operand). arguments_of (based_module content) (function_in first)) starts.1
      ∙ (arguments_same starts.0.0 ∙ sym (arguments_found starts.0.0 Void (Ptr ∷ []) starts.2))
  passes func inst callee types line call = tt

  calls_in_shape : (func : Function) (inst : Instruction) → IsLine inst → IsTyped (scope_of content func) inst → (op : Op) → inst.op ≡ op → CallsInShape (based_module content) op inst.operands
  calls_in_shape func inst line typed (ops.Call callee types) is =
      let call : IsCall callee types inst = subst (λ (op : Op). LineOf op inst) is line in (
        AllZip-long (λ operand ty. is_argument callee operand ty ≡ true) inst.operands types call.arguments,
        passes func inst callee types call (subst (λ (op : Op). RuleOf (scope_of content func) op inst) is typed.rule),
      )
  calls_in_shape func inst line typed op is = tt

plain_statepoint : (op : Op) → is_rewritten op ≡ false → is_statepoint op ≡ false
plain_statepoint (ops.Statepoint id callee types) plain = absurd cc
plain_statepoint op plain = refl

ends_unnamed : (inst : Instruction) → IsLine inst → (op : Op) → inst.op ≡ op → is_terminator op ≡ true → inst.result ≡ None
ends_unnamed inst line ops.Br is ends = is_none inst.result (subst (λ (op : Op). LineOf op inst) is line).result
ends_unnamed inst line ops.CondBr is ends = is_none inst.result (subst (λ (op : Op). LineOf op inst) is line).result
ends_unnamed inst line ops.Switch is ends = is_none inst.result ((subst (λ (op : Op). LineOf op inst) is line).0).result
ends_unnamed inst line ops.Ret is ends = is_none inst.result (subst (λ (op : Op). LineOf op inst) is line).result
ends_unnamed inst line ops.Unreachable is ends = is_none inst.result (subst (λ (op : Op). LineOf op inst) is line).result
ends_unnamed inst line op is ends = absurd cc

-- ---- lines

module _ (content : ModuleContent) (func : Function) (marks : List Bool) where
  function_kept : (all : List Operand) → function_in (slice_get (map (renumbered func marks) all) 0) ≡ function_in (slice_get all 0)
  function_kept [] = refl
  function_kept (operands.Value value ∷ all) = refl
  function_kept (operands.Int literal ∷ all) = refl
  function_kept (operands.Null ∷ all) = refl
  function_kept (operands.Fun named ∷ all) = refl

  calls_kept : (op : Op) (all : List Operand) → CallsInShape content op all → CallsInShape content op (map (renumbered func marks) all)
  calls_kept (ops.Call callee types) all shape = (shape.0 ∙ sym (length-map all (renumbered func marks)), by callee shape.1)
    where
      by : (callee : Callee) → PassesArguments content callee all → PassesArguments content callee (map (renumbered func marks) all)
      by (callees.Fun named) so = length-map all (renumbered func marks) ∙ so
      by callees.TaskStart so = ap (arguments_of content) (function_kept all) ∙ so
      by callee so = tt
  calls_kept op all shape = tt

  merge_calls : (op : Op) (all : List Operand) → is_merge op ≡ true → CallsInShape content op all
  merge_calls ops.Phi all kind = tt
  merge_calls ops.Select all kind = tt
  merge_calls op all kind = absurd cc

  merge_unended : (op : Op) → is_merge op ≡ true → is_terminator op ≡ true → ⊥
  merge_unended ops.Phi kind ends = cc
  merge_unended ops.Select kind ends = cc
  merge_unended op kind ends = cc

  plain_lines_for : (next : ℕ) (inst : Instruction) → IsPlainLine content inst → All (IsPlainLine content) (lines_for func marks next inst inst.op)
  plain_lines_for next inst plain =
      each_line (IsPlainLine content) func marks next inst
      (record {
        no_statepoint = plain.no_statepoint;
        no_member = plain.no_member;
        calls = calls_kept inst.op inst.operands plain.calls;
        leaves = plain.leaves;
        ends_unnamed = plain.ends_unnamed;
      })
      (λ kind. record {
        no_statepoint = plain.no_statepoint;
        no_member = plain.no_member;
        calls = merge_calls inst.op _ kind;
        leaves = plain.leaves;
        ends_unnamed = λ ends. absurd (merge_unended inst.op kind ends);
      })
      (λ address. record { no_statepoint = refl; no_member = refl; calls = (refl, tt); leaves = λ ends. absurd cc; ends_unnamed = λ ends. absurd cc })
      (λ result first second. record { no_statepoint = refl; no_member = refl; calls = (refl, tt); leaves = λ ends. absurd cc; ends_unnamed = λ ends. absurd cc })
      (record { no_statepoint = refl; no_member = refl; calls = tt; leaves = λ ends. absurd cc; ends_unnamed = λ ends. absurd cc })

plain_poll : (content : ModuleContent) → IsPlainLine content poll_call
plain_poll content = record { no_statepoint = refl; no_member = refl; calls = (refl, tt); leaves = λ ends. absurd cc; ends_unnamed = λ ends. absurd cc }

-- ---- functions

module _ (content : ModuleContent) (source : IsSourceModule content) (number : ℕ) (func : Function) (found : slice_get content.funcs number ≡ Some func) where
  typed_function : IsTypedFunction Source func
  typed_function = all_at (IsTypedFunction Source) content.funcs number func (source.typed).functions found

  typed_lines : FunctionIsTyped (scope_of content func) func
  typed_lines = all_at (λ each. FunctionIsTyped (scope_of content each) each) content.funcs number func ((source.typed).no_fault).typed found

  no_fault : FunctionHasNoFault content func
  no_fault = all_at (FunctionHasNoFault content) content.funcs number func ((source.typed).no_fault).functions found

  is_source : IsSource func
  is_source = (subst (λ form. OfForm form func) (source.typed).of_form no_fault.form).0

  source_line : (place : ℕ) (inst : Instruction) → slice_get (instructions_of func.blocks) place ≡ Some inst → IsPlainLine (based_module content) inst
  source_line place inst at =
      let line = all_at IsLine (instructions_of func.blocks) place inst typed_function.lines at in
      let typed = all_at (IsTyped (scope_of content func)) (instructions_of func.blocks) place inst typed_lines.lines at in
      let plain = all_at (λ each. is_rewritten each.op ≡ false) (instructions_of func.blocks) place inst is_source.lines at in
      record {
        no_statepoint = plain_statepoint inst.op plain;
        no_member = plain_member inst.op plain;
        calls = calls_in_shape content func inst line typed inst.op refl;
        leaves = all_at LeavesEntry (instructions_of func.blocks) place inst no_fault.entry at;
        ends_unnamed = ends_unnamed inst line inst.op refl;
      }

  lines_plain : All (IsPlainLine (based_module content)) (instructions_of (based (placed func)).blocks)
  lines_plain =
      all_based_blocks (placed func) (derived_marks (placed func)) (IsPlainLine (based_module content)) (IsPlainLine (based_module content))
      (plain_lines_for (based_module content) (placed func) (derived_marks (placed func))) (length func.args) (placed func).blocks
      (all_placed (IsPlainLine (based_module content)) (plain_poll (based_module content)) 0 func.blocks
      (all_from_at (IsPlainLine (based_module content)) (instructions_of func.blocks) source_line))

  -- ---- blocks

  now_blocks_all : (P : List Instruction → Type 0) (Q : ℕ → BasicBlock → Type 0)
      → ((place next : ℕ) (block : BasicBlock) → Q place block → P (based_insts (placed func) (derived_marks (placed func)) next (placed_block place block).insts))
      → (start next : ℕ) (blocks : List BasicBlock) → ((place : ℕ) (block : BasicBlock) → slice_get blocks place ≡ Some block → Q (start + place) block)
      → All (λ block. P block.insts) (based_blocks (placed func) (derived_marks (placed func)) next (placed_from start blocks))
  now_blocks_all P Q each start next [] all = All-nil (λ block. P block.insts)
  now_blocks_all P Q each start next (block ∷ blocks) all =
      let same : start + 0 ≡ start = omega arith in
      All-cons (λ each_block. P each_block.insts) _ (based_blocks (placed func) (derived_marks (placed func)) (after_all next (placed_block start block).insts) (placed_from (suc start) blocks))
      (each start next block (subst (λ (n : ℕ). Q n block) same (all 0 block refl)))
      (now_blocks_all P Q each (suc start) (after_all next (placed_block start block).insts) blocks (λ place here at.
      let further : start + suc place ≡ suc start + place = omega arith in
      subst (λ (n : ℕ). Q n here) further (all (suc place) here at)))

  abbrev IsBlock : ℕ → BasicBlock → Type 0
  IsBlock place block = slice_get func.blocks place ≡ Some block

  is_block : (place : ℕ) (block : BasicBlock) → slice_get func.blocks place ≡ Some block → IsBlock (0 + place) block
  is_block place block at = let same : place ≡ 0 + place = omega arith in subst (λ (n : ℕ). slice_get func.blocks n ≡ Some block) same at

  ended : (place : ℕ) (block : BasicBlock) → IsBlock place block → EndsAtTerminator block.insts
  ended place block at = all_at (λ (each : BasicBlock). EndsAtTerminator each.insts) func.blocks place block typed_function.ends at

  ends_now : All (λ block. EndsAtTerminator block.insts) (based (placed func)).blocks
  ends_now =
      now_blocks_all EndsAtTerminator IsBlock
      (λ place next block at. ends_based (placed func) (derived_marks (placed func)) next (placed_block place block).insts (ends_placed place block (ended place block at)))
      0 (length func.args) func.blocks is_block

  leads_first : (place : ℕ) (block : BasicBlock) → IsBlock place block → phis_lead block.insts ≡ true
  leads_first place block at = phi_splits block.insts (λ before after phi whole one. (no_fault.phis place block before after phi at whole one).first)

  -- no edge leads to the entry
  no_edge : (from : ℕ) → edges func from 0 ≡ 0
  no_edge from = by (slice_get func.blocks from) refl
    where
      by : (here : Option BasicBlock) → slice_get func.blocks from ≡ here → edges func from 0 ≡ 0
      by None none = ap (λ (each : Option BasicBlock). option_map_or (λ block. count_of 0 (targets block)) each 0) none
      by (Some block) found =
          ap (λ (each : Option BasicBlock). option_map_or (λ block. count_of 0 (targets block)) each 0) found
          ∙ count_none 0 (targets block) (λ k label at is. entry_alone func from block k label no_fault.entry found at is)

  phi_entries : (phi : Instruction) → IsLine phi → (op : Op) → phi.op ≡ op → is_phi op ≡ true → 0 < length phi.labels
  phi_entries phi line ops.Phi is one =
      let count = ((subst (λ (op : Op). LineOf op phi) is line).0).label_count in
      let some = (subst (λ (op : Op). LineOf op phi) is line).1 in
      omega arith
  phi_entries phi line op is one = absurd cc

  no_entry_phi : (block : BasicBlock) → IsBlock 0 block → (before after : List Instruction) (phi : Instruction) → block.insts ≡ before ++ phi ∷ after → is_phi phi.op ≡ true → ⊥
  no_entry_phi block at before after phi whole one =
      let here : slice_get block.insts (length before) ≡ Some phi = ap (λ insts. slice_get insts (length before)) whole ∙ get_middle before phi after in
      let line = inst_at IsLine func.blocks 0 (length before) block phi at here typed_function.lines in
      let some = phi_entries phi line phi.op refl one in
      let label = get_some phi.labels 0 some in
      let counted = count_some label.0.0 phi.labels 0 label.0 label.1 refl in
      let none = (no_fault.phis 0 block before after phi at whole one).counted label.0.0 ∙ no_edge label.0.0 in
      omega arith

  quiet_from : (all done : List Instruction) (block : BasicBlock) → IsBlock 0 block → block.insts ≡ done ++ all → list_all (λ inst. not (is_phi inst.op)) all ≡ true
  quiet_from [] done block at whole = refl
  quiet_from (x ∷ all) done block at whole = by (is_phi x.op) refl (quiet_from all (done ++ x ∷ []) block at (whole ∙ sym (append_assoc done (x ∷ []) all)))
    where
      by : (b : Bool) → is_phi x.op ≡ b → list_all (λ inst. not (is_phi inst.op)) all ≡ true → not b && list_all (λ inst. not (is_phi inst.op)) all ≡ true
      by true one rest = absurd (no_entry_phi block at done all x whole one)
      by false one rest = rest

  leads_placed : (place : ℕ) (block : BasicBlock) → IsBlock place block → phis_lead (placed_block place block).insts ≡ true
  leads_placed zero block at =
      lead_of_none (placed_block zero block).insts (quiet_polled (λ inst. not (is_phi inst.op)) refl zero block.insts (quiet_from block.insts [] block at refl))
  leads_placed (suc place) block at = lead_polled (suc place) block.insts (leads_first (suc place) block at)

  phis_now : All (λ block. PhisStandFirst block.insts) (based (placed func)).blocks
  phis_now =
      now_blocks_all PhisStandFirst IsBlock
      (λ place next block at.
      lead_first (based_insts (placed func) (derived_marks (placed func)) next (placed_block place block).insts)
      (lead_based (placed func) (derived_marks (placed func)) next (placed_block place block).insts (leads_placed place block at)))
      0 (length func.args) func.blocks is_block

  entry_now : (blocks : List BasicBlock) (next : ℕ) (block : BasicBlock) → slice_get (based_blocks (placed func) (derived_marks (placed func)) next (placed_from 0 blocks)) 0 ≡ Some block
      → phis_of block.insts ≡ 0
  entry_now [] next block at = absurd cc
  entry_now (first ∷ blocks) next block at =
      let same : record (placed_block 0 first) { insts = based_insts (placed func) (derived_marks (placed func)) next (placed_block 0 first).insts } ≡ block = cc in
      sym (ap (λ (b : BasicBlock). phis_of b.insts) same)

  pub in_shape : IsBeforeLiveness (based_module content) (based (placed func))
  in_shape = record {
    ends = ends_now;
    phis = phis_now;
    entry = entry_now func.blocks (length func.args);
    lines = lines_plain;
  }

pub graph_now : (func : Function) → graph_of (based (placed func)) ≡ graph_of func
graph_now func = edges_based (placed func) (derived_marks (placed func)) (length func.args) (placed func).blocks ∙ graph_placed func

pub based_is_in_shape : BasedIsInShape
based_is_in_shape content source = (
  all_from_at (IsBeforeLiveness (based_module content)) (based_module content).funcs (λ place now at.
      let from = map_back (λ func. based (placed func)) content.funcs place now at in
      subst (IsBeforeLiveness (based_module content)) (sym from.is) (in_shape content source place from.before from.stands)),
  all_from_at (λ func. graph_of (based (placed func)) ≡ graph_of func) content.funcs (λ place func at. graph_now func),
)
