-- A module whose functions are in shape for liveness, and whose blocks are all reached, is one before liveness.
use Rattle.std.proofs.Common.{◌≡◌, ℕ, zero, suc, ◌+◌, ◌-◌, ◌<◌, ◌≤◌, Bool, true, false, not, ◌&&◌, if◌then◌else◌, List, [], ◌∷◌, ◌++◌, length, map, replicate, refl, sym, ap, subst, ◌∙◌, inl, inr, arith}
use Rattle.std.specs.Prelude.{Option, Some, None, is_some, slice_get, slice_index, drop}
use Rattle.std.specs.List.{All, flat_map, list_all, range_with_len}
use Rattle.std.specs.Option.{option_map_or}
use Rattle.std.proofs.lemmas.Bool.{cases_lt}
use Rattle.std.proofs.lemmas.List.{get_or_past, length-append, length-map}
use Rattle.std.proofs.lemmas.List.Elements.{All-nil}
use Rattle.std.proofs.lemmas.Option.{get_or_from_slice_get, slice_get_within}
use Rattle.list_laws.proofs.Contents.{all_at, all_from_at}
use Rattle.list_laws.proofs.Places.{get_some}
use Rattle.sp_ids.specs.declared.ids.BlockId.{BlockId}
use Rattle.ir_ast.specs.declared.types.Ty.{Ty}
use Rattle.ir_ast.specs.declared.ops.Callee.{Callee}
use Rattle.ir_ast.specs.declared.ops.Callee.TheVariants as callees
use Rattle.ir_ast.specs.declared.ops.Op.{Op}
use Rattle.ir_ast.specs.declared.ops.Op.TheVariants as ops
use Rattle.ir_ast.specs.declared.ops.Operand.{Operand}
use Rattle.ir_ast.specs.Insts.{Instruction}
use Rattle.ir_ast.specs.Blocks.{BasicBlock, EndsAtTerminator}
use Rattle.ir_ast.specs.Edges.{count_of, targets}
use Rattle.ir_ast.specs.Funcs.{Function, instructions_of, phis_of}
use Rattle.ir_ast.specs.Modules.{ModuleContent}
use Rattle.ir_ast.specs.Ops.{is_terminator}
use Rattle.ir_ast.specs.Values.{definitions_of, outcome}
use Rattle.ir_ast.specs.Faults.EntryHasPred.{EntryHasNoPred, LeavesEntry}
use Rattle.ir_ast.specs.Faults.GroupShape.{number_at}
use Rattle.ir_ast.specs.Faults.PhiEdges.{is_phi}
use Rattle.ir_cfg.specs.DefiniteUses.{text_place}
use Rattle.ir_cfg.specs.Graphs.{block_at, graph_of, succs_of}
use Rattle.ir_cfg.specs.Paths.{Path, along, at_entry}
use Rattle.ir_cfg.proofs.KeepsCounts.{count_none}
use Rattle.ir_cfg.proofs.KeepsEntry.{entry_alone}
use Rattle.ir_cfg.proofs.KeepsLines.{line_at}
use Rattle.ir_cfg.proofs.KeepsPaths.{succs_at}
use Rattle.object_meaning.specs.Calls.{function_in}
use Rattle.object_meaning.specs.Jumps.{branch_taken, case_taken, is_case, label_at, phi_count}
use Rattle.object_meaning.specs.Registers.{number_in}
use Rattle.object_meaning.specs.Lines.{Line, register_count, registers_of}
use Rattle.object_meaning.specs.TargetRuns.{plain_lines}
use Rattle.object_meaning.proofs.GivenLaws.{after_is, definition_count}
use Rattle.object_meaning.proofs.LineLaws.{last_register, branch_within, phi_count_is}
use Rattle.rewriting_forms.specs.Numbered.{lines_at}
use Rattle.rewriting_laws.specs.Laws.{Edge, IsPlain, LeadsByEdges, Reached, at_first, over}
use Rattle.rewriting_laws.specs.Laws as laws
use Rattle.rewriting_laws.specs.Related.{ArgumentsFit}
use Rattle.rewriting_laws.specs.Statements.{IsBefore, func_of, no_function, rewritings}
use Rattle.base_laws.specs.BeforeLiveness.{CallsInShape, IsPlainLine, PassesArguments, PhisStandFirst, arguments_of}
use Rattle.base_definite.proofs.base_paths.GivesLaws.{defines_gives}
use Rattle.base_definite.proofs.LinePlaces.{line_from}
use Rattle.rewritten_sound.specs.LeadsOut.{HasLabels, IsReadyForGroups, LeadsOut}
use Rattle.rewritten_sound.proofs.definite.LineLaws.{given_defines, lines_length}
use Rattle.rewritten_sound.proofs.definite.EdgeLaws.{edge_to, label_edge}
use Rattle.list_laws.proofs.Tests.{all_passes, position_within}

-- only the last one of a list that ends so passes
last_passes : {A : Type 0} (test : A → Bool) (before : List A) (last : A) (k : ℕ) (x : A) → list_all (λ y. not (test y)) before ≡ true
    → slice_get (before ++ last ∷ []) k ≡ Some x → test x ≡ true → k ≡ length before
last_passes test [] last zero x none at passes = refl
last_passes test [] last (suc k) x none at passes = absurd cc
last_passes test (first ∷ before) last zero x none at passes =
    let same : first ≡ x = cc in
    let here = all_passes (λ y. not (test y)) (first ∷ before) 0 first none refl in
    let there : test first ≡ true = ap test same ∙ passes in
    absurd cc
last_passes {A} test (first ∷ before) last (suc k) x none at passes = ap suc (last_passes test before last k x (rest (not (test first)) none) at passes)
  where
    rest : (t : Bool) → t && list_all (λ (y : A). not (test y)) before ≡ true → list_all (λ (y : A). not (test y)) before ≡ true
    rest true all = all
    rest false all = absurd cc

fewer_cases : (all : List Operand) → 0 < length all → suc (length (drop 1 all)) ≤ length all
fewer_cases [] some = absurd (omega arith)
fewer_cases (first ∷ all) some = omega arith

module _ (content : ModuleContent) (func : Function) (ready : IsReadyForGroups content func) where
  plain_line : (b k : ℕ) (line : Line) → slice_get (lines_at func b) k ≡ Some line → IsPlainLine content line.inst
  plain_line b k line at = line_at (IsPlainLine content) func b k line.inst (line_from func b k line at).stands (ready.shape).lines

  leads_out : (b k : ℕ) (line : Line) → slice_get (lines_at func b) k ≡ Some line → LeadsOut line.inst
  leads_out b k line at = line_at LeadsOut func b k line.inst (line_from func b k line at).stands ready.leads

  leads_along : (b k : ℕ) (line : Line) → slice_get (lines_at func b) k ≡ Some line → is_terminator line.inst.op ≡ true → (place : ℕ) → place < length line.inst.labels
      → Edge func b (label_at line.inst.labels place)
  leads_along b k line at ends place within =
      let label = get_some line.inst.labels place within in
      let edge = edge_to func b label.0.0 (label_edge func b k place line.inst label.0 (line_from func b k line at).stands ends label.1) in
      subst (λ (found : Option BlockId). Edge func b (option_map_or (λ label. label.0) found 0)) (sym label.1) edge

  leads_as : (b k : ℕ) (line : Line) → slice_get (lines_at func b) k ≡ Some line → (op : Op) → line.inst.op ≡ op → HasLabels op line.inst → LeadsByEdges func b line op
  leads_as b k line at ops.Br is count = leads_along b k line at (ap is_terminator is) 0 (omega arith)
  leads_as b k line at ops.CondBr is count = λ datum.
      let below = branch_within datum in
      leads_along b k line at (ap is_terminator is) (branch_taken datum) (omega (arith, count, below))
  leads_as b k line at ops.Switch is count = λ datum.
      let many = count.0 in
      let fewer = fewer_cases line.inst.operands count.1 in
      let below = position_within (is_case (number_in datum)) (drop 1 line.inst.operands) in
      leads_along b k line at (ap is_terminator is) (case_taken datum (drop 1 line.inst.operands)) (omega (arith, many, fewer, below))
  leads_as b k line at op is count = tt

  last_line : (b k : ℕ) (line : Line) → slice_get (lines_at func b) k ≡ Some line → is_terminator line.inst.op ≡ true → (suc k ≡ length (lines_at func b)) × (line.to ≡ None)
  last_line b k line at ends =
      let from = line_from func b k line at in
      let block = from.stands.block in
      let ended = all_at (λ (each : BasicBlock). EndsAtTerminator each.insts) func.blocks b block (ready.shape).ends from.stands.in_function in
      let here : slice_get (ended.before ++ ended.last ∷ []) k ≡ Some line.inst = ap (λ (insts : List Instruction). slice_get insts k) (sym ended.whole) ∙ from.stands.in_block in
      let last = last_passes (λ (inst : Instruction). is_terminator inst.op) ended.before ended.last k line.inst ended.inside here ends in
      let long = lines_length func b block from.stands.in_function in
      let whole = ap length ended.whole in
      let sum = length-append ended.before (ended.last ∷ []) in
      let unnamed = (plain_line b k line at).ends_unnamed ends in (
        omega (arith, last, long, whole, sum),
        from.to ∙ ap (λ (result : Option (List ℕ)). if is_some result then Some (number_at func (text_place func b k)) else None) unnamed,
      )

  insts_at : (b : ℕ) (block : BasicBlock) → slice_get func.blocks b ≡ Some block → phi_count (lines_at func b) ≡ phis_of block.insts
  insts_at b block found =
      ap (λ (here : Option BasicBlock). phi_count (plain_lines (slice_index (registers_of func) b) (option_map_or (λ block. block.insts) here []))) found
      ∙ phi_count_is (slice_index (registers_of func) b) block.insts

  no_phi_first : phi_count (lines_at func 0) ≡ 0
  no_phi_first = by (slice_get func.blocks 0) refl
    where
      by : (here : Option BasicBlock) → slice_get func.blocks 0 ≡ here → phi_count (lines_at func 0) ≡ 0
      by None none = ap (λ (here : Option BasicBlock). phi_count (plain_lines (slice_index (registers_of func) 0) (option_map_or (λ block. block.insts) here []))) none
      by (Some block) found = insts_at 0 block found ∙ (ready.shape).entry block found

  phi_before : (b k : ℕ) (line : Line) → slice_get (lines_at func b) k ≡ Some line → is_phi line.inst.op ≡ true → k < phi_count (lines_at func b)
  phi_before b k line at one =
      let from = line_from func b k line at in
      let first = all_at (λ (each : BasicBlock). PhisStandFirst each.insts) func.blocks b from.stands.block (ready.shape).phis from.stands.in_function in
      subst (λ n. k < n) (sym (insts_at b from.stands.block from.stands.in_function)) (first k line.inst from.stands.in_block one)

  calls_right : (b k : ℕ) (line : Line) (callee : Callee) (types : List Ty) → slice_get (lines_at func b) k ≡ Some line → line.inst.op ≡ ops.Call callee types
      → (length types ≡ length line.inst.operands) × PassesArguments content callee line.inst.operands
  calls_right b k line callee types at is = subst (λ (op : Op). CallsInShape content op line.inst.operands) is (plain_line b k line at).calls

  value_within : (b k x : ℕ) (line : Line) → slice_get (lines_at func b) k ≡ Some line → line.to ≡ Some x → x < length (definitions_of func)
  value_within b k x line at to =
      let defines = given_defines func x b k line at to in
      slice_get_within (definitions_of func) x (outcome defines.inst) (defines_gives func x b k defines)

  pub is_plain : (room : ℕ) → room ≡ length (definitions_of func) → IsPlain func room
  is_plain room is = record {
    entry = no_phi_first;
    last = last_line;
    leads = λ b k line at. leads_as b k line at line.inst.op refl (leads_out b k line at);
    phis = phi_before;
    no_statepoint = λ b k line at. (plain_line b k line at).no_statepoint;
    no_member = λ b k line at. (plain_line b k line at).no_member;
    arguments = λ b k line callee types at is. (calls_right b k line callee types at is).0;
    room_line = λ b k x line at to. let within = value_within b k x line at to in subst (λ n. x < n) (sym is) within;
  }

  -- ---- the graph

  leaves_entry : EntryHasNoPred func
  leaves_entry = all_from_at LeavesEntry (instructions_of func.blocks) (λ place inst at. (all_at (IsPlainLine content) (instructions_of func.blocks) place inst (ready.shape).lines at).leaves)

  none_to_entry : (from : ℕ) → count_of 0 (succs_of (graph_of func) from) ≡ 0
  none_to_entry from = by (slice_get func.blocks from) refl
    where
      by : (here : Option BasicBlock) → slice_get func.blocks from ≡ here → count_of 0 (succs_of (graph_of func) from) ≡ 0
      by (Some block) found =
          ap (count_of 0) (succs_at func from block found)
          ∙ count_none 0 (targets block) (λ k label at zero. entry_alone func from block k label leaves_entry found at zero)
      by None none = elim (cases_lt from (length func.blocks)) [
        | inl below ↦ absurd (let some = get_some func.blocks from below in let both : None ≡ Some some.0 = sym none ∙ some.1 in cc)
        | inr past ↦ ap (count_of 0) (get_or_past (graph_of func) from [] (let long = length-map func.blocks targets in omega arith))
      ]

  no_copies : (g : ℕ → ℕ) → ((p : ℕ) → g p ≡ 0) → (from count : ℕ) → map (λ (l : BlockId). l.0) (flat_map (λ (p : ℕ). replicate (g p) (block_at p)) (range_with_len from count)) ≡ []
  no_copies g none from zero = refl
  no_copies g none from (suc count) =
      ap (λ n. map (λ (l : BlockId). l.0) (replicate n (block_at from) ++ flat_map (λ (p : ℕ). replicate (g p) (block_at p)) (range_with_len (from + 1) count))) (none from)
      ∙ no_copies g none (from + 1) count

  over_path : (path : List ℕ) (b : ℕ) → Path (graph_of func) path b → Reached func b
  over_path _ _ at_entry = at_first
  over_path _ _ (along blocks from to path edge) = over from to (over_path blocks from path) (edge_to func from to edge)

  pub is_reached : laws.IsReached func
  is_reached = record {
    entry = no_copies (λ p. count_of 0 (succs_of (graph_of func) p)) none_to_entry 0 (length (graph_of func));
    blocks = λ b below. let path = ready.reached b below in over_path path.0 b path.1;
  }

-- ---- the module

nothing_ready : (content : ModuleContent) → IsReadyForGroups content no_function
nothing_ready content = record {
  shape = record {
    ends = All-nil (λ block. EndsAtTerminator block.insts);
    phis = All-nil (λ block. PhisStandFirst block.insts);
    entry = λ block at. absurd cc;
    lines = All-nil (IsPlainLine content);
  };
  leads = All-nil LeadsOut;
  reached = λ block below. absurd (omega arith);
}

module _ (content : ModuleContent) (all : All (IsReadyForGroups content) content.funcs) where
  pub func_is : (g : ℕ) (func : Function) → slice_get content.funcs g ≡ Some func → func_of content g ≡ func
  func_is g func is = get_or_from_slice_get content.funcs g func no_function is

  func_none : (g : ℕ) → slice_get content.funcs g ≡ None → func_of content g ≡ no_function
  func_none g none = elim (cases_lt g (length content.funcs)) [
    | inr past ↦ get_or_past content.funcs g no_function past
    | inl below ↦ absurd (let some = get_some content.funcs g below in let both : None ≡ Some some.0 = sym none ∙ some.1 in cc)
  ]

  each_ready : (g : ℕ) → IsReadyForGroups content (func_of content g)
  each_ready g = by (slice_get content.funcs g) refl
    where
      by : (here : Option Function) → slice_get content.funcs g ≡ here → IsReadyForGroups content (func_of content g)
      by (Some func) found = subst (IsReadyForGroups content) (sym (func_is g func found)) (all_at (IsReadyForGroups content) content.funcs g func all found)
      by None none = subst (IsReadyForGroups content) (sym (func_none g none)) (nothing_ready content)

  room_as : (g : ℕ) → register_count content g ≡ length (definitions_of (func_of content g))
  room_as g = by (slice_get content.funcs g) refl
    where
      by : (here : Option Function) → slice_get content.funcs g ≡ here → register_count content g ≡ length (definitions_of (func_of content g))
      by (Some func) found =
          ap (λ (each : Option Function). option_map_or (λ defined. slice_index (registers_of defined) (length (registers_of defined) - 1)) each 0) found
          ∙ (last_register (length func.args) func.blocks
          ∙ (after_is (length func.args) (instructions_of func.blocks) ∙ (sym (definition_count func) ∙ ap (λ (f : Function). length (definitions_of f)) (sym (func_is g func found)))))
      by None none =
          ap (λ (each : Option Function). option_map_or (λ defined. slice_index (registers_of defined) (length (registers_of defined) - 1)) each 0) none
          ∙ ap (λ (f : Function). length (definitions_of f)) (sym (func_none g none))

  arguments_as : (n : ℕ) → arguments_of content n ≡ length (func_of content n).args
  arguments_as n = by (slice_get content.funcs n) refl
    where
      by : (here : Option Function) → slice_get content.funcs n ≡ here → arguments_of content n ≡ length (func_of content n).args
      by (Some func) found =
          ap (λ (each : Option Function). option_map_or (λ func. length func.args) each 0) found ∙ ap (λ (f : Function). length f.args) (sym (func_is n func found))
      by None none =
          ap (λ (each : Option Function). option_map_or (λ func. length func.args) each 0) none ∙ ap (λ (f : Function). length f.args) (sym (func_none n none))

  module _ (tables : ℕ → List Operand) where
    arguments_fit : (callee : Callee) (given : List Operand) → PassesArguments content callee given → ArgumentsFit (rewritings content tables) callee given
    arguments_fit (callees.Fun called) given passes = let same = arguments_as called.0 in omega (arith, same, passes)
    arguments_fit callees.TaskStart given passes = let same = arguments_as (function_in (slice_get given 0)) in omega (arith, same, passes)
    arguments_fit callee given passes = tt

    -- whatever the base tables are
    pub is_before : IsBefore content tables
    is_before = record {
      plain = λ g. is_plain content (func_of content g) (each_ready g) (register_count content g) (room_as g);
      graph = λ g. is_reached content (func_of content g) (each_ready g);
      few_arguments = λ g.
          let room = room_as g in
          let count = definition_count (func_of content g) in
          omega (arith, room, count);
      arguments = λ g b k line callee types at is.
          arguments_fit callee line.inst.operands (calls_right content (func_of content g) (each_ready g) b k line callee types at is).1;
    }
