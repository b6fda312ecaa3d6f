-- A source module and the module without its unreached blocks: what the run of the kept blocks asks for.
use Rattle.std.proofs.Common.{◌≡◌, ℕ, zero, suc, ◌+◌, ◌-◌, ◌<◌, ◌≤◌, Bool, true, false, not, if◌then◌else◌, List, [], ◌∷◌, ◌++◌, length, map, replicate, refl, sym, ap, subst, ◌∙◌, arith}
use Rattle.std.specs.Prelude.{ℤ, ◌↔◌, Option, Some, None, slice_get, slice_index, codes, nat_lt, unwrap_or}
use Rattle.std.specs.List.{All, AllZip, filter_map, prefix_len}
use Rattle.std.specs.Option.{option_map, option_map_or}
use Rattle.std.specs.Str.{bytes_eq}
use Rattle.std.proofs.lemmas.Bool.Decides.{nat_tests}
use Rattle.std.proofs.lemmas.List.{length-append, length-map, length-replicate}
use Rattle.std.proofs.lemmas.List.Elements.{All-cons, All-nil, length_all_zip}
use Rattle.std.proofs.lemmas.Option.{none-some, same_Some, slice_get_within}
use Rattle.std.proofs.lemmas.Slice.Zip.{AllZip-long}
use Rattle.list_laws.proofs.Places.{get_map, get_past, get_some}
use Rattle.list_laws.proofs.Contents.{all_at, all_back, all_from_at, all_front}
use Rattle.sp_ids.specs.declared.ids.BlockId.{BlockId}
use Rattle.graph_search.specs.Paths.{Marked}
use Rattle.ir_ast.specs.declared.modules.Form.TheVariants.{Source}
use Rattle.ir_ast.specs.declared.types.Ty.{Ty}
use Rattle.ir_ast.specs.declared.types.Ty.TheVariants.{Void, Ptr}
use Rattle.ir_ast.specs.declared.ops.Callee.{Callee}
use Rattle.ir_ast.specs.declared.ops.Callee.TheVariants as callees
use Rattle.ir_ast.specs.declared.ops.Op.{Op}
use Rattle.ir_ast.specs.declared.ops.Op.TheVariants as ops
use Rattle.ir_ast.specs.declared.ops.Operand.{Operand}
use Rattle.ir_ast.specs.declared.ops.Operand.TheVariants as operands
use Rattle.ir_ast.specs.Insts.{Instruction}
use Rattle.ir_ast.specs.Blocks.{BasicBlock}
use Rattle.ir_ast.specs.Funcs.{Function}
use Rattle.ir_ast.specs.Modules.{ModuleContent}
use Rattle.ir_ast.specs.Lines.{IsCall, IsLine, LineOf, is_argument, is_rewritten}
use Rattle.ir_ast.specs.Operands.{value_in}
use Rattle.ir_ast.specs.Scope.{Signature, scope_of, signature_of}
use Rattle.ir_ast.specs.Faultless.{FunctionHasNoFault, OfForm}
use Rattle.ir_ast.specs.Faults.TypeClash.{FunctionIsTyped, IsCallOf, IsTyped, RuleOf}
use Rattle.ir_ast.specs.Faults.Reserved.{IsSource}
use Rattle.ir_cfg.specs.Graphs.{graph_of}
use Rattle.ir_cfg.specs.Marks.{MarksReached}
use Rattle.ir_cfg.specs.DefiniteUses.{Stands, UsesAreDefinite}
use Rattle.ir_cfg.specs.SourceModules.{IsSourceModule}
use Rattle.ir_cfg.specs.TypedModules.{IsTypedFunction}
use Rattle.ir_cfg.specs.Unreached.{DropsUnreached, ModuleDropsUnreached, block_kept, function_kept, inst_kept, kept_by, kept_of, result_marks, value_marks}
use Rattle.ir_cfg.proofs.KeepsPlaces.{before_mono, before_past_trues, marks_before}
use Rattle.ir_cfg.proofs.KeepsLines.{block_forth, inst_left, labels_left, line_at, operands_left}
use Rattle.ir_cfg.proofs.KeepsValues.{argument_marked}
use Rattle.ir_cfg.proofs.KeepsPaths.{entry_marked, marked_block, marks_whole}
use Rattle.ir_cfg.proofs.KeepsUses.{Lasts, lasts}
use Rattle.object_meaning.specs.Calls.{function_in}
use Rattle.object_meaning.specs.Lines.{first_register, insts_in, insts_of, lines_from, lines_of, main_of, poll, register_count, registers_of}
use Rattle.object_meaning.specs.Outcomes.{Gives, Outcome}
use Rattle.object_meaning.specs.SourceRuns.{SourceGives, source_setting}
use Rattle.object_meaning.specs.States.{Setting}
use Rattle.object_meaning.specs.Texts.{function_name}
use Rattle.unreached_laws.proofs.RegisterLaws.{OperandStays}
use Rattle.unreached_laws.proofs.Keepings.{ArgumentsFit, CalleeTakes, Keeping, KeepsBlocks, LineStays, Takes, is_grouped, line_kept, numbers, with_lines}
use Rattle.unreached_laws.proofs.RunLaws.{same_outcome}
use Rattle.unreached_laws.proofs.BlockLines.{InstStays, ResultsStay, before_block, before_left, before_mapped, first_is, length_kept, lines_same, lines_stay, marks_count, poll_stays, results_marked}
use Rattle.object_meaning.proofs.LineLaws.{count_registers}

-- ---- what is kept of each function

abbrev pub keeping_of : List Bool → Function → Keeping
keeping_of marks func = record { arguments = length func.args; blocks = marks; values = value_marks marks func }

abbrev nothing_kept : Keeping
nothing_kept = record { arguments = 0; blocks = []; values = [] }

abbrev pub keepings_of : (funcs after : List Function) → AllZip DropsUnreached funcs after → ℕ → Keeping
keepings_of [] after zip number = nothing_kept
keepings_of (func ∷ funcs) [] zip number = nothing_kept
keepings_of (func ∷ funcs) (new ∷ after) zip zero = keeping_of zip.0.marks func
keepings_of (func ∷ funcs) (new ∷ after) zip (suc number) = keepings_of funcs after zip.1 number

record Here (funcs after : List Function) (zip : AllZip DropsUnreached funcs after) (number : ℕ) (func : Function) : Type 0 where
  pub marks : List Bool
  pub reached : MarksReached (graph_of func) marks
  pub there : slice_get after number ≡ Some (function_kept marks func)
  pub keeping : keepings_of funcs after zip number ≡ keeping_of marks func

here : (funcs after : List Function) (zip : AllZip DropsUnreached funcs after) (number : ℕ) (func : Function) → slice_get funcs number ≡ Some func
    → Here funcs after zip number func
here [] after zip number func is = absurd (none-some func is)
here (first ∷ funcs) [] zip number func is = absurd zip
here (first ∷ funcs) (new ∷ after) zip zero func is =
    let found : Here (first ∷ funcs) (new ∷ after) zip 0 first = record {
      marks = zip.0.marks;
      reached = zip.0.reached;
      there = ap (λ (f : Function). Some f) zip.0.rest;
      keeping = refl;
    } in
    subst (Here (first ∷ funcs) (new ∷ after) zip 0) (same_Some first func is) found
here (first ∷ funcs) (new ∷ after) zip (suc number) func is =
    let rest = here funcs after zip.1 number func is in
    record { marks = rest.marks; reached = rest.reached; there = rest.there; keeping = rest.keeping }

record Gone (funcs after : List Function) (zip : AllZip DropsUnreached funcs after) (number : ℕ) : Type 0 where
  pub there : slice_get after number ≡ None
  pub keeping : keepings_of funcs after zip number ≡ nothing_kept

gone : (funcs after : List Function) (zip : AllZip DropsUnreached funcs after) (number : ℕ) → slice_get funcs number ≡ None → Gone funcs after zip number
gone [] [] zip number none = record { there = refl; keeping = refl }
gone [] (new ∷ after) zip number none = absurd zip
gone (first ∷ funcs) [] zip number none = absurd zip
gone (first ∷ funcs) (new ∷ after) zip zero none = absurd (none-some first (sym none))
gone (first ∷ funcs) (new ∷ after) zip (suc number) none =
    let rest = gone funcs after zip.1 number none in
    record { there = rest.there; keeping = rest.keeping }

-- ---- registers

register_same : (marks : List Bool) (func : Function) (number : ℕ) → length marks ≡ length func.blocks → number ≤ length func.blocks
    → slice_index (registers_of (function_kept marks func)) (marks_before marks number) ≡ marks_before (value_marks marks func) (slice_index (registers_of func) number)
register_same marks func number whole within =
    let count = length (kept_of marks func.blocks) in
    let long = length_kept marks func.blocks in
    let mapped = length-map (kept_of marks func.blocks) (block_kept (kept_by marks func)) in
    let rises = before_mono marks number (length func.blocks) within in
    first_is (length func.args) (map (block_kept (kept_by marks func)) (kept_of marks func.blocks)) (marks_before marks number) (omega (arith, long, mapped, rises))
    ∙ (ap (λ n. length func.args + n)
    (before_mapped (kept_by marks func) (kept_of marks func.blocks) (marks_before marks number) ∙ sym (before_left marks func.blocks number whole))
    ∙ (sym (before_past_trues (length func.args) (before_block func.blocks number) (result_marks marks func.blocks))
    ∙ ap (marks_before (value_marks marks func)) (sym (first_is (length func.args) func.blocks number within))))

last_place : (func : Function) → length (registers_of func) - 1 ≡ length func.blocks
last_place func = let long = count_registers (length func.args) func.blocks in omega arith

all_registers : (marks : List Bool) (func : Function) → slice_index (registers_of func) (length func.blocks) ≡ length (value_marks marks func)
all_registers marks func =
    let first = first_is (length func.args) func.blocks (length func.blocks) (omega arith) in
    let count = marks_count marks func.blocks in
    let both = length-append (replicate (length func.args) true) (result_marks marks func.blocks) in
    let long = length-replicate (length func.args) true in
    omega (arith, first, count, both, long)

results_stay : (marks : List Bool) (func : Function) (number : ℕ) (block : BasicBlock) → Marked marks number → slice_get func.blocks number ≡ Some block
    → ResultsStay (value_marks marks func) (slice_index (registers_of func) number) block.insts
results_stay marks func number block marked is = λ k below.
    let within = slice_get_within func.blocks number block is in
    let first = first_is (length func.args) func.blocks number (omega arith) in
    let long = length-replicate (length func.args) true in
    let place : length (replicate (length func.args) true) + (before_block func.blocks number + k) ≡ slice_index (registers_of func) number + k = omega (arith, first, long) in
    subst (Marked (value_marks marks func)) place
    (get_past (replicate (length func.args) true) (result_marks marks func.blocks) (before_block func.blocks number + k)
    ∙ results_marked marks func.blocks number block marked is k below)

-- ---- operands

all_stay : (values : List Bool) (given : List Operand) → ((k value : ℕ) → slice_get (filter_map value_in given) k ≡ Some value → Marked values value)
    → All (OperandStays values) given
all_stay values [] each = All-nil (OperandStays values)
all_stay values (operands.Value id ∷ given) each =
    All-cons (OperandStays values) (operands.Value id) given (each 0 id.0 refl) (all_stay values given (λ k value is. each (suc k) value is))
all_stay values (operands.Int literal ∷ given) each = All-cons (OperandStays values) (operands.Int literal) given tt (all_stay values given each)
all_stay values (operands.Null ∷ given) each = All-cons (OperandStays values) operands.Null given tt (all_stay values given each)
all_stay values (operands.Fun func ∷ given) each = All-cons (OperandStays values) (operands.Fun func) given tt (all_stay values given each)

no_group : (op : Op) → is_rewritten op ≡ false → is_grouped op ≡ false
no_group (ops.Statepoint id callee types) plain = plain
no_group ops.GcResult plain = plain
no_group ops.GcRelocate plain = plain
no_group op plain = refl

-- ---- the module

module _ (content after : ModuleContent) (source : IsSourceModule content) (drops : ModuleDropsUnreached content after) where
  abbrev keepings : ℕ → Keeping
  keepings = keepings_of content.funcs after.funcs drops.functions

  abbrev here_at : (number : ℕ) (func : Function) → slice_get content.funcs number ≡ Some func → Here content.funcs after.funcs drops.functions number func
  here_at number func found = here content.funcs after.funcs drops.functions number func found

  -- ---- calls

  takes_found : (number : ℕ) (answer : Ty) (params : List Ty) (count : ℕ) (found : Option Function) → slice_get content.funcs number ≡ found
      → option_map signature_of found ≡ Some (record { answer = answer; params = params }) → count ≡ length params → Takes (keepings number) count
  takes_found number answer params count None at is same = absurd cc
  takes_found number answer params count (Some func) at is same =
      let h = here_at number func at in
      let params_are : map (λ arg. arg.ty) func.args ≡ params = same_params (signature_of func) (record { answer = answer; params = params }) is in
      let many = length-map func.args (λ arg. arg.ty) in
      let long = ap length params_are in
      subst (λ (keeping : Keeping). Takes keeping count) (sym h.keeping) (record { entry = entry_marked h.marks func h.reached; few = omega arith })
    where
      same_params : (one other : Signature) → Some one ≡ Some other → one.params ≡ other.params
      same_params one other both = let same_one : one ≡ other = cc in ap (λ s. s.params) same_one

  callee_takes : (func : Function) (inst : Instruction) (callee : Callee) (types : List Ty) → IsCall callee types inst → IsCallOf (scope_of content func) callee types inst
      → CalleeTakes keepings callee inst.operands
  callee_takes func inst (callees.Fun named) types line call =
      takes_found named.0 inst.ty types (length inst.operands) (slice_get content.funcs named.0) refl call.signature
      (sym (AllZip-long (λ operand ty. is_argument (callees.Fun named) operand ty ≡ true) inst.operands types line.arguments))
  callee_takes func inst callees.TaskStart types line call =
      let starts = call.operands in
      subst (λ (number : ℕ). Takes (keepings number) 1) (sym (ap function_in starts.1))
      (takes_found starts.0.0 Void (Ptr ∷ []) 1 (slice_get content.funcs starts.0.0) refl starts.2 refl)
  callee_takes func inst callee types line call = tt

  -- ---- a function

  module _ (number : ℕ) (func : Function) (found : slice_get content.funcs number ≡ Some func) where
    typed_function : IsTypedFunction Source func
    typed_function = all_at (IsTypedFunction Source) content.funcs number func (source.typed).functions found

    typed_lines : FunctionIsTyped (scope_of content func) func
    typed_lines = all_at (λ each. FunctionIsTyped (scope_of content each) each) content.funcs number func ((source.typed).no_fault).typed found

    is_source : IsSource func
    is_source =
        let no_fault : FunctionHasNoFault content func = all_at (FunctionHasNoFault content) content.funcs number func ((source.typed).no_fault).functions found in
        (subst (λ form. OfForm form func) (source.typed).of_form no_fault.form).0

    arguments_fit : (inst : Instruction) → IsLine inst → IsTyped (scope_of content func) inst → (op : Op) → inst.op ≡ op → ArgumentsFit keepings op inst.operands
    arguments_fit inst line typed (ops.Call callee types) is =
        callee_takes func inst callee types (subst (λ (op : Op). LineOf op inst) is line) (subst (λ (op : Op). RuleOf (scope_of content func) op inst) is typed.rule)
    arguments_fit inst line typed op is = tt

    abbrev H : Here content.funcs after.funcs drops.functions number func
    H = here_at number func found

    inst_stays : (block place : ℕ) (inst : Instruction) → Marked H.marks block → Stands func block place inst → InstStays keepings number inst
    inst_stays block place inst marked stands =
        let lasting : Lasts H.marks func inst = lasts H.marks func inst H.reached typed_function.lines (all_at UsesAreDefinite content.funcs number func source.definite found)
        (record { number = block; place = place; marked = marked; stands = stands }) in
        let line = line_at IsLine func block place inst stands typed_function.lines in
        let typed = line_at (IsTyped (scope_of content func)) func block place inst stands typed_lines.lines in
        let plain = line_at (λ (each : Instruction). is_rewritten each.op ≡ false) func block place inst stands is_source.lines in
        let second : (Ty × Operand) → Operand = λ entry. entry.1 in
        let left = (inst_left (kept_by H.marks func) inst).operands in
        let all = all_stay (value_marks H.marks func) (left ++ map second inst.bundle) lasting.values in
        let stay : All (OperandStays (value_marks H.marks func)) left = all_front (OperandStays (value_marks H.marks func)) left (map second inst.bundle) all in
        let shown = of_second inst.bundle (all_back (OperandStays (value_marks H.marks func)) left (map second inst.bundle) all) in
        let labels = all_from_at (λ (label : BlockId). Marked H.marks label.0) (inst_left (kept_by H.marks func) inst).labels lasting.labels in
        record {
          operands = subst (λ (k : Keeping). All (OperandStays k.values) (operands_left (numbers k) inst.op inst.labels inst.operands)) (sym H.keeping) stay;
          bundle = subst (λ (k : Keeping). All (λ (entry : Ty × Operand). OperandStays k.values entry.1) inst.bundle) (sym H.keeping) shown;
          labels = subst (λ (k : Keeping). All (λ (label : BlockId). Marked k.blocks label.0) (labels_left (numbers k) inst.op inst.labels)) (sym H.keeping) labels;
          ungrouped = no_group inst.op plain;
          arguments = arguments_fit inst line typed inst.op refl;
        }
      where
        of_second : (bundle : List (Ty × Operand)) → All (OperandStays (value_marks H.marks func)) (map (λ (entry : Ty × Operand). entry.1) bundle)
            → All (λ (entry : Ty × Operand). OperandStays (value_marks H.marks func) entry.1) bundle
        of_second bundle all = all_from_at (λ (entry : Ty × Operand). OperandStays (value_marks H.marks func) entry.1) bundle (λ k entry is.
            all_at (OperandStays (value_marks H.marks func)) (map (λ (each : Ty × Operand). each.1) bundle) k entry.1 all (get_map (λ (each : Ty × Operand). each.1) bundle k entry is))

    -- ---- a block that is kept

    module _ (block : ℕ) (marked : Marked (keepings number).blocks block) where
      marked_here : Marked H.marks block
      marked_here = subst (λ (k : Keeping). Marked k.blocks block) H.keeping marked

      abbrev B : (b : BasicBlock) × (slice_get func.blocks block ≡ Some b)
      B = marked_block H.marks func block H.reached marked_here

      insts_here : insts_of content number block ≡ B.0.insts
      insts_here =
          ap (λ (f : Option Function). option_map_or (λ defined. insts_in defined block) f []) found
          ∙ ap (λ (b : Option BasicBlock). option_map_or (λ each. each.insts) b []) B.1

      insts_there : insts_of after number (marks_before H.marks block) ≡ map (inst_kept (kept_by H.marks func)) B.0.insts
      insts_there =
          ap (λ (f : Option Function). option_map_or (λ defined. insts_in defined (marks_before H.marks block)) f []) H.there
          ∙ ap (λ (b : Option BasicBlock). option_map_or (λ each. each.insts) b []) (block_forth H.marks func block B.0 marked_here B.1)

      first_here : first_register content number block ≡ slice_index (registers_of func) block
      first_here = ap (λ (f : Option Function). option_map_or (λ defined. slice_index (registers_of defined) block) f 0) found

      first_there : first_register after number (marks_before H.marks block) ≡ marks_before (value_marks H.marks func) (slice_index (registers_of func) block)
      first_there =
          ap (λ (f : Option Function). option_map_or (λ defined. slice_index (registers_of defined) (marks_before H.marks block)) f 0) H.there
          ∙ register_same H.marks func block (marks_whole H.marks func H.reached) (let within = slice_get_within func.blocks block B.0 B.1 in omega arith)

      all_insts : All (InstStays keepings number) B.0.insts
      all_insts = all_from_at (InstStays keepings number) B.0.insts (λ place inst is.
          inst_stays block place inst marked_here (record { block = B.0; in_function = B.1; in_block = is }))

      all_results : ResultsStay (keepings number).values (slice_index (registers_of func) block) B.0.insts
      all_results = subst (λ (k : Keeping). ResultsStay k.values (slice_index (registers_of func) block) B.0.insts) (sym H.keeping)
          (results_stay H.marks func block B.0 marked_here B.1)

      lines_here : lines_of content number block ≡ lines_from block (slice_index (registers_of func) block) B.0.insts
      lines_here = ap (λ next. lines_from block next (insts_of content number block)) first_here ∙ ap (lines_from block (slice_index (registers_of func) block)) insts_here

      lines_there : lines_of after number (marks_before (keepings number).blocks block)
          ≡ lines_from (marks_before (keepings number).blocks block) (marks_before (keepings number).values (slice_index (registers_of func) block)) (map (inst_kept (numbers (keepings number))) B.0.insts)
      lines_there =
          subst (λ (k : Keeping). lines_of after number (marks_before k.blocks block)
          ≡ lines_from (marks_before k.blocks block) (marks_before k.values (slice_index (registers_of func) block)) (map (inst_kept (numbers k)) B.0.insts)) (sym H.keeping)
          (ap (λ next. lines_from (marks_before H.marks block) next (insts_of after number (marks_before H.marks block))) first_there
          ∙ ap (lines_from (marks_before H.marks block) (marks_before (value_marks H.marks func) (slice_index (registers_of func) block))) insts_there)

      block_lines : lines_of after number (marks_before (keepings number).blocks block) ≡ map (line_kept (keepings number)) (lines_of content number block)
      block_lines =
          lines_there ∙ (lines_same keepings number block marked B.0.insts (slice_index (registers_of func) block) all_insts all_results
          ∙ sym (ap (map (line_kept (keepings number))) lines_here))

      block_stays : All (LineStays keepings number) (lines_of content number block)
      block_stays = subst (All (LineStays keepings number)) (sym lines_here) (lines_stay keepings number block marked B.0.insts (slice_index (registers_of func) block) all_insts all_results)

    -- ---- how many registers

    count_here : register_count content number ≡ length (keepings number).values
    count_here =
        ap (λ (f : Option Function). option_map_or (λ defined. slice_index (registers_of defined) (length (registers_of defined) - 1)) f 0) found
        ∙ (ap (slice_index (registers_of func)) (last_place func)
        ∙ (all_registers H.marks func ∙ sym (ap (λ (k : Keeping). length k.values) H.keeping)))

    kept_blocks : length (function_kept H.marks func).blocks ≡ marks_before H.marks (length func.blocks)
    kept_blocks = length-map (kept_of H.marks func.blocks) (block_kept (kept_by H.marks func)) ∙ length_kept H.marks func.blocks

    count_there : register_count after number ≡ marks_before (keepings number).values (length (keepings number).values)
    count_there =
        ap (λ (f : Option Function). option_map_or (λ defined. slice_index (registers_of defined) (length (registers_of defined) - 1)) f 0) H.there
        ∙ (ap (slice_index (registers_of (function_kept H.marks func))) (last_place (function_kept H.marks func) ∙ kept_blocks)
        ∙ (register_same H.marks func (length func.blocks) (marks_whole H.marks func H.reached) (omega arith)
        ∙ (ap (marks_before (value_marks H.marks func)) (all_registers H.marks func)
        ∙ sym (ap (λ (k : Keeping). marks_before k.values (length k.values)) H.keeping))))

    arguments_here : (register : ℕ) → register < (keepings number).arguments → Marked (keepings number).values register
    arguments_here register =
        subst (λ (k : Keeping). register < k.arguments → Marked k.values register) (sym H.keeping) (λ below. argument_marked H.marks func register below)

  -- ---- any function

  by_number : (P : ℕ → Type 0) → ((number : ℕ) → Gone content.funcs after.funcs drops.functions number → slice_get content.funcs number ≡ None → P number)
      → ((number : ℕ) (func : Function) → slice_get content.funcs number ≡ Some func → P number) → (number : ℕ) → P number
  by_number P missing present number = by (slice_get content.funcs number) refl
    where
      by : (found : Option Function) → slice_get content.funcs number ≡ found → P number
      by None none = missing number (gone content.funcs after.funcs drops.functions number none) none
      by (Some func) is = present number func is

  names_same : (number : ℕ) → function_name after number ≡ function_name content number
  names_same = by_number (λ number. function_name after number ≡ function_name content number)
      (λ number absent none.
      ap (λ (f : Option Function). option_map_or (λ defined. defined.name) f []) absent.there
      ∙ sym (ap (λ (f : Option Function). option_map_or (λ defined. defined.name) f []) none))
      (λ number func is.
      ap (λ (f : Option Function). option_map_or (λ defined. defined.name) f []) (here_at number func is).there
      ∙ sym (ap (λ (f : Option Function). option_map_or (λ defined. defined.name) f []) is))

  -- ---- `@main`

  abbrev other_name : Function → Bool
  other_name func = not (bytes_eq func.name (codes "main"))

  before_main : (funcs new : List Function) → AllZip DropsUnreached funcs new → prefix_len other_name new ≡ prefix_len other_name funcs
  before_main [] [] zip = refl
  before_main [] (func ∷ new) zip = absurd zip
  before_main (func ∷ funcs) [] zip = absurd zip
  before_main (func ∷ funcs) (one ∷ new) zip =
      ap (λ (name : List ℕ). if not (bytes_eq name (codes "main")) then 1 + prefix_len other_name new else 0) (ap (λ (f : Function). f.name) zip.0.rest)
      ∙ ap (λ n. if other_name func then 1 + n else 0) (before_main funcs new zip.1)

  main_same : main_of after ≡ main_of content
  main_same = rw (before_main content.funcs after.funcs drops.functions, sym (length_all_zip DropsUnreached content.funcs after.funcs drops.functions)) refl

  some_functions : 0 < length content.funcs
  some_functions =
      let has = ((source.typed).no_fault).main in
      let long = length-append has.earlier (has.main ∷ has.later) in
      let same = ap length has.whole in
      omega arith

  entry_at : (place : ℕ) → place < length content.funcs → Marked (keepings place).blocks 0
  entry_at place below =
      let func = get_some content.funcs place below in
      let h = here_at place func.0 func.1 in
      subst (λ (k : Keeping). Marked k.blocks 0) (sym h.keeping) (entry_marked h.marks func.0 h.reached)

  main_stays : Marked (keepings (main_of content)).blocks 0
  main_stays = by (prefix_len other_name content.funcs) (nat_lt (prefix_len other_name content.funcs) (length content.funcs)) refl
    where
      by : (place : ℕ) (b : Bool) → nat_lt place (length content.funcs) ≡ b → Marked (keepings (unwrap_or (if b then Some place else None) 0)).blocks 0
      by place true less = entry_at place (grind (arith, nat_tests))
      by place false less = entry_at 0 some_functions

  -- ---- the settings

  no_block : {A : Type 0} (number block : ℕ) → Gone content.funcs after.funcs drops.functions number → Marked (keepings number).blocks block → A
  no_block number block absent marked = absurd (none-some true (subst (λ (k : Keeping). Marked k.blocks block) absent.keeping marked))

  keeps_blocks : (go : ℕ → Option ℕ) (bound : ℕ) → KeepsBlocks keepings (source_setting content go bound) (lines_of after) (register_count after)
  keeps_blocks go bound = record {
    arguments = λ number register. by_number (λ n. register < (keepings n).arguments → Marked (keepings n).values register)
        (λ n absent none below. let few = ap (λ (k : Keeping). k.arguments) absent.keeping in absurd (omega arith))
        (λ n func is. arguments_here n func is register) number;
    room = by_number (λ n. register_count content n ≡ length (keepings n).values)
        (λ n absent none.
        ap (λ (f : Option Function). option_map_or (λ defined. slice_index (registers_of defined) (length (registers_of defined) - 1)) f 0) none
        ∙ sym (ap (λ (k : Keeping). length k.values) absent.keeping))
        count_here;
    now_room = by_number (λ n. register_count after n ≡ marks_before (keepings n).values (length (keepings n).values))
        (λ n absent none.
        ap (λ (f : Option Function). option_map_or (λ defined. slice_index (registers_of defined) (length (registers_of defined) - 1)) f 0) absent.there
        ∙ sym (ap (λ (k : Keeping). marks_before k.values (length k.values)) absent.keeping))
        count_there;
    lines = λ number block. by_number (λ n. Marked (keepings n).blocks block → lines_of after n (marks_before (keepings n).blocks block) ≡ map (line_kept (keepings n)) (lines_of content n block))
        (λ n absent none marked. no_block n block absent marked)
        (λ n func is marked. block_lines n func is block marked) number;
    stay = λ number block. by_number (λ n. Marked (keepings n).blocks block → All (LineStays keepings n) (lines_of content n block))
        (λ n absent none marked. no_block n block absent marked)
        (λ n func is marked. block_stays n func is block marked) number;
    front = λ number. refl;
    front_stays = λ number. All-cons (LineStays keepings number) poll [] (poll_stays keepings number) (All-nil (LineStays keepings number));
    main = main_stays;
  }

  settings_same : (go : ℕ → Option ℕ) (bound : ℕ) → with_lines (source_setting content go bound) (lines_of after) (register_count after) ≡ source_setting after go bound
  settings_same go bound = λ i. record {
    lines = lines_of after;
    front = poll ∷ [];
    registers = register_count after;
    layouts = sym drops.layouts i;
    main = sym main_same i;
    names = λ number. sym (names_same number) i;
    go = go;
    bound = bound;
  }

  pub same_meaning : (input : List ℤ) (go : ℕ → Option ℕ) (bound : ℕ) (outcome : Outcome) → SourceGives content input go bound outcome ↔ SourceGives after input go bound outcome
  same_meaning input go bound outcome =
      subst (λ (there : Setting). Gives (source_setting content go bound) input outcome ↔ Gives there input outcome) (settings_same go bound)
      (same_outcome keepings (source_setting content go bound) (lines_of after) (register_count after) (keeps_blocks go bound) input outcome)
