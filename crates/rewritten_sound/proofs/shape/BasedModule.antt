-- The module with polls and bases of a source module is a typed module of the rewritten form, with room for its groups.
use Rattle.std.proofs.Common.{◌≡◌, ℕ, suc, ◌+◌, ◌*◌, ◌^◌, ◌<◌, ◌≤◌, Bool, true, false, if◌then◌else◌, List, [], ◌∷◌, ◌++◌, length, map, get_or, refl, sym, ap, subst, ◌∙◌, ◌⊎◌, inl, inr, arith}
use Rattle.std.specs.Prelude.{Some, codes, filter, slice_get}
use Rattle.std.specs.List.{All, flat_map, list_all}
use Rattle.std.specs.Fmt.{decimal}
use Rattle.std.proofs.lemmas.Bool.{or_left, true≢false}
use Rattle.std.proofs.lemmas.Fmt.{decimal_is_IsNumeral}
use Rattle.std.proofs.lemmas.List.{length-append, length-map}
use Rattle.std.proofs.lemmas.List.Elements.{All-append, All-cons, All-nil, All-head, All-tail}
use Rattle.std.proofs.lemmas.List.Sums.{count_by-le-length, length-filter}
use Rattle.list_laws.proofs.Contents.{all_at, all_back, all_from_at, all_front}
use Rattle.list_laws.proofs.Places.{get_map, map_back}
use Rattle.sp_text.specs.Bytes.{in_name}
use Rattle.ir_ast.specs.declared.funcs.Arg.{Arg}
use Rattle.ir_ast.specs.declared.modules.Form.TheVariants.{Rewritten, Source}
use Rattle.ir_ast.specs.declared.types.Ty.TheVariants.{Ptr, Token}
use Rattle.ir_ast.specs.declared.ops.Pred.{Pred}
use Rattle.ir_ast.specs.declared.ops.Pred.TheVariants as preds
use Rattle.ir_ast.specs.declared.ops.Op.{Op}
use Rattle.ir_ast.specs.declared.ops.Op.TheVariants as ops
use Rattle.ir_ast.specs.Insts.{Instruction}
use Rattle.ir_ast.specs.Blocks.{BasicBlock}
use Rattle.ir_ast.specs.Funcs.{Function, instructions_of}
use Rattle.ir_ast.specs.Modules.{ModuleContent}
use Rattle.ir_ast.specs.Lines.{IsLine}
use Rattle.ir_ast.specs.Lists.{Distinct}
use Rattle.ir_ast.specs.Operands.{values_used}
use Rattle.ir_ast.specs.Scope.{scope_of}
use Rattle.ir_ast.specs.Values.{Definition, definition_name, definitions_of, value_types}
use Rattle.ir_ast.specs.Widths.{IsWidth, line_widths, type_widths}
use Rattle.ir_ast.specs.Faultless.{FunctionHasNoFault, OfForm}
use Rattle.ir_ast.specs.Faults.EntryHasPred.{LeavesEntry}
use Rattle.ir_ast.specs.Faults.GroupShape.{GroupsInShape, is_statepoint}
use Rattle.ir_ast.specs.Faults.NoMain.{HasMain}
use Rattle.ir_ast.specs.Faults.PointerOrder.{orders_pointers}
use Rattle.ir_ast.specs.Faults.Reserved.{IsExternalName, IsSource}
use Rattle.ir_ast.specs.Faults.TypeClash.{Fits, FunctionIsTyped, IsTyped}
use Rattle.ir_ast.specs.Faults.UnknownName.{NamesOfFunction, NamesOfModule}
use Rattle.ir_cfg.specs.Limits.{IsName}
use Rattle.ir_cfg.specs.SourceModules.{IsSourceModule}
use Rattle.ir_cfg.specs.Statepoints.{IdIsWord}
use Rattle.ir_cfg.specs.TypedModules.{IsTypedFunction, IsTypedModule}
use Rattle.ir_cfg.proofs.KeepsForms.{all_flat, flat_all}
use Rattle.object_meaning.specs.Lines.{after_all, following, retreats}
use Rattle.object_meaning.proofs.GivenLaws.{has_result, definition_count}
use Rattle.base_forms.specs.Polls.{placed, placed_from, poll_call, polled}
use Rattle.base_forms.specs.DerivedMarks.{derived_marks, uses_marked}
use Rattle.base_forms.specs.Inserted.{by_line, is_merged, is_negated}
use Rattle.base_forms.specs.Based.{base_line, based, based_blocks, based_insts, based_module, compared, kept_line, lines_for}
use Rattle.base_laws.specs.BeforeLiveness.{IsBeforeLiveness, IsPlainLine}
use Rattle.base_forms.proofs.PlacedLaws.{definitions_placed}
use Rattle.base_laws.proofs.ReadyLaws.{renamings}
use Rattle.base_laws.proofs.ShapeLaws.{graph_now, in_shape}
use Rattle.base_definite.proofs.base_relations.GroupLaws.{text_is}
use Rattle.base_definite.proofs.base_relations.TableInstance.{all_ready}
use Rattle.base_definite.proofs.NameLaws.{distinct_now, names_now}
use Rattle.base_definite.proofs.SpreadLaws.{IsFree, base_name, same_name, spread}
use Rattle.rewritten_sound.proofs.definite.MadeLaws.{phis_are_right}
use Rattle.rewritten_sound.specs.Shape.{HasRoomForGroups}
use Rattle.rewritten_sound.specs.WellFormed.{IsGroupName, IsWellFormed}
use Rattle.rewritten_sound.proofs.shape.BasedLines.{all_based_well}
use Rattle.rewritten_sound.proofs.shape.FunctionLaws.{NoPoint, no_tokens}
use Rattle.rewritten_sound.proofs.shape.GroupLaws.{no_live_entries, shape_plain}
use Rattle.rewritten_sound.proofs.shape.SpellLaws.{digits_named, letters_differ}
use Rattle.poll_place.proofs.PlacedLemmas.{few_placed, length-placed_from}

-- ---- how many lines there are

module _ (func : Function) (marks : List Bool) where
  line_short : (next : ℕ) (inst : Instruction) (op : Op) → length (lines_for func marks next inst op) ≤ 2
  line_short next inst ops.Phi = by (is_merged marks inst)
    where
      by : (b : Bool) → length ((if b then base_line func marks next inst ∷ [] else []) ++ kept_line func marks inst ∷ []) ≤ 2
      by true = omega arith
      by false = omega arith
  line_short next inst ops.Select = by (is_merged marks inst)
    where
      by : (b : Bool) → length ((if b then base_line func marks next inst ∷ [] else []) ++ kept_line func marks inst ∷ []) ≤ 2
      by true = omega arith
      by false = omega arith
  line_short next inst (ops.Icmp pred) = by (uses_marked marks inst) pred
    where
      by : (b : Bool) (pred : Pred) → length (if b then compared func marks next inst pred else kept_line func marks inst ∷ []) ≤ 2
      by true preds.Eq = omega arith
      by true preds.Ne = omega arith
      by true pred = omega arith
      by false pred = omega arith
  line_short next inst ops.Load = omega arith
  line_short next inst ops.Store = omega arith
  line_short next inst op = omega arith

  based_short : (next : ℕ) (insts : List Instruction) → length (based_insts func marks next insts) ≤ 2 * length insts
  based_short next [] = omega arith
  based_short next (inst ∷ insts) =
      let here = line_short next inst inst.op in
      let rest = based_short (following next inst) insts in
      let long = length-append (lines_for func marks next inst inst.op) (based_insts func marks (following next inst) insts) in
      omega (arith, here, rest, long)

  block_names : (next : ℕ) (blocks : List BasicBlock) → map (λ (block : BasicBlock). block.name) (based_blocks func marks next blocks) ≡ map (λ (block : BasicBlock). block.name) blocks
  block_names next [] = refl
  block_names next (block ∷ blocks) = ap (λ names. block.name ∷ names) (block_names (after_all next block.insts) blocks)

  blocks_long : (next : ℕ) (blocks : List BasicBlock) → length (based_blocks func marks next blocks) ≡ length blocks
  blocks_long next [] = refl
  blocks_long next (block ∷ blocks) = ap suc (blocks_long (after_all next block.insts) blocks)

placed_names : (from : ℕ) (blocks : List BasicBlock) → map (λ (block : BasicBlock). block.name) (placed_from from blocks) ≡ map (λ (block : BasicBlock). block.name) blocks
placed_names from [] = refl
placed_names from (block ∷ blocks) = ap (λ names. block.name ∷ names) (placed_names (suc from) blocks)

labels_same : (func : Function) → map (λ (block : BasicBlock). block.name) (based (placed func)).blocks ≡ map (λ (block : BasicBlock). block.name) func.blocks
labels_same func = block_names (placed func) (derived_marks (placed func)) (length func.args) (placed func).blocks ∙ placed_names 0 func.blocks

-- at most four lines for one, and two more
based_lines : (func : Function) → length (instructions_of (based (placed func)).blocks) ≤ 4 * length (instructions_of func.blocks) + 2
based_lines func =
    let text = ap length (text_is (placed func)) in
    let short = based_short (placed func) (derived_marks (placed func)) (length func.args) (instructions_of (placed func).blocks) in
    let polls = few_placed func.blocks in
    omega (arith, text, short, polls)

-- ---- names

numbered_named : (n : ℕ) → n < 2 ^ 64 → list_all in_name (decimal n) ≡ true
numbered_named n few = digits_named (decimal n) ((decimal_is_IsNumeral n few).0).1

base_named : (n : ℕ) → n < 2 ^ 64 → IsName (base_name n)
base_named n few = or_left _ _ (numbered_named n few)

same_named : (n : ℕ) → n < 2 ^ 64 → IsName (same_name n)
same_named n few = or_left _ _ (numbered_named n few)

abbrev letter : List ℕ → ℕ
letter name = get_or name 3 0

front_letter : (name : List ℕ) → IsGroupName name → (letter name ≡ 116) ⊎ ((letter name ≡ 114) ⊎ (letter name ≡ 109))
front_letter name (inl is) = inl (ap letter is.1)
front_letter name (inr (inl is)) = inr (inl (ap letter is.1))
front_letter name (inr (inr is)) = inr (inr (ap letter is.1))

base_free : (n : ℕ) → IsGroupName (base_name n) → ⊥
base_free n group = by (front_letter (base_name n) group)
  where
    by : (letter (base_name n) ≡ 116) ⊎ ((letter (base_name n) ≡ 114) ⊎ (letter (base_name n) ≡ 109)) → ⊥
    by (inl is) = letters_differ 98 116 is refl
    by (inr (inl is)) = letters_differ 98 114 is refl
    by (inr (inr is)) = letters_differ 98 109 is refl

same_free : (n : ℕ) → IsGroupName (same_name n) → ⊥
same_free n group = by (front_letter (same_name n) group)
  where
    by : (letter (same_name n) ≡ 116) ⊎ ((letter (same_name n) ≡ 114) ⊎ (letter (same_name n) ≡ 109)) → ⊥
    by (inl is) = letters_differ 115 116 is refl
    by (inr (inl is)) = letters_differ 115 114 is refl
    by (inr (inr is)) = letters_differ 115 109 is refl

given_free : (given : Definition) → IsFree given → IsGroupName (definition_name given) → ⊥
given_free given free (inl is) = free (codes "t" ++ is.0, is.1)
given_free given free (inr (inl is)) = free (codes "r" ++ is.0, is.1)
given_free given free (inr (inr is)) = free (codes "m" ++ is.0, is.1)

-- what holds of the names that there were and of inserted ones holds of all
module _ (P : List ℕ → Type 0) (bases : (n : ℕ) → n < 2 ^ 64 → P (base_name n)) (sames : (n : ℕ) → n < 2 ^ 64 → P (same_name n)) (merges negates : Definition → Bool) where
  all_spread : (from_bases from_sames : ℕ) (all : List Definition) → from_bases + length all ≤ 8192 → from_sames + length all ≤ 8192 → All (λ given. P (definition_name given)) all
      → All P (spread merges negates from_bases from_sames all)
  all_spread from_bases from_sames [] few fewer all = All-nil P
  all_spread from_bases from_sames (given ∷ rest) few fewer all =
      by (merges given) (negates given) (λ more. λ less. λ more_is. λ less_is. all_spread (from_bases + more) (from_sames + less) rest (omega arith) (omega arith) (All-tail (λ (each : Definition). P (definition_name each)) given rest all))
    where
      here : P (definition_name given)
      here = All-head (λ (each : Definition). P (definition_name each)) given rest all

      base_here : P (base_name from_bases)
      base_here = bases from_bases (omega arith)

      same_here : P (same_name from_sames)
      same_here = sames from_sames (omega arith)

      by : (b c : Bool) → ((more less : ℕ) → more ≤ 1 → less ≤ 1 → All P (spread merges negates (from_bases + more) (from_sames + less) rest))
          → All P ((if b then base_name from_bases ∷ [] else (if c then same_name from_sames ∷ [] else [])) ++ definition_name given ∷ spread merges negates (from_bases + (if b then 1 else 0)) (from_sames + (if c then 1 else 0)) rest)
      by true true further = All-cons P (base_name from_bases) (definition_name given ∷ spread merges negates (from_bases + 1) (from_sames + 1) rest) base_here (All-cons P (definition_name given) (spread merges negates (from_bases + 1) (from_sames + 1) rest) here (further 1 1 (omega arith) (omega arith)))
      by true false further = All-cons P (base_name from_bases) (definition_name given ∷ spread merges negates (from_bases + 1) (from_sames + 0) rest) base_here (All-cons P (definition_name given) (spread merges negates (from_bases + 1) (from_sames + 0) rest) here (further 1 0 (omega arith) (omega arith)))
      by false true further = All-cons P (same_name from_sames) (definition_name given ∷ spread merges negates (from_bases + 0) (from_sames + 1) rest) same_here (All-cons P (definition_name given) (spread merges negates (from_bases + 0) (from_sames + 1) rest) here (further 0 1 (omega arith) (omega arith)))
      by false false further = All-cons P (definition_name given) (spread merges negates (from_bases + 0) (from_sames + 0) rest) here (further 0 0 (omega arith) (omega arith))

spread_short : (merges negates : Definition → Bool) (bases sames : ℕ) (all : List Definition) → length (spread merges negates bases sames all) ≤ 2 * length all
spread_short merges negates bases sames [] = omega arith
spread_short merges negates bases sames (given ∷ rest) = by (merges given) (negates given) (λ b s. spread_short merges negates b s rest)
  where
    by : (b c : Bool) → ((bases sames : ℕ) → length (spread merges negates bases sames rest) ≤ 2 * length rest)
        → length ((if b then base_name bases ∷ [] else (if c then same_name sames ∷ [] else [])) ++ definition_name given ∷ spread merges negates (bases + (if b then 1 else 0)) (sames + (if c then 1 else 0)) rest) ≤ 2 * suc (length rest)
    by true true further = let more = further (bases + 1) (sames + 1) in omega (arith, more)
    by true false further = let more = further (bases + 1) (sames + 0) in omega (arith, more)
    by false true further = let more = further (bases + 0) (sames + 1) in omega (arith, more)
    by false false further = let more = further (bases + 0) (sames + 0) in omega (arith, more)

-- ---- one function

id_plain : (op : Op) → is_statepoint op ≡ false → IdIsWord op
id_plain (ops.Statepoint id callee types) none = absurd (true≢false none)
id_plain op none = tt

module _ (content : ModuleContent) (source : IsSourceModule content) (number : ℕ) (func : Function) (found : slice_get content.funcs number ≡ Some func) where
  abbrev made : Function
  made = based (placed func)

  abbrev after : ModuleContent
  after = based_module content

  typed_function : IsTypedFunction Source func
  typed_function = all_at (IsTypedFunction Source) content.funcs number func (source.typed).functions found

  typed_lines : FunctionIsTyped (scope_of content func) func
  typed_lines = all_at (λ each. FunctionIsTyped (scope_of content each) each) content.funcs number func ((source.typed).no_fault).typed found

  no_fault : FunctionHasNoFault content func
  no_fault = all_at (FunctionHasNoFault content) content.funcs number func ((source.typed).no_fault).functions found

  is_source : IsSource func
  is_source = (subst (λ form. OfForm form func) (source.typed).of_form no_fault.form).0

  shape : IsBeforeLiveness after made
  shape = in_shape content source number func found

  line_widths_here : All (λ inst. All IsWidth (line_widths inst)) (instructions_of func.blocks)
  line_widths_here =
      all_flat IsWidth line_widths (instructions_of func.blocks)
      (all_back IsWidth (type_widths func.answer ++ flat_map (λ (arg : Arg). type_widths arg.ty) func.args) (flat_map line_widths (instructions_of func.blocks)) typed_function.widths)

  source_well : All (IsWellFormed content func) (instructions_of func.blocks)
  source_well = all_from_at (IsWellFormed content func) (instructions_of func.blocks) (λ place inst at. record {
    line = all_at IsLine (instructions_of func.blocks) place inst typed_function.lines at;
    typed = all_at (IsTyped (scope_of content func)) (instructions_of func.blocks) place inst typed_lines.lines at;
    local = all_at (NamesOfFunction func) (instructions_of func.blocks) place inst no_fault.local at;
    global = all_at (NamesOfModule content) (instructions_of func.blocks) place inst no_fault.global at;
    leaves = all_at LeavesEntry (instructions_of func.blocks) place inst no_fault.entry at;
    unordered = all_at (λ inst. orders_pointers inst.op inst.ty ≡ false) (instructions_of func.blocks) place inst no_fault.pointers at;
    widths = all_at (λ inst. All IsWidth (line_widths inst)) (instructions_of func.blocks) place inst line_widths_here at;
    few = all_at (λ inst. length inst.bundle ≤ 64) (instructions_of func.blocks) place inst typed_function.bundles at;
  })

  well : All (IsWellFormed after made) (instructions_of made.blocks)
  well = all_based_well content source number func found source_well

  all_lines : (P : Instruction → Type 0) → ((inst : Instruction) → IsWellFormed after made inst → P inst) → All P (instructions_of made.blocks)
  all_lines P each = all_from_at P (instructions_of made.blocks) (λ place inst at. each inst (all_at (IsWellFormed after made) (instructions_of made.blocks) place inst well at))

  values_few : length (definitions_of func) ≤ 4096
  values_few =
      let count = definition_count func in
      let named = length-filter has_result (instructions_of func.blocks) in
      let fewer = count_by-le-length has_result (instructions_of func.blocks) in
      let limit = typed_function.small in
      omega (arith, count, named, fewer, limit)

  placed_few : length (definitions_of (placed func)) ≤ 4096
  placed_few = let same = ap length (definitions_placed func) in let few = values_few in omega (arith, same, few)

  names_list : map definition_name (definitions_of made)
      ≡ spread (by_line (is_merged (derived_marks (placed func)))) (by_line (is_negated (derived_marks (placed func)))) 0 0 (definitions_of (placed func))
  names_list = names_now (renamings content) (placed func) (all_ready content source number func found)

  all_names : (P : List ℕ → Type 0) → ((n : ℕ) → n < 2 ^ 64 → P (base_name n)) → ((n : ℕ) → n < 2 ^ 64 → P (same_name n)) → All (λ given. P (definition_name given)) (definitions_of func)
      → All (λ given. P (definition_name given)) (definitions_of made)
  all_names P bases sames all =
      let few = placed_few in
      let spread_all = all_spread P bases sames (by_line (is_merged (derived_marks (placed func)))) (by_line (is_negated (derived_marks (placed func)))) 0 0 (definitions_of (placed func)) (omega arith) (omega arith)
      (subst (λ (defs : List Definition). All (λ given. P (definition_name given)) defs) (sym (definitions_placed func)) all) in
      let names_all : All P (map definition_name (definitions_of made)) = subst (All P) (sym names_list) spread_all in
      all_from_at (λ (given : Definition). P (definition_name given)) (definitions_of made) (λ k given at.
      all_at P (map definition_name (definitions_of made)) k (definition_name given) names_all (get_map definition_name (definitions_of made) k given at))

  pub room : HasRoomForGroups made
  room = record {
    values =
        (let long = length-map (definitions_of made) definition_name in
        let same = ap length names_list in
        let short = spread_short (by_line (is_merged (derived_marks (placed func)))) (by_line (is_negated (derived_marks (placed func)))) 0 0 (definitions_of (placed func)) in
        let few = placed_few in
        omega (arith, long, same, short, few));
    lines =
        (let short = based_lines func in
        let limit = typed_function.small in
        omega (arith, short, limit));
    names = all_names (λ name. IsGroupName name → ⊥) (λ n few. base_free n) (λ n few. same_free n)
        (all_from_at (λ (given : Definition). IsGroupName (definition_name given) → ⊥) (definitions_of func) (λ k given at. given_free given (all_at IsFree (definitions_of func) k given is_source.values at)));
  }

  no_points : All NoPoint (instructions_of made.blocks)
  no_points = all_from_at NoPoint (instructions_of made.blocks) (λ place inst at. (all_at (IsPlainLine after) (instructions_of made.blocks) place inst shape.lines at).no_statepoint)

  no_token : (v : ℕ) → slice_get (value_types made) v ≡ Some Token → ⊥
  no_token = no_tokens made (all_lines IsLine (λ inst is. is.line)) no_points typed_lines.args

  groups_made : GroupsInShape made
  groups_made place inst at =
      let plain = all_at (IsPlainLine after) (instructions_of made.blocks) place inst shape.lines at in
      shape_plain made place inst inst.op plain.no_statepoint plain.no_member (
        all_from_at (λ value. slice_get (value_types made) value ≡ Some Token → ⊥) (values_used inst) (λ k v used bad. no_token v bad),
        subst (All (λ entry. Fits (value_types made) entry Ptr)) (sym (no_live_entries inst.op inst.operands plain.no_statepoint)) (All-nil (λ entry. Fits (value_types made) entry Ptr)),
      )

  made_no_fault : FunctionHasNoFault after made
  made_no_fault = record {
    local = all_lines (NamesOfFunction made) (λ inst is. is.local);
    global = all_lines (NamesOfModule after) (λ inst is. is.global);
    entry = all_lines LeavesEntry (λ inst is. is.leaves);
    phis = phis_are_right func no_fault.phis typed_function.lines (graph_now func) shape.phis;
    pointers = all_lines (λ inst. orders_pointers inst.op inst.ty ≡ false) (λ inst is. is.unordered);
    form = groups_made;
  }

  made_typed : FunctionIsTyped (scope_of after made) made
  made_typed = record { answer = typed_lines.answer; args = typed_lines.args; lines = all_lines (IsTyped (scope_of after made)) (λ inst is. is.typed) }

  label_names : All (λ (block : BasicBlock). IsName block.name) made.blocks
  label_names = all_from_at (λ (block : BasicBlock). IsName block.name) made.blocks (λ b block at.
      let name_at = ap (λ (all : List (List ℕ)). slice_get all b) (sym (labels_same func)) ∙ get_map (λ (x : BasicBlock). x.name) made.blocks b block at in
      let own = map_back (λ (x : BasicBlock). x.name) func.blocks b block.name name_at in
      subst IsName (sym own.is) (all_at (λ (each : BasicBlock). IsName each.name) func.blocks b own.before (typed_function.names).labels own.stands))

  made_labels : Distinct (map (λ (block : BasicBlock). block.name) made.blocks)
  made_labels = subst Distinct (sym (labels_same func)) (all_at (λ (each : Function). Distinct (map (λ (block : BasicBlock). block.name) each.blocks)) content.funcs number func (((source.typed).no_fault).names).labels found)

  made_values : Distinct (map definition_name (definitions_of made))
  made_values =
      let same = sym (definitions_placed func) in
      let few = placed_few in
      distinct_now (renamings content) (placed func) (all_ready content source number func found)
      (subst (λ (all : List Definition). Distinct (map definition_name all)) same
      (all_at (λ (each : Function). Distinct (map definition_name (definitions_of each))) content.funcs number func (((source.typed).no_fault).names).values found))
      (subst (λ (all : List Definition). All IsFree all) same is_source.values) (omega arith)

  made_function : IsTypedFunction Rewritten made
  made_function = record {
    has_block =
        (let based = blocks_long (placed func) (derived_marks (placed func)) (length func.args) (placed func).blocks in
        let polls = length-placed_from 0 func.blocks in
        let some = typed_function.has_block in
        omega (arith, based, polls, some));
    ends = shape.ends;
    lines = all_lines IsLine (λ inst is. is.line);
    names = record { own = (typed_function.names).own; values = all_names IsName base_named same_named (typed_function.names).values; labels = label_names };
    widths =
        All-append IsWidth (type_widths func.answer ++ flat_map (λ (arg : Arg). type_widths arg.ty) func.args) (flat_map line_widths (instructions_of made.blocks))
        (all_front IsWidth (type_widths func.answer ++ flat_map (λ (arg : Arg). type_widths arg.ty) func.args) (flat_map line_widths (instructions_of func.blocks)) typed_function.widths)
        (flat_all IsWidth line_widths (instructions_of made.blocks) (all_lines (λ inst. All IsWidth (line_widths inst)) (λ inst is. is.widths)));
    bundles = all_lines (λ inst. length inst.bundle ≤ 64) (λ inst is. is.few);
    small = record {
      statepoints = λ place inst at point. absurd (true≢false (sym point ∙ all_at NoPoint (instructions_of made.blocks) place inst no_points at));
      ids = all_from_at (λ inst. IdIsWord inst.op) (instructions_of made.blocks) (λ place inst at. id_plain inst.op (all_at NoPoint (instructions_of made.blocks) place inst no_points at));
      few_instructions = (let lines = room.lines in omega (arith, lines));
    };
  }

-- ---- the module

module _ (content : ModuleContent) (source : IsSourceModule content) where
  abbrev now_module : ModuleContent
  now_module = based_module content

  abbrev made_of : Function → Function
  made_of func = based (placed func)

  each_made : (P : Function → Type 0) → ((number : ℕ) (func : Function) → slice_get content.funcs number ≡ Some func → P (made_of func)) → All P now_module.funcs
  each_made P holds = all_from_at P now_module.funcs (λ number now at.
      let from = map_back made_of content.funcs number now at in
      subst P (sym from.is) (holds number from.before from.stands))

  same_head : (P : Function → Type 0) → ((func : Function) → P func → P (made_of func)) → (funcs : List Function) → All P funcs → All P (map made_of funcs)
  same_head P each [] all = All-nil P
  same_head P each (func ∷ funcs) all = All-cons P (made_of func) (map made_of funcs) (each func (All-head P func funcs all)) (same_head P each funcs (All-tail P func funcs all))

  names_same : (funcs : List Function) → map (λ (func : Function). func.name) (map made_of funcs) ≡ map (λ (func : Function). func.name) funcs
  names_same [] = refl
  names_same (func ∷ funcs) = ap (λ names. func.name ∷ names) (names_same funcs)

  split_made : (earlier : List Function) (main : Function) (later : List Function) → map made_of (earlier ++ main ∷ later) ≡ map made_of earlier ++ made_of main ∷ map made_of later
  split_made [] main later = refl
  split_made (func ∷ earlier) main later = ap (λ rest. made_of func ∷ rest) (split_made earlier main later)

  lines_short : (funcs : List Function)
      → length (flat_map (λ (func : Function). instructions_of func.blocks) (map made_of funcs)) ≤ 4 * length (flat_map (λ (func : Function). instructions_of func.blocks) funcs) + 2 * length funcs
  lines_short [] = omega arith
  lines_short (func ∷ funcs) =
      let here = based_lines func in
      let rest = lines_short funcs in
      let long = length-append (instructions_of (made_of func).blocks) (flat_map (λ (f : Function). instructions_of f.blocks) (map made_of funcs)) in
      let before = length-append (instructions_of func.blocks) (flat_map (λ (f : Function). instructions_of f.blocks) funcs) in
      omega (arith, here, rest, long, before)

  pub lines_few : length (flat_map (λ (func : Function). instructions_of func.blocks) now_module.funcs) < 2 ^ 26
  lines_few =
      let short = lines_short content.funcs in
      let small = (source.typed).small in
      let funcs = ((source.typed).limits).functions in
      omega (arith, short, small, funcs)

  points_few : (funcs : List Function) → length (filter (λ (inst : Instruction). is_statepoint inst.op) (flat_map (λ (func : Function). instructions_of func.blocks) funcs))
      ≤ length (flat_map (λ (func : Function). instructions_of func.blocks) funcs)
  points_few funcs =
      let count = length-filter (λ (inst : Instruction). is_statepoint inst.op) (flat_map (λ (func : Function). instructions_of func.blocks) funcs) in
      let fewer = count_by-le-length (λ (inst : Instruction). is_statepoint inst.op) (flat_map (λ (func : Function). instructions_of func.blocks) funcs) in
      omega (arith, count, fewer)

  pub all_room : All HasRoomForGroups now_module.funcs
  all_room = each_made HasRoomForGroups (λ number func found. room content source number func found)

  has_main : HasMain now_module
  has_main =
      let main = ((source.typed).no_fault).main in
      record {
        earlier = map made_of main.earlier;
        main = made_of main.main;
        later = map made_of main.later;
        whole = ap (map made_of) main.whole ∙ split_made main.earlier main.main main.later;
        first = same_head (λ func. func.name ≡ codes "main" → ⊥) (λ func other. other) main.earlier main.first;
        name = main.name;
        args = main.args;
        answer = main.answer;
      }

  pub based_typed : IsTypedModule Rewritten now_module
  based_typed = record {
    of_form = refl;
    no_fault = record {
      names = record {
        layouts = (((source.typed).no_fault).names).layouts;
        functions = subst Distinct (sym (names_same content.funcs)) (((source.typed).no_fault).names).functions;
        labels = each_made (λ func. Distinct (map (λ block. block.name) func.blocks)) (λ number func found. made_labels content source number func found);
        values = each_made (λ func. Distinct (map definition_name (definitions_of func))) (λ number func found. made_values content source number func found);
      };
      typed = each_made (λ func. FunctionIsTyped (scope_of now_module func) func) (λ number func found. made_typed content source number func found);
      functions = each_made (FunctionHasNoFault now_module) (λ number func found. made_no_fault content source number func found);
      main = has_main;
      fields = ((source.typed).no_fault).fields;
      free = same_head (λ func. IsExternalName func.name → ⊥) (λ func free. free) content.funcs ((source.typed).no_fault).free;
    };
    functions = each_made (IsTypedFunction Rewritten) (λ number func found. made_function content source number func found);
    layout_names = (source.typed).layout_names;
    limits =
        let limits = (source.typed).limits in
        let same = length-map content.funcs made_of in
        record {
          layouts = limits.layouts;
          functions = (let few = limits.functions in omega (arith, same, few));
          layout_names = limits.layout_names;
          function_names = same_head (λ func. length func.name ≤ 4096) (λ func short. short) content.funcs limits.function_names;
          fields = limits.fields;
          arguments = same_head (λ func. length func.args ≤ 64) (λ func few. few) content.funcs limits.arguments;
        };
    small = let points = points_few now_module.funcs in let lines = lines_few in omega (arith, points, lines);
  }
