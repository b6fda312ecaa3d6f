-- A folded function of a source module is a function of one.
use Rattle.std.proofs.Common.{◌≡◌, ℕ, ◌<◌, ◌≤◌, true, false, List, ◌++◌, length, map, refl, sym, ap, subst, ◌∙◌, arith}
use Rattle.std.specs.Prelude.{Some, slice_get}
use Rattle.std.specs.List.{All, Contains, flat_map}
use Rattle.std.proofs.lemmas.List.{length-map}
use Rattle.std.proofs.lemmas.List.Elements.{All-append, All-map}
use Rattle.list_laws.proofs.Contents.{all_at, all_back, all_from_at, all_front, all_under}
use Rattle.sp_ids.specs.declared.ids.BlockId.{BlockId}
use Rattle.ir_ast.specs.declared.funcs.Arg.{Arg}
use Rattle.ir_ast.specs.declared.modules.Form.{Form}
use Rattle.ir_ast.specs.declared.modules.Form.TheVariants.{Source}
use Rattle.ir_ast.specs.declared.ops.Callee.{Callee}
use Rattle.ir_ast.specs.declared.ops.Operand.{Operand}
use Rattle.ir_ast.specs.declared.types.Ty.{Ty}
use Rattle.ir_ast.specs.Blocks.{BasicBlock}
use Rattle.ir_ast.specs.Funcs.{Function, instructions_of}
use Rattle.ir_ast.specs.Insts.{Instruction}
use Rattle.ir_ast.specs.Lines.{IsLine, is_rewritten}
use Rattle.ir_ast.specs.Lists.{Distinct}
use Rattle.ir_ast.specs.Modules.{ModuleContent}
use Rattle.ir_ast.specs.Operands.{functions_named, layouts_named, operands_of}
use Rattle.ir_ast.specs.Scope.{scope_of}
use Rattle.ir_ast.specs.Values.{definition_name, definitions_of, value_types}
use Rattle.ir_ast.specs.Widths.{IsWidth, line_widths, type_widths, widths_of}
use Rattle.ir_ast.specs.Faultless.{FunctionHasNoFault, OfForm}
use Rattle.ir_ast.specs.Faults.EntryHasPred.{LeavesEntry}
use Rattle.ir_ast.specs.Faults.GroupShape.{number_at}
use Rattle.ir_ast.specs.Faults.PointerOrder.{orders_pointers}
use Rattle.ir_ast.specs.Faults.Reserved.{IsInsertedName, IsSource}
use Rattle.ir_ast.specs.Faults.TypeClash.{FunctionIsTyped, IsTyped}
use Rattle.ir_ast.specs.Faults.UnknownName.{GlobalNamesAreKnown, LocalNamesAreKnown, NamesOfFunction, NamesOfModule}
use Rattle.ir_cfg.specs.DefiniteUses.{UsesAreDefinite}
use Rattle.ir_cfg.specs.Limits.{IsName}
use Rattle.ir_cfg.specs.TypedModules.{IsTypedFunction}
use Rattle.ir_cfg.proofs.KeepsForms.{all_flat, flat_all}
use Rattle.ir_cfg.proofs.KeepsPlaces.{kept_all, kept_distinct}
use Rattle.ir_cfg.proofs.UsedLaws.{values_known}
use Rattle.folded_forms.specs.Folded.{Table, folded, folded_line, folded_operand}
use Rattle.folded_source.proofs.DerivedLaws.{derived_stay}
use Rattle.folded_source.proofs.FormLaws.{Carries, line_under, typed_under}
use Rattle.folded_source.proofs.LineLaws.{folded_fewer, folded_text, line_stays}
use Rattle.folded_source.proofs.PhiLaws.{blocks_end, phis_folded}
use Rattle.folded_source.proofs.PlaceLaws.{block_back, blocks_long, lines_folded}
use Rattle.folded_source.proofs.Settled.{IsSettled}
use Rattle.folded_source.proofs.TypeLaws.{carried, functions_there, widths_there}
use Rattle.folded_source.proofs.UseLaws.{uses_folded}
use Rattle.folded_source.proofs.ValueLaws.{new_names, value_marks}

-- a function of a source module
pub record IsOfSource (content : ModuleContent) (func : Function) : Type 0 where
  pub form : content.form ≡ Source
  pub typed : IsTypedFunction Source func
  pub definite : UsesAreDefinite func
  pub faultless : FunctionHasNoFault content func
  pub lines : FunctionIsTyped (scope_of content func) func

-- the lines of the other module see the same functions and layouts
pub record SeesSame (content after : ModuleContent) : Type 0 where
  pub form : after.form ≡ content.form
  pub layouts : length after.layouts ≡ length content.layouts
  pub functions : length after.funcs ≡ length content.funcs
  pub called : (func new : Function) (callee : Callee) → (scope_of after new).called callee ≡ (scope_of content func).called callee
  pub fields : (func new : Function) → (scope_of after new).fields ≡ (scope_of content func).fields

module _ (content : ModuleContent) (func : Function) (table : Table) (settled : IsSettled func table) (of : IsOfSource content func) where
  source : IsSource func
  source = (subst (λ (form : Form). OfForm form func) of.form (of.faultless).form).0

  -- ---- lines

  module _ (place : ℕ) (inst : Instruction) (at : slice_get (instructions_of func.blocks) place ≡ Some inst) (stay : line_stays table (number_at func place) inst ≡ true) where
    abbrev its : (P : Instruction → Type 0) → All P (instructions_of func.blocks) → P inst
    its P all = all_at P (instructions_of func.blocks) place inst all at

    its_operands : (one : Operand) → Contains (operands_of inst) one → Carries (value_types func) (value_types (folded func table)) one (folded_operand table one)
    its_operands = carried content func table settled (of.lines).args (of.typed).lines place inst at stay (its (IsTyped (scope_of content func)) (of.lines).lines)

    its_line : IsLine (folded_line table inst)
    its_line =
        line_under (value_types func) (value_types (folded func table)) (folded_operand table) inst its_operands
        (its (λ (i : Instruction). is_rewritten i.op ≡ false) source.lines) (its IsLine (of.typed).lines)

    its_types : (after : ModuleContent) → SeesSame content after → IsTyped (scope_of after (folded func table)) (folded_line table inst)
    its_types after sees =
        typed_under (value_types func) (value_types (folded func table)) (folded_operand table) inst its_operands (scope_of content func) (scope_of after (folded func table)) refl refl refl
        (sees.called func (folded func table)) (sees.fields func (folded func table))
        (its (λ (i : Instruction). is_rewritten i.op ≡ false) source.lines) (its IsLine (of.typed).lines) (its (IsTyped (scope_of content func)) (of.lines).lines)

    its_names : NamesOfModule content (folded_line table inst)
    its_names =
        functions_there content table inst (λ one inside. let own = its_operands one inside in (own.plain, own.value)) (its (NamesOfModule content) (of.faultless).global)

  -- ---- names

  values_named : (P : List ℕ → Type 0) → All (λ given. P (definition_name given)) (definitions_of func) → All (λ given. P (definition_name given)) (definitions_of (folded func table))
  values_named P all =
      all_under definition_name P (definitions_of (folded func table))
      (subst (All P) (sym (new_names func table settled.arguments))
      (kept_all P (value_marks table func) (map definition_name (definitions_of func)) (All-map P definition_name (definitions_of func) all)))

  blocks_named : (P : List ℕ → Type 0) → All (λ (block : BasicBlock). P block.name) func.blocks → All (λ (block : BasicBlock). P block.name) (folded func table).blocks
  blocks_named P all = all_from_at (λ (block : BasicBlock). P block.name) (folded func table).blocks (λ number new at.
      let old = block_back func table number new at in
      subst (λ (b : BasicBlock). P b.name) (sym old.is) (all_at (λ (block : BasicBlock). P block.name) func.blocks number old.block all old.at))

  pub values_distinct : Distinct (map definition_name (definitions_of func)) → Distinct (map definition_name (definitions_of (folded func table)))
  values_distinct distinct =
      subst Distinct (sym (new_names func table settled.arguments)) (kept_distinct (value_marks table func) (map definition_name (definitions_of func)) distinct)

  -- ---- the function

  blocks_many : length (folded func table).blocks ≡ length func.blocks
  blocks_many = blocks_long table (length func.args) func.blocks

  pub few_lines : length (instructions_of (folded func table).blocks) ≤ length (instructions_of func.blocks)
  few_lines =
      let same = ap length (folded_text table (length func.args) func.blocks) in
      let few = folded_fewer table (length func.args) (instructions_of func.blocks) in
      omega (arith, same, few)

  widths_folded : All IsWidth (widths_of (folded func table))
  widths_folded =
      let front = type_widths func.answer ++ flat_map (λ (arg : Arg). type_widths arg.ty) func.args in
      let back = flat_map line_widths (instructions_of func.blocks) in
      let old = all_flat IsWidth line_widths (instructions_of func.blocks) (all_back IsWidth front back (of.typed).widths) in
      All-append IsWidth front (flat_map line_widths (instructions_of (folded func table).blocks)) (all_front IsWidth front back (of.typed).widths)
      (flat_all IsWidth line_widths (instructions_of (folded func table).blocks)
      (lines_folded func table (λ inst. All IsWidth (line_widths inst)) (λ place inst at stay.
      subst (All IsWidth) (sym (widths_there table inst)) (its place inst at stay (λ (i : Instruction). All IsWidth (line_widths i)) old))))

  bundle_few : (inst : Instruction) → length inst.bundle ≤ 64 → length (folded_line table inst).bundle ≤ 64
  bundle_few inst few =
      let long = length-map inst.bundle (λ (entry : Ty × Operand). (let e : Ty × Operand = (entry.0, folded_operand table entry.1) in e)) in
      omega (arith, few, long)

  pub function_typed : IsTypedFunction Source (folded func table)
  function_typed =
      let typed = of.typed in
      let some = typed.has_block in
      let many = blocks_many in
      let few = few_lines in
      let small = typed.small in
      record {
        has_block = omega (arith, some, many);
        ends = blocks_end func table typed.lines typed.ends;
        lines = lines_folded func table IsLine its_line;
        names = record {
          own = (typed.names).own;
          values = values_named IsName (typed.names).values;
          labels = blocks_named IsName (typed.names).labels;
        };
        widths = widths_folded;
        bundles = lines_folded func table (λ inst. length inst.bundle ≤ 64) (λ place inst at stay. bundle_few inst (its place inst at stay (λ (i : Instruction). length i.bundle ≤ 64) typed.bundles));
        small = omega (arith, few, small);
      }

  source_folded : OfForm Source (folded func table)
  source_folded = (
    record {
      values = values_named (λ (name : List ℕ). IsInsertedName name → ⊥) source.values;
      labels = blocks_named (λ (name : List ℕ). IsInsertedName name → ⊥) source.labels;
      lines = lines_folded func table (λ inst. is_rewritten inst.op ≡ false) (λ place inst at stay. its place inst at stay (λ (i : Instruction). is_rewritten i.op ≡ false) source.lines);
    },
    derived_stay func table settled (subst (λ (form : Form). OfForm form func) of.form (of.faultless).form).1,
  )

  module _ (after : ModuleContent) (sees : SeesSame content after) where
    local_names : LocalNamesAreKnown (folded func table)
    local_names = lines_folded func table (NamesOfFunction (folded func table)) (λ place inst at stay. record {
      values = values_known after (folded func table) (folded_line table inst) (its_types place inst at stay after sees);
      blocks = subst (λ (n : ℕ). All (λ (label : BlockId). label.0 < n) inst.labels) (sym blocks_many) (its place inst at stay (NamesOfFunction func) (of.faultless).local).blocks;
    })

    global_names : GlobalNamesAreKnown after (folded func table)
    global_names = lines_folded func table (NamesOfModule after) (λ place inst at stay.
        let known = its_names place inst at stay in
        record {
          layouts = subst (λ (n : ℕ). All (λ (layout : ℕ). layout < n) (layouts_named (folded_line table inst))) (sym sees.layouts) known.layouts;
          functions = subst (λ (n : ℕ). All (λ (each : ℕ). each < n) (functions_named (folded_line table inst))) (sym sees.functions) known.functions;
        })

    pub function_faultless : FunctionHasNoFault after (folded func table)
    function_faultless = record {
      local = local_names;
      global = global_names;
      entry = lines_folded func table LeavesEntry (λ place inst at stay. its place inst at stay LeavesEntry (of.faultless).entry);
      phis = phis_folded func table (of.typed).lines (of.faultless).phis;
      pointers = lines_folded func table (λ inst. orders_pointers inst.op inst.ty ≡ false) (λ place inst at stay.
          its place inst at stay (λ (i : Instruction). orders_pointers i.op i.ty ≡ false) (of.faultless).pointers);
      form = subst (λ (form : Form). OfForm form (folded func table)) (sym (sees.form ∙ of.form)) source_folded;
    }

    pub function_types : FunctionIsTyped (scope_of after (folded func table)) (folded func table)
    function_types = record {
      answer = (of.lines).answer;
      args = (of.lines).args;
      lines = lines_folded func table (IsTyped (scope_of after (folded func table))) (λ place inst at stay. its_types place inst at stay after sees);
    }

  pub function_definite : UsesAreDefinite (folded func table)
  function_definite = uses_folded func table settled (of.typed).lines
