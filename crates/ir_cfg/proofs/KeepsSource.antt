-- A source module without its unreached blocks is a source module.
use Rattle.std.proofs.Common.{◌≡◌, ℕ, zero, suc, ◌<◌, ◌≤◌, Bool, false, List, [], ◌∷◌, ◌++◌, length, map, refl, ap, sym, arith, codes, Some, slice_get, ◌⊎◌, ◌∙◌, subst}
use Rattle.std.specs.List.{All, AllZip, flat_map}
use Rattle.std.proofs.lemmas.List.{length-append, length-map}
use Rattle.std.proofs.lemmas.List.Elements.{All-map, All-weaker, length_all_zip}
use Rattle.std.proofs.lemmas.Option.{none-some, same_Some, slice_get-map, slice_get_within}
use Rattle.list_laws.proofs.Contents.{all_at, all_from_at}
use Rattle.list_laws.proofs.Zips.{zip_map}
use Rattle.ir_ast.specs.declared.modules.Form.{Form}
use Rattle.ir_ast.specs.declared.modules.Form.TheVariants.{Source}
use Rattle.ir_ast.specs.declared.types.Ty.{Ty}
use Rattle.ir_ast.specs.declared.types.Ty.TheVariants.{Int}
use Rattle.ir_ast.specs.declared.ops.Operand.{Operand}
use Rattle.ir_ast.specs.declared.ops.Callee.{Callee}
use Rattle.ir_ast.specs.declared.ops.Callee.TheVariants.{Fun}
use Rattle.ir_ast.specs.Lists.{Distinct}
use Rattle.ir_ast.specs.Insts.{Instruction}
use Rattle.ir_ast.specs.Blocks.{BasicBlock, EndsAtTerminator}
use Rattle.ir_ast.specs.Layouts.{ObjectLayout}
use Rattle.ir_ast.specs.Funcs.{Function, instructions_of}
use Rattle.ir_ast.specs.Modules.{ModuleContent}
use Rattle.ir_ast.specs.Operands.{layouts_named, functions_named}
use Rattle.ir_ast.specs.Lines.{IsLine, is_rewritten}
use Rattle.ir_ast.specs.Values.{definitions_of, definition_name}
use Rattle.ir_ast.specs.Scope.{Signature, signature_of, called_in, scope_of}
use Rattle.ir_ast.specs.Faultless.{OfForm, FunctionHasNoFault, HasNoFault}
use Rattle.ir_ast.specs.Faults.UnknownName.{NamesOfModule}
use Rattle.ir_ast.specs.Faults.TypeClash.{FunctionIsTyped, ModuleIsTyped}
use Rattle.ir_ast.specs.Faults.PointerOrder.{orders_pointers}
use Rattle.ir_ast.specs.Faults.Reserved.{IsSource, IsInsertedName, IsExternalName}
use Rattle.ir_ast.specs.Faults.NoMain.{HasMain}
use Rattle.ir_cfg.specs.Graphs.{graph_of}
use Rattle.ir_cfg.specs.Limits.{IsName, IsWithinLimits}
use Rattle.ir_cfg.specs.Marks.{MarksReached}
use Rattle.ir_cfg.specs.SourceModules.{IsSourceModule}
use Rattle.ir_cfg.specs.Unreached.{kept_by, operand_kept, block_kept, function_kept, DropsUnreached, ModuleDropsUnreached, Kept, kept_of, inst_kept}
use Rattle.ir_cfg.proofs.KeptLemmas.{few_instructions, ends_kept}
use Rattle.ir_cfg.proofs.KeepsPlaces.{marks_before, kept_all}
use Rattle.ir_cfg.specs.DefiniteUses.{UsesAreDefinite}
use Rattle.ir_cfg.specs.TypedModules.{IsTypedFunction}
use Rattle.ir_cfg.proofs.KeepsLines.{IsKept, all_lines, block_forth, inst_left, inst_new, line_at, two_steps}
use Rattle.ir_cfg.proofs.KeepsValues.{new_types}
use Rattle.ir_cfg.proofs.KeepsPaths.{entry_marked, marked_block, marks_whole}
use Rattle.ir_cfg.proofs.KeepsUses.{Lasts, lasts, uses_kept}
use Rattle.ir_cfg.proofs.KeepsForms.{line_left, line_new, widths_kept}
use Rattle.ir_cfg.proofs.KeepsEntry.{entry_kept}
use Rattle.ir_cfg.proofs.KeepsPhis.{phi_some, phis_kept}
use Rattle.ir_cfg.proofs.KeepsTypes.{SeesKept, typed_kept}
use Rattle.ir_cfg.proofs.KeepsNames.{blocks_distinct, blocks_named, global_kept, local_kept, values_distinct, values_named}
use Rattle.ir_cfg.proofs.KeepsDerived.{derived_kept}

-- a function of a source module, and marks that are its reached blocks
record Sourced (content : ModuleContent) (marks : List Bool) (func : Function) : Type 0 where
  pub form : content.form ≡ Source
  pub reached : MarksReached (graph_of func) marks
  pub typed : IsTypedFunction Source func
  pub definite : UsesAreDefinite func
  pub faultless : FunctionHasNoFault content func

lasts_of : (content : ModuleContent) (marks : List Bool) (func : Function) → Sourced content marks func
    → (inst : Instruction) → IsKept marks func inst → Lasts marks func inst
lasts_of content marks func is inst kept = lasts marks func inst is.reached is.typed.lines is.definite kept

left_line : (content : ModuleContent) (marks : List Bool) (func : Function) → Sourced content marks func
    → (inst : Instruction) → IsKept marks func inst → IsLine (inst_left (kept_by marks func) inst)
left_line content marks func is inst kept =
    let line = line_at IsLine func kept.number kept.place inst kept.stands is.typed.lines in
    line_left (kept_by marks func) inst (λ phi.
    phi_some marks func kept.number kept.place inst is.reached is.faultless.entry is.faultless.phis kept.marked kept.stands line phi) line

new_line : (content : ModuleContent) (marks : List Bool) (func : Function) → Sourced content marks func
    → (inst : Instruction) → IsKept marks func inst → IsLine (inst_new (kept_by marks func) (inst_left (kept_by marks func) inst))
new_line content marks func is inst kept =
    line_new (kept_by marks func) inst.op (inst_left (kept_by marks func) inst) (left_line content marks func is inst kept)

bundle_kept : (kept : Kept) (inst : Instruction) → length inst.bundle ≤ 64 → length (inst_kept kept inst).bundle ≤ 64
bundle_kept kept inst few =
    let new : (Ty × Operand) → (Ty × Operand) = λ entry. (entry.0, operand_kept kept entry.1) in
    let count = length-map inst.bundle new in
    omega (arith, few, count)

abbrev EndsBlock : BasicBlock → Type 0
EndsBlock block = EndsAtTerminator block.insts

source_kept : (content : ModuleContent) (marks : List Bool) (func : Function) → Sourced content marks func
    → IsTypedFunction Source (function_kept marks func)
source_kept content marks func is =
    let typed = is.typed in
    let kept = kept_by marks func in
    let whole = marks_whole marks func is.reached in
    let block = marked_block marks func 0 is.reached (entry_marked marks func is.reached) in
    let first = block_forth marks func 0 block.0 (entry_marked marks func is.reached) block.1 in
    let within = slice_get_within (function_kept marks func).blocks (marks_before marks 0) (block_kept (kept_by marks func) block.0) first in
    let few = few_instructions (kept_by marks func) marks func.blocks in
    record {
      has_block = omega arith;
      ends = All-map EndsBlock (block_kept kept) (kept_of marks func.blocks)
          (All-weaker EndsBlock (λ block. EndsAtTerminator (map (inst_kept kept) block.insts)) (λ block own. ends_kept kept block.insts own)
          (kept_of marks func.blocks) (kept_all EndsBlock marks func.blocks typed.ends));
      lines = all_lines IsLine marks func (λ inst kept.
          subst IsLine (sym (two_steps (kept_by marks func) inst)) (new_line content marks func is inst kept));
      names = record {
        own = typed.names.own;
        values = values_named IsName marks func whole typed.names.values;
        labels = blocks_named IsName marks func typed.names.labels;
      };
      widths = widths_kept marks func typed.widths;
      bundles = all_lines (λ inst. length inst.bundle ≤ 64) marks func (λ inst stands.
          bundle_kept kept inst (line_at (λ (i : Instruction). length i.bundle ≤ 64) func stands.number stands.place inst stands.stands typed.bundles));
      small = omega (arith, few, typed.small);
    }

is_source_kept : (marks : List Bool) (func : Function) → MarksReached (graph_of func) marks → IsSource func → IsSource (function_kept marks func)
is_source_kept marks func reached source = record {
  values = values_named (λ (name : List ℕ). IsInsertedName name → ⊥) marks func (marks_whole marks func reached) source.values;
  labels = blocks_named (λ (name : List ℕ). IsInsertedName name → ⊥) marks func source.labels;
  lines = all_lines (λ inst. is_rewritten inst.op ≡ false) marks func (λ inst kept.
      line_at (λ (i : Instruction). is_rewritten i.op ≡ false) func kept.number kept.place inst kept.stands source.lines);
}

form_kept : (content : ModuleContent) (marks : List Bool) (func : Function) → Sourced content marks func → OfForm Source (function_kept marks func)
form_kept content marks func is =
    let old : OfForm Source func = subst (λ (form : Form). OfForm form func) is.form is.faultless.form in (
      is_source_kept marks func is.reached old.0,
      derived_kept marks func (marks_whole marks func is.reached) (lasts_of content marks func is) old.1,
    )

known_after : (content after : ModuleContent) (inst : Instruction) → length content.layouts ≡ length after.layouts
    → length content.funcs ≡ length after.funcs → NamesOfModule content inst → NamesOfModule after inst
known_after content after inst layouts funcs known = record {
  layouts = subst (λ (n : ℕ). All (λ (layout : ℕ). layout < n) (layouts_named inst)) layouts known.layouts;
  functions = subst (λ (n : ℕ). All (λ (named : ℕ). named < n) (functions_named inst)) funcs known.functions;
}

fault_kept : (content after : ModuleContent) (marks : List Bool) (func : Function) → Sourced content marks func → after.form ≡ content.form
    → length content.layouts ≡ length after.layouts → length content.funcs ≡ length after.funcs
    → FunctionHasNoFault after (function_kept marks func)
fault_kept content after marks func is form layouts funcs = record {
  local = local_kept marks func is.reached (lasts_of content marks func is);
  global = All-weaker (NamesOfModule content) (NamesOfModule after) (λ inst known. known_after content after inst layouts funcs known)
      (instructions_of (function_kept marks func).blocks) (global_kept content marks func is.faultless.global);
  entry = entry_kept marks func is.reached is.faultless.entry (lasts_of content marks func is);
  phis = phis_kept marks func is.reached is.faultless.phis (new_line content marks func is);
  pointers = all_lines (λ inst. orders_pointers inst.op inst.ty ≡ false) marks func (λ inst kept.
      line_at (λ (i : Instruction). orders_pointers i.op i.ty ≡ false) func kept.number kept.place inst kept.stands is.faultless.pointers);
  form = subst (λ (form : Form). OfForm form (function_kept marks func)) (sym (form ∙ is.form)) (form_kept content marks func is);
}

zip_back : {A B : Type 0} (R : A → B → Type 0) (xs : List A) (ys : List B) → AllZip R xs ys → (k : ℕ) (y : B) → slice_get ys k ≡ Some y
    → (x : A) × (slice_get xs k ≡ Some x) × R x y
zip_back R [] [] zip k y at = absurd (none-some y at)
zip_back R [] (first ∷ ys) zip k y at = absurd zip
zip_back R (x ∷ xs) [] zip k y at = absurd zip
zip_back R (x ∷ xs) (first ∷ ys) zip zero y at = (x, refl, subst (R x) (same_Some first y at) zip.0)
zip_back R (x ∷ xs) (first ∷ ys) zip (suc k) y at = zip_back R xs ys zip.1 k y at

-- what holds of each function of the new module
all_after : (P : Function → Type 0) (funcs after : List Function) → AllZip DropsUnreached funcs after
    → ((k : ℕ) (func : Function) (marks : List Bool) → slice_get funcs k ≡ Some func → MarksReached (graph_of func) marks → P (function_kept marks func))
    → All P after
all_after P funcs after zip each = all_from_at P after (λ k func at.
    let old = zip_back DropsUnreached funcs after zip k func at in
    subst P (sym old.2.rest) (each k old.0 old.2.marks old.1 old.2.reached))

sourced : (content : ModuleContent) (k : ℕ) (func : Function) (marks : List Bool) → IsSourceModule content
    → slice_get content.funcs k ≡ Some func → MarksReached (graph_of func) marks → Sourced content marks func
sourced content k func marks source at reached = record {
  form = source.typed.of_form;
  reached = reached;
  typed = all_at (IsTypedFunction Source) content.funcs k func source.typed.functions at;
  definite = all_at UsesAreDefinite content.funcs k func source.definite at;
  faultless = all_at (FunctionHasNoFault content) content.funcs k func source.typed.no_fault.functions at;
}

same_signatures : (content after : ModuleContent) → ModuleDropsUnreached content after → map signature_of after.funcs ≡ map signature_of content.funcs
same_signatures content after drops =
    zip_map DropsUnreached signature_of (λ func new drop. ap signature_of drop.rest) content.funcs after.funcs drops.functions

pub same_called : (funcs after : List Function) (callee : Callee) → map signature_of after ≡ map signature_of funcs
    → called_in after callee ≡ called_in funcs callee
same_called funcs after (Fun func) same =
    sym (slice_get-map signature_of after func.0) ∙ ap (λ (ss : List Signature). slice_get ss func.0) same ∙ slice_get-map signature_of funcs func.0
same_called funcs after callee same = refl

sees_kept : (content after : ModuleContent) (marks : List Bool) (func : Function) → ModuleDropsUnreached content after
    → MarksReached (graph_of func) marks → SeesKept marks func (scope_of content func) (scope_of after (function_kept marks func))
sees_kept content after marks func drops reached = record {
  values = new_types marks func (marks_whole marks func reached);
  answer = refl;
  called = λ callee. same_called content.funcs after.funcs callee (same_signatures content after drops);
  fields = ap (map (λ (layout : ObjectLayout). length layout.fields)) drops.layouts;
}

typed_after : (content after : ModuleContent) → IsSourceModule content → ModuleDropsUnreached content after → ModuleIsTyped after
typed_after content after source drops =
    all_after (λ (func : Function). FunctionIsTyped (scope_of after func) func) content.funcs after.funcs drops.functions (λ k func marks at reached.
    let is = sourced content k func marks source at reached in
    typed_kept marks func (scope_of content func) (scope_of after (function_kept marks func)) (sees_kept content after marks func drops reached)
    (lasts_of content marks func is) (left_line content marks func is)
    (all_at (λ (f : Function). FunctionIsTyped (scope_of content f) f) content.funcs k func source.typed.no_fault.typed at))

-- the first `@main` and the functions round it
record MainOrigin (front : List Function) (main : Function) (funcs : List Function) : Type 0 where
  pub earlier : List Function
  pub new : Function
  pub later : List Function
  pub whole : funcs ≡ earlier ++ new ∷ later
  pub before : AllZip DropsUnreached front earlier
  pub drops : DropsUnreached main new

main_after : (front : List Function) (main : Function) (back funcs : List Function) → AllZip DropsUnreached (front ++ main ∷ back) funcs
    → MainOrigin front main funcs
main_after [] main back [] zip = absurd zip
main_after [] main back (func ∷ funcs) zip = record { earlier = []; new = func; later = funcs; whole = refl; before = tt; drops = zip.0 }
main_after (first ∷ front) main back [] zip = absurd zip
main_after (first ∷ front) main back (func ∷ funcs) zip =
    let rest = main_after front main back funcs zip.1 in
    record {
      earlier = func ∷ rest.earlier;
      new = rest.new;
      later = rest.later;
      whole = ap (λ (fs : List Function). func ∷ fs) rest.whole;
      before = (zip.0, rest.before);
      drops = rest.drops;
    }

abbrev AnswersNumber : Function → Type 0
AnswersNumber func = (func.answer ≡ Int 32) ⊎ (func.answer ≡ Int 64)

has_main_after : (content after : ModuleContent) → HasMain content → ModuleDropsUnreached content after → HasMain after
has_main_after content after has drops =
    let zip : AllZip DropsUnreached (has.earlier ++ has.main ∷ has.later) after.funcs =
    subst (λ (fs : List Function). AllZip DropsUnreached fs after.funcs) has.whole drops.functions in
    let found = main_after has.earlier has.main has.later after.funcs zip in
    record {
      earlier = found.earlier;
      main = found.new;
      later = found.later;
      whole = found.whole;
      first = all_after (λ (func : Function). func.name ≡ codes "main" → ⊥) has.earlier found.earlier found.before (λ k func marks at reached.
          all_at (λ (f : Function). f.name ≡ codes "main" → ⊥) has.earlier k func has.first at);
      name = ap (λ (f : Function). f.name) found.drops.rest ∙ has.name;
      args = ap (λ (f : Function). f.args) found.drops.rest ∙ has.args;
      answer = subst AnswersNumber (sym found.drops.rest) has.answer;
    }

faultless_after : (content after : ModuleContent) → IsSourceModule content → ModuleDropsUnreached content after → HasNoFault after
faultless_after content after source drops =
    let layouts : length content.layouts ≡ length after.layouts = sym (ap length drops.layouts) in
    let funcs = length_all_zip DropsUnreached content.funcs after.funcs drops.functions in
    record {
      names = record {
        layouts = subst (λ (ls : List ObjectLayout). Distinct (map (λ layout. layout.name) ls)) (sym drops.layouts) source.typed.no_fault.names.layouts;
        functions = subst Distinct (sym (zip_map DropsUnreached (λ (func : Function). func.name) (λ func new drop. ap (λ (f : Function). f.name) drop.rest) content.funcs after.funcs drops.functions)) source.typed.no_fault.names.functions;
        labels = all_after (λ (func : Function). Distinct (map (λ block. block.name) func.blocks)) content.funcs after.funcs drops.functions (λ k func marks at reached.
            blocks_distinct marks func (all_at (λ (f : Function). Distinct (map (λ block. block.name) f.blocks)) content.funcs k func source.typed.no_fault.names.labels at));
        values = all_after (λ (func : Function). Distinct (map definition_name (definitions_of func))) content.funcs after.funcs drops.functions (λ k func marks at reached.
            values_distinct marks func (marks_whole marks func reached) (all_at (λ (f : Function). Distinct (map definition_name (definitions_of f))) content.funcs k func source.typed.no_fault.names.values at));
      };
      typed = typed_after content after source drops;
      functions = all_after (FunctionHasNoFault after) content.funcs after.funcs drops.functions (λ k func marks at reached.
          fault_kept content after marks func (sourced content k func marks source at reached) drops.form layouts funcs);
      main = has_main_after content after source.typed.no_fault.main drops;
      fields = subst (λ (ls : List ObjectLayout). All (λ layout. 0 < length layout.fields) ls) (sym drops.layouts) source.typed.no_fault.fields;
      free = all_after (λ (func : Function). IsExternalName func.name → ⊥) content.funcs after.funcs drops.functions (λ k func marks at reached.
          all_at (λ (f : Function). IsExternalName f.name → ⊥) content.funcs k func source.typed.no_fault.free at);
    }

fewer_after : (funcs after : List Function) → AllZip DropsUnreached funcs after
    → length (flat_map (λ func. instructions_of func.blocks) after) ≤ length (flat_map (λ func. instructions_of func.blocks) funcs)
fewer_after [] [] zip = omega arith
fewer_after [] (func ∷ after) zip = absurd zip
fewer_after (func ∷ funcs) [] zip = absurd zip
fewer_after (func ∷ funcs) (new ∷ after) zip =
    let rest = fewer_after funcs after zip.1 in
    let same = ap (λ (f : Function). length (instructions_of f.blocks)) zip.0.rest in
    let few = few_instructions (kept_by zip.0.marks func) zip.0.marks func.blocks in
    let one = length-append (instructions_of new.blocks) (flat_map (λ (f : Function). instructions_of f.blocks) after) in
    let two = length-append (instructions_of func.blocks) (flat_map (λ (f : Function). instructions_of f.blocks) funcs) in
    omega (arith, rest, same, few, one, two)

limits_after : (content after : ModuleContent) → IsWithinLimits content → ModuleDropsUnreached content after → IsWithinLimits after
limits_after content after limits drops =
    let funcs = length_all_zip DropsUnreached content.funcs after.funcs drops.functions in
    record {
      layouts = subst (λ (ls : List ObjectLayout). length ls ≤ 4096) (sym drops.layouts) limits.layouts;
      functions = subst (λ (n : ℕ). n ≤ 4096) funcs limits.functions;
      layout_names = subst (λ (ls : List ObjectLayout). All (λ layout. length layout.name ≤ 4096) ls) (sym drops.layouts) limits.layout_names;
      function_names = all_after (λ (func : Function). length func.name ≤ 4096) content.funcs after.funcs drops.functions (λ k func marks at reached.
          all_at (λ (f : Function). length f.name ≤ 4096) content.funcs k func limits.function_names at);
      fields = subst (λ (ls : List ObjectLayout). All (λ layout. length layout.fields ≤ 64) ls) (sym drops.layouts) limits.fields;
      arguments = all_after (λ (func : Function). length func.args ≤ 64) content.funcs after.funcs drops.functions (λ k func marks at reached.
          all_at (λ (f : Function). length f.args ≤ 64) content.funcs k func limits.arguments at);
    }

pub source_after : (content after : ModuleContent) → IsSourceModule content → ModuleDropsUnreached content after → IsSourceModule after
source_after content after source drops =
    let typed = source.typed in
    let fewer = fewer_after content.funcs after.funcs drops.functions in
    record {
      typed = record {
        of_form = drops.form ∙ typed.of_form;
        no_fault = faultless_after content after source drops;
        functions = all_after (IsTypedFunction Source) content.funcs after.funcs drops.functions (λ k func marks at reached.
            source_kept content marks func (sourced content k func marks source at reached));
        layout_names = subst (λ (ls : List ObjectLayout). All (λ layout. IsName layout.name) ls) (sym drops.layouts) typed.layout_names;
        limits = limits_after content after typed.limits drops;
        small = omega (arith, fewer, typed.small);
      };
      definite = all_after UsesAreDefinite content.funcs after.funcs drops.functions (λ k func marks at reached.
          uses_kept marks func reached (all_at UsesAreDefinite content.funcs k func source.definite at));
    }
