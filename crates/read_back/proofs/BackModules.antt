-- The lines that a module is printed as stand for that module.
use Rattle.std.proofs.Common.{◌≡◌, ◌∙◌, ℕ, zero, suc, ◌+◌, ◌^◌, ◌<◌, ◌≤◌, true, false, List, [], ◌∷◌, ◌++◌, map, length, get_or, refl, ap, subst, arith, length-append}
use Rattle.std.specs.Prelude.{Some, IfSome, slice_get, flat_map, is_some, filter}
use Rattle.std.specs.List.{All, AllByRecursion, AllZip, Contains}
use Rattle.std.proofs.lemmas.List.{length-map}
use Rattle.std.proofs.lemmas.List.Sums.{length-filter, count_by-le-length}
use Rattle.std.proofs.lemmas.List.Elements.{All-from_recursion, recursion_from_All, All-contains, All-contains_itself, All-weaker}
use Rattle.ir_ast.specs.declared.types.Ty.{Ty}
use Rattle.ir_ast.specs.declared.funcs.Arg.{Arg}
use Rattle.ir_ast.specs.declared.modules.Form.{Form}
use Rattle.ir_ast.specs.declared.modules.Form.TheVariants.{Source, Rewritten}
use Rattle.ir_ast.specs.declared.ops.Operand.{Operand}
use Rattle.ir_ast.specs.declared.ops.Op.{Op}
use Rattle.ir_ast.specs.declared.ops.Op.TheVariants as ops
use Rattle.ir_ast.specs.declared.ops.Elem.TheVariants as elements
use Rattle.ir_ast.specs.Insts.{Instruction}
use Rattle.ir_ast.specs.Blocks.{BasicBlock, EndsAtTerminator}
use Rattle.ir_ast.specs.Layouts.{ObjectLayout}
use Rattle.ir_ast.specs.Funcs.{Function, instructions_of}
use Rattle.ir_ast.specs.Modules.{ModuleContent}
use Rattle.ir_ast.specs.Values.{argument, outcome, definition_name, value_types}
use Rattle.ir_ast.specs.Values as defs
use Rattle.ir_ast.specs.Types.{is_first_class}
use Rattle.ir_ast.specs.Widths.{IsWidth, type_widths, operator_widths, line_widths, widths_of}
use Rattle.ir_ast.specs.Operands.{layouts_named, functions_named}
use Rattle.ir_ast.specs.Faultless.{HasNoFault, FunctionHasNoFault, OfForm}
use Rattle.ir_cfg.specs.Limits.{IsWithinLimits}
use Rattle.ir_cfg.specs.Statepoints.{IdIsWord}
use Rattle.ir_cfg.specs.TypedModules.{FunctionIsSmall, IsTypedModule}
use Rattle.ir_ast.specs.Faults.TypeClash.{Fits, IsTyped, FunctionIsTyped, RuleOf}
use Rattle.ir_ast.specs.Faults.Reserved.{IsExternalName, IsSource}
use Rattle.ir_ast.specs.Faults.UnknownName.{NamesOfFunction, NamesOfModule}
use Rattle.ir_ast.specs.Lines.{IsLine, is_rewritten}
use Rattle.ir_ast.specs.Lists.{Distinct}
use Rattle.ir_ast.specs.Scope.{scope_of}
use Rattle.ir_printer.specs.Names.{Names}
use Rattle.line_parts.specs.Lists.{Named}
use Rattle.ir_lines.specs.Statements.{Line}
use Rattle.ir_lines.specs.Sections.{Definition, definitions_of, arguments_named, blocks_of}
use Rattle.ir_lines.specs.Modules.{Known, known_of, type_of, argument_of, block_of, function_of, module_of}
use Rattle.read_back.specs.Said.{said_by}
use Rattle.read_back.proofs.BackNames.{Setting}
use Rattle.read_back.proofs.BackLines.{said}
use Rattle.read_back.proofs.BackLists.{NamesAreFree, answer-type}
use Rattle.read_back.proofs.BackInsts.{IsPrinted, IsPrintedIn, split_all}
use Rattle.read_back.proofs.BackBlocks.{blocks-are, blocks-back, block-names, arguments-back, value-names}
use Rattle.read_back.proofs.BackSections.{SaysDefinition, definitions-are, layouts-back, layout-names}

-- ---- the instructions of a function

abbrev pub names_in : ModuleContent → Function → Names
names_in content func = record { layouts = content.layouts; funcs = content.funcs; func = func }

split_flat : {X Y : Type 0} (f : X → List Y) (P : Y → Type 0) (xs : List X) → AllByRecursion P (flat_map f xs) → AllByRecursion (λ x. AllByRecursion P (f x)) xs
split_flat f P [] h = tt
split_flat f P (x ∷ xs) h = let parts = split_all P (f x) (flat_map f xs) h in (parts.0, split_flat f P xs parts.1)

pub form_of : (form : Form) (func : Function) → form ≡ Source → OfForm form func → IsSource func
form_of form func e h = (subst (λ (f : Form). OfForm f func) e h).0

-- a place that a line names is below the few fields of its layout
small_place : (content : ModuleContent) (func : Function) (inst : Instruction) → AllByRecursion (λ (l : ObjectLayout). length l.fields ≤ 64) content.layouts
    → IsTyped (scope_of content func) inst → (layout width n : ℕ) → inst.op ≡ ops.Gep (elements.Layout layout) width (Some n)
    → AllByRecursion (λ l. l < length content.layouts) (layouts_named inst) → n < 2 ^ 32
small_place content func inst few typed layout width n e named =
    let rule : IfSome (slice_get (map (λ (l : ObjectLayout). length l.fields) content.layouts) layout) (λ count. n < count) =
    subst (λ (o : Op). RuleOf (scope_of content func) o inst) e typed.rule in
    let below : layout < length content.layouts =
    (subst (λ (o : Op). AllByRecursion (λ (l : ℕ). l < length content.layouts) (layouts_named (record inst { op = o }))) e named).0 in
    at content.layouts layout few below rule
  where
    at : (ls : List ObjectLayout) (k : ℕ) → AllByRecursion (λ (l : ObjectLayout). length l.fields ≤ 64) ls → k < length ls
        → IfSome (slice_get (map (λ (l : ObjectLayout). length l.fields) ls) k) (λ count. n < count) → n < 2 ^ 32
    at [] k few below rule = absurd (omega arith)
    at (l ∷ ls) zero few below rule = let f = few.0 in omega arith
    at (l ∷ ls) (suc k) few below rule = at ls k few.1 (omega arith) rule

-- what typed modules of both forms have
pub record IsShaped (content : ModuleContent) : Type 0 where
  pub no_fault : HasNoFault content
  pub ends : All (λ (func : Function). All (λ (block : BasicBlock). EndsAtTerminator block.insts) func.blocks) content.funcs
  pub lines : All (λ (func : Function). All IsLine (instructions_of func.blocks)) content.funcs
  pub widths : All (λ (func : Function). All IsWidth (widths_of func)) content.funcs
  pub limits : IsWithinLimits content
  pub few : All (λ (func : Function). length (instructions_of func.blocks) < 2 ^ 30) content.funcs
  pub ids : All (λ (func : Function). All (λ (inst : Instruction). IdIsWord inst.op) (instructions_of func.blocks)) content.funcs

-- no line of a source module is a statepoint
no_id : (op : Op) → is_rewritten op ≡ false → IdIsWord op
no_id (ops.Statepoint id callee takes) plain = absurd (let bad : true ≡ false = plain in cc)
no_id _ plain = tt

few_insts : (form : Form) (func : Function) → FunctionIsSmall form func → length (instructions_of func.blocks) < 2 ^ 30
few_insts Source func small = omega (arith, small)
few_insts Rewritten func small = small.few_instructions

own_ids : (form : Form) (func : Function) → OfForm form func → FunctionIsSmall form func → All (λ (inst : Instruction). IdIsWord inst.op) (instructions_of func.blocks)
own_ids Source func own small =
    All-weaker (λ (i : Instruction). is_rewritten i.op ≡ false) (λ (i : Instruction). IdIsWord i.op) (λ (i : Instruction) plain. no_id i.op plain) (instructions_of func.blocks) own.0.lines
own_ids Rewritten func own small = small.ids

pub shaped_of : (form : Form) (content : ModuleContent) → IsTypedModule form content → IsShaped content
shaped_of form content typed = record {
  no_fault = typed.no_fault;
  ends = λ k d low. (typed.functions k d low).ends;
  lines = λ k d low. (typed.functions k d low).lines;
  widths = λ k d low. (typed.functions k d low).widths;
  limits = typed.limits;
  few = λ k d low. few_insts form (get_or content.funcs k d) (typed.functions k d low).small;
  ids = λ k d low. own_ids form (get_or content.funcs k d) (subst (λ (f : Form). OfForm f (get_or content.funcs k d)) typed.of_form (typed.no_fault.functions k d low).form) (typed.functions k d low).small;
}

pub printed_in : (of : Form) (content : ModuleContent) → IsShaped content → (func : Function) → Contains content.funcs func
    → (of ≡ Source → All (λ (inst : Instruction). is_rewritten inst.op ≡ false) (instructions_of func.blocks))
    → (inst : Instruction) → Contains (instructions_of func.blocks) inst → IsPrintedIn of (names_in content func) inst.op inst
printed_in of content shaped func c plain inst d = one
  where
    insts : List Instruction
    insts = instructions_of func.blocks

    clean : FunctionHasNoFault content func
    clean = All-contains (FunctionHasNoFault content) content.funcs func shaped.no_fault.functions c

    typed : FunctionIsTyped (scope_of content func) func
    typed = All-contains (λ f. FunctionIsTyped (scope_of content f) f) content.funcs func shaped.no_fault.typed c

    widths : AllByRecursion (λ inst. AllByRecursion IsWidth (line_widths inst)) insts
    widths = split_flat line_widths IsWidth insts
        (split_all IsWidth (type_widths func.answer ++ flat_map (λ (arg : Arg). type_widths arg.ty) func.args) (flat_map line_widths insts)
        (recursion_from_All IsWidth (widths_of func) (All-contains (λ (f : Function). All IsWidth (widths_of f)) content.funcs func shaped.widths c))).1

    one : IsPrintedIn of (names_in content func) inst.op inst
    one =
        let local = All-contains (NamesOfFunction func) insts inst clean.local d in
        let global = All-contains (NamesOfModule content) insts inst clean.global d in
        let fit = All-contains (IsTyped (scope_of content func)) insts inst typed.lines d in
        let wide = All-contains (λ (i : Instruction). AllByRecursion IsWidth (line_widths i)) insts inst
        (All-from_recursion (λ (i : Instruction). AllByRecursion IsWidth (line_widths i)) insts widths) d in
        let two = split_all IsWidth (operator_widths inst.op ++ type_widths inst.ty) (flat_map (λ entry. type_widths entry.0) inst.bundle) wide in
        let parts = split_all IsWidth (operator_widths inst.op) (type_widths inst.ty) two.0 in
        let named = recursion_from_All (λ (l : ℕ). l < length content.layouts) (layouts_named inst) global.layouts in
        record {
          is = refl;
          line = All-contains IsLine insts inst (All-contains (λ (f : Function). All IsLine (instructions_of f.blocks)) content.funcs func shaped.lines c) d;
          plain = λ is. All-contains (λ (i : Instruction). is_rewritten i.op ≡ false) insts inst (plain is) d;
          fits = fit.operands;
          widths = All-from_recursion IsWidth (type_widths inst.ty) parts.1;
          own_widths = All-from_recursion IsWidth (operator_widths inst.op) parts.0;
          labels = recursion_from_All (λ label. label.0 < length func.blocks) inst.labels local.blocks;
          layouts = named;
          functions = recursion_from_All (λ (n : ℕ). n < length content.funcs) (functions_named inst) global.functions;
          place = λ layout width n e. small_place content func inst (recursion_from_All (λ (l : ObjectLayout). length l.fields ≤ 64) content.layouts shaped.limits.fields)
              fit layout width n e named;
          bundle = recursion_from_All (λ (entry : Ty × Operand). Fits (value_types func) entry.1 entry.0) inst.bundle fit.bundle;
          bundle_widths = two.1;
          id = All-contains (λ (i : Instruction). IdIsWord i.op) insts inst
              (All-contains (λ (f : Function). All (λ (i : Instruction). IdIsWord i.op) (instructions_of f.blocks)) content.funcs func shaped.ids c) d;
        }

printed_inst : (content : ModuleContent) → IsTypedModule Source content → (func : Function) → Contains content.funcs func
    → (inst : Instruction) → Contains (instructions_of func.blocks) inst → IsPrinted (names_in content func) inst.op inst
printed_inst content source func c inst d =
    let clean : FunctionHasNoFault content func = All-contains (FunctionHasNoFault content) content.funcs func source.no_fault.functions c in
    printed_in Source content (shaped_of Source content source) func c (λ is. (form_of content.form func source.of_form clean.form).lines) inst d

pub shaped_inst : (content : ModuleContent) → IsShaped content → (func : Function) → Contains content.funcs func
    → (inst : Instruction) → Contains (instructions_of func.blocks) inst → IsPrintedIn content.form (names_in content func) inst.op inst
shaped_inst content shaped func c inst d =
    let clean : FunctionHasNoFault content func = All-contains (FunctionHasNoFault content) content.funcs func shaped.no_fault.functions c in
    printed_in content.form content shaped func c (λ is. (form_of content.form func is clean.form).lines) inst d

each_printed : (of : Form) (names : Names) (func : Function)
    → ((inst : Instruction) → Contains (instructions_of func.blocks) inst → IsPrintedIn of names inst.op inst)
    → AllByRecursion (λ block. AllByRecursion (λ inst. IsPrintedIn of names inst.op inst) block.insts) func.blocks
each_printed of names func each =
    let insts = instructions_of func.blocks in
    split_flat (λ (block : BasicBlock). block.insts) (λ inst. IsPrintedIn of names inst.op inst) func.blocks
    (recursion_from_All (λ (inst : Instruction). IsPrintedIn of names inst.op inst) insts
    (All-weaker (Contains insts) (λ (inst : Instruction). IsPrintedIn of names inst.op inst) each insts (All-contains_itself insts)))

pub shaped_insts : (content : ModuleContent) → IsShaped content → (func : Function) → Contains content.funcs func
    → AllByRecursion (λ block. AllByRecursion (λ inst. IsPrintedIn content.form (names_in content func) inst.op inst) block.insts) func.blocks
shaped_insts content shaped func c = each_printed content.form (names_in content func) func (shaped_inst content shaped func c)

pub printed : (content : ModuleContent) → IsTypedModule Source content → (func : Function) → Contains content.funcs func
    → AllByRecursion (λ block. AllByRecursion (λ inst. IsPrinted (names_in content func) inst.op inst) block.insts) func.blocks
printed content source func c = each_printed Source (names_in content func) func (printed_inst content source func c)

-- ---- what the typer knows of it

results_few : (func : Function) → length (defs.definitions_of func) ≤ length func.args + length (instructions_of func.blocks)
results_few func =
    let insts = instructions_of func.blocks in
    let count = count_by-le-length (λ (inst : Instruction). is_some inst.result) insts in
    omega (
      arith,
      length-append (map argument func.args) (map outcome (filter (λ (inst : Instruction). is_some inst.result) insts)),
      length-map func.args argument,
      length-map (filter (λ (inst : Instruction). is_some inst.result) insts) outcome,
      length-filter (λ (inst : Instruction). is_some inst.result) insts,
    )

pub setting : (content : ModuleContent) → IsShaped content → (lines : List Line) → said lines ≡ said_by content
    → (one : Definition) (func : Function) → SaysDefinition content.layouts content.funcs one func → Contains content.funcs func
    → length func.blocks < 2 ^ 32
    → map (λ d. d.name) (definitions_of lines) ≡ map (λ f. f.name) content.funcs
    → Setting (names_in content func) (known_of lines one)
setting content shaped lines e one func says c few names =
    let insts = All-contains (λ (f : Function). length (instructions_of f.blocks) < 2 ^ 30) content.funcs func shaped.few c in
    let args = All-contains (λ (f : Function). length f.args ≤ 64) content.funcs func shaped.limits.arguments c in
    let results = results_few func in
    let layouts = shaped.limits.layouts in
    let functions = shaped.limits.functions in
    record {
      values = value-names content.form (names_in content func) one func says.arguments says.body (shaped_insts content shaped func c);
      blocks = block-names (names_in content func) (blocks_of one) func.blocks (blocks-are (names_in content func) one func.blocks says.body);
      functions = names;
      layouts = layout-names content lines e;
      values_once = All-contains (λ (f : Function). Distinct (map definition_name (defs.definitions_of f))) content.funcs func shaped.no_fault.names.values c;
      blocks_once = All-contains (λ (f : Function). Distinct (map (λ (b : BasicBlock). b.name) f.blocks)) content.funcs func shaped.no_fault.names.labels c;
      functions_once = shaped.no_fault.names.functions;
      layouts_once = shaped.no_fault.names.layouts;
      few_values = omega arith;
      few_blocks = few;
      few_functions = omega arith;
      few_layouts = omega arith;
    }

function-names : (layouts : List ObjectLayout) (funcs : List Function) (ones : List Definition) (fs : List Function) → AllZip (SaysDefinition layouts funcs) ones fs
    → map (λ d. d.name) ones ≡ map (λ f. f.name) fs
function-names layouts funcs [] [] h = refl
function-names layouts funcs [] (f ∷ fs) h = absurd h
function-names layouts funcs (d ∷ ds) [] h = absurd h
function-names layouts funcs (d ∷ ds) (f ∷ fs) h =
    ap (λ (n : List ℕ). n ∷ map (λ (one : Definition). one.name) ds) h.0.name ∙ ap (λ (ns : List (List ℕ)). f.name ∷ ns) (function-names layouts funcs ds fs h.1)

-- ---- the module

function-back : (content : ModuleContent) → IsShaped content → (known : Known) (one : Definition) (func : Function)
    → SaysDefinition content.layouts content.funcs one func → Contains content.funcs func → Setting (names_in content func) known
    → function_of known one ≡ func
function-back content shaped known one func says c s =
    let typed = All-contains (λ f. FunctionIsTyped (scope_of content f) f) content.funcs func shaped.no_fault.typed c in
    let free : NamesAreFree (names_in content func) = recursion_from_All (λ (f : Function). ¬ (IsExternalName f.name)) content.funcs shaped.no_fault.free in
    let args = map argument_of (arguments_named one.line [] one.arguments) in
    let blocks = map (block_of known) (blocks_of one) in
    ap (λ (n : List ℕ). record { name = n; answer = type_of one.answer; args = args; blocks = blocks }) says.name
    ∙ ap (λ (t : Ty). record { name = func.name; answer = t; args = args; blocks = blocks }) (ap type_of says.answer ∙ answer-type func.answer typed.answer)
    ∙ ap (λ (xs : List Arg). record { name = func.name; answer = func.answer; args = xs; blocks = blocks })
    (ap (λ (xs : List Named). map argument_of (arguments_named one.line [] xs)) says.arguments
    ∙ arguments-back one.line [] func.args (recursion_from_All (λ (arg : Arg). is_first_class arg.ty ≡ true) func.args typed.args))
    ∙ ap (λ (bs : List BasicBlock). record { name = func.name; answer = func.answer; args = func.args; blocks = bs })
    (blocks-back content.form (names_in content func) known s free (blocks_of one) func.blocks (blocks-are (names_in content func) one func.blocks says.body) (shaped_insts content shaped func c))

made_back : (content : ModuleContent) (F : Definition → Function)
    → ((one : Definition) (func : Function) → SaysDefinition content.layouts content.funcs one func → Contains content.funcs func → F one ≡ func)
    → (ones : List Definition) (fs : List Function) → AllZip (SaysDefinition content.layouts content.funcs) ones fs → AllByRecursion (Contains content.funcs) fs
    → map F ones ≡ fs
made_back content F each [] [] h c = refl
made_back content F each [] (f ∷ fs) h c = absurd h
made_back content F each (d ∷ ds) [] h c = absurd h
made_back content F each (d ∷ ds) (f ∷ fs) h c =
    ap (λ (x : Function). x ∷ map F ds) (each d f h.0 c.0) ∙ ap (λ (xs : List Function). f ∷ xs) (made_back content F each ds fs h.1 c.1)

blocks_few : (blocks : List BasicBlock) → AllByRecursion (λ block. EndsAtTerminator block.insts) blocks → length blocks ≤ length (instructions_of blocks)
blocks_few [] ends = omega arith
blocks_few (b ∷ bs) ends =
    let more = blocks_few bs ends.1 in
    let one : 1 ≤ length b.insts = (let l = ap length ends.0.whole ∙ length-append ends.0.before (ends.0.last ∷ []) in omega arith) in
    omega (arith, length-append b.insts (instructions_of bs))

few_in : (content : ModuleContent) → IsShaped content → (func : Function) → Contains content.funcs func → length func.blocks < 2 ^ 32
few_in content shaped func c =
    let insts = All-contains (λ (f : Function). length (instructions_of f.blocks) < 2 ^ 30) content.funcs func shaped.few c in
    let end = All-contains (λ (f : Function). All (λ (block : BasicBlock). EndsAtTerminator block.insts) f.blocks) content.funcs func shaped.ends c in
    let few = blocks_few func.blocks (recursion_from_All (λ (block : BasicBlock). EndsAtTerminator block.insts) func.blocks end) in
    omega arith

-- for a module of either form
pub module-back : (content : ModuleContent) → IsShaped content → (lines : List Line) → said lines ≡ said_by content
    → (module_of content.form lines).content ≡ content
module-back content shaped lines e =
    let zip = definitions-are content lines e in
    let names = function-names content.layouts content.funcs (definitions_of lines) content.funcs zip in
    let funcs : map (λ (d : Definition). function_of (known_of lines d) d) (definitions_of lines) ≡ content.funcs =
    made_back content (λ d. function_of (known_of lines d) d)
    (λ one func says c. function-back content shaped (known_of lines one) one func says c
    (setting content shaped lines e one func says c (few_in content shaped func c) names))
    (definitions_of lines) content.funcs zip (recursion_from_All (Contains content.funcs) content.funcs (All-contains_itself content.funcs)) in
    ap (λ (ls : List ObjectLayout). record { layouts = ls; funcs = map (λ (d : Definition). function_of (known_of lines d) d) (definitions_of lines); form = content.form }) (layouts-back content lines e)
    ∙ ap (λ (fs : List Function). record { layouts = content.layouts; funcs = fs; form = content.form }) funcs
