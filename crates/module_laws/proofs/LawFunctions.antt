-- The function of a definition of a text without a fault.
use Rattle.std.proofs.Common.{◌≡◌, ℕ, ◌<◌, ◌≤◌, ◌+◌, Bool, true, false, if◌then◌else◌, List, [], ◌∷◌, ◌++◌, map, length, drop, refl, ap, sym, subst, arith, length-append}
use Rattle.std.specs.Prelude.{Option, Some, None, IfSome, is_none, filter_map, flat_map, decimal, unwrap_or, slice_get}
use Rattle.std.specs.List.{All, AllByRecursion, AllZip, list_any, list_all}
use Rattle.std.proofs.lemmas.List.{length-map}
use Rattle.std.proofs.lemmas.List.Elements.{All-nil, All-cons, All-append, All-same, All-map, All-weaker, All-contains, All-from_recursion, recursion_from_All}
use Rattle.std.proofs.lemmas.List.Sums.{count_by-le-length}
use Rattle.std.proofs.lemmas.Option.{slice_get_within}
use Rattle.std.proofs.lemmas.Bool.{agree_below_at, and_from}
use Rattle.list_laws.proofs.Contents.{get_contained, all_contained}
use Rattle.list_laws.proofs.Places.{get_map}
use Rattle.ir_ast.specs.declared.types.Ty.{Ty}
use Rattle.ir_ast.specs.declared.funcs.Arg.{Arg}
use Rattle.ir_ast.specs.declared.ops.Op.TheVariants as ops
use Rattle.ir_ast.specs.declared.ops.Operand.{Operand}
use Rattle.ir_ast.specs.declared.ops.Operand.TheVariants as operands
use Rattle.ir_ast.specs.Insts.{Instruction}
use Rattle.ir_ast.specs.Blocks.{BasicBlock}
use Rattle.ir_ast.specs.Funcs.{instructions_of}
use Rattle.ir_ast.specs.Values as defs
use Rattle.ir_ast.specs.Types.{is_first_class}
use Rattle.ir_ast.specs.Lines.{IsLine, is_rewritten}
use Rattle.ir_ast.specs.Operands.{is_value, value_in, values_used}
use Rattle.ir_ast.specs.Widths.{IsWidth, type_widths, line_widths, widths_of}
use Rattle.ir_ast.specs.Lists.{Distinct}
use Rattle.ir_ast.specs.Faults.TypeClash.{Fits, IsTyped, FunctionIsTyped, asked}
use Rattle.ir_ast.specs.Faults.UnknownName.{NamesOfFunction, NamesOfModule, LocalNamesAreKnown, GlobalNamesAreKnown}
use Rattle.ir_ast.specs.Faults.Reserved.{IsInsertedName, IsSource}
use Rattle.ir_ast.specs.declared.modules.Form.{Form}
use Rattle.ir_ast.specs.declared.modules.Form.TheVariants.{Source}
use Rattle.ir_cfg.specs.Limits.{IsName, HasNames}
use Rattle.std.specs.Fmt.{digits}
use Rattle.sp_text.specs.Tokens.{is_name}
use Rattle.line_parts.specs.Types.{TypeWord}
use Rattle.line_parts.specs.Types.{Int, Managed}
use Rattle.line_parts.specs.Lists.{Named}
use Rattle.ir_lines.specs.Statements.{Line, Statement, label, binary, compare, convert, select, phi, scalar_step, layout_step, load, store, call, jump, branch, switch, ret_void, ret, unreachable, cast, statepoint, gc_result, gc_relocate}
use Rattle.ir_lines.specs.Parts.{gives, token_type}
use Rattle.ir_lines.specs.Sections.{Definition, definitions_of, Naming, BlockLines, arguments_named, result_named, values_of, blocks_of, labelled_blocks, first_block, block_at, label_said, is_label, until_label, count_numbered, is_numbered}
use Rattle.ir_lines.specs.Scope.{scope_of, block_named}
use Rattle.ir_lines.specs.Modules.{known_of, type_of, operand_of, label_of, argument_of, block_of, function_of, instruction_said}
use Rattle.ir_lines.specs.Faults.Reserved.{names_value, names_label}
use Rattle.ir_resolve.specs.Resolved.{resolved}
use Rattle.ir_resolve.specs.TextFaults.{reserved}
use Rattle.ir_resolve.specs.ModuleFaults.{IsTypedBesidesCalls}
use Rattle.ir_resolve.specs.FaultSet.{of_text}
use Rattle.ir_resolve.proofs.Unbroken.{IsUnbroken, unbroken_of, unbroken_typed, unbroken_cases}
use Rattle.ir_lines.specs.ReadLines.{SaysRead, IsReadArgument, IsNameIfAny, IsReadCall, instruction_count}
use Rattle.module_laws.proofs.LawBodies.{body_insts, func_insts}
use Rattle.module_laws.proofs.LawFacts.{or-left, or-right}
use Rattle.module_laws.proofs.LawValues.{few_insts}
use Rattle.ir_lines.specs.Faults.PointerCast.{is_cast}
use Rattle.module_laws.proofs.LawLines.{InLaw, LineFacts, line_facts, all_lines, made, read_function, said_function, is_value_in, names-are}
use Rattle.module_laws.proofs.LawTyped.{GoodInst, inst_typed, content, scope_made, two_values, one_value, type_width, answer_width, answers, good_binary, good_compare, good_convert, good_select, good_scalar, good_load, good_store, good_ret_void, good_ret, good_unreachable, is_first}
use Rattle.module_laws.proofs.LawGroups.{good_statepoint, good_gc_result, good_gc_relocate}
use Rattle.module_laws.proofs.LawInsts.{IsGoodLabel, label_below, good_phi, good_call_line, good_jump, good_branch, good_switch_line, good_layout_line}

-- ---- the instruction of a line

label_of_use : (form : Form) (lines : List Line) (func : Definition) → InLaw form lines func → (name : List ℕ) (more : List (List ℕ))
    → list_any (λ n. is_none (block_named (scope_of lines func) n)) (name ∷ more) ≡ false → IsGoodLabel lines func (label_of (known_of lines func) name)
label_of_use form lines func law name more e =
    label_below form lines func law name
    (or-left (is_none (block_named (scope_of lines func) name)) (list_any (λ n. is_none (block_named (scope_of lines func) n)) more) e)

good_said : (form : Form) (lines : List Line) (func : Definition) → InLaw form lines func → (s : Statement) (after : List Line)
    → LineFacts form (scope_of lines func) s → AllByRecursion (λ l. LineFacts form (scope_of lines func) l.says) after
    → IfSome (instruction_said (known_of lines func) after s) (GoodInst form lines func)
good_said form lines func law (binary result op width left right) after facts behind =
    let a = operand_of (known_of lines func) (Int width) left in
    let b = operand_of (known_of lines func) (Int width) right in
    let names = (known_of lines func).values in
    good_binary form lines func result op width a b (two_values a b (is_value_in names (Int width) left) (is_value_in names (Int width) right)) facts.read.1
good_said form lines func law (compare result pred ty left right) after facts behind =
    let a = operand_of (known_of lines func) ty left in
    let b = operand_of (known_of lines func) ty right in
    let names = (known_of lines func).values in
    good_compare form lines func result pred ty a b (two_values a b (is_value_in names ty left) (is_value_in names ty right)) facts.read.1
good_said form lines func law (convert result op width value to) after facts behind =
    let a = operand_of (known_of lines func) (Int width) value in
    good_convert form lines func result op width to a (one_value a (is_value_in (known_of lines func).values (Int width) value)) facts.read.1 facts.read.2
good_said form lines func law (select result condition left_ty left right_ty right) after facts behind =
    let known = known_of lines func in
    let c = operand_of known (Int 1) condition in
    let a = operand_of known left_ty left in
    let b = operand_of known right_ty right in
    good_select form lines func result left_ty c a b
    (and_from (is_value c) (list_all is_value (a ∷ b ∷ [])) (is_value_in known.values (Int 1) condition)
    (two_values a b (is_value_in known.values left_ty left) (is_value_in known.values right_ty right))) facts.read.1
good_said form lines func law (phi result ty entries) after facts behind = good_phi form lines func law result ty entries facts.read.1 facts.read.2 facts.labels
good_said form lines func law (scalar_step result element address width index) after facts behind =
    let known = known_of lines func in
    let a = operand_of known Managed address in
    let b = operand_of known (Int width) index in
    good_scalar form lines func result element width a b (two_values a b (is_value_in known.values Managed address) (is_value_in known.values (Int width) index)) facts.read.2 facts.read.1
good_said form lines func law (layout_step result named address width index place) after facts behind =
    good_layout_line form lines func law result named address width index place facts
good_said form lines func law (load result ty address) after facts behind =
    let a = operand_of (known_of lines func) Managed address in
    good_load form lines func result ty a (one_value a (is_value_in (known_of lines func).values Managed address)) facts.read.1
good_said form lines func law (store ty value address) after facts behind =
    let known = known_of lines func in
    let a = operand_of known ty value in
    let b = operand_of known Managed address in
    good_store form lines func ty a b (two_values a b (is_value_in known.values ty value) (is_value_in known.values Managed address)) facts.read
good_said form lines func law (call result called) after facts behind = good_call_line form lines func law result called facts
good_said form lines func law (jump to) after facts behind =
    good_jump form lines func (label_of (known_of lines func) to) (label_of_use form lines func law to [] facts.labels)
good_said form lines func law (branch condition on_true on_false) after facts behind =
    let known = known_of lines func in
    let a = operand_of known (Int 1) condition in
    let unknown : List ℕ → Bool = λ n. is_none (block_named (scope_of lines func) n) in
    good_branch form lines func a (label_of known on_true) (label_of known on_false) (one_value a (is_value_in known.values (Int 1) condition))
    (label_of_use form lines func law on_true (on_false ∷ []) facts.labels)
    (label_of_use form lines func law on_false [] (or-right (unknown on_true) (list_any unknown (on_false ∷ [])) facts.labels))
good_said form lines func law (switch width value default) after facts behind = good_switch_line form lines func law width value default after facts behind
good_said form lines func law ret_void after facts behind = good_ret_void form lines func
good_said form lines func law (ret ty value) after facts behind =
    let a = operand_of (known_of lines func) ty value in
    good_ret form lines func ty a (one_value a (is_value_in (known_of lines func).values ty value)) facts.read
good_said form lines func law unreachable after facts behind = good_unreachable form lines func
good_said form lines func law (statepoint result called live) after facts behind = good_statepoint form lines func law result called live facts
good_said form lines func law (gc_result result ty token) after facts behind = good_gc_result form lines func law result ty token facts
good_said form lines func law (gc_relocate result token base derived) after facts behind =
    good_gc_relocate form lines func law result token base derived facts
good_said form lines func law (cast result op from value to) after facts behind = absurd (let bad : true ≡ false = facts.no_cast in cc)
good_said form lines func law _ after facts behind = tt

pub if_some : (P : Instruction → Type 0) (o : Option Instruction) → IfSome o P → (inst : Instruction) → o ≡ Some inst → P inst
if_some P o h inst e = subst (λ (x : Option Instruction). IfSome x P) e h

pub behind_of : (P : Line → Type 0) (before : List Line) (l : Line) (after : List Line) → AllByRecursion P (before ++ l ∷ after) → P l × AllByRecursion P after
behind_of P [] l after all = all
behind_of P (x ∷ before) l after all = behind_of P before l after all.1

pub facts_of : (form : Form) (lines : List Line) (func : Definition) → InLaw form lines func → AllByRecursion (λ l. LineFacts form (scope_of lines func) l.says) func.body
facts_of form lines func law =
    recursion_from_All (λ (l : Line). LineFacts form (scope_of lines func) l.says) func.body
    (all_lines (λ (l : Line). LineFacts form (scope_of lines func) l.says) func.body (line_facts form lines func law))

pub good_insts : (form : Form) (lines : List Line) (func : Definition) → InLaw form lines func → All (GoodInst form lines func) (instructions_of (made lines func).blocks)
good_insts form lines func law =
    func_insts (known_of lines func) (GoodInst form lines func) func (λ before l after whole inst is.
    let split = behind_of (λ (one : Line). LineFacts form (scope_of lines func) one.says) before l after
    (subst (AllByRecursion (λ (one : Line). LineFacts form (scope_of lines func) one.says)) whole (facts_of form lines func law)) in
    if_some (GoodInst form lines func) (instruction_said (known_of lines func) after l.says)
    (good_said form lines func law l.says after split.0 split.1) inst is)

-- ---- the function

-- its number in the module, whose rules it keeps
pub record IsKept (form : Form) (lines : List Line) (func : Definition) : Type 0 where
  pub number : ℕ
  pub is_function : slice_get (content form lines).funcs number ≡ Some (made lines func)
  pub unbroken : IsUnbroken (resolved form lines)

pub kept : (form : Form) (lines : List Line) (func : Definition) → InLaw form lines func → IsKept form lines func
kept form lines func law =
    let d = get_contained (definitions_of lines) func law.defined in
    record {
      number = d.0;
      is_function = get_map (λ (one : Definition). function_of (known_of lines one) one) (definitions_of lines) d.0 func d.1;
      unbroken = unbroken_of form lines law.none;
    }

pub each_inst : (form : Form) (lines : List Line) (func : Definition) → InLaw form lines func → (P : Instruction → Type 0) → ((inst : Instruction) → GoodInst form lines func inst → P inst)
    → All P (instructions_of (made lines func).blocks)
each_inst form lines func law P f = All-weaker (GoodInst form lines func) P f (instructions_of (made lines func).blocks) (good_insts form lines func law)

kept_below : (T : List Ty) (bundle : List (Ty × Operand)) → AllByRecursion (λ entry. Fits T entry.1 entry.0) bundle
    → AllByRecursion (λ v. v < length T) (filter_map value_in (map (λ entry. entry.1) bundle))
kept_below T [] fit = tt
kept_below T ((ty, operands.Value value) ∷ bundle) fit = (slice_get_within T value.0 ty fit.0, kept_below T bundle fit.1)
kept_below T ((ty, operands.Int number) ∷ bundle) fit = kept_below T bundle fit.1
kept_below T ((ty, operands.Null) ∷ bundle) fit = kept_below T bundle fit.1
kept_below T ((ty, operands.Fun f) ∷ bundle) fit = kept_below T bundle fit.1

fits_below : (T : List Ty) (bundle : List (Ty × Operand)) → AllByRecursion (λ entry. Fits T entry.1 entry.0) bundle
    → (os : List Operand) (ts : List Ty) → AllZip (Fits T) os ts → AllByRecursion (λ v. v < length T) (filter_map value_in (os ++ map (λ entry. entry.1) bundle))
fits_below T bundle fit [] [] zip = kept_below T bundle fit
fits_below T bundle fit [] (t ∷ ts) zip = kept_below T bundle fit
fits_below T bundle fit (o ∷ os) [] zip = absurd zip
fits_below T bundle fit (operands.Value value ∷ os) (t ∷ ts) zip = (slice_get_within T value.0 t zip.0, fits_below T bundle fit os ts zip.1)
fits_below T bundle fit (operands.Int number ∷ os) (t ∷ ts) zip = fits_below T bundle fit os ts zip.1
fits_below T bundle fit (operands.Null ∷ os) (t ∷ ts) zip = fits_below T bundle fit os ts zip.1
fits_below T bundle fit (operands.Fun f ∷ os) (t ∷ ts) zip = fits_below T bundle fit os ts zip.1

knows_local : (form : Form) (lines : List Line) (func : Definition) (inst : Instruction) → GoodInst form lines func inst
    → IsTypedBesidesCalls (scope_made form lines func) inst → NamesOfFunction (made lines func) inst
knows_local form lines func inst good typed =
    let T = defs.value_types (made lines func) in
    let count : length T ≡ length (defs.definitions_of (made lines func)) = length-map (defs.definitions_of (made lines func)) defs.definition_type in
    let fit = recursion_from_All (λ (entry : Ty × Operand). Fits T entry.1 entry.0) inst.bundle typed.bundle in
    let below = fits_below T inst.bundle fit inst.operands (asked inst.op inst.ty (length inst.operands)) typed.operands in
    record {
      values = subst (λ (n : ℕ). All (λ value. value < n) (values_used inst)) count
          (All-from_recursion (λ (value : ℕ). value < length T) (values_used inst) below);
      blocks = good.labels;
    }

-- what holds of each instruction that is good and keeps the rules
each_kept : (form : Form) (lines : List Line) (func : Definition) → InLaw form lines func → (P : Instruction → Type 0)
    → ((inst : Instruction) → GoodInst form lines func inst → IsTypedBesidesCalls (scope_made form lines func) inst → (inst.op ≡ ops.Switch → Distinct (drop 1 inst.operands)) → P inst)
    → All P (instructions_of (made lines func).blocks)
each_kept form lines func law P f =
    let k = kept form lines func law in
    let insts = instructions_of (made lines func).blocks in
    all_contained P insts (λ inst inside.
    f inst (All-contains (GoodInst form lines func) insts inst (good_insts form lines func law) inside)
    (All-contains (IsTypedBesidesCalls (scope_made form lines func)) insts inst (unbroken_typed (resolved form lines) k.unbroken k.number (made lines func) k.is_function) inside)
    (All-contains (λ (one : Instruction). one.op ≡ ops.Switch → Distinct (drop 1 one.operands)) insts inst
    (unbroken_cases (resolved form lines) k.unbroken k.number (made lines func) k.is_function) inside))

pub local_known : (form : Form) (lines : List Line) (func : Definition) → InLaw form lines func → LocalNamesAreKnown (made lines func)
local_known form lines func law =
    each_kept form lines func law (NamesOfFunction (made lines func)) (λ inst good typed cases. knows_local form lines func inst good typed)

pub global_known : (form : Form) (lines : List Line) (func : Definition) → InLaw form lines func → GlobalNamesAreKnown (content form lines) (made lines func)
global_known form lines func law = each_inst form lines func law (NamesOfModule (content form lines)) (λ inst good. record { layouts = good.layouts; functions = good.functions })

-- ---- arguments

arguments_types : (line : ℕ) (before more : List Named) → AllByRecursion IsReadArgument more
    → AllByRecursion (λ arg. is_first_class arg.ty ≡ true) (map argument_of (arguments_named line before more))
arguments_types line before [] read = tt
arguments_types line before (one ∷ more) read = (is_first one.ty read.0.0, arguments_types line (before ++ one ∷ []) more read.1)

arguments_widths : (line : ℕ) (before more : List Named) → AllByRecursion IsReadArgument more
    → All IsWidth (flat_map (λ (arg : Arg). type_widths arg.ty) (map argument_of (arguments_named line before more)))
arguments_widths line before [] read = All-nil IsWidth
arguments_widths line before (one ∷ more) read =
    All-append IsWidth (type_widths (type_of one.ty)) (flat_map (λ (arg : Arg). type_widths arg.ty) (map argument_of (arguments_named line (before ++ one ∷ []) more)))
    (type_width one.ty read.0.0) (arguments_widths line (before ++ one ∷ []) more read.1)

pub function_typed : (form : Form) (lines : List Line) (func : Definition) → InLaw form lines func → FunctionIsTyped (scope_made form lines func) (made lines func)
function_typed form lines func law =
    let head = (said_function form lines func law).head in
    record {
      answer = answers func.answer;
      args = All-from_recursion (λ (arg : Arg). is_first_class arg.ty ≡ true) (made lines func).args
          (arguments_types func.line [] func.arguments (recursion_from_All IsReadArgument func.arguments head.each));
      lines = each_kept form lines func law (IsTyped (scope_made form lines func)) (inst_typed form lines func);
    }

insts_widths : (insts : List Instruction) → AllByRecursion (λ inst. All IsWidth (line_widths inst)) insts → All IsWidth (flat_map line_widths insts)
insts_widths [] all = All-nil IsWidth
insts_widths (inst ∷ insts) all = All-append IsWidth (line_widths inst) (flat_map line_widths insts) all.0 (insts_widths insts all.1)

pub function_widths : (form : Form) (lines : List Line) (func : Definition) → InLaw form lines func → All IsWidth (widths_of (made lines func))
function_widths form lines func law =
    let head = (said_function form lines func law).head in
    let F = made lines func in
    All-append IsWidth (type_widths F.answer ++ flat_map (λ (arg : Arg). type_widths arg.ty) F.args) (flat_map line_widths (instructions_of F.blocks))
    (All-append IsWidth (type_widths F.answer) (flat_map (λ (arg : Arg). type_widths arg.ty) F.args) (answer_width func.answer head.answered)
    (arguments_widths func.line [] func.arguments (recursion_from_All IsReadArgument func.arguments head.each)))
    (insts_widths (instructions_of F.blocks) (recursion_from_All (λ (inst : Instruction). All IsWidth (line_widths inst)) (instructions_of F.blocks)
    (each_inst form lines func law (λ inst. All IsWidth (line_widths inst)) (λ inst good. good.widths))))

-- ---- names

pub number_name : (n : ℕ) → n ≤ 64 → IsName (decimal n)
unfolding digits
number_name n few = agree_below_at (λ k. is_name (decimal k)) (λ _. true) 65 n refl (omega arith)

argument_name : (name : Option (List ℕ)) (n : ℕ) → n ≤ 64 → IsNameIfAny name → IsName (unwrap_or name (decimal n))
argument_name None n few read = number_name n few
argument_name (Some name) n few read = read

arguments_names : (line : ℕ) (before more : List Named) → length before + length more ≤ 64 → AllByRecursion IsReadArgument more
    → All (λ one. IsName one.name) (arguments_named line before more)
arguments_names line before [] few read = All-nil (λ (one : Naming). IsName one.name)
arguments_names line before (one ∷ more) few read =
    let count : count_numbered before ≤ length before = count_by-le-length (λ (a : Named). is_numbered a.name) before in
    All-cons (λ (one : Naming). IsName one.name) (record { line = line; name = unwrap_or one.name (decimal (count_numbered before)); ty = one.ty })
    (arguments_named line (before ++ one ∷ []) more) (argument_name one.name (count_numbered before) (omega arith) read.0.1)
    (arguments_names line (before ++ one ∷ []) more (omega (arith, length-append before (one ∷ []))) read.1)

call_name : (n : ℕ) (result : Option (List ℕ)) (answer : TypeWord) → IsReadCall result answer
    → All (λ one. IsName one.name) (result_named n (Rattle.ir_lines.specs.Parts.given_by_call result answer))
call_name n None answer read = All-nil (λ (one : Naming). IsName one.name)
call_name n (Some result) answer read = All-cons (λ (one : Naming). IsName one.name) (record { line = n; name = result; ty = answer }) [] read.0 (All-nil (λ (one : Naming). IsName one.name))

one_name : (n : ℕ) (name : List ℕ) (ty : TypeWord) → IsName name → All (λ (one : Naming). IsName one.name) (record { line = n; name = name; ty = ty } ∷ [])
one_name n name ty read = All-cons (λ (one : Naming). IsName one.name) (record { line = n; name = name; ty = ty }) [] read (All-nil (λ (one : Naming). IsName one.name))

result_name : (n : ℕ) (s : Statement) → SaysRead s → is_cast s ≡ false → All (λ one. IsName one.name) (result_named n (gives s))
result_name n (binary result op width left right) read e = one_name n result (Int width) read.0
result_name n (compare result pred ty left right) read e = one_name n result (Int 1) read.0
result_name n (convert result op width value to) read e = one_name n result (Int to) read.0
result_name n (select result condition left_ty left right_ty right) read e = one_name n result left_ty read.0
result_name n (phi result ty entries) read e = one_name n result ty read.0
result_name n (scalar_step result element address width index) read e = one_name n result Managed read.0
result_name n (layout_step result named address width index place) read e = one_name n result Managed read.0
result_name n (load result ty address) read e = one_name n result ty read.0
result_name n (call result made) read e = call_name n result made.answer read.0
result_name n (statepoint result made live) read e = one_name n result token_type read.named
result_name n (gc_result result ty token) read e = one_name n result ty read.0
result_name n (gc_relocate result token base derived) read e = one_name n result Managed read
result_name n (cast result op from value to) read e = absurd (let bad : true ≡ false = e in cc)
result_name n _ read e = All-nil (λ (one : Naming). IsName one.name)

results_names : (form : Form) (lines : List Line) (func : Definition) (ls : List Line) → AllByRecursion (λ l. LineFacts form (scope_of lines func) l.says) ls
    → All (λ one. IsName one.name) (flat_map (λ (l : Line). result_named l.number (gives l.says)) ls)
results_names form lines func [] facts = All-nil (λ (one : Naming). IsName one.name)
results_names form lines func (l ∷ ls) facts =
    All-append (λ (one : Naming). IsName one.name) (result_named l.number (gives l.says)) (flat_map (λ (l : Line). result_named l.number (gives l.says)) ls)
    (result_name l.number l.says facts.0.read facts.0.no_cast) (results_names form lines func ls facts.1)

pub values_names : (form : Form) (lines : List Line) (func : Definition) → InLaw form lines func → All (λ one. IsName one.name) (values_of func)
values_names form lines func law =
    let head = (said_function form lines func law).head in
    All-append (λ (one : Naming). IsName one.name) (arguments_named func.line [] func.arguments) (flat_map (λ (l : Line). result_named l.number (gives l.says)) func.body)
    (arguments_names func.line [] func.arguments (let few = head.few in omega arith) (recursion_from_All IsReadArgument func.arguments head.each))
    (results_names form lines func func.body (facts_of form lines func law))

label_name : (n : ℕ) (s : Statement) (ls : List Line) → SaysRead s → All (λ b. IsName b.name) (labelled_blocks ls)
    → All (λ b. IsName b.name) (block_at n (label_said s) ls ++ labelled_blocks ls)
label_name n (label name) ls read ih =
    All-cons (λ (b : BlockLines). IsName b.name) (record { line = n; name = name; lines = until_label ls }) (labelled_blocks ls) read ih
label_name n _ ls read ih = ih

labels_names : (form : Form) (lines : List Line) (func : Definition) (ls : List Line) → AllByRecursion (λ l. LineFacts form (scope_of lines func) l.says) ls → All (λ b. IsName b.name) (labelled_blocks ls)
labels_names form lines func [] facts = All-nil (λ (b : BlockLines). IsName b.name)
labels_names form lines func (l ∷ ls) facts = label_name l.number l.says ls facts.0.read (labels_names form lines func ls facts.1)

first_name : (func : Definition) (body : List Line) → length func.arguments ≤ 64 → All (λ b. IsName b.name) (first_block func body)
first_name func [] few = All-nil (λ (b : BlockLines). IsName b.name)
first_name func (l ∷ ls) few = by (is_label l.says)
  where
    by : (b : Bool) → All (λ (b : BlockLines). IsName b.name) (if b then [] else record { line = func.line; name = decimal (count_numbered func.arguments); lines = until_label (l ∷ ls) } ∷ [])
    by true = All-nil (λ (b : BlockLines). IsName b.name)
    by false =
        let count : count_numbered func.arguments ≤ length func.arguments = count_by-le-length (λ (a : Named). is_numbered a.name) func.arguments in
        All-cons (λ (b : BlockLines). IsName b.name) (record { line = func.line; name = decimal (count_numbered func.arguments); lines = until_label (l ∷ ls) }) []
        (number_name (count_numbered func.arguments) (omega arith)) (All-nil (λ (b : BlockLines). IsName b.name))

pub blocks_names : (form : Form) (lines : List Line) (func : Definition) → InLaw form lines func → All (λ b. IsName b.name) (blocks_of func)
blocks_names form lines func law =
    let head = (said_function form lines func law).head in
    All-append (λ (b : BlockLines). IsName b.name) (first_block func func.body) (labelled_blocks func.body) (first_name func func.body head.few)
    (labels_names form lines func func.body (facts_of form lines func law))

pub unmapped : {A B : Type 0} (f : A → B) (P : B → Type 0) (xs : List A) → AllByRecursion P (map f xs) → AllByRecursion (λ x. P (f x)) xs
unmapped f P [] all = tt
unmapped f P (x ∷ xs) all = (all.0, unmapped f P xs all.1)

-- what holds of the names of a definition's values holds of the names of its function's
pub values_named : (form : Form) (lines : List Line) (func : Definition) → InLaw form lines func → (P : List ℕ → Type 0) → All (λ one. P one.name) (values_of func)
    → All (λ given. P (defs.definition_name given)) (defs.definitions_of (made lines func))
values_named form lines func law P all =
    All-from_recursion (λ given. P (defs.definition_name given)) (defs.definitions_of (made lines func))
    (unmapped defs.definition_name P (defs.definitions_of (made lines func)) (recursion_from_All P (map defs.definition_name (defs.definitions_of (made lines func)))
    (All-same P (map defs.definition_name (defs.definitions_of (made lines func))) (map (λ (one : Naming). one.name) (values_of func)) (names-are lines func)
    (All-map P (λ (one : Naming). one.name) (values_of func) all))))

pub blocks_named : (lines : List Line) (func : Definition) (P : List ℕ → Type 0) → All (λ one. P one.name) (blocks_of func) → All (λ block. P block.name) (made lines func).blocks
blocks_named lines func P all = All-map (λ (block : BasicBlock). P block.name) (block_of (known_of lines func)) (blocks_of func) all

pub function_source : (lines : List Line) (func : Definition) → InLaw Source lines func → IsSource (made lines func)
function_source lines func law = record {
  values = values_named Source lines func law (λ name. ¬ (IsInsertedName name))
      (all_contained (λ (one : Naming). ¬ (IsInsertedName one.name)) (values_of func) (λ one inside bad.
      law.none one.line 14 (of_text (reserved (names_value refl func one law.defined inside refl bad)))));
  labels = blocks_named lines func (λ name. ¬ (IsInsertedName name))
      (all_contained (λ (one : BlockLines). ¬ (IsInsertedName one.name)) (blocks_of func) (λ one inside bad.
      law.none one.line 14 (of_text (reserved (names_label refl func one law.defined inside refl bad)))));
  lines = each_inst Source lines func law (λ inst. is_rewritten inst.op ≡ false) (λ inst good. good.plain refl);
}

block_there : (n : ℕ) (s : Statement) (ls : List Line) → is_label s ≡ true → 0 < length (labelled_blocks (record { number = n; says = s } ∷ ls))
block_there n (label name) ls e = omega arith
block_there n _ ls e = absurd (let bad : false ≡ true = e in cc)

some_block : (func : Definition) (body : List Line) → 0 < length body → 0 < length (first_block func body ++ labelled_blocks body)
some_block func [] some = absurd (omega arith)
some_block func (l ∷ ls) some = by (is_label l.says) refl
  where
    by : (b : Bool) → is_label l.says ≡ b → 0 < length (first_block func (l ∷ ls) ++ labelled_blocks (l ∷ ls))
    by true e =
        let there = block_there l.number l.says ls e in
        omega (arith, length-append (first_block func (l ∷ ls)) (labelled_blocks (l ∷ ls)), there)
    by false e = subst (λ (b : Bool). 0 < length ((if b then [] else record { line = func.line; name = decimal (count_numbered func.arguments); lines = until_label (l ∷ ls) } ∷ []) ++ labelled_blocks (l ∷ ls)))
        (sym e) (omega arith)

pub has_block : (form : Form) (lines : List Line) (func : Definition) → InLaw form lines func → 0 < length (made lines func).blocks
has_block form lines func law =
    let some = some_block func func.body (read_function form lines func law).has_line in
    omega (arith, some, length-map (blocks_of func) (block_of (known_of lines func)))

pub are_lines : (form : Form) (lines : List Line) (func : Definition) → InLaw form lines func → All IsLine (instructions_of (made lines func).blocks)
are_lines form lines func law = each_inst form lines func law IsLine (λ inst good. good.line)

pub has_names : (form : Form) (lines : List Line) (func : Definition) → InLaw form lines func → HasNames (made lines func)
has_names form lines func law = record {
  own = (said_function form lines func law).head.named;
  values = values_named form lines func law IsName (values_names form lines func law);
  labels = blocks_named lines func IsName (blocks_names form lines func law);
}

-- as many as lines that count
pub few_made : (lines : List Line) (func : Definition) → length (instructions_of (made lines func).blocks) ≤ instruction_count func.body
few_made lines func = omega (arith, ap length (body_insts (known_of lines func) func), few_insts (known_of lines func) func.body)
