-- The instructions of statepoint groups have the parts of their forms, their widths and their names.
use Rattle.std.proofs.Common.{◌≡◌, ◌∙◌, ℕ, ◌<◌, Bool, true, false, ◌&&◌, List, [], ◌∷◌, ◌++◌, map, length, take, drop, refl, ap, sym, subst, arith}
use Rattle.std.specs.Prelude.{Some, None, IfSome}
use Rattle.std.specs.List.{All, AllByRecursion, list_all}
use Rattle.std.proofs.lemmas.List.{length-map}
use Rattle.std.proofs.lemmas.List.Elements.{All-nil, All-from_recursion, recursion_from_All}
use Rattle.std.proofs.Math.Seq.{take-append_seam, drop-append_seam}
use Rattle.sp_ids.specs.declared.ids.BlockId.{BlockId}
use Rattle.ir_ast.specs.declared.modules.Form.{Form}
use Rattle.list_laws.proofs.Places.{get_front}
use Rattle.ir_ast.specs.declared.types.Ty.{Ty}
use Rattle.ir_ast.specs.declared.types.Ty.TheVariants as tys
use Rattle.ir_ast.specs.declared.ops.Op.{Op}
use Rattle.ir_ast.specs.declared.ops.Op.TheVariants as ops
use Rattle.ir_ast.specs.declared.ops.Operand.{Operand}
use Rattle.ir_ast.specs.declared.ops.Operand.TheVariants as operands
use Rattle.ir_ast.specs.declared.ops.Callee.{Callee}
use Rattle.ir_ast.specs.declared.ops.Callee.TheVariants as callees
use Rattle.ir_ast.specs.Insts.{Instruction}
use Rattle.ir_ast.specs.Lines.{Arguments}
use Rattle.ir_ast.specs.Operands.{is_value, functions_named as functions_in}
use Rattle.ir_ast.specs.Widths.{IsWidth}
use Rattle.ir_ast.specs.Scope.{Scope as ModuleScope}
use Rattle.ir_ast.specs.Faults.TypeClash.{TakesOperands}
use Rattle.line_parts.specs.Types.{TypeWord}
use Rattle.line_parts.specs.Types.{Managed}
use Rattle.line_tokens.specs.declared.literals.Literal.{Literal}
use Rattle.line_tokens.specs.declared.words.Binary.{Binary}
use Rattle.line_tokens.specs.declared.words.Binary.TheVariants.{Add, Sub, Mul, Udiv, Sdiv, Urem, Srem, And, Or, Xor, Shl, Lshr, Ashr}
use Rattle.line_tokens.specs.declared.words.Conversion.{Conversion}
use Rattle.line_tokens.specs.declared.words.Conversion.TheVariants.{Trunc, Zext, Sext}
use Rattle.line_parts.specs.Parts.{Val}
use Rattle.line_parts.specs.Lists.{Given}
use Rattle.ir_lines.specs.Statements.{Guarded, Line, Statement, binary, compare, convert, select, phi, scalar_step, layout_step, load, store, call, jump, branch, switch, ret_void, ret, unreachable, cast, statepoint, gc_result, gc_relocate}
use Rattle.ir_lines.specs.Parts.{is_of_group, live_use, token_use, index_use}
use Rattle.ir_lines.specs.Sections.{Definition}
use Rattle.ir_lines.specs.Scope.{scope_of, head_named}
use Rattle.ir_lines.specs.Types.{literal_fits}
use Rattle.ir_lines.specs.Modules.{Known, known_of, type_of, binary_of, conversion_of, given_type, passed_operand, used_operand, kept_entry, wrapped, instruction, instruction_said, keeping}
use Rattle.ir_lines.specs.Faults.TypeClash.{call_agrees, takes_types}
use Rattle.ir_lines.specs.ReadLines.{IsReadPassed}
use Rattle.module_laws.proofs.LawLines.{InLaw, LineFacts, made, is_value_in}
use Rattle.module_laws.proofs.LawCalls.{IsGoodCall, over}
use Rattle.module_laws.proofs.LawExternals.{good_call}
use Rattle.module_laws.proofs.LawBundles.{good_bundle, named_same}
use Rattle.module_laws.proofs.LawTyped.{GoodInst, content, scope_made, all-list, type_width, answer_width, answers, is_first, widths_made, widths_kept, values_name_none, no_names, no_layout, one_value}
use Rattle.module_laws.proofs.LawInsts.{passed_widths}
use Rattle.std.proofs.lemmas.Bool.{not-false}
use Rattle.list_laws.proofs.Booleans.{first_true}

-- ---- operands behind those of a call, none of which is a function
takes_more : (scope : ModuleScope) (callee : Callee) (os more : List Operand) → TakesOperands scope callee os → TakesOperands scope callee (os ++ more)
takes_more scope callees.TaskStart os more takes = (takes.0, get_front os more 0 (operands.Fun takes.0) takes.1, takes.2)
takes_more scope callees.Check os more takes =
    (takes.0, get_front os more 2 (operands.Int (Rattle.ir_ast.specs.Cells.kind_of takes.0)) takes.1)
takes_more scope _ os more takes = tt

names_more : (P : ℕ → Type 0) (os more : List Operand) → list_all is_value more ≡ true → AllByRecursion P (functions_in (over os))
    → AllByRecursion P (functions_in (over (os ++ more)))
names_more P [] more e all = values_name_none P more e
names_more P (operands.Value value ∷ os) more e all = names_more P os more e all
names_more P (operands.Int number ∷ os) more e all = names_more P os more e all
names_more P (operands.Null ∷ os) more e all = names_more P os more e all
names_more P (operands.Fun f ∷ os) more e all = (all.0, names_more P os more e all.1)

-- what a statepoint names is what a call of its callee names
names_called : (P : ℕ → Type 0) (callee : Callee) (types : List Ty) (ty : Ty) (id : ℕ) (result : List ℕ) (os more : List Operand) → list_all is_value more ≡ true
    → AllByRecursion P (functions_in (instruction None (ops.Call callee types) ty os []))
    → AllByRecursion P (functions_in (instruction (Some result) (ops.Statepoint id callee types) ty (os ++ more) []))
names_called P (callees.Fun func) types ty id result os more e all = (all.0, names_more P os more e all.1)
names_called P _ types ty id result os more e all = names_more P os more e all

-- ---- live entries

abbrev pub live_made : Known → List Val → List Operand
live_made known live = map (used_operand known) (map live_use live)

pub live_values : (known : Known) (live : List Val) → AllByRecursion (λ op. is_value op ≡ true) (live_made known live)
live_values known [] = tt
live_values known (v ∷ vs) = (is_value_in known.values Managed v, live_values known vs)

-- ---- the statepoint

abbrev statepoint_made : List Line → Definition → List ℕ → Guarded → List Val → Callee → Instruction
statepoint_made lines func result called live callee =
    keeping (map (kept_entry (known_of lines func)) called.kept)
    (instruction (Some result) (ops.Statepoint (wrapped 64 called.id) callee (map given_type called.passed)) (type_of called.signature.answer)
    (map (passed_operand (known_of lines func)) called.passed ++ live_made (known_of lines func) live) [])

-- the arguments stand first and then the live entries
pub taken_first : (passed : List Given) (known : Known) (L : List Operand)
    → take (length (map given_type passed)) (map (passed_operand known) passed ++ L) ≡ map (passed_operand known) passed
taken_first passed known L =
    ap (λ (n : ℕ). take n (map (passed_operand known) passed ++ L)) (length-map passed given_type ∙ sym (length-map passed (passed_operand known)))
    ∙ take-append_seam (map (passed_operand known) passed) L

pub dropped_first : (passed : List Given) (known : Known) (L : List Operand)
    → drop (length (map given_type passed)) (map (passed_operand known) passed ++ L) ≡ L
dropped_first passed known L =
    ap (λ (n : ℕ). drop n (map (passed_operand known) passed ++ L)) (length-map passed given_type ∙ sym (length-map passed (passed_operand known)))
    ∙ drop-append_seam (map (passed_operand known) passed) L

statepoint_at : (form : Form) (lines : List Line) (func : Definition) → InLaw form lines func → (result : List ℕ) (called : Guarded) (live : List Val)
    → LineFacts form (scope_of lines func) (statepoint result called live)
    → (g : IsGoodCall form lines func called.callee called.signature.answer called.passed)
    → GoodInst form lines func (statepoint_made lines func result called live g.callee)
statepoint_at form lines func law result called live facts g =
    let known = known_of lines func in
    let A = map (passed_operand known) called.passed in
    let L = live_made known live in
    let types = map given_type called.passed in
    let kept = good_bundle known called.kept facts.read.kept in
    let op : Op = ops.Statepoint (wrapped 64 called.id) g.callee types in
    let below : ℕ → Type 0 = λ named. named < length (content form lines).funcs in
    let vals : list_all is_value L ≡ true = all-list is_value L (live_values known live) in
    let read = recursion_from_All IsReadPassed called.passed facts.read.passed in
    record {
      line = record {
        result = refl;
        type = answers called.signature.answer;
        arguments = subst (λ (os : List Operand). Arguments g.callee os types) (sym (taken_first called.passed known L)) g.arguments;
        entries = ap (list_all is_value) (dropped_first called.passed known L) ∙ vals;
        no_labels = refl;
        bundle = kept.typed;
      };
      called = record { signature = g.signature; operands = takes_more (scope_made form lines func) g.callee A L g.takes };
      widths = widths_kept op (type_of called.signature.answer) (map (kept_entry known) called.kept) (passed_widths called.passed read)
          (answer_width called.signature.answer facts.read.answered) kept.widths;
      bundle = kept.typed;
      few_kept = kept.few;
      plain = λ is. absurd (let bad : true ≡ false = facts.own is in cc);
      layouts = g.layouts;
      functions = subst (All below) (sym (named_same (map (kept_entry known) called.kept) kept.typed (Some result) op (type_of called.signature.answer) (A ++ L)))
          (All-from_recursion below (functions_in (instruction (Some result) op (type_of called.signature.answer) (A ++ L) []))
          (names_called below g.callee types (type_of called.signature.answer) (wrapped 64 called.id) result A L vals
          (recursion_from_All below (functions_in (Rattle.module_laws.proofs.LawCalls.call_made g.callee called.signature.answer called.passed known)) g.functions)));
      labels = All-nil (λ (label : BlockId). label.0 < length (made lines func).blocks);
    }

pub good_statepoint : (form : Form) (lines : List Line) (func : Definition) → InLaw form lines func → (result : List ℕ) (made : Guarded) (live : List Val)
    → LineFacts form (scope_of lines func) (statepoint result made live)
    → IfSome (instruction_said (known_of lines func) [] (statepoint result made live)) (GoodInst form lines func)
good_statepoint form lines func law result called live facts =
    let scope = scope_of lines func in
    let agreed = call_agrees form scope called.signature.answer called.callee called.passed in
    let more = takes_types called.signature.parameters (head_named scope called.callee)
    && literal_fits (Rattle.line_parts.specs.Types.Int 32) called.count in
    let g = good_call form lines func law called.callee called.signature.answer called.passed facts.functions
    (first_true agreed more (not-false (agreed && more) facts.spelled)) facts.read.passed in
    subst (λ (c : Callee). GoodInst form lines func (statepoint_made lines func result called live c)) (sym g.is)
    (statepoint_at form lines func law result called live facts g)

-- ---- its parts

pub good_gc_result : (form : Form) (lines : List Line) (func : Definition) → InLaw form lines func → (result : List ℕ) (ty : TypeWord) (token : List ℕ)
    → LineFacts form (scope_of lines func) (gc_result result ty token)
    → IfSome (instruction_said (known_of lines func) [] (gc_result result ty token)) (GoodInst form lines func)
good_gc_result form lines func law result ty token facts =
    let t = used_operand (known_of lines func) (token_use token) in
    record {
      line = (
        record { result = refl; type = is_first ty facts.read.1; operand_count = refl; values = one_value t refl; label_count = refl; no_bundle = refl },
        (record { 0 = Rattle.ir_lines.specs.Places.number_in (known_of lines func).values token }, refl),
      );
      called = tt;
      widths = widths_made ops.GcResult (Some result) (type_of ty) (t ∷ []) [] (All-nil IsWidth) (type_width ty facts.read.1);
      bundle = refl;
      few_kept = omega arith;
      plain = λ is. absurd (let bad : true ≡ false = facts.own is in cc);
      layouts = no_layout form lines;
      functions = no_names form lines (t ∷ []) (one_value t refl);
      labels = All-nil (λ (label : BlockId). label.0 < length (made lines func).blocks);
    }

pub good_gc_relocate : (form : Form) (lines : List Line) (func : Definition) → InLaw form lines func → (result token : List ℕ) (base derived : Literal)
    → LineFacts form (scope_of lines func) (gc_relocate result token base derived)
    → IfSome (instruction_said (known_of lines func) [] (gc_relocate result token base derived)) (GoodInst form lines func)
good_gc_relocate form lines func law result token base derived facts =
    let known = known_of lines func in
    let t = used_operand known (token_use token) in
    let os = t ∷ used_operand known (index_use base) ∷ used_operand known (index_use derived) ∷ [] in
    record {
      line = (
        record { result = refl; type = refl; operand_count = refl; values = refl; label_count = refl; no_bundle = refl },
        (wrapped 32 base, wrapped 32 derived, (record { 0 = Rattle.ir_lines.specs.Places.number_in known.values token }, refl)),
      );
      called = tt;
      widths = widths_made ops.GcRelocate (Some result) tys.Ptr os [] (All-nil IsWidth) (All-nil IsWidth);
      bundle = refl;
      few_kept = omega arith;
      plain = λ is. absurd (let bad : true ≡ false = facts.own is in cc);
      layouts = no_layout form lines;
      functions = no_names form lines os refl;
      labels = All-nil (λ (label : BlockId). label.0 < length (made lines func).blocks);
    }

-- ---- which lines have such operators

abbrev pub is_group_op : Op → Bool
is_group_op (ops.Statepoint id callee types) = true
is_group_op ops.GcResult = true
is_group_op ops.GcRelocate = true
is_group_op _ = false

binary_op : (op : Binary) → is_group_op (binary_of op) ≡ false
binary_op Add = refl
binary_op Sub = refl
binary_op Mul = refl
binary_op Udiv = refl
binary_op Sdiv = refl
binary_op Urem = refl
binary_op Srem = refl
binary_op And = refl
binary_op Or = refl
binary_op Xor = refl
binary_op Shl = refl
binary_op Lshr = refl
binary_op Ashr = refl

conversion_op : (op : Conversion) (to : ℕ) → is_group_op (conversion_of op to) ≡ false
conversion_op Trunc to = refl
conversion_op Zext to = refl
conversion_op Sext to = refl

-- an instruction of a group is that of a line of a group
pub group_said : (known : Known) (behind : List Line) (s : Statement) → is_of_group s ≡ false
    → IfSome (instruction_said known behind s) (λ inst. is_group_op inst.op ≡ false)
group_said known behind (binary result op width left right) e = binary_op op
group_said known behind (compare result pred ty left right) e = refl
group_said known behind (convert result op width value to) e = conversion_op op to
group_said known behind (select result condition left_ty left right_ty right) e = refl
group_said known behind (phi result ty entries) e = refl
group_said known behind (scalar_step result element address width index) e = refl
group_said known behind (layout_step result named address width index place) e = refl
group_said known behind (load result ty address) e = refl
group_said known behind (store ty value address) e = refl
group_said known behind (call result made) e = refl
group_said known behind (jump to) e = refl
group_said known behind (branch condition on_true on_false) e = refl
group_said known behind (switch width value default) e = refl
group_said known behind ret_void e = refl
group_said known behind (ret ty value) e = refl
group_said known behind unreachable e = refl
group_said known behind (cast result op from value to) e = refl
group_said known behind (statepoint result made live) e = absurd (let bad : true ≡ false = e in cc)
group_said known behind (gc_result result ty token) e = absurd (let bad : true ≡ false = e in cc)
group_said known behind (gc_relocate result token base derived) e = absurd (let bad : true ≡ false = e in cc)
group_said known behind _ e = tt
