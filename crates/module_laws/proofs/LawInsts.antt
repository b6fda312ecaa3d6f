-- Phis, calls and terminators; and the instruction of any line.
use Rattle.std.proofs.Common.{◌≡◌, ◌∙◌, ℕ, suc, ◌<◌, true, false, not, List, [], ◌∷◌, map, length, refl, ap, sym, subst, arith}
use Rattle.std.specs.Prelude.{Option, Some, None, IfSome, is_none, is_some, option_map, flat_map}
use Rattle.std.specs.List.{All, AllByRecursion, list_any, list_all}
use Rattle.std.proofs.lemmas.List.{length-map}
use Rattle.std.proofs.lemmas.List.Elements.{All-nil, All-append, All-from_recursion, recursion_from_All}
use Rattle.sp_ids.specs.declared.ids.BlockId.{BlockId}
use Rattle.ir_ast.specs.declared.types.Ty.{Ty}
use Rattle.ir_ast.specs.declared.types.Ty.TheVariants as tys
use Rattle.ir_ast.specs.declared.ops.Op.{Op}
use Rattle.ir_ast.specs.declared.ops.Op.TheVariants as ops
use Rattle.ir_ast.specs.declared.ops.Operand.{Operand}
use Rattle.ir_ast.specs.declared.ops.Callee.{Callee}
use Rattle.ir_ast.specs.Insts.{Instruction}
use Rattle.ir_ast.specs.Callees.{is_leaf}
use Rattle.ir_ast.specs.Types.{is_void}
use Rattle.ir_ast.specs.Lines.{IsLine, is_rewritten}
use Rattle.ir_ast.specs.Operands.{is_value, is_literal, functions_named as functions_in, layouts_named as layouts_in}
use Rattle.ir_ast.specs.Widths.{IsWidth, type_widths, operator_widths}
use Rattle.ir_ast.specs.declared.ops.Elem.TheVariants as elements
use Rattle.ir_ast.specs.declared.modules.Form.{Form}
use Rattle.line_parts.specs.Types.{TypeWord}
use Rattle.line_parts.specs.Types.{Void, Int, Managed, Plain}
use Rattle.line_tokens.specs.declared.literals.Literal.{Literal}
use Rattle.line_parts.specs.Parts.{Val, is_case_value}
use Rattle.line_parts.specs.Parts as values
use Rattle.line_parts.specs.Lists.{Given, given, function}
use Rattle.ir_lines.specs.Statements.{Called, Line, Statement, layout_step, call, switch, switch_case, kept_by}
use Rattle.ir_lines.specs.Sections.{Definition, LayoutLine, BlockLines, blocks_of, layouts_of}
use Rattle.ir_lines.specs.Scope.{scope_of, layout_named, block_named}
use Rattle.ir_lines.specs.Places.{number_in}
use Rattle.ir_lines.specs.Modules.{known_of, type_of, layout_of, operand_in, operand_of, entry_operand, entry_label, label_of, passed_operand, given_type, instruction, instruction_said, place_of, block_of, case_values, case_labels, kept_entry, keeping}
use Rattle.ir_lines.specs.Faults.TypeClash.{call_agrees}
use Rattle.ir_lines.specs.ReadLines.{SaysRead, IsValueType, IsReadCall, IsReadPassed}
use Rattle.ir_lines.proofs.LawNames.{stands, stands_below, number-is}
use Rattle.module_laws.proofs.LawFacts.{or-left, none_any}
use Rattle.module_laws.proofs.LawLines.{InLaw, LineFacts, made, read_function, is_value_in}
use Rattle.module_laws.proofs.LawCases.{each_case, labels-cases}
use Rattle.module_laws.proofs.LawCalls.{IsGoodCall}
use Rattle.module_laws.proofs.LawExternals.{good_call}
use Rattle.module_laws.proofs.LawBundles.{good_bundle, kept_read, leaf_keeps_none, named_same}
use Rattle.module_laws.proofs.LawTyped.{GoodInst, IsCalled, content, scope_made, all-list, type_width, answers, is_first, widths_made, widths_kept, no_names, no_layout, two_values, width_one, good_layout}
use Rattle.std.proofs.lemmas.Bool.{not-false, and_from}

-- ---- labels

abbrev pub IsGoodLabel : List Line → Definition → BlockId → Type 0
IsGoodLabel lines func label = label.0 < length (made lines func).blocks

pub label_below : (form : Form) (lines : List Line) (func : Definition) → InLaw form lines func → (name : List ℕ) → is_none (block_named (scope_of lines func) name) ≡ false
    → IsGoodLabel lines func (label_of (known_of lines func) name)
label_below form lines func law name e =
    let s = stands (λ (one : BlockLines). one.name) (blocks_of func) name e in
    let few = (read_function form lines func law).few_blocks in
    let b = stands_below (λ (one : BlockLines). one.name) (blocks_of func) name s in
    let n = number-is (λ (one : BlockLines). one.name) (blocks_of func) name s (omega arith) in
    omega (arith, n, length-map (blocks_of func) (block_of (known_of lines func)))

-- ---- phis

entries_values : (names : List (List ℕ)) (ty : TypeWord) (es : List (Val × List ℕ)) → AllByRecursion (λ op. is_value op ≡ true) (map (entry_operand names ty) es)
entries_values names ty [] = tt
entries_values names ty (e ∷ es) = (is_value_in names ty e.0, entries_values names ty es)

entries_labels : (form : Form) (lines : List Line) (func : Definition) → InLaw form lines func → (es : List (Val × List ℕ))
    → AllByRecursion (λ name. is_none (block_named (scope_of lines func) name) ≡ false) (map (λ (entry : Val × List ℕ). entry.1) es)
    → AllByRecursion (λ label. label.0 < length (made lines func).blocks) (map (entry_label (known_of lines func).blocks) es)
entries_labels form lines func law [] known = tt
entries_labels form lines func law (e ∷ es) known = (label_below form lines func law e.1 known.0, entries_labels form lines func law es known.1)

pub good_phi : (form : Form) (lines : List Line) (func : Definition) → InLaw form lines func → (result : List ℕ) (ty : TypeWord) (es : List (Val × List ℕ))
    → IsValueType ty → 0 < length es
    → list_any (λ name. is_none (block_named (scope_of lines func) name)) (map (λ (entry : Val × List ℕ). entry.1) es) ≡ false
    → GoodInst form lines func (instruction (Some result) ops.Phi (type_of ty) (map (entry_operand (known_of lines func).values ty) es) (map (entry_label (known_of lines func).blocks) es))
good_phi form lines func law result ty es read some known =
    let names = (known_of lines func).values in
    let blocks = (known_of lines func).blocks in
    let os = map (entry_operand names ty) es in
    let labels = map (entry_label blocks) es in
    let vals : list_all is_value os ≡ true = all-list is_value os (entries_values names ty es) in
    let count : length os ≡ length es = length-map es (entry_operand names ty) in
    let label_count : length labels ≡ length os = length-map es (entry_label blocks) ∙ sym count in
    record {
      line = (
        record { result = refl; type = is_first ty read; operand_count = refl; values = vals; label_count = label_count; no_bundle = refl },
        (let n : 0 < length os = omega (arith, count) in n),
      );
      called = tt;
      widths = widths_made ops.Phi (Some result) (type_of ty) os labels (All-nil IsWidth) (type_width ty read);
      bundle = refl;
      few_kept = omega arith;
      plain = λ is. refl;
      layouts = no_layout form lines;
      functions = no_names form lines os vals;
      labels = All-from_recursion (λ (label : BlockId). label.0 < length (made lines func).blocks) labels
          (entries_labels form lines func law es (none_any (λ name. is_none (block_named (scope_of lines func) name)) (map (λ (entry : Val × List ℕ). entry.1) es) known));
    }

-- ---- calls

pub passed_widths : (passed : List Given) → AllByRecursion IsReadPassed passed → All IsWidth (flat_map type_widths (map given_type passed))
passed_widths [] read = All-nil IsWidth
passed_widths (given ty v ∷ passed) read =
    All-append IsWidth (type_widths (type_of ty)) (flat_map type_widths (map given_type passed)) (type_width ty read.0) (passed_widths passed read.1)
passed_widths (function name ∷ passed) read = passed_widths passed read.1

call_result : (result : Option (List ℕ)) (answer : TypeWord) → IsReadCall result answer → is_some result ≡ not (is_void (type_of answer))
call_result None answer read = sym (ap (λ (t : TypeWord). not (is_void (type_of t))) read)
call_result (Some result) (Int width) read = refl
call_result (Some result) Managed read = refl
call_result (Some result) Void read = absurd read.1
call_result (Some result) Plain read = absurd read.1

call_width : (result : Option (List ℕ)) (answer : TypeWord) → IsReadCall result answer → All IsWidth (type_widths (type_of answer))
call_width None answer read = subst (λ (t : TypeWord). All IsWidth (type_widths (type_of t))) (sym read) (All-nil IsWidth)
call_width (Some result) answer read = type_width answer read.1

abbrev line_made : List Line → Definition → Option (List ℕ) → Called → Callee → Instruction
line_made lines func result called callee =
    keeping (map (kept_entry (known_of lines func)) (kept_by called))
    (instruction result (ops.Call callee (map given_type called.passed)) (type_of called.answer) (map (passed_operand (known_of lines func)) called.passed) [])

call_at : (form : Form) (lines : List Line) (func : Definition) → InLaw form lines func → (result : Option (List ℕ)) (called : Called)
    → LineFacts form (scope_of lines func) (call result called)
    → (g : IsGoodCall form lines func called.callee called.answer called.passed) → GoodInst form lines func (line_made lines func result called g.callee)
call_at form lines func law result called facts g =
    let known = known_of lines func in
    let kept = good_bundle known (kept_by called) (kept_read called facts.read.2) in
    let op : Op = ops.Call g.callee (map given_type called.passed) in
    let below : ℕ → Type 0 = λ named. named < length (content form lines).funcs in
    record {
      line = record {
        result = call_result result called.answer facts.read.0;
        type = answers called.answer;
        arguments = g.arguments;
        no_labels = refl;
        bundle = kept.typed;
        leaf = λ leaf. leaf_keeps_none known called (ap is_leaf g.is ∙ leaf);
      };
      called = record { signature = g.signature; operands = g.takes };
      widths = widths_kept op (type_of called.answer) (map (kept_entry known) (kept_by called))
          (passed_widths called.passed (recursion_from_All IsReadPassed called.passed facts.read.1)) (call_width result called.answer facts.read.0) kept.widths;
      bundle = kept.typed;
      few_kept = kept.few;
      plain = g.helper;
      layouts = g.layouts;
      functions = subst (All below) (sym (named_same (map (kept_entry known) (kept_by called)) kept.typed result op (type_of called.answer)
          (map (passed_operand known) called.passed))) g.functions;
      labels = All-nil (λ (label : BlockId). label.0 < length (made lines func).blocks);
    }

pub good_call_line : (form : Form) (lines : List Line) (func : Definition) → InLaw form lines func → (result : Option (List ℕ)) (called : Called)
    → LineFacts form (scope_of lines func) (call result called)
    → IfSome (instruction_said (known_of lines func) [] (call result called)) (GoodInst form lines func)
good_call_line form lines func law result called facts =
    let g = good_call form lines func law called.callee called.answer called.passed facts.functions
    (not-false (call_agrees form (scope_of lines func) called.answer called.callee called.passed) facts.spelled) facts.read.1 in
    subst (λ (c : Callee). GoodInst form lines func (line_made lines func result called c)) (sym g.is) (call_at form lines func law result called facts g)

-- ---- terminators with labels

good_ends : (form : Form) (lines : List Line) (func : Definition) (op : Op) (ty : Ty) (os : List Operand) (labels : List BlockId)
    → IsLine (instruction None op ty os labels) → IsCalled (scope_made form lines func) op (instruction None op ty os labels)
    → All IsWidth (operator_widths op) → All IsWidth (type_widths ty) → is_rewritten op ≡ false
    → All (λ layout. layout < length (content form lines).layouts) (layouts_in (instruction None op ty os labels))
    → All (λ named. named < length (content form lines).funcs) (functions_in (instruction None op ty os labels))
    → AllByRecursion (IsGoodLabel lines func) labels → GoodInst form lines func (instruction None op ty os labels)
good_ends form lines func op ty os labels line called of_op of_type plain layouts functions good = record {
  line = line;
  called = called;
  widths = widths_made op None ty os labels of_op of_type;
  bundle = refl;
  few_kept = omega arith;
  plain = λ is. plain;
  layouts = layouts;
  functions = functions;
  labels = All-from_recursion (IsGoodLabel lines func) labels good;
}

pub good_jump : (form : Form) (lines : List Line) (func : Definition) (label : BlockId) → IsGoodLabel lines func label
    → GoodInst form lines func (instruction None ops.Br tys.Void [] (label ∷ []))
good_jump form lines func label good =
    good_ends form lines func ops.Br tys.Void [] (label ∷ [])
    (record { result = refl; type = refl; operand_count = refl; values = refl; label_count = refl; no_bundle = refl })
    tt (All-nil IsWidth) (All-nil IsWidth) refl (no_layout form lines) (no_names form lines [] refl) (good, tt)

pub good_branch : (form : Form) (lines : List Line) (func : Definition) (a : Operand) (on_true on_false : BlockId) → list_all is_value (a ∷ []) ≡ true
    → IsGoodLabel lines func on_true → IsGoodLabel lines func on_false
    → GoodInst form lines func (instruction None ops.CondBr (tys.Int 1) (a ∷ []) (on_true ∷ on_false ∷ []))
good_branch form lines func a on_true on_false v good_true good_false =
    good_ends form lines func ops.CondBr (tys.Int 1) (a ∷ []) (on_true ∷ on_false ∷ [])
    (record { result = refl; type = refl; operand_count = refl; values = v; label_count = refl; no_bundle = refl })
    tt (All-nil IsWidth) (width_one 1 (omega arith, omega arith)) refl (no_layout form lines) (no_names form lines (a ∷ []) v) (good_true, (good_false, tt))

good_switch : (form : Form) (lines : List Line) (func : Definition) (width : ℕ) (a : Operand) (cases : List Operand) (label : BlockId) (labels : List BlockId)
    → IsWidth width → list_all is_value (a ∷ cases) ≡ true → list_all is_literal cases ≡ true → length labels ≡ length cases
    → AllByRecursion (IsGoodLabel lines func) (label ∷ labels)
    → GoodInst form lines func (instruction None ops.Switch (tys.Int width) (a ∷ cases) (label ∷ labels))
good_switch form lines func width a cases label labels read v literal count good =
    good_ends form lines func ops.Switch (tys.Int width) (a ∷ cases) (label ∷ labels)
    (record { result = refl; type = refl; operand_count = refl; values = v; label_count = ap suc count; no_bundle = refl }, omega arith, literal)
    tt (All-nil IsWidth) (width_one width read) refl (no_layout form lines) (no_names form lines (a ∷ cases) v) good

-- the labels of the cases behind a line
one_case_label : (form : Form) (lines : List Line) (func : Definition) → InLaw form lines func → (n : ℕ) (s : Statement) (ls : List Line) → LineFacts form (scope_of lines func) s
    → AllByRecursion (IsGoodLabel lines func) (case_labels (known_of lines func).blocks ls)
    → AllByRecursion (IsGoodLabel lines func) (case_labels (known_of lines func).blocks (record { number = n; says = s } ∷ ls))
one_case_label form lines func law n (switch_case width value to) ls facts ih = (
  label_below form lines func law to (or-left (is_none (block_named (scope_of lines func) to)) false facts.labels),
  ih,
)
one_case_label form lines func law n _ ls facts ih = tt

good_case_labels : (form : Form) (lines : List Line) (func : Definition) → InLaw form lines func → (ls : List Line)
    → AllByRecursion (λ l. LineFacts form (scope_of lines func) l.says) ls → AllByRecursion (IsGoodLabel lines func) (case_labels (known_of lines func).blocks ls)
good_case_labels form lines func law [] facts = tt
good_case_labels form lines func law (l ∷ ls) facts = one_case_label form lines func law l.number l.says ls facts.0 (good_case_labels form lines func law ls facts.1)

reads : (form : Form) (lines : List Line) (func : Definition) (ls : List Line) → AllByRecursion (λ l. LineFacts form (scope_of lines func) l.says) ls → AllByRecursion (λ l. SaysRead l.says) ls
reads form lines func [] facts = tt
reads form lines func (l ∷ ls) facts = (facts.0.read, reads form lines func ls facts.1)

case_literal : (names : List (List ℕ)) (width : ℕ) (v : Val) → is_case_value v ≡ true → is_literal (operand_in names (Int width) v) ≡ true
case_literal names width (values.number literal) e = refl
case_literal names width (values.truth said) e = refl
case_literal names width (values.local name) e = absurd (let bad : false ≡ true = e in cc)
case_literal names width values.null e = absurd (let bad : false ≡ true = e in cc)

pub good_switch_line : (form : Form) (lines : List Line) (func : Definition) → InLaw form lines func → (width : ℕ) (value : Val) (default : List ℕ) (after : List Line)
    → LineFacts form (scope_of lines func) (switch width value default) → AllByRecursion (λ l. LineFacts form (scope_of lines func) l.says) after
    → GoodInst form lines func (instruction None ops.Switch (tys.Int width)
    (operand_of (known_of lines func) (Int width) value ∷ case_values (known_of lines func).values width after)
    (label_of (known_of lines func) default ∷ case_labels (known_of lines func).blocks after))
good_switch_line form lines func law width value default after facts behind =
    let known = known_of lines func in
    let cases = case_values known.values width after in
    let read = reads form lines func after behind in
    let first = operand_of known (Int width) value in
    good_switch form lines func width first cases (label_of known default) (case_labels known.blocks after) facts.read
    (and_from (is_value first) (list_all is_value cases) (is_value_in known.values (Int width) value)
    (all-list is_value cases (each_case (λ (op : Operand). is_value op ≡ true) known.values width (λ v _. is_value_in known.values (Int width) v) after read)))
    (all-list is_literal cases (each_case (λ (op : Operand). is_literal op ≡ true) known.values width (case_literal known.values width) after read))
    (labels-cases known.values known.blocks width after) (
      label_below form lines func law default (or-left (is_none (block_named (scope_of lines func) default)) false facts.labels),
      good_case_labels form lines func law after behind,
    )

-- ---- `getelementptr` over a layout

pub good_layout_line : (form : Form) (lines : List Line) (func : Definition) → InLaw form lines func → (result named : List ℕ) (address : Val) (width : ℕ) (index : Val) (place : Option Literal)
    → LineFacts form (scope_of lines func) (layout_step result named address width index place)
    → GoodInst form lines func (instruction (Some result) (ops.Gep (elements.Layout (number_in (known_of lines func).layouts named)) width (option_map place_of place)) tys.Ptr
    (operand_of (known_of lines func) Managed address ∷ operand_of (known_of lines func) (Int width) index ∷ []) [])
good_layout_line form lines func law result named address width index place facts =
    let known = known_of lines func in
    let a = operand_of known Managed address in
    let b = operand_of known (Int width) index in
    let s = stands (λ (l : LayoutLine). l.name) (layouts_of lines) named (or-left (is_none (layout_named (scope_of lines func) named)) false facts.layouts) in
    let few = law.read.few_layouts in
    let n = number-is (λ (l : LayoutLine). l.name) (layouts_of lines) named s (omega arith) in
    let within : number_in known.layouts named < length (content form lines).layouts =
    (let below = stands_below (λ (l : LayoutLine). l.name) (layouts_of lines) named s in omega (arith, n, length-map (layouts_of lines) layout_of)) in
    good_layout form lines func result (number_in known.layouts named) width (option_map place_of place) a b
    (two_values a b (is_value_in known.values Managed address) (is_value_in known.values (Int width) index)) facts.read.1 within
