-- Calls and phis on their lines.
use Rattle.std.proofs.Common.{◌≡◌, refl, ℕ, ◌<◌, ◌≤◌, Bool, true, false, inl, inr, List, [], ◌∷◌, ◌++◌, length, map, Some, None, codes, append_assoc}
use Rattle.std.specs.List.{AllByRecursion, list_all, zip}
use Rattle.std.proofs.lemmas.List.Elements.{All-from_recursion}
use Rattle.std.proofs.lemmas.Bool.{and_parts, and_from, or_right}
use Rattle.sp_ids.specs.declared.ids.BlockId.{BlockId}
use Rattle.sp_ids.specs.declared.ids.FuncId.{FuncId}
use Rattle.sp_text.specs.Tokens.{tokens, is_name}
use Rattle.sp_text.specs.Bytes.{in_name, begins_name}
use Rattle.std.specs.Char.{is_ascii_digit}
use Rattle.ir_ast.specs.declared.types.Ty.{Ty}
use Rattle.ir_ast.specs.declared.types.Ty.TheVariants as tys
use Rattle.ir_ast.specs.declared.ops.Callee.{Callee}
use Rattle.ir_ast.specs.declared.ops.Callee.TheVariants as callees
use Rattle.ir_ast.specs.declared.ops.Operand.{Operand}
use Rattle.ir_ast.specs.declared.ops.Operand.TheVariants as operands
use Rattle.ir_ast.specs.declared.ops.Op.TheVariants as ast
use Rattle.ir_ast.specs.Operands.{is_value}
use Rattle.ir_ast.specs.Types.{is_first_class}
use Rattle.ir_ast.specs.Values.{value_types}
use Rattle.ir_ast.specs.Faults.TypeClash.{Fits}
use Rattle.ir_printer.specs.Lists.{joined}
use Rattle.ir_printer.specs.Names.{Names, block_name, function_name, layout_name}
use Rattle.ir_printer.specs.Words.{type_text}
use Rattle.ir_printer.specs.Operands.{parameter_text, argument_text}
use Rattle.ir_printer.specs.Calls.{callee_name, bundles_text}
use Rattle.ir_printer.specs.Lines.{result_front, operator_text, phi_entry_text}
use Rattle.line_forms.specs.declared.forms.Form.TheVariants as forms
use Rattle.line_tokens.specs.Families.{statepoint_name, relocate_name, result_suffix, result_front as family_result_front, is_family_name}
use Rattle.line_parts.specs.Lists.{Given, given, comma, passed_at, is_task_start, entry_at, begins_entry}
use Rattle.line_tokens.specs.Marks.{is_mark, begins}
use Rattle.line_forms.specs.Slots as parts
use Rattle.read_back.specs.Said.{word_of, value_says, passed_says, kept_says, entry_says}
use Rattle.read_back.proofs.BackLists.{CalleeBelow}
use Rattle.read_back.proofs.BackNames.{IsKept}
use Rattle.read_back.proofs.FormsIn.{gc_new_own, value_call_form, void_call_form}
use Rattle.read_back.proofs.Listed.{SpellsElement}
use Rattle.read_back.proofs.ListForms.{EndsAtMark, Anything, passed_element, passed_opens, function_element, function_opens, value_call_line, void_call_line, entry_element, phi_line}
use Rattle.read_back.proofs.Operands.{HaveNames, IsNarrow, block-named, function-named, function-own, layout-named, type_spelled, type_allowed, value_spelled}
use Rattle.read_back.proofs.OneLine.{OneLine, made, calling}
use Rattle.read_back.proofs.BundleLines.{call_kept, deopt_in_limit}
use Rattle.sp_text.proofs.Spelled.{name_bytes}

-- ---- callees

pub digits_named : (bs : List ℕ) → list_all is_ascii_digit bs ≡ true → list_all in_name bs ≡ true
digits_named [] digits = refl
digits_named (b ∷ bs) digits =
    let both = and_parts (is_ascii_digit b) (list_all is_ascii_digit bs) digits in
    and_from (in_name b) (list_all in_name bs) (or_right (begins_name b) (is_ascii_digit b) both.0) (digits_named bs both.1)

pub new-named : (n : List ℕ) → is_name n ≡ true → is_name (codes "gc_new." ++ n) ≡ true
new-named n is = rw (name_bytes n is) refl

pub callee-named : (names : Names) → HaveNames names → (callee : Callee) → CalleeBelow names callee → is_name (callee_name names callee) ≡ true
callee-named names have (callees.Fun func) low = function-named names have func.0 low
callee-named names have (callees.New layout) low = new-named (layout_name names.layouts layout) (layout-named names have layout low)
callee-named names have callees.Print low = refl
callee-named names have callees.Read low = refl
callee-named names have callees.TaskStart low = refl
callee-named names have callees.Poll low = refl
callee-named names have callees.Check low = refl
callee-named names have callees.Same low = refl

-- and is the name of none of the three families
pub callee-own : (names : Names) → HaveNames names → (callee : Callee) → CalleeBelow names callee → is_family_name (callee_name names callee) ≡ false
unfolding statepoint_name relocate_name result_suffix family_result_front
callee-own names have (callees.Fun func) low = function-own names have func.0 low
callee-own names have (callees.New layout) low = gc_new_own (layout_name names.layouts layout)
callee-own names have callees.Print low = refl
callee-own names have callees.Read low = refl
callee-own names have callees.TaskStart low = refl
callee-own names have callees.Poll low = refl
callee-own names have callees.Check low = refl
callee-own names have callees.Same low = refl

-- ---- what a call passes

abbrev pub passed_text : Names → Ty × Operand → List ℕ
passed_text names argument = argument_text names argument.0 argument.1

abbrev pub passed_given : Names → Ty × Operand → Given
passed_given names argument = passed_says names argument.0 argument.1

-- an argument of a call of what is named `task_start`, or of what is not
pub record PassedReads (plain : Bool) (names : Names) (argument : Ty × Operand) : Type 0 where
  pub element : SpellsElement (passed_at plain) comma EndsAtMark (passed_text names argument) (passed_given names argument)
  pub opens : (rest : List ℕ) → EndsAtMark rest → begins (is_mark (codes ")")) (tokens (passed_text names argument ++ rest)) ≡ false

parameter_is : (ty : Ty) → is_first_class ty ≡ true → parameter_text ty ≡ type_text ty
parameter_is tys.Void first = cc
parameter_is (tys.Int width) first = refl
parameter_is tys.Ptr first = refl
parameter_is tys.Token first = cc

given_is : (names : Names) (ty : Ty) (o : Operand) → is_value o ≡ true → passed_says names ty o ≡ given (word_of ty) (value_says names ty o)
given_is names ty (operands.Value v) is = refl
given_is names ty (operands.Int n) is = refl
given_is names ty operands.Null is = refl
given_is names ty (operands.Fun f) is = cc

pub value_passed : (plain : Bool) (names : Names) → HaveNames names → (ty : Ty) (o : Operand) → is_value o ≡ true → is_first_class ty ≡ true → IsNarrow ty → Fits (value_types names.func) o ty
    → PassedReads plain names (ty, o)
value_passed plain names have ty o is first narrow fits =
    let spelled = type_spelled ty first narrow in
    let value = value_spelled names have ty narrow o is fits in record {
      element = rw (parameter_is ty first) (rw (given_is names ty o is) (passed_element plain spelled (type_allowed ty first) value));
      opens = λ rest ends. rw (parameter_is ty first) (passed_opens spelled value rest ends);
    }

pub function_passed : (names : Names) → HaveNames names → (f : FuncId) → f.0 < length names.funcs → PassedReads true names (tys.Void, operands.Fun f)
function_passed names have f low = record {
  element = function_element (function_name names.funcs f.0) (function-named names have f.0 low);
  opens = λ rest ends. function_opens (function_name names.funcs f.0) (function-named names have f.0 low) rest ends;
}

pub each_element : (plain : Bool) (names : Names) (ys : List (Ty × Operand)) → AllByRecursion (PassedReads plain names) ys
    → AllByRecursion (λ y. SpellsElement (passed_at plain) comma EndsAtMark (passed_text names y) (passed_given names y)) ys
each_element plain names [] all = tt
each_element plain names (y ∷ ys) all = (all.0.element, each_element plain names ys all.1)

each_opens : (plain : Bool) (names : Names) (ys : List (Ty × Operand)) → AllByRecursion (PassedReads plain names) ys
    → AllByRecursion (λ y. (rest : List ℕ) → EndsAtMark rest → begins (is_mark (codes ")")) (tokens (passed_text names y ++ rest)) ≡ false) ys
each_opens plain names [] all = tt
each_opens plain names (y ∷ ys) all = (all.0.opens, each_opens plain names ys all.1)

-- ---- calls

value_call_shape : (names : Names) (callee : Callee) (types : List Ty) (n : List ℕ) (ty : Ty) (os : List Operand) (bundle : List (Ty × Operand))
    → result_front (Some n) ++ operator_text names (ast.Call callee types) (calling (Some n) (ast.Call callee types) ty os bundle)
    ≡ 37 ∷ (n ++ (32 ∷ 61 ∷ 32 ∷ (codes "call " ++ (type_text ty ++ (32 ∷ 64 ∷ (callee_name names callee ++ (40 ∷ (joined (codes ", ") (map (passed_text names) (zip types os)) ++ (41 ∷ bundles_text names bundle [])))))))))
value_call_shape names callee types n ty os bundle = simp append_assoc

-- `%x = call T @f(T V, ..)`, and maybe `[ "deopt"(T V, ..) ]`
pub value_call_reads : (names : Names) → HaveNames names → (callee : Callee) (types : List Ty) (n : List ℕ) (ty : Ty) (os : List Operand) (bundle : List (Ty × Operand)) → is_name n ≡ true → is_first_class ty ≡ true → IsNarrow ty
    → CalleeBelow names callee → AllByRecursion (PassedReads (is_task_start (callee_name names callee)) names) (zip types os) → AllByRecursion (IsKept names) bundle → length bundle ≤ 64
    → OneLine names (calling (Some n) (ast.Call callee types) ty os bundle)
value_call_reads names have callee types n ty os bundle is first narrow there all kept few =
    let plain : Bool = is_task_start (callee_name names callee) in record {
      form = forms.ValueCall;
      items = parts.name n ∷ parts.ty (word_of ty) ∷ parts.called (callee_name names callee) (map (passed_given names) (zip types os)) ∷ parts.deopt (map (kept_says names) bundle) ∷ [];
      reads = rw (value_call_shape names callee types n ty os bundle) (value_call_line n is (type_spelled ty first narrow) (type_allowed ty first)
          (callee_name names callee) (callee-named names have callee there) (passed_text names) (passed_given names) (zip types os)
          (All-from_recursion _ (zip types os) (each_element plain names (zip types os) all)) (All-from_recursion _ (zip types os) (each_opens plain names (zip types os) all))
          (call_kept names have bundle kept));
      says = refl;
      fits = rw (deopt_in_limit names bundle few) refl;
      stands = refl;
      counts = refl;
      kept = refl;
      both = inr (rw (value_call_shape names callee types n ty os bundle) (value_call_form n is (type_spelled ty first narrow) (callee_name names callee) (callee-named names have callee there) (callee-own names have callee there)
          (joined (codes ", ") (map (passed_text names) (zip types os)) ++ (41 ∷ bundles_text names bundle []))));
    }

void_call_shape : (names : Names) (callee : Callee) (types : List Ty) (os : List Operand) (bundle : List (Ty × Operand))
    → operator_text names (ast.Call callee types) (calling None (ast.Call callee types) tys.Void os bundle)
    ≡ codes "call void @" ++ (callee_name names callee ++ (40 ∷ (joined (codes ", ") (map (passed_text names) (zip types os)) ++ (41 ∷ bundles_text names bundle []))))
void_call_shape names callee types os bundle = refl

-- `call void @f(T V, ..)`, and maybe `[ "deopt"(T V, ..) ]`
pub void_call_reads : (names : Names) → HaveNames names → (callee : Callee) (types : List Ty) (os : List Operand) (bundle : List (Ty × Operand))
    → CalleeBelow names callee → AllByRecursion (PassedReads (is_task_start (callee_name names callee)) names) (zip types os) → AllByRecursion (IsKept names) bundle → length bundle ≤ 64
    → OneLine names (calling None (ast.Call callee types) tys.Void os bundle)
void_call_reads names have callee types os bundle there all kept few =
    let plain : Bool = is_task_start (callee_name names callee) in
    let reads = void_call_line
    (callee_name names callee) (callee-named names have callee there) (passed_text names) (passed_given names) (zip types os)
    (All-from_recursion _ (zip types os) (each_element plain names (zip types os) all)) (All-from_recursion _ (zip types os) (each_opens plain names (zip types os) all))
    (call_kept names have bundle kept) in record {
      form = forms.VoidCall;
      items = parts.called (callee_name names callee) (map (passed_given names) (zip types os)) ∷ parts.deopt (map (kept_says names) bundle) ∷ [];
      reads = rw (void_call_shape names callee types os bundle) reads;
      says = refl;
      fits = rw (deopt_in_limit names bundle few) refl;
      stands = refl;
      counts = refl;
      kept = refl;
      both = inr (rw (void_call_shape names callee types os bundle) (void_call_form (callee_name names callee) (callee-named names have callee there) (callee-own names have callee there)
          (joined (codes ", ") (map (passed_text names) (zip types os)) ++ (41 ∷ bundles_text names bundle [])) reads.form_is));
    }

-- ---- phis

abbrev pub entry_text : Names → Ty → Operand × BlockId → List ℕ
entry_text names ty entry = phi_entry_text names ty entry.0 entry.1

-- an entry of a phi, or a case of a `switch`
pub record EntryFits (names : Names) (ty : Ty) (entry : Operand × BlockId) : Type 0 where
  pub value : is_value entry.0 ≡ true
  pub fits : Fits (value_types names.func) entry.0 ty
  pub low : entry.1.0 < length names.func.blocks

each_entry : (names : Names) → HaveNames names → (ty : Ty) → IsNarrow ty → (es : List (Operand × BlockId)) → AllByRecursion (EntryFits names ty) es
    → AllByRecursion (λ e. SpellsElement entry_at begins_entry Anything (entry_text names ty e) (entry_says names ty e)) es
each_entry names have ty narrow [] all = tt
each_entry names have ty narrow (e ∷ es) all = (
  entry_element (value_spelled names have ty narrow e.0 all.0.value all.0.fits) (block_name names.func e.1.0) (block-named names have e.1.0 all.0.low),
  each_entry names have ty narrow es all.1,
)

phi_shape : (names : Names) (n : List ℕ) (ty : Ty) (os : List Operand) (ls : List BlockId)
    → result_front (Some n) ++ operator_text names ast.Phi (made (Some n) ast.Phi ty os ls)
    ≡ 37 ∷ (n ++ (32 ∷ 61 ∷ 32 ∷ (codes "phi " ++ (type_text ty ++ (32 ∷ joined (codes ", ") (map (entry_text names ty) (zip os ls)))))))
phi_shape names n ty os ls = simp append_assoc

-- `%x = phi T [ V, %l ], ..`
pub phi_reads : (names : Names) → HaveNames names → (n : List ℕ) (ty : Ty) (o : Operand) (os : List Operand) (l : BlockId) (ls : List BlockId) → is_name n ≡ true → is_first_class ty ≡ true → IsNarrow ty
    → AllByRecursion (EntryFits names ty) (zip (o ∷ os) (l ∷ ls)) → OneLine names (made (Some n) ast.Phi ty (o ∷ os) (l ∷ ls))
phi_reads names have n ty o os l ls is first narrow all = record {
  form = forms.Phi;
  items = parts.name n ∷ parts.ty (word_of ty) ∷ parts.entries (map (entry_says names ty) (zip (o ∷ os) (l ∷ ls))) ∷ [];
  reads = rw (phi_shape names n ty (o ∷ os) (l ∷ ls)) (phi_line n is (type_spelled ty first narrow) (type_allowed ty first) (entry_text names ty) (entry_says names ty) (o, l) (zip os ls)
      (All-from_recursion _ (zip (o ∷ os) (l ∷ ls)) (each_entry names have ty narrow (zip (o ∷ os) (l ∷ ls)) all)));
  says = refl;
  fits = refl;
  stands = refl;
  counts = refl;
  kept = refl;
  both = inl refl;
}
