-- Each instruction of a module is printed on lines that are read.
use Rattle.std.proofs.Common.{◌≡◌, refl, ap, sym, ◌∙◌, subst, ℕ, zero, suc, ◌-◌, ◌<◌, ◌≤◌, ◌^◌, Bool, true, false, not, ◌&&◌, ◌||◌, ◌==◌, if◌then◌else◌, List, [], ◌∷◌, map, length, drop, replicate, Option, Some, None, arith}
use Rattle.std.specs.Prelude.{is_some, flat_map, take}
use Rattle.std.specs.List.{All, AllByRecursion, AllZip, list_all, zip}
use Rattle.std.proofs.lemmas.Bool.{and_parts, or_right}
use Rattle.std.proofs.lemmas.List.{nil_from_length}
use Rattle.std.proofs.lemmas.List.Elements.{All-head, All-from_recursion, recursion_from_All}
use Rattle.sp_ids.specs.declared.ids.BlockId.{BlockId}
use Rattle.sp_ids.specs.declared.ids.FuncId.{FuncId}
use Rattle.sp_text.specs.Tokens.{is_name}
use Rattle.ir_ast.specs.declared.types.Ty.{Ty}
use Rattle.ir_ast.specs.declared.types.Ty.TheVariants as tys
use Rattle.ir_ast.specs.declared.ops.Callee.{Callee}
use Rattle.ir_ast.specs.declared.ops.Callee.TheVariants as callees
use Rattle.ir_ast.specs.declared.ops.Pred.{Pred}
use Rattle.ir_ast.specs.declared.ops.Elem.{Elem}
use Rattle.ir_ast.specs.declared.ops.Elem.TheVariants as elements
use Rattle.ir_ast.specs.declared.ops.Operand.{Operand}
use Rattle.ir_ast.specs.declared.ops.Operand.TheVariants as operands
use Rattle.ir_ast.specs.declared.ops.Op.{Op}
use Rattle.ir_ast.specs.declared.ops.Op.TheVariants as ops
use Rattle.ir_ast.specs.Insts.{Instruction}
use Rattle.ir_ast.specs.Lines.{Has, Arguments, is_argument, is_element, is_rewritten}
use Rattle.ir_ast.specs.Faults.GroupShape.{live_entries}
use Rattle.ir_ast.specs.Operands.{is_value, is_literal, functions_named}
use Rattle.ir_ast.specs.Ops.{is_terminator}
use Rattle.ir_ast.specs.Types.{is_void, is_integer, is_first_class, is_answer}
use Rattle.ir_ast.specs.Values.{value_types}
use Rattle.ir_ast.specs.Widths.{IsWidth, type_widths}
use Rattle.ir_ast.specs.Faults.TypeClash.{Fits}
use Rattle.ir_printer.specs.Names.{Names}
use Rattle.ir_printer.specs.Calls.{callee_name}
use Rattle.ir_printer.specs.Lines.{operator_text, arithmetic_text, conversion_text}
use Rattle.ir_ast.specs.declared.modules.Form.{Form as TextForm}
use Rattle.ir_ast.specs.declared.modules.Form.TheVariants as text_forms
use Rattle.line_parts.specs.Groups.{is_value_given, takes_own}
use Rattle.ir_reader.specs.declared.states.Counted.TheVariants as kinds
use Rattle.line_parts.specs.Types as types
use Rattle.line_tokens.specs.declared.words.Binary.{Binary}
use Rattle.line_tokens.specs.declared.words.Binary.TheVariants as binaries
use Rattle.line_tokens.specs.declared.words.Conversion.{Conversion}
use Rattle.line_tokens.specs.declared.words.Conversion.TheVariants as conversions
use Rattle.line_tokens.specs.Words.{binary_word, conversion_word}
use Rattle.line_parts.specs.Lists.{is_argument_type, is_task_start}
use Rattle.line_parts.specs.Parts.{is_scalar_type}
use Rattle.read_back.specs.Said.{width_in, result_of, parameter_says, operator_says, binary_says, convert_says}
use Rattle.read_back.proofs.Fronts.{FunctionsOf, later_functions, front_fit, zip_take, front_functions}
use Rattle.read_back.proofs.BackLists.{CalleeBelow}
use Rattle.read_back.proofs.BackInsts.{IsPrintedIn, split_all, callee_parts, passed_functions, kept_of}
use Rattle.read_back.proofs.BackNames.{IsKept}
use Rattle.read_back.proofs.BackLines.{by_parts, result-is, no_result, integer-is, void-is, pointer-is, condition-is}
use Rattle.read_back.proofs.Operands.{HaveNames, IsNarrow, narrow_of, in_types}
use Rattle.read_back.proofs.OneLine.{OneLine, LineIn, counted_as, one_in, made, binary_reads, compare_reads, load_reads, store_reads, jump_reads, return_void_reads, unreachable_reads}
use Rattle.read_back.proofs.MoreLines.{convert_reads, select_reads, branch_reads, return_reads}
use Rattle.read_back.proofs.StepLines.{integer_step_reads, pointer_step_reads, layout_step_reads, field_step_reads}
use Rattle.read_back.proofs.CallLines.{PassedReads, passed_given, value_passed, function_passed, value_call_reads, void_call_reads, EntryFits, phi_reads}
use Rattle.read_back.proofs.BundleLines.{IsLive}
use Rattle.read_back.proofs.GroupLines.{IsTaken, IsGuarded, statepoint_reads, result_reads, relocate_reads}
use Rattle.read_back.proofs.SwitchLines.{CaseFits, switch_says_so}
use Rattle.read_back.proofs.Chains.{InstSays, line_says}

-- an instruction by its parts, which keeps nothing
made_is : (inst : Instruction) (result : Option (List ℕ)) (op : Op) (ty : Ty) (os : List Operand) (labels : List BlockId)
    → result ≡ inst.result → op ≡ inst.op → ty ≡ inst.ty → os ≡ inst.operands → labels ≡ inst.labels → inst.bundle ≡ [] → made result op ty os labels ≡ inst
made_is inst result op ty os labels r o t p l b = by_parts inst result op ty os labels [] r o t p l (sym b)

-- a value that fits a type
abbrev Fit : Names → Operand → Ty → Type 0
Fit names o ty = (is_value o ≡ true) × Fits (value_types names.func) o ty

fit_each : (names : Names) (os : List Operand) (ts : List Ty) → AllZip (Fits (value_types names.func)) os ts → list_all is_value os ≡ true → AllZip (Fit names) os ts
fit_each names [] [] fit value = tt
fit_each names [] (t ∷ ts) fit value = absurd fit
fit_each names (o ∷ os) [] fit value = absurd fit
fit_each names (o ∷ os) (t ∷ ts) fit value =
    let both = and_parts (is_value o) (list_all is_value os) value in ((both.0, fit.0), fit_each names os ts fit.1 both.1)

one_fit : (names : Names) (os : List Operand) (t : Ty) → AllZip (Fit names) os (t ∷ []) → (a : Operand) × (a ∷ [] ≡ os) × Fit names a t
one_fit names [] t fit = absurd fit
one_fit names (a ∷ []) t fit = (a, refl, fit.0)
one_fit names (a ∷ b ∷ os) t fit = absurd fit.1

two_fit : (names : Names) (os : List Operand) (t u : Ty) → AllZip (Fit names) os (t ∷ u ∷ []) → (a : Operand) × (b : Operand) × (a ∷ b ∷ [] ≡ os) × Fit names a t × Fit names b u
two_fit names [] t u fit = absurd fit
two_fit names (a ∷ []) t u fit = absurd fit.1
two_fit names (a ∷ b ∷ []) t u fit = (a, b, refl, fit.0, fit.1.0)
two_fit names (a ∷ b ∷ c ∷ os) t u fit = absurd fit.1.1

three_fit : (names : Names) (os : List Operand) (t u v : Ty) → AllZip (Fit names) os (t ∷ u ∷ v ∷ []) → (a : Operand) × (b : Operand) × (c : Operand) × (a ∷ b ∷ c ∷ [] ≡ os) × Fit names a t × Fit names b u × Fit names c v
three_fit names [] t u v fit = absurd fit
three_fit names (a ∷ []) t u v fit = absurd fit.1
three_fit names (a ∷ b ∷ []) t u v fit = absurd fit.1.1
three_fit names (a ∷ b ∷ c ∷ []) t u v fit = (a, b, c, refl, fit.0, fit.1.0, fit.1.1.0)
three_fit names (a ∷ b ∷ c ∷ d ∷ os) t u v fit = absurd fit.1.1.1

-- of a line that asks the same type of all operands
same_fit : (names : Names) (inst : Instruction) (n : ℕ) → length inst.operands ≡ n → list_all is_value inst.operands ≡ true
    → AllZip (Fits (value_types names.func)) inst.operands (replicate (length inst.operands) inst.ty) → AllZip (Fit names) inst.operands (replicate n inst.ty)
same_fit names inst n count value fit =
    fit_each names inst.operands (replicate n inst.ty) (subst (λ (k : ℕ). AllZip (Fits (value_types names.func)) inst.operands (replicate k inst.ty)) count fit) value

-- what is known of an instruction, and that its result has a name of texts
pub record IsPrintable (of : TextForm) (names : Names) (op : Op) (inst : Instruction) : Type 0 where
  pub printed : IsPrintedIn of names op inst
  pub named : is_some inst.result ≡ true → is_name (result_of inst) ≡ true
  pub kept : length inst.bundle ≤ 64
  -- of a statepoint
  pub few : length (live_entries op inst.operands) ≤ 16384
  pub counted : (id : ℕ) (callee : Callee) (takes : List Ty) → op ≡ ops.Statepoint id callee takes → length takes < 2 ^ 64

abbrev Reads : Names → Instruction → Type 0
Reads names inst = OneLine names inst

integer_narrow : (ty : Ty) → is_integer ty ≡ true → All IsWidth (type_widths ty) → (1 ≤ width_in ty) × (width_in ty ≤ 64)
integer_narrow (tys.Int w) is widths = All-head IsWidth w [] widths
integer_narrow tys.Void is widths = absurd cc
integer_narrow tys.Ptr is widths = absurd cc
integer_narrow tys.Token is widths = absurd cc

-- a fit for a type that is another one's name
refit : (names : Names) (o : Operand) (t u : Ty) → t ≡ u → Fits (value_types names.func) o u → Fits (value_types names.func) o t
refit names o t u same fit = subst (λ (x : Ty). Fits (value_types names.func) o x) (sym same) fit

binary_case : {of : TextForm} (names : Names) → HaveNames names → (op : Binary) (o : Op) (inst : Instruction) → IsPrintable of names o inst → Has true is_integer 2 0 inst
    → AllZip (Fits (value_types names.func)) inst.operands (replicate (length inst.operands) inst.ty)
    → ((n : List ℕ) (bits : ℕ) (a b : Operand) → operator_text names o (made (Some n) o (tys.Int bits) (a ∷ b ∷ []) []) ≡ arithmetic_text names (binary_word op) (made (Some n) o (tys.Int bits) (a ∷ b ∷ []) []))
    → ((n : List ℕ) (bits : ℕ) (a b : Operand) → operator_says names o (made (Some n) o (tys.Int bits) (a ∷ b ∷ []) []) ≡ binary_says names op (made (Some n) o (tys.Int bits) (a ∷ b ∷ []) []) ∷ [])
    → is_terminator o ≡ false → Reads names inst
binary_case names have op o inst p has fits text say inside =
    let two = two_fit names inst.operands inst.ty inst.ty (same_fit names inst 2 has.operand_count has.values fits) in
    let bits : ℕ = width_in inst.ty in
    let same : tys.Int bits ≡ inst.ty = integer-is inst.ty has.type in
    let n : List ℕ = result_of inst in
    subst (Reads names) (made_is inst (Some n) o (tys.Int bits) (two.0 ∷ two.1 ∷ []) [] (result-is inst.result has.result) p.printed.is same two.2 (sym (nil_from_length inst.labels has.label_count)) has.no_bundle)
    (binary_reads names have op o n bits two.0 two.1 (p.named has.result) (integer_narrow inst.ty has.type p.printed.widths) two.3.0 two.4.0
    (refit names two.0 (tys.Int bits) inst.ty same two.3.1) (refit names two.1 (tys.Int bits) inst.ty same two.4.1) (text n bits two.0 two.1) (say n bits two.0 two.1) inside)

convert_case : {of : TextForm} (names : Names) → HaveNames names → (op : Conversion) (o : Op) (to : ℕ) (inst : Instruction) → IsPrintable of names o inst → Has true is_integer 1 0 inst
    → AllZip (Fits (value_types names.func)) inst.operands (replicate (length inst.operands) inst.ty) → (1 ≤ to) × (to ≤ 64)
    → ((n : List ℕ) (bits : ℕ) (a : Operand) → operator_text names o (made (Some n) o (tys.Int bits) (a ∷ []) []) ≡ conversion_text names (conversion_word op) to (made (Some n) o (tys.Int bits) (a ∷ []) []))
    → ((n : List ℕ) (bits : ℕ) (a : Operand) → operator_says names o (made (Some n) o (tys.Int bits) (a ∷ []) []) ≡ convert_says names op to (made (Some n) o (tys.Int bits) (a ∷ []) []) ∷ [])
    → is_terminator o ≡ false → Reads names inst
convert_case names have op o to inst p has fits high text say inside =
    let one = one_fit names inst.operands inst.ty (same_fit names inst 1 has.operand_count has.values fits) in
    let bits : ℕ = width_in inst.ty in
    let same : tys.Int bits ≡ inst.ty = integer-is inst.ty has.type in
    let n : List ℕ = result_of inst in
    subst (Reads names) (made_is inst (Some n) o (tys.Int bits) (one.0 ∷ []) [] (result-is inst.result has.result) p.printed.is same one.1 (sym (nil_from_length inst.labels has.label_count)) has.no_bundle)
    (convert_reads names have op o n bits to one.0 (p.named has.result) (integer_narrow inst.ty has.type p.printed.widths) high one.2.0
    (refit names one.0 (tys.Int bits) inst.ty same one.2.1) (text n bits one.0) (say n bits one.0) inside)

-- ---- steps of addresses

scalar_width : (w : ℕ) (place : Option ℕ) → is_element (elements.Int w) place ≡ true → (place ≡ None) × (is_scalar_type (types.Int w) ≡ true)
scalar_width w None is = (refl, (and_parts (w == 8 || w == 16 || w == 32 || w == 64) true is).0)
scalar_width w (Some n) is = absurd (let bad = and_parts (w == 8 || w == 16 || w == 32 || w == 64) false is in cc)

pointer_place : (place : Option ℕ) → is_element elements.Ptr place ≡ true → place ≡ None
pointer_place None is = refl
pointer_place (Some n) is = cc

-- a line by the two operands of its step
abbrev StepParts : Names → Elem → ℕ → Option ℕ → Instruction → Type 0
StepParts names elem bits place inst = (a : Operand) → (b : Operand) → Fit names a tys.Ptr → Fit names b (tys.Int bits)
    → OneLine names (made (Some (result_of inst)) (ops.Gep elem bits place) tys.Ptr (a ∷ b ∷ []) [])

step_case : {of : TextForm} (names : Names) (elem : Elem) (bits : ℕ) (place : Option ℕ) (inst : Instruction) → IsPrintable of names (ops.Gep elem bits place) inst → StepParts names elem bits place inst → Reads names inst
step_case names elem bits place inst p parts =
    let has = p.printed.line.0 in
    let two = two_fit names inst.operands tys.Ptr (tys.Int bits) (fit_each names inst.operands (tys.Ptr ∷ tys.Int bits ∷ []) p.printed.fits has.values) in
    subst (Reads names) (made_is inst (Some (result_of inst)) (ops.Gep elem bits place) tys.Ptr (two.0 ∷ two.1 ∷ []) [] (result-is inst.result has.result) p.printed.is (pointer-is inst.ty has.type) two.2
    (sym (nil_from_length inst.labels has.label_count)) has.no_bundle) (parts two.0 two.1 two.3 two.4)

step_reads : {of : TextForm} (names : Names) → HaveNames names → (elem : Elem) (bits : ℕ) (place : Option ℕ) (inst : Instruction) → IsPrintable of names (ops.Gep elem bits place) inst → Reads names inst
step_reads names have (elements.Int w) bits None inst p =
    let widths = recursion_from_All IsWidth (w ∷ bits ∷ []) p.printed.own_widths in
    let scalar = scalar_width w None p.printed.line.1 in
    step_case names (elements.Int w) bits None inst p (λ a b fa fb.
    integer_step_reads names have (result_of inst) w bits a b (p.named p.printed.line.0.result) widths.0 scalar.1 widths.1.0 fa.0 fb.0 fa.1 fb.1)
step_reads names have (elements.Int w) bits (Some n) inst p = absurd (let bad = (scalar_width w (Some n) p.printed.line.1).0 in cc)
step_reads names have elements.Ptr bits None inst p =
    let widths = recursion_from_All IsWidth (bits ∷ []) p.printed.own_widths in
    step_case names elements.Ptr bits None inst p (λ a b fa fb.
    pointer_step_reads names have (result_of inst) bits a b (p.named p.printed.line.0.result) widths.0 fa.0 fb.0 fa.1 fb.1)
step_reads names have elements.Ptr bits (Some n) inst p = absurd (let bad = pointer_place (Some n) p.printed.line.1 in cc)
step_reads names have (elements.Layout l) bits None inst p =
    let widths = recursion_from_All IsWidth (bits ∷ []) p.printed.own_widths in
    step_case names (elements.Layout l) bits None inst p (λ a b fa fb.
    layout_step_reads names have (result_of inst) l bits a b (p.named p.printed.line.0.result) p.printed.layouts.0 widths.0 fa.0 fb.0 fa.1 fb.1)
step_reads names have (elements.Layout l) bits (Some n) inst p =
    let widths = recursion_from_All IsWidth (bits ∷ []) p.printed.own_widths in
    let small : n < 2 ^ 32 = p.printed.place l bits n refl in
    let less : n < 2 ^ 64 = omega arith in
    step_case names (elements.Layout l) bits (Some n) inst p (λ a b fa fb.
    field_step_reads names have (result_of inst) l bits n a b (p.named p.printed.line.0.result) p.printed.layouts.0 widths.0 less fa.0 fb.0 fa.1 fb.1)

-- ---- calls

-- a function's name is passed to `task_start` alone
function_is : (callee : Callee) (f : FuncId) (ty : Ty) → is_argument callee (operands.Fun f) ty ≡ true → (callee ≡ callees.TaskStart) × (ty ≡ tys.Void)
function_is callees.TaskStart f ty is = (refl, sym (void-is ty is))
function_is (callees.Fun g) f ty is = absurd cc
function_is (callees.New l) f ty is = absurd cc
function_is callees.Print f ty is = absurd cc
function_is callees.Read f ty is = absurd cc
function_is callees.Poll f ty is = absurd cc
function_is callees.Check f ty is = absurd cc
function_is callees.Same f ty is = absurd cc

value_is : (callee : Callee) (o : Operand) (ty : Ty) → is_value o ≡ true → is_argument callee o ty ≡ true → is_first_class ty ≡ true
value_is callees.TaskStart (operands.Fun f) ty value is = absurd cc
value_is callees.TaskStart o ty value is = is
value_is callee (operands.Fun f) ty value is = absurd cc
value_is callee o ty value is = is

argument_reads : (names : Names) → HaveNames names → (callee : Callee) (o : Operand) (ty : Ty) → is_argument callee o ty ≡ true → Fits (value_types names.func) o ty → IsNarrow ty
    → FunctionsOf (λ named. named < length names.funcs) (o ∷ []) → PassedReads (is_task_start (callee_name names callee)) names (ty, o)
argument_reads names have callee (operands.Fun f) ty is fits narrow functions =
    let here = function_is callee f ty is in
    subst (λ (c : Callee). PassedReads (is_task_start (callee_name names c)) names (ty, operands.Fun f)) (sym here.0)
    (subst (λ (t : Ty). PassedReads true names (t, operands.Fun f)) (sym here.1) (function_passed names have f functions.0))
argument_reads names have callee (operands.Value v) ty is fits narrow functions =
    value_passed (is_task_start (callee_name names callee)) names have ty (operands.Value v) refl (value_is callee (operands.Value v) ty refl is) narrow fits
argument_reads names have callee (operands.Int n) ty is fits narrow functions =
    value_passed (is_task_start (callee_name names callee)) names have ty (operands.Int n) refl (value_is callee (operands.Int n) ty refl is) narrow fits
argument_reads names have callee operands.Null ty is fits narrow functions =
    value_passed (is_task_start (callee_name names callee)) names have ty operands.Null refl (value_is callee operands.Null ty refl is) narrow fits

first_functions : (P : ℕ → Type 0) (o : Operand) (os : List Operand) → FunctionsOf P (o ∷ os) → FunctionsOf P (o ∷ [])
first_functions P (operands.Fun f) os all = (all.0, tt)
first_functions P (operands.Value v) os all = tt
first_functions P (operands.Int n) os all = tt
first_functions P operands.Null os all = tt

arguments_read : (names : Names) → HaveNames names → (callee : Callee) (os : List Operand) (ts : List Ty) → AllZip (Fits (value_types names.func)) os ts → Arguments callee os ts
    → FunctionsOf (λ named. named < length names.funcs) os → AllByRecursion IsWidth (flat_map type_widths ts)
    → AllByRecursion (PassedReads (is_task_start (callee_name names callee)) names) (zip ts os)
arguments_read names have callee [] [] fit arguments functions widths = tt
arguments_read names have callee [] (t ∷ ts) fit arguments functions widths = absurd fit
arguments_read names have callee (o ∷ os) [] fit arguments functions widths = absurd fit
arguments_read names have callee (o ∷ os) (t ∷ ts) fit arguments functions widths =
    let w = split_all IsWidth (type_widths t) (flat_map type_widths ts) widths in
    let known : ℕ → Type 0 = λ named. named < length names.funcs in (
      argument_reads names have callee o t arguments.0 fit.0 (narrow_of t (All-from_recursion IsWidth (type_widths t) w.0)) (first_functions known o os functions),
      arguments_read names have callee os ts fit.1 arguments.1 (later_functions known o os functions) w.1,
    )

answer_is : (ty : Ty) → is_answer ty ≡ true → is_void ty ≡ false → is_first_class ty ≡ true
answer_is tys.Void answers value = cc
answer_is (tys.Int w) answers value = refl
answer_is tys.Ptr answers value = refl
answer_is tys.Token answers value = cc

call_reads : {of : TextForm} (names : Names) → HaveNames names → (callee : Callee) (ts : List Ty) (inst : Instruction) → IsPrintable of names (ops.Call callee ts) inst → Reads names inst
call_reads names have callee ts inst p = by (is_void inst.ty) refl
  where
    there : CalleeBelow names callee × AllByRecursion (λ named. named < length names.funcs) (functions_named (record inst { op = ops.Load }))
    there = callee_parts names callee ts inst p.printed.layouts p.printed.functions

    passed : FunctionsOf (λ named. named < length names.funcs) inst.operands
    passed = passed_functions (λ named. named < length names.funcs) inst there.1

    all : AllByRecursion (PassedReads (is_task_start (callee_name names callee)) names) (zip ts inst.operands)
    all = arguments_read names have callee inst.operands ts p.printed.fits p.printed.line.arguments passed (recursion_from_All IsWidth (flat_map type_widths ts) p.printed.own_widths)

    kept : AllByRecursion (IsKept names) inst.bundle
    kept = kept_of names (ops.Call callee ts) inst p.printed p.printed.line.bundle

    by : (void : Bool) → is_void inst.ty ≡ void → Reads names inst
    by true is =
        let none : is_some inst.result ≡ false = p.printed.line.result ∙ ap not is in
        subst (Reads names) (by_parts inst None (ops.Call callee ts) tys.Void inst.operands [] inst.bundle (no_result inst.result none) p.printed.is (void-is inst.ty is) refl (sym p.printed.line.no_labels) refl)
        (void_call_reads names have callee ts inst.operands inst.bundle there.0 all kept p.kept)
    by false is =
        let some : is_some inst.result ≡ true = p.printed.line.result ∙ ap not is in
        subst (Reads names) (by_parts inst (Some (result_of inst)) (ops.Call callee ts) inst.ty inst.operands [] inst.bundle (result-is inst.result some) p.printed.is refl refl (sym p.printed.line.no_labels) refl)
        (value_call_reads names have callee ts (result_of inst) inst.ty inst.operands inst.bundle (p.named some) (answer_is inst.ty p.printed.line.type is) (narrow_of inst.ty p.printed.widths) there.0 all kept p.kept)

-- ---- phis and switches

abbrev Low : Names → BlockId → Type 0
Low names label = label.0 < length names.func.blocks

entries_of : (names : Names) (ty : Ty) (os : List Operand) (ls : List BlockId) → AllZip (Fit names) os (replicate (length os) ty) → AllByRecursion (Low names) ls → AllByRecursion (EntryFits names ty) (zip os ls)
entries_of names ty [] [] fit low = tt
entries_of names ty [] (l ∷ ls) fit low = tt
entries_of names ty (o ∷ os) [] fit low = tt
entries_of names ty (o ∷ os) (l ∷ ls) fit low = (record { value = fit.0.0; fits = fit.0.1; low = low.0 }, entries_of names ty os ls fit.1 low.1)

cases_of : (names : Names) (ty : Ty) (os : List Operand) (ls : List BlockId) → list_all is_literal os ≡ true → AllByRecursion (EntryFits names ty) (zip os ls) → AllByRecursion (CaseFits names ty) (zip os ls)
cases_of names ty [] [] literal all = tt
cases_of names ty [] (l ∷ ls) literal all = tt
cases_of names ty (o ∷ os) [] literal all = tt
cases_of names ty (o ∷ os) (l ∷ ls) literal all =
    let both = and_parts (is_literal o) (list_all is_literal os) literal in (record { literal = both.0; fit = all.0 }, cases_of names ty os ls both.1 all.1)

-- a list that has an element
opened : {X : Type 0} (xs : List X) → 0 < length xs → (x : X) × (more : List X) × (x ∷ more ≡ xs)
opened [] some = absurd (omega arith)
opened (x ∷ more) some = (x, more, refl)

phi_case : {of : TextForm} (names : Names) → HaveNames names → (inst : Instruction) → IsPrintable of names ops.Phi inst → Reads names inst
phi_case names have inst p =
    let has = p.printed.line.0 in
    let count : length inst.labels ≡ length inst.operands = has.label_count in
    let os = opened inst.operands p.printed.line.1 in
    let ls = opened inst.labels (let some = p.printed.line.1 in omega arith) in
    let all : AllByRecursion (EntryFits names inst.ty) (zip inst.operands inst.labels) =
    entries_of names inst.ty inst.operands inst.labels (same_fit names inst (length inst.operands) refl has.values p.printed.fits) p.printed.labels in
    let here : AllByRecursion (EntryFits names inst.ty) (zip (os.0 ∷ os.1) (ls.0 ∷ ls.1)) =
    subst (λ (xs : List Operand). AllByRecursion (EntryFits names inst.ty) (zip xs (ls.0 ∷ ls.1))) (sym os.2)
    (subst (λ (xs : List BlockId). AllByRecursion (EntryFits names inst.ty) (zip inst.operands xs)) (sym ls.2) all) in
    subst (Reads names) (made_is inst (Some (result_of inst)) ops.Phi inst.ty (os.0 ∷ os.1) (ls.0 ∷ ls.1) (result-is inst.result has.result) p.printed.is refl os.2 ls.2 has.no_bundle)
    (phi_reads names have (result_of inst) inst.ty os.0 os.1 ls.0 ls.1 (p.named has.result) has.type (narrow_of inst.ty p.printed.widths) here)

switch_case : (of : TextForm) (names : Names) → HaveNames names → (inst : Instruction) → IsPrintable of names ops.Switch inst → InstSays of names inst
switch_case of names have inst p =
    let has = p.printed.line.0 in
    let bits : ℕ = width_in inst.ty in
    let same : tys.Int bits ≡ inst.ty = integer-is inst.ty has.type in
    let count : length inst.labels ≡ length inst.operands = has.label_count in
    let os = opened inst.operands p.printed.line.1 in
    let ls = opened inst.labels (let some = p.printed.line.1 in omega arith) in
    let all : AllByRecursion (EntryFits names inst.ty) (zip inst.operands inst.labels) =
    entries_of names inst.ty inst.operands inst.labels (same_fit names inst (length inst.operands) refl has.values p.printed.fits) p.printed.labels in
    let here : AllByRecursion (EntryFits names inst.ty) (zip (os.0 ∷ os.1) (ls.0 ∷ ls.1)) =
    subst (λ (xs : List Operand). AllByRecursion (EntryFits names inst.ty) (zip xs (ls.0 ∷ ls.1))) (sym os.2)
    (subst (λ (xs : List BlockId). AllByRecursion (EntryFits names inst.ty) (zip inst.operands xs)) (sym ls.2) all) in
    let sized : AllByRecursion (EntryFits names (tys.Int bits)) (zip (os.0 ∷ os.1) (ls.0 ∷ ls.1)) =
    subst (λ (t : Ty). AllByRecursion (EntryFits names t) (zip (os.0 ∷ os.1) (ls.0 ∷ ls.1))) (sym same) here in
    let literal : list_all is_literal os.1 ≡ true = subst (λ (xs : List Operand). list_all is_literal (drop 1 xs) ≡ true) (sym os.2) p.printed.line.2 in
    subst (InstSays of names) (made_is inst None ops.Switch (tys.Int bits) (os.0 ∷ os.1) (ls.0 ∷ ls.1) (no_result inst.result has.result) p.printed.is same os.2 ls.2 has.no_bundle)
    (switch_says_so of names have bits os.0 os.1 ls.0 ls.1 (integer_narrow inst.ty has.type p.printed.widths) sized.0 (cases_of names (tys.Int bits) os.1 ls.1 literal sized.1))

-- ---- terminators

jump_case : {of : TextForm} (names : Names) → HaveNames names → (inst : Instruction) → IsPrintable of names ops.Br inst → Reads names inst
jump_case names have inst p =
    let has = p.printed.line in
    let count : length inst.labels ≡ 1 = has.label_count in
    let one = opened inst.labels (omega arith) in
    let whole : length (one.0 ∷ one.1) ≡ 1 = ap length one.2 ∙ count in
    let none : one.1 ≡ [] = nil_from_length one.1 (omega arith) in
    let is : one.0 ∷ [] ≡ inst.labels = ap (λ (xs : List BlockId). one.0 ∷ xs) (sym none) ∙ one.2 in
    let low : AllByRecursion (Low names) (one.0 ∷ []) = subst (AllByRecursion (Low names)) (sym is) p.printed.labels in
    subst (Reads names) (made_is inst None ops.Br tys.Void [] (one.0 ∷ []) (no_result inst.result has.result) p.printed.is (void-is inst.ty has.type) (sym (nil_from_length inst.operands has.operand_count)) is has.no_bundle)
    (jump_reads names have one.0 low.0)

two_labels : (ls : List BlockId) → length ls ≡ 2 → (l : BlockId) × (m : BlockId) × (l ∷ m ∷ [] ≡ ls)
two_labels [] count = absurd (omega arith)
two_labels (l ∷ []) count = absurd (omega arith)
two_labels (l ∷ m ∷ []) count = (l, m, refl)
two_labels (l ∷ m ∷ n ∷ ls) count = absurd (omega arith)

branch_case : {of : TextForm} (names : Names) → HaveNames names → (inst : Instruction) → IsPrintable of names ops.CondBr inst → Reads names inst
branch_case names have inst p =
    let has = p.printed.line in
    let same : tys.Int 1 ≡ inst.ty = condition-is inst.ty has.type in
    let one = one_fit names inst.operands inst.ty (same_fit names inst 1 has.operand_count has.values p.printed.fits) in
    let two = two_labels inst.labels has.label_count in
    let low : AllByRecursion (Low names) (two.0 ∷ two.1 ∷ []) = subst (AllByRecursion (Low names)) (sym two.2) p.printed.labels in
    subst (Reads names) (made_is inst None ops.CondBr inst.ty (one.0 ∷ []) (two.0 ∷ two.1 ∷ []) (no_result inst.result has.result) p.printed.is refl one.1 two.2 has.no_bundle)
    (branch_reads names have inst.ty one.0 two.0 two.1 one.2.0 (refit names one.0 (tys.Int 1) inst.ty same one.2.1) low.0 low.1.0)

return_case : {of : TextForm} (names : Names) → HaveNames names → (inst : Instruction) → IsPrintable of names ops.Ret inst → Reads names inst
return_case names have inst p = by (is_void inst.ty) refl
  where
    has : Has false is_answer (if is_void inst.ty then 0 else 1) 0 inst
    has = p.printed.line

    by : (void : Bool) → is_void inst.ty ≡ void → Reads names inst
    by true is =
        let none : length inst.operands ≡ 0 = has.operand_count ∙ ap (λ (b : Bool). if b then 0 else 1) is in
        subst (Reads names) (made_is inst None ops.Ret tys.Void [] [] (no_result inst.result has.result) p.printed.is (void-is inst.ty is) (sym (nil_from_length inst.operands none))
        (sym (nil_from_length inst.labels has.label_count)) has.no_bundle) (return_void_reads names)
    by false is =
        let some : length inst.operands ≡ 1 = has.operand_count ∙ ap (λ (b : Bool). if b then 0 else 1) is in
        let one = one_fit names inst.operands inst.ty (same_fit names inst 1 some has.values p.printed.fits) in
        subst (Reads names) (made_is inst None ops.Ret inst.ty (one.0 ∷ []) [] (no_result inst.result has.result) p.printed.is refl one.1 (sym (nil_from_length inst.labels has.label_count)) has.no_bundle)
        (return_reads names have inst.ty one.0 (answer_is inst.ty has.type is) (narrow_of inst.ty p.printed.widths) one.2.0 one.2.1)

-- ---- the others

compare_case : {of : TextForm} (names : Names) → HaveNames names → (pred : Pred) (inst : Instruction) → IsPrintable of names (ops.Icmp pred) inst → Reads names inst
compare_case names have pred inst p =
    let has = p.printed.line in
    let two = two_fit names inst.operands inst.ty inst.ty (same_fit names inst 2 has.operand_count has.values p.printed.fits) in
    subst (Reads names) (made_is inst (Some (result_of inst)) (ops.Icmp pred) inst.ty (two.0 ∷ two.1 ∷ []) [] (result-is inst.result has.result) p.printed.is refl two.2 (sym (nil_from_length inst.labels has.label_count)) has.no_bundle)
    (compare_reads names have pred (result_of inst) inst.ty two.0 two.1 (p.named has.result) has.type (narrow_of inst.ty p.printed.widths) two.3.0 two.4.0 two.3.1 two.4.1)

select_case : {of : TextForm} (names : Names) → HaveNames names → (inst : Instruction) → IsPrintable of names ops.Select inst → Reads names inst
select_case names have inst p =
    let has = p.printed.line in
    let three = three_fit names inst.operands (tys.Int 1) inst.ty inst.ty (fit_each names inst.operands (tys.Int 1 ∷ inst.ty ∷ inst.ty ∷ []) p.printed.fits has.values) in
    subst (Reads names) (made_is inst (Some (result_of inst)) ops.Select inst.ty (three.0 ∷ three.1 ∷ three.2 ∷ []) [] (result-is inst.result has.result) p.printed.is refl three.3 (sym (nil_from_length inst.labels has.label_count)) has.no_bundle)
    (select_reads names have (result_of inst) inst.ty three.0 three.1 three.2 (p.named has.result) has.type (narrow_of inst.ty p.printed.widths) three.4.0 three.5.0 three.6.0 three.4.1 three.5.1 three.6.1)

load_case : {of : TextForm} (names : Names) → HaveNames names → (inst : Instruction) → IsPrintable of names ops.Load inst → Reads names inst
load_case names have inst p =
    let has = p.printed.line in
    let one = one_fit names inst.operands tys.Ptr (fit_each names inst.operands (tys.Ptr ∷ []) p.printed.fits has.values) in
    subst (Reads names) (made_is inst (Some (result_of inst)) ops.Load inst.ty (one.0 ∷ []) [] (result-is inst.result has.result) p.printed.is refl one.1 (sym (nil_from_length inst.labels has.label_count)) has.no_bundle)
    (load_reads names have (result_of inst) inst.ty one.0 (p.named has.result) has.type (narrow_of inst.ty p.printed.widths) one.2.0 one.2.1)

store_case : {of : TextForm} (names : Names) → HaveNames names → (inst : Instruction) → IsPrintable of names ops.Store inst → Reads names inst
store_case names have inst p =
    let has = p.printed.line in
    let two = two_fit names inst.operands inst.ty tys.Ptr (fit_each names inst.operands (inst.ty ∷ tys.Ptr ∷ []) p.printed.fits has.values) in
    subst (Reads names) (made_is inst None ops.Store inst.ty (two.0 ∷ two.1 ∷ []) [] (no_result inst.result has.result) p.printed.is refl two.2 (sym (nil_from_length inst.labels has.label_count)) has.no_bundle)
    (store_reads names have inst.ty two.0 two.1 has.type (narrow_of inst.ty p.printed.widths) two.3.0 two.4.0 two.3.1 two.4.1)

unreachable_case : {of : TextForm} (names : Names) (inst : Instruction) → IsPrintable of names ops.Unreachable inst → Reads names inst
unreachable_case names inst p =
    let has = p.printed.line in
    subst (Reads names) (made_is inst None ops.Unreachable tys.Void [] [] (no_result inst.result has.result) p.printed.is (void-is inst.ty has.type) (sym (nil_from_length inst.operands has.operand_count)) (sym (nil_from_length inst.labels has.label_count)) has.no_bundle)
    (unreachable_reads names)

own_width : (w : ℕ) → All IsWidth (w ∷ []) → (1 ≤ w) × (w ≤ 64)
own_width w widths = All-head IsWidth w [] widths

-- ---- statepoint groups

live_fits : (names : Names) (os : List Operand) (k : ℕ) → AllZip (Fits (value_types names.func)) os (replicate k tys.Ptr) → list_all is_value os ≡ true → AllByRecursion (IsLive names) os
live_fits names [] k fit value = tt
live_fits names (o ∷ os) zero fit value = absurd fit
live_fits names (o ∷ os) (suc k) fit value =
    let both = and_parts (is_value o) (list_all is_value os) value in (record { value = both.0; fits = fit.0 }, live_fits names os k fit.1 both.1)

-- an argument that isn't the name of a function is of a first class type
argument_first : (callee : Callee) (o : Operand) (ty : Ty) → is_argument callee o ty ≡ true → ¬ (callee ≡ callees.TaskStart) → is_first_class ty ≡ true
argument_first callee (operands.Fun f) ty is other = absurd (other (function_is callee f ty is).0)
argument_first callee (operands.Value v) ty is other = value_is callee (operands.Value v) ty refl is
argument_first callee (operands.Int n) ty is other = value_is callee (operands.Int n) ty refl is
argument_first callee operands.Null ty is other = value_is callee operands.Null ty refl is

token_passed : (callee : Callee) (o : Operand) → is_argument callee o tys.Token ≡ true → ⊥
token_passed callee (operands.Fun f) is = let void : tys.Token ≡ tys.Void = (function_is callee f tys.Token is).1 in cc
token_passed callee (operands.Value v) is = let bad : false ≡ true = value_is callee (operands.Value v) tys.Token refl is in cc
token_passed callee (operands.Int n) is = let bad : false ≡ true = value_is callee (operands.Int n) tys.Token refl is in cc
token_passed callee operands.Null is = let bad : false ≡ true = value_is callee operands.Null tys.Token refl is in cc

taken_is : (callee : Callee) (o : Operand) (ty : Ty) → is_argument callee o ty ≡ true → IsNarrow ty → IsTaken ty
taken_is callee o tys.Void is narrow = tt
taken_is callee o (tys.Int width) is narrow = (refl, narrow)
taken_is callee o tys.Ptr is narrow = (refl, tt)
taken_is callee o tys.Token is narrow = absurd (token_passed callee o is)

all_taken : (callee : Callee) (os : List Operand) (ts : List Ty) → Arguments callee os ts → AllByRecursion IsWidth (flat_map type_widths ts) → AllByRecursion IsTaken ts
all_taken callee [] [] arguments widths = tt
all_taken callee [] (t ∷ ts) arguments widths = absurd arguments
all_taken callee (o ∷ os) [] arguments widths = absurd arguments
all_taken callee (o ∷ os) (t ∷ ts) arguments widths =
    let w = split_all IsWidth (type_widths t) (flat_map type_widths ts) widths in
    (taken_is callee o t arguments.0 (narrow_of t (All-from_recursion IsWidth (type_widths t) w.0)), all_taken callee os ts arguments.1 w.1)

first_other : (ty : Ty) → is_first_class ty ≡ true → is_argument_type false (parameter_says ty) ≡ true
first_other tys.Void first = absurd (let bad : false ≡ true = first in cc)
first_other (tys.Int width) first = refl
first_other tys.Ptr first = refl
first_other tys.Token first = absurd (let bad : false ≡ true = first in cc)

value_types_alone : (callee : Callee) (os : List Operand) (ts : List Ty) → ¬ (callee ≡ callees.TaskStart) → Arguments callee os ts → list_all (is_argument_type false) (map parameter_says ts) ≡ true
value_types_alone callee [] [] other arguments = refl
value_types_alone callee [] (t ∷ ts) other arguments = absurd arguments
value_types_alone callee (o ∷ os) [] other arguments = refl
value_types_alone callee (o ∷ os) (t ∷ ts) other arguments = rw (first_other t (argument_first callee o t arguments.0 other)) (value_types_alone callee os ts other arguments.1)

values_alone : (names : Names) (callee : Callee) (os : List Operand) (ts : List Ty) → ¬ (callee ≡ callees.TaskStart) → Arguments callee os ts → list_all is_value_given (map (passed_given names) (zip ts os)) ≡ true
values_alone names callee [] [] other arguments = refl
values_alone names callee [] (t ∷ ts) other arguments = refl
values_alone names callee (o ∷ os) [] other arguments = refl
values_alone names callee (operands.Fun f ∷ os) (t ∷ ts) other arguments = absurd (other (function_is callee f t arguments.0).0)
values_alone names callee (operands.Value v ∷ os) (t ∷ ts) other arguments = values_alone names callee os ts other arguments.1
values_alone names callee (operands.Int n ∷ os) (t ∷ ts) other arguments = values_alone names callee os ts other arguments.1
values_alone names callee (operands.Null ∷ os) (t ∷ ts) other arguments = values_alone names callee os ts other arguments.1

no_pointers : (names : Names) (callee : Callee) (os : List Operand) (ts : List Ty) → ¬ (callee ≡ callees.TaskStart) → Arguments callee os ts
    → (list_all (is_argument_type false) (map parameter_says ts) && list_all is_value_given (map (passed_given names) (zip ts os))) ≡ true
no_pointers names callee os ts other arguments = rw (value_types_alone callee os ts other arguments, values_alone names callee os ts other arguments) refl

takes_its_own : (names : Names) (callee : Callee) (os : List Operand) (ts : List Ty) → Arguments callee os ts → takes_own (callee_name names callee) (map parameter_says ts) (map (passed_given names) (zip ts os)) ≡ true
takes_its_own names callees.TaskStart os ts arguments = refl
takes_its_own names (callees.Fun g) os ts arguments = or_right (is_task_start (callee_name names (callees.Fun g))) _ (no_pointers names (callees.Fun g) os ts (λ e. cc) arguments)
takes_its_own names (callees.New l) os ts arguments = or_right (is_task_start (callee_name names (callees.New l))) _ (no_pointers names (callees.New l) os ts (λ e. cc) arguments)
takes_its_own names callees.Print os ts arguments = no_pointers names callees.Print os ts (λ e. cc) arguments
takes_its_own names callees.Read os ts arguments = no_pointers names callees.Read os ts (λ e. cc) arguments
takes_its_own names callees.Poll os ts arguments = no_pointers names callees.Poll os ts (λ e. cc) arguments
takes_its_own names callees.Check os ts arguments = no_pointers names callees.Check os ts (λ e. cc) arguments
takes_its_own names callees.Same os ts arguments = no_pointers names callees.Same os ts (λ e. cc) arguments

statepoint_case : {of : TextForm} (names : Names) → HaveNames names → (id : ℕ) (callee : Callee) (takes : List Ty) (inst : Instruction) → IsPrintable of names (ops.Statepoint id callee takes) inst → LineIn text_forms.Rewritten names inst
statepoint_case names have id callee takes inst p =
    subst (LineIn text_forms.Rewritten names) (by_parts inst (Some (result_of inst)) (ops.Statepoint id callee takes) inst.ty inst.operands [] inst.bundle (result-is inst.result p.printed.line.result) p.printed.is refl refl (sym p.printed.line.no_labels) refl)
    (statepoint_reads names have id callee takes (result_of inst) inst.ty inst.operands inst.bundle guarded (kept_of names (ops.Statepoint id callee takes) inst p.printed p.printed.line.bundle) p.kept)
  where
    there : CalleeBelow names callee × AllByRecursion (λ named. named < length names.funcs) (functions_named (record inst { op = ops.Load }))
    there = callee_parts names callee takes inst p.printed.layouts p.printed.functions

    functions : FunctionsOf (λ named. named < length names.funcs) inst.operands
    functions = passed_functions (λ named. named < length names.funcs) inst there.1

    front : List Operand
    front = take (length takes) inst.operands

    fits : AllZip (Fits (value_types names.func)) front takes × AllZip (Fits (value_types names.func)) (drop (length takes) inst.operands) (replicate (length inst.operands - length takes) tys.Ptr)
    fits = front_fit (Fits (value_types names.func)) inst.operands takes (replicate (length inst.operands - length takes) tys.Ptr) p.printed.fits

    widths : AllByRecursion IsWidth (flat_map type_widths takes)
    widths = recursion_from_All IsWidth (flat_map type_widths takes) p.printed.own_widths

    guarded : IsGuarded names callee takes (result_of inst) inst.ty inst.operands
    guarded = record {
      named = p.named p.printed.line.result;
      answers = p.printed.line.type;
      narrow = narrow_of inst.ty p.printed.widths;
      there = there.0;
      taken = all_taken callee front takes p.printed.line.arguments widths;
      own = subst (λ (pairs : List (Ty × Operand)). takes_own (callee_name names callee) (map parameter_says takes) (map (passed_given names) pairs) ≡ true) (zip_take takes inst.operands)
          (takes_its_own names callee front takes p.printed.line.arguments);
      passed = subst (AllByRecursion (PassedReads (is_task_start (callee_name names callee)) names)) (zip_take takes inst.operands)
          (arguments_read names have callee front takes fits.0 p.printed.line.arguments (front_functions (λ named. named < length names.funcs) (length takes) inst.operands functions) widths);
      live = live_fits names (drop (length takes) inst.operands) (length inst.operands - length takes) fits.1 p.printed.line.entries;
      few = p.few;
      counted = p.counted id callee takes refl;
    }

result_case : {of : TextForm} (names : Names) → HaveNames names → (inst : Instruction) → IsPrintable of names ops.GcResult inst → LineIn text_forms.Rewritten names inst
result_case names have inst p =
    let has = p.printed.line.0 in
    let token = p.printed.line.1 in
    let fit : AllZip (Fits (value_types names.func)) (operands.Value token.0 ∷ []) (tys.Token ∷ []) = subst (λ (os : List Operand). AllZip (Fits (value_types names.func)) os (tys.Token ∷ [])) token.1 p.printed.fits in
    subst (LineIn text_forms.Rewritten names) (made_is inst (Some (result_of inst)) ops.GcResult inst.ty (operands.Value token.0 ∷ []) [] (result-is inst.result has.result) p.printed.is refl (sym token.1) (sym (nil_from_length inst.labels has.label_count)) has.no_bundle)
    (result_reads names have (result_of inst) inst.ty token.0 (p.named has.result) has.type (narrow_of inst.ty p.printed.widths) (in_types names token.0.0 tys.Token fit.0))

relocate_case : {of : TextForm} (names : Names) → HaveNames names → (inst : Instruction) → IsPrintable of names ops.GcRelocate inst → LineIn text_forms.Rewritten names inst
relocate_case names have inst p =
    let has = p.printed.line.0 in
    let places = p.printed.line.1 in
    let token = places.2 in
    let fit : AllZip (Fits (value_types names.func)) (operands.Value token.0 ∷ operands.Int places.0 ∷ operands.Int places.1 ∷ []) (tys.Token ∷ tys.Int 32 ∷ tys.Int 32 ∷ []) =
    subst (λ (os : List Operand). AllZip (Fits (value_types names.func)) os (tys.Token ∷ tys.Int 32 ∷ tys.Int 32 ∷ [])) token.1 p.printed.fits in
    subst (LineIn text_forms.Rewritten names) (made_is inst (Some (result_of inst)) ops.GcRelocate tys.Ptr (operands.Value token.0 ∷ operands.Int places.0 ∷ operands.Int places.1 ∷ []) [] (result-is inst.result has.result) p.printed.is
    (pointer-is inst.ty has.type) (sym token.1) (sym (nil_from_length inst.labels has.label_count)) has.no_bundle)
    (relocate_reads names have (result_of inst) token.0 places.0 places.1 (p.named has.result) (in_types names token.0.0 tys.Token fit.0))

-- a line that only the rewritten form has, in a text of it
group_says : (of : TextForm) (names : Names) (op : Op) (inst : Instruction) → IsPrintable of names op inst → is_rewritten op ≡ true → LineIn text_forms.Rewritten names inst → InstSays of names inst
group_says text_forms.Source names op inst p is line = absurd (let bad : true ≡ false = sym is ∙ p.printed.plain refl in cc)
group_says text_forms.Rewritten names op inst p is line = line_says text_forms.Rewritten names inst line

-- a line that is no relocate
alone : {of : TextForm} {names : Names} {op : Op} {inst : Instruction} → IsPrintable of names op inst → counted_as op ≡ kinds.Instruction → counted_as inst.op ≡ kinds.Instruction
alone p plain = ap counted_as (sym p.printed.is) ∙ plain

pub inst_read : (of : TextForm) (names : Names) → HaveNames names → (op : Op) (inst : Instruction) → IsPrintable of names op inst → InstSays of names inst
inst_read of names have ops.Add inst p = line_says of names inst (one_in of names inst (alone p refl) (binary_case names have binaries.Add ops.Add inst p p.printed.line p.printed.fits (λ n bits a b. refl) (λ n bits a b. refl) refl))
inst_read of names have ops.Sub inst p = line_says of names inst (one_in of names inst (alone p refl) (binary_case names have binaries.Sub ops.Sub inst p p.printed.line p.printed.fits (λ n bits a b. refl) (λ n bits a b. refl) refl))
inst_read of names have ops.Mul inst p = line_says of names inst (one_in of names inst (alone p refl) (binary_case names have binaries.Mul ops.Mul inst p p.printed.line p.printed.fits (λ n bits a b. refl) (λ n bits a b. refl) refl))
inst_read of names have ops.Udiv inst p = line_says of names inst (one_in of names inst (alone p refl) (binary_case names have binaries.Udiv ops.Udiv inst p p.printed.line p.printed.fits (λ n bits a b. refl) (λ n bits a b. refl) refl))
inst_read of names have ops.Sdiv inst p = line_says of names inst (one_in of names inst (alone p refl) (binary_case names have binaries.Sdiv ops.Sdiv inst p p.printed.line p.printed.fits (λ n bits a b. refl) (λ n bits a b. refl) refl))
inst_read of names have ops.Urem inst p = line_says of names inst (one_in of names inst (alone p refl) (binary_case names have binaries.Urem ops.Urem inst p p.printed.line p.printed.fits (λ n bits a b. refl) (λ n bits a b. refl) refl))
inst_read of names have ops.Srem inst p = line_says of names inst (one_in of names inst (alone p refl) (binary_case names have binaries.Srem ops.Srem inst p p.printed.line p.printed.fits (λ n bits a b. refl) (λ n bits a b. refl) refl))
inst_read of names have ops.And inst p = line_says of names inst (one_in of names inst (alone p refl) (binary_case names have binaries.And ops.And inst p p.printed.line p.printed.fits (λ n bits a b. refl) (λ n bits a b. refl) refl))
inst_read of names have ops.Or inst p = line_says of names inst (one_in of names inst (alone p refl) (binary_case names have binaries.Or ops.Or inst p p.printed.line p.printed.fits (λ n bits a b. refl) (λ n bits a b. refl) refl))
inst_read of names have ops.Xor inst p = line_says of names inst (one_in of names inst (alone p refl) (binary_case names have binaries.Xor ops.Xor inst p p.printed.line p.printed.fits (λ n bits a b. refl) (λ n bits a b. refl) refl))
inst_read of names have ops.Shl inst p = line_says of names inst (one_in of names inst (alone p refl) (binary_case names have binaries.Shl ops.Shl inst p p.printed.line p.printed.fits (λ n bits a b. refl) (λ n bits a b. refl) refl))
inst_read of names have ops.Lshr inst p = line_says of names inst (one_in of names inst (alone p refl) (binary_case names have binaries.Lshr ops.Lshr inst p p.printed.line p.printed.fits (λ n bits a b. refl) (λ n bits a b. refl) refl))
inst_read of names have ops.Ashr inst p = line_says of names inst (one_in of names inst (alone p refl) (binary_case names have binaries.Ashr ops.Ashr inst p p.printed.line p.printed.fits (λ n bits a b. refl) (λ n bits a b. refl) refl))
inst_read of names have (ops.Icmp pred) inst p = line_says of names inst (one_in of names inst (alone p refl) (compare_case names have pred inst p))
inst_read of names have (ops.Trunc to) inst p = line_says of names inst (one_in of names inst (alone p refl) (convert_case names have conversions.Trunc (ops.Trunc to) to inst p p.printed.line p.printed.fits (own_width to p.printed.own_widths) (λ n bits a. refl) (λ n bits a. refl) refl))
inst_read of names have (ops.Zext to) inst p = line_says of names inst (one_in of names inst (alone p refl) (convert_case names have conversions.Zext (ops.Zext to) to inst p p.printed.line p.printed.fits (own_width to p.printed.own_widths) (λ n bits a. refl) (λ n bits a. refl) refl))
inst_read of names have (ops.Sext to) inst p = line_says of names inst (one_in of names inst (alone p refl) (convert_case names have conversions.Sext (ops.Sext to) to inst p p.printed.line p.printed.fits (own_width to p.printed.own_widths) (λ n bits a. refl) (λ n bits a. refl) refl))
inst_read of names have ops.Select inst p = line_says of names inst (one_in of names inst (alone p refl) (select_case names have inst p))
inst_read of names have ops.Phi inst p = line_says of names inst (one_in of names inst (alone p refl) (phi_case names have inst p))
inst_read of names have (ops.Gep elem bits place) inst p = line_says of names inst (one_in of names inst (alone p refl) (step_reads names have elem bits place inst p))
inst_read of names have ops.Load inst p = line_says of names inst (one_in of names inst (alone p refl) (load_case names have inst p))
inst_read of names have ops.Store inst p = line_says of names inst (one_in of names inst (alone p refl) (store_case names have inst p))
inst_read of names have (ops.Call callee ts) inst p = line_says of names inst (one_in of names inst (alone p refl) (call_reads names have callee ts inst p))
inst_read of names have (ops.Statepoint id callee ts) inst p = group_says of names (ops.Statepoint id callee ts) inst p refl (statepoint_case names have id callee ts inst p)
inst_read of names have ops.GcResult inst p = group_says of names ops.GcResult inst p refl (result_case names have inst p)
inst_read of names have ops.GcRelocate inst p = group_says of names ops.GcRelocate inst p refl (relocate_case names have inst p)
inst_read of names have ops.Br inst p = line_says of names inst (one_in of names inst (alone p refl) (jump_case names have inst p))
inst_read of names have ops.CondBr inst p = line_says of names inst (one_in of names inst (alone p refl) (branch_case names have inst p))
inst_read of names have ops.Switch inst p = switch_case of names have inst p
inst_read of names have ops.Ret inst p = line_says of names inst (one_in of names inst (alone p refl) (return_case names have inst p))
inst_read of names have ops.Unreachable inst p = line_says of names inst (one_in of names inst (alone p refl) (unreachable_case names inst p))
