-- An instruction, by its operator.
use Rattle.std.proofs.Common.{◌≡◌, ◌∙◌, ℕ, zero, suc, ◌-◌, ◌^◌, ◌<◌, true, false, ◌&&◌, ◌||◌, ◌==◌, inl, inr, List, [], ◌∷◌, ◌++◌, map, length, drop, replicate, refl, ap, sym, subst, arith}
use Rattle.std.specs.Prelude.{Option, Some, None, is_none, ◌⊎◌, flat_map, take, slice_get, unwrap_or}
use Rattle.std.specs.List.{All, AllByRecursion, AllZip, list_all, zip}
use Rattle.std.proofs.lemmas.List.Elements.{All-from_recursion, recursion_from_All}
use Rattle.sp_ids.specs.declared.ids.FuncId.{FuncId}
use Rattle.ir_ast.specs.declared.types.Ty.{Ty}
use Rattle.ir_ast.specs.declared.types.Ty.TheVariants as tys
use Rattle.ir_ast.specs.declared.ops.Op.{Op}
use Rattle.ir_ast.specs.declared.ops.Op.TheVariants as ops
use Rattle.ir_ast.specs.declared.ops.Operand.{Operand}
use Rattle.ir_ast.specs.declared.ops.Operand.TheVariants as operands
use Rattle.ir_ast.specs.declared.ops.Elem.{Elem}
use Rattle.ir_ast.specs.declared.ops.Elem.TheVariants as elements
use Rattle.ir_ast.specs.declared.ops.Callee.{Callee}
use Rattle.ir_ast.specs.declared.ops.Callee.TheVariants as callees
use Rattle.ir_ast.specs.declared.modules.Form.{Form as TextForm}
use Rattle.ir_ast.specs.declared.modules.Form.TheVariants as text_forms
use Rattle.ir_ast.specs.Insts.{Instruction}
use Rattle.ir_ast.specs.Values.{value_types}
use Rattle.ir_ast.specs.Types.{is_integer, is_first_class}
use Rattle.ir_ast.specs.Operands.{is_value, functions_named, layouts_named}
use Rattle.ir_ast.specs.Lines.{Has, LineOf, Arguments, is_argument, is_bundle, is_element, is_rewritten}
use Rattle.ir_ast.specs.Widths.{IsWidth, type_widths, operator_widths}
use Rattle.ir_ast.specs.Faults.TypeClash.{Fits, asked}
use Rattle.ir_printer.specs.Names.{Names}
use Rattle.line_parts.specs.Types.{TypeWord}
use Rattle.line_parts.specs.Types as types
use Rattle.line_tokens.specs.declared.words.Binary.{Binary}
use Rattle.line_tokens.specs.declared.words.Binary.TheVariants as binaries
use Rattle.line_tokens.specs.declared.words.Conversion.{Conversion}
use Rattle.line_tokens.specs.declared.words.Conversion.TheVariants as conversions
use Rattle.ir_lines.specs.Statements.{Line, switch, switch_end, unreachable}
use Rattle.ir_lines.specs.Modules.{Known, operand_of, label_of, instruction_said, insts_of, binary_of, conversion_of, case_values, case_labels}
use Rattle.module_laws.proofs.LawBodies.{insts_said, insts-cons}
use Rattle.module_laws.proofs.LawCalls.{argument-value}
use Rattle.ir_printer.specs.Operands.{operand_at, label_at}
use Rattle.read_back.specs.Said.{width_in, value_at, target_at, operator_says, binary_says, compare_says, convert_says, select_says, phi_says, step_says, load_says, store_says, call_says, statepoint_says, gc_result_says, gc_relocate_says, jump_says, branch_says, case_says, switch_says, return_says}
use Rattle.ir_cfg.specs.Statepoints.{IdIsWord}
use Rattle.read_back.proofs.BackNames.{Setting, Good, IsKept, operand-back, label-back}
use Rattle.read_back.proofs.BackLines.{said, cons_parts, single, same-inst, no_result, integer-is, integer-word, void-is, binary-back, compare-back, convert-back, select-back, load-back, store-back, step-back, jump-back, branch-back, return-back}
use Rattle.read_back.proofs.BackLists.{Below, each_given, phi-back, Passes, NamesAreFree, CalleeBelow, call-back, Cases, cases-back}
use Rattle.read_back.proofs.BackGroups.{statepoint-back, result-back, relocate-back}
use Rattle.read_back.proofs.Fronts.{FunctionsOf, before_bundle, front_fit, front_functions}
use Rattle.std.proofs.lemmas.List.{nil_from_length}
use Rattle.list_laws.proofs.Booleans.{first_true, second_true}

-- what is known of an instruction that a module of this form has
pub record IsPrintedIn (of : TextForm) (names : Names) (op : Op) (inst : Instruction) : Type 0 where
  pub is : op ≡ inst.op
  pub line : LineOf op inst
  pub plain : of ≡ text_forms.Source → is_rewritten op ≡ false
  pub fits : AllZip (Fits (value_types names.func)) inst.operands (asked op inst.ty (length inst.operands))
  pub widths : All IsWidth (type_widths inst.ty)
  pub own_widths : All IsWidth (operator_widths op)
  pub labels : AllByRecursion (Below names) inst.labels
  pub layouts : AllByRecursion (λ layout. layout < length names.layouts) (layouts_named (record inst { op = op }))
  pub functions : AllByRecursion (λ named. named < length names.funcs) (functions_named (record inst { op = op }))
  pub place : (layout width n : ℕ) → op ≡ ops.Gep (elements.Layout layout) width (Some n) → n < 2 ^ 32
  pub bundle : AllByRecursion (λ entry. Fits (value_types names.func) entry.1 entry.0) inst.bundle
  pub bundle_widths : AllByRecursion IsWidth (flat_map (λ entry. type_widths entry.0) inst.bundle)
  pub id : IdIsWord op

-- and a source module
abbrev pub IsPrinted : Names → Op → Instruction → Type 0
IsPrinted names op inst = IsPrintedIn text_forms.Source names op inst

pub split_all : {X : Type 0} (P : X → Type 0) (xs ys : List X) → AllByRecursion P (xs ++ ys) → AllByRecursion P xs × AllByRecursion P ys
split_all P [] ys h = (tt, h)
split_all P (x ∷ xs) ys h = let more = split_all P xs ys h.1 in ((h.0, more.0), more.1)

abbrev pub WidthsOf : Ty → Type 0
WidthsOf ty = All IsWidth (type_widths ty)

-- values that fit
pub good_zip : (names : Names) (os : List Operand) (ts : List Ty) → AllZip (Fits (value_types names.func)) os ts → list_all is_value os ≡ true
    → AllByRecursion WidthsOf ts → AllZip (Good names) os ts
good_zip names [] [] fit value widths = tt
good_zip names [] (t ∷ ts) fit value widths = absurd fit
good_zip names (o ∷ os) [] fit value widths = absurd fit
good_zip names (o ∷ os) (t ∷ ts) fit value widths = (
  record { fits = fit.0; value = first_true (is_value o) (list_all is_value os) value; widths = widths.0 },
  good_zip names os ts fit.1 (second_true (is_value o) (list_all is_value os) value) widths.1,
)

repeated : (n : ℕ) (ty : Ty) → WidthsOf ty → AllByRecursion WidthsOf (replicate n ty)
repeated zero ty w = tt
repeated (suc n) ty w = (w, repeated n ty w)

-- of a line that asks the same type of all operands
pub same_good : (names : Names) (inst : Instruction) (n : ℕ) → length inst.operands ≡ n → list_all is_value inst.operands ≡ true → WidthsOf inst.ty
    → AllZip (Fits (value_types names.func)) inst.operands (replicate (length inst.operands) inst.ty)
    → AllZip (Good names) inst.operands (replicate n inst.ty)
same_good names inst n count values width fit =
    good_zip names inst.operands (replicate n inst.ty)
    (subst (λ (k : ℕ). AllZip (Fits (value_types names.func)) inst.operands (replicate k inst.ty)) count fit) values (repeated n inst.ty width)

pub one_width : WidthsOf (tys.Int 1)
one_width = All-from_recursion IsWidth (1 ∷ []) ((omega arith, omega arith), tt)

pub pointer_width : WidthsOf tys.Ptr
pointer_width = All-from_recursion IsWidth [] tt

-- ---- calls

first_function : (P : ℕ → Type 0) (o : Operand) (os : List Operand) → FunctionsOf P (o ∷ os)
    → ((func : FuncId) → o ≡ operands.Fun func → P func.0) × FunctionsOf P os
first_function P (operands.Fun f) os h = (λ g e. subst (λ (x : FuncId). P x.0) (let same : f ≡ g = cc in same) h.0, h.1)
first_function P (operands.Value v) os h = (λ g e. absurd cc, h)
first_function P (operands.Int n) os h = (λ g e. absurd cc, h)
first_function P operands.Null os h = (λ g e. absurd cc, h)

argument_cases : (callee : Callee) (o : Operand) (ty : Ty) → is_argument callee o ty ≡ true
    → (is_value o && is_first_class ty) ≡ true ⊎ ((func : FuncId) × (o ≡ operands.Fun func))
argument_cases callee (operands.Fun f) ty e = inr (f, refl)
argument_cases callee (operands.Value v) ty e = inl (sym (argument-value callee (operands.Value v) ty refl) ∙ e)
argument_cases callee (operands.Int n) ty e = inl (sym (argument-value callee (operands.Int n) ty refl) ∙ e)
argument_cases callee operands.Null ty e = inl (sym (argument-value callee operands.Null ty refl) ∙ e)

pub passes_zip : (names : Names) (callee : Callee) (os : List Operand) (ts : List Ty) → AllZip (Fits (value_types names.func)) os ts → Arguments callee os ts
    → FunctionsOf (λ named. named < length names.funcs) os → AllByRecursion IsWidth (flat_map type_widths ts)
    → AllZip (Passes names) os ts
passes_zip names callee [] [] fit arguments functions widths = tt
passes_zip names callee [] (t ∷ ts) fit arguments functions widths = absurd fit
passes_zip names callee (o ∷ os) [] fit arguments functions widths = absurd fit
passes_zip names callee (o ∷ os) (t ∷ ts) fit arguments functions widths =
    let f = first_function (λ named. named < length names.funcs) o os functions in
    let w = split_all IsWidth (type_widths t) (flat_map type_widths ts) widths in (
      record { fits = fit.0; argument = argument_cases callee o t arguments.0; function = f.0; widths = All-from_recursion IsWidth (type_widths t) w.0 },
      passes_zip names callee os ts fit.1 arguments.1 f.1 w.1,
    )

-- the callee, and the functions that are passed
pub callee_parts : (names : Names) (callee : Callee) (ts : List Ty) (inst : Instruction)
    → AllByRecursion (λ layout. layout < length names.layouts) (layouts_named (record inst { op = ops.Call callee ts }))
    → AllByRecursion (λ named. named < length names.funcs) (functions_named (record inst { op = ops.Call callee ts }))
    → CalleeBelow names callee × AllByRecursion (λ named. named < length names.funcs) (functions_named (record inst { op = ops.Load }))
callee_parts names (callees.Fun func) ts inst layouts functions = (functions.0, functions.1)
callee_parts names (callees.New layout) ts inst layouts functions = (layouts.0, functions)
callee_parts names callees.Print ts inst layouts functions = (tt, functions)
callee_parts names callees.Read ts inst layouts functions = (tt, functions)
callee_parts names callees.TaskStart ts inst layouts functions = (tt, functions)
callee_parts names callees.Poll ts inst layouts functions = (tt, functions)
callee_parts names callees.Check ts inst layouts functions = (tt, functions)
callee_parts names callees.Same ts inst layouts functions = (tt, functions)

-- those that an instruction passes, among those that it names
pub passed_functions : (P : ℕ → Type 0) (inst : Instruction) → AllByRecursion P (functions_named (record inst { op = ops.Load })) → FunctionsOf P inst.operands
passed_functions P inst all = before_bundle P inst.operands inst.bundle all

-- ---- what is kept

-- each entry of a bundle
pub kept_of : {of : TextForm} (names : Names) (op : Op) (inst : Instruction) → IsPrintedIn of names op inst → is_bundle inst.bundle ≡ true → AllByRecursion (IsKept names) inst.bundle
kept_of names op inst p is = by inst.bundle is p.bundle p.bundle_widths
  where
    by : (bundle : List (Ty × Operand)) → is_bundle bundle ≡ true → AllByRecursion (λ (entry : Ty × Operand). Fits (value_types names.func) entry.1 entry.0) bundle
        → AllByRecursion IsWidth (flat_map (λ (entry : Ty × Operand). type_widths entry.0) bundle) → AllByRecursion (IsKept names) bundle
    by [] is fits widths = tt
    by (entry ∷ bundle) is fits widths =
        let here = first_true (is_first_class entry.0 && is_value entry.1) (is_bundle bundle) is in
        let w = split_all IsWidth (type_widths entry.0) (flat_map (λ (one : Ty × Operand). type_widths one.0) bundle) widths in (
          record {
            good = record { fits = fits.0; value = second_true (is_first_class entry.0) (is_value entry.1) here; widths = All-from_recursion IsWidth (type_widths entry.0) w.0 };
            first_class = first_true (is_first_class entry.0) (is_value entry.1) here;
          },
          by bundle (second_true (is_first_class entry.0 && is_value entry.1) (is_bundle bundle) is) fits.1 w.1,
        )

-- what a call calls, and the arguments that it passes
pub record Passing (names : Names) (callee : Callee) (ts : List Ty) (os : List Operand) : Type 0 where
  pub below : CalleeBelow names callee
  pub passes : AllZip (Passes names) os ts

pub passing : {of : TextForm} (names : Names) (callee : Callee) (ts : List Ty) (inst : Instruction) → IsPrintedIn of names (ops.Call callee ts) inst
    → Passing names callee ts inst.operands
passing names callee ts inst p =
    let parts = callee_parts names callee ts inst p.layouts p.functions in
    record {
      below = parts.0;
      passes = passes_zip names callee inst.operands ts p.fits p.line.arguments (passed_functions (λ named. named < length names.funcs) inst parts.1)
          (recursion_from_All IsWidth (flat_map type_widths ts) p.own_widths);
    }

-- and of a statepoint, whose live entries stand behind its arguments
pub record Guards (names : Names) (callee : Callee) (ts : List Ty) (os : List Operand) : Type 0 where
  pub below : CalleeBelow names callee
  pub fits : AllZip (Fits (value_types names.func)) (take (length ts) os) ts
  pub passes : AllZip (Passes names) (take (length ts) os) ts
  pub live : AllByRecursion (λ (o : Operand). Good names o tys.Ptr) (drop (length ts) os)

each_live : (names : Names) (os : List Operand) (n : ℕ) → AllZip (Good names) os (replicate n tys.Ptr) → AllByRecursion (λ (o : Operand). Good names o tys.Ptr) os
each_live names [] n good = tt
each_live names (o ∷ os) zero good = absurd good
each_live names (o ∷ os) (suc n) good = (good.0, each_live names os n good.1)

pub guards : {of : TextForm} (names : Names) (id : ℕ) (callee : Callee) (ts : List Ty) (inst : Instruction) → IsPrintedIn of names (ops.Statepoint id callee ts) inst
    → Guards names callee ts inst.operands
guards names id callee ts inst p =
    let parts = callee_parts names callee ts inst p.layouts p.functions in
    let n = length ts in
    let entries = length inst.operands - n in
    let fits = front_fit (Fits (value_types names.func)) inst.operands ts (replicate entries tys.Ptr) p.fits in
    let functions = front_functions (λ named. named < length names.funcs) n inst.operands (passed_functions (λ named. named < length names.funcs) inst parts.1) in
    record {
      below = parts.0;
      fits = fits.0;
      passes = passes_zip names callee (take n inst.operands) ts fits.0 p.line.arguments functions (recursion_from_All IsWidth (flat_map type_widths ts) p.own_widths);
      live = each_live names (drop n inst.operands) entries (good_zip names (drop n inst.operands) (replicate entries tys.Ptr) fits.1 p.line.entries (repeated entries tys.Ptr pointer_width));
    }

call_case : {of : TextForm} (names : Names) (known : Known) → Setting names known → NamesAreFree names → (callee : Callee) (ts : List Ty) (inst : Instruction) → IsPrintedIn of names (ops.Call callee ts) inst
    → (rest : List Line) → instruction_said known rest (call_says names callee ts inst) ≡ Some inst
call_case names known s free callee ts inst p rest =
    let own = passing names callee ts inst p in
    call-back names known s free callee ts rest inst p.is p.line (kept_of names (ops.Call callee ts) inst p p.line.bundle) own.below own.passes

statepoint_case : {of : TextForm} (names : Names) (known : Known) → Setting names known → NamesAreFree names → (id : ℕ) (callee : Callee) (ts : List Ty) (inst : Instruction) → IsPrintedIn of names (ops.Statepoint id callee ts) inst
    → (rest : List Line) → instruction_said known rest (statepoint_says names id callee ts inst) ≡ Some inst
statepoint_case names known s free id callee ts inst p rest =
    let g = guards names id callee ts inst p in
    statepoint-back names known s free id callee ts rest inst p.is p.line (kept_of names (ops.Statepoint id callee ts) inst p p.line.bundle) p.id g.below g.passes g.live

-- ---- switches

pub first_of : {X : Type 0} (xs : List X) (other : X) (P : X → Type 0) → 0 < length xs → AllByRecursion P xs
    → P (unwrap_or (slice_get xs 0) other) × AllByRecursion P (drop 1 xs) × ((x : X) (ys : List X) → x ≡ unwrap_or (slice_get xs 0) other → ys ≡ drop 1 xs → x ∷ ys ≡ xs)
first_of [] other P some h = absurd (omega arith)
first_of (z ∷ zs) other P some h = (h.0, h.1, λ x ys e f. ap (λ y. y ∷ ys) e ∙ ap (λ ks. z ∷ ks) f)

less_one : {X Y : Type 0} (xs : List X) (ys : List Y) → length xs ≡ length ys → length (drop 1 xs) ≡ length (drop 1 ys)
less_one [] [] e = refl
less_one [] (y ∷ ys) e = absurd (omega arith)
less_one (x ∷ xs) [] e = absurd (omega arith)
less_one (x ∷ xs) (y ∷ ys) e = omega arith

switch-back : (names : Names) (known : Known) → Setting names known → (inst : Instruction)
    → ops.Switch ≡ inst.op → Has false is_integer (length inst.operands) (length inst.operands) inst → 0 < length inst.operands
    → AllZip (Good names) inst.operands (replicate (length inst.operands) inst.ty) → AllByRecursion (Below names) inst.labels
    → (here rest : List Line) → said here ≡ switch_says names inst → insts_of known (here ++ rest) ≡ inst ∷ insts_of known rest
switch-back names known s inst o has some good below [] rest e =
    absurd (let bad : [] ≡ switch (width_in inst.ty) (value_at names inst.ty inst 0) (target_at names inst 0)
    ∷ (map (case_says names inst.ty) (zip (drop 1 inst.operands) (drop 1 inst.labels)) ++ switch_end ∷ []) = e in cc)
switch-back names known s inst o has some good below (k ∷ ks) rest e =
    let head = switch (width_in inst.ty) (value_at names inst.ty inst 0) (target_at names inst 0) in
    let parts = cons_parts k.says (said ks) head (map (case_says names inst.ty) (zip (drop 1 inst.operands) (drop 1 inst.labels)) ++ switch_end ∷ []) e in
    let os = first_of inst.operands operands.Null (λ x. Good names x inst.ty) some (each_given (Good names) inst.ty inst.operands good) in
    let count : length inst.labels ≡ length inst.operands = has.label_count in
    let ls = first_of inst.labels (record { 0 = 0 }) (Below names) (omega arith) below in
    let cases : Cases names known inst.ty (drop 1 inst.operands) (drop 1 inst.labels) ks rest =
    cases-back names known s inst.ty has.type (drop 1 inst.operands) (drop 1 inst.labels) ks rest (less_one inst.labels inst.operands count) os.1 ls.1 parts.1 in
    let is : instruction_said known (ks ++ rest) head ≡ Some inst =
    same-inst inst None ops.Switch (tys.Int (width_in inst.ty))
    (operand_of known (types.Int (width_in inst.ty)) (value_at names inst.ty inst 0) ∷ case_values known.values (width_in inst.ty) (ks ++ rest))
    (label_of known (target_at names inst 0) ∷ case_labels known.blocks (ks ++ rest))
    (no_result inst.result has.result) o (integer-is inst.ty has.type)
    (os.2 (operand_of known (types.Int (width_in inst.ty)) (value_at names inst.ty inst 0)) (case_values known.values (width_in inst.ty) (ks ++ rest))
    (ap (λ (w : TypeWord). operand_of known w (value_at names inst.ty inst 0)) (integer-word inst.ty has.type) ∙ operand-back names known s inst.ty (operand_at inst 0) os.0)
    cases.values)
    (ls.2 (label_of known (target_at names inst 0)) (case_labels known.blocks (ks ++ rest)) (label-back names known s (label_at inst 0) ls.0) cases.targets)
    has.no_bundle in
    insts-cons known k (ks ++ rest)
    ∙ ap (λ (x : Option Instruction). insts_said x ++ insts_of known (ks ++ rest)) (ap (instruction_said known (ks ++ rest)) parts.0 ∙ is)
    ∙ ap (λ (xs : List Instruction). inst ∷ xs) cases.behind

-- ---- any instruction

binary_case : (names : Names) (known : Known) → Setting names known → (op : Binary) (inst : Instruction) (here rest : List Line)
    → binary_of op ≡ inst.op → Has true is_integer 2 0 inst → WidthsOf inst.ty
    → AllZip (Fits (value_types names.func)) inst.operands (replicate (length inst.operands) inst.ty)
    → said here ≡ binary_says names op inst ∷ [] → insts_of known (here ++ rest) ≡ inst ∷ insts_of known rest
binary_case names known s op inst here rest o has width fit e =
    single known here rest (binary_says names op inst) inst e
    (binary-back names known s op rest inst o has (same_good names inst 2 has.operand_count has.values width fit))

convert_case : (names : Names) (known : Known) → Setting names known → (op : Conversion) (to : ℕ) (inst : Instruction) (here rest : List Line)
    → conversion_of op to ≡ inst.op → Has true is_integer 1 0 inst → WidthsOf inst.ty
    → AllZip (Fits (value_types names.func)) inst.operands (replicate (length inst.operands) inst.ty)
    → said here ≡ convert_says names op to inst ∷ [] → insts_of known (here ++ rest) ≡ inst ∷ insts_of known rest
convert_case names known s op to inst here rest o has width fit e =
    single known here rest (convert_says names op to inst) inst e
    (convert-back names known s op to rest inst o has (same_good names inst 1 has.operand_count has.values width fit))

step_case : {of : TextForm} (names : Names) (known : Known) → Setting names known → (elem : Elem) (width : ℕ) (place : Option ℕ) (inst : Instruction) → IsPrintedIn of names (ops.Gep elem width place) inst
    → (rest : List Line) → instruction_said known rest (step_says names elem width place inst) ≡ Some inst
step_case names known s elem width place inst p rest =
    step-back names known s elem width place rest inst p.is p.line.0 p.line.1 (below elem p.layouts) (small elem place p.line.1 p.place)
    (good_zip names inst.operands (tys.Ptr ∷ tys.Int width ∷ []) p.fits p.line.0.values (pointer_width, (index elem (recursion_from_All IsWidth (operator_widths (ops.Gep elem width place)) p.own_widths), tt)))
  where
    below : (elem : Elem) → AllByRecursion (λ layout. layout < length names.layouts) (layouts_named (record inst { op = ops.Gep elem width place }))
        → (layout : ℕ) → elem ≡ elements.Layout layout → layout < length names.layouts
    below (elements.Layout l) h layout e = subst (λ (n : ℕ). n < length names.layouts) (let same : l ≡ layout = cc in same) h.0
    below (elements.Int w) h layout e = absurd cc
    below elements.Ptr h layout e = absurd cc

    small : (elem : Elem) (place : Option ℕ) → is_element elem place ≡ true
        → ((layout other n : ℕ) → ops.Gep elem width place ≡ ops.Gep (elements.Layout layout) other (Some n) → n < 2 ^ 32)
        → (n : ℕ) → place ≡ Some n → n < 2 ^ 32
    small (elements.Layout l) place e h n is = h l width n (ap (ops.Gep (elements.Layout l) width) is)
    small elements.Ptr place e h n is = absurd (let bad : false ≡ true = ap is_none (sym is) ∙ e in cc)
    small (elements.Int w) place e h n is = absurd (let bad : false ≡ true = ap is_none (sym is) ∙ second_true (w == 8 || w == 16 || w == 32 || w == 64) (is_none place) e in cc)

    index : (elem : Elem) → AllByRecursion IsWidth (operator_widths (ops.Gep elem width place)) → WidthsOf (tys.Int width)
    index (elements.Int w) h = All-from_recursion IsWidth (width ∷ []) h.1
    index elements.Ptr h = All-from_recursion IsWidth (width ∷ []) h
    index (elements.Layout l) h = All-from_recursion IsWidth (width ∷ []) h

pub inst-back : {of : TextForm} (names : Names) (known : Known) → Setting names known → NamesAreFree names → (op : Op) (inst : Instruction) → IsPrintedIn of names op inst
    → (here rest : List Line) → said here ≡ operator_says names op inst → insts_of known (here ++ rest) ≡ inst ∷ insts_of known rest
inst-back names known s free ops.Add inst p here rest e = binary_case names known s binaries.Add inst here rest p.is p.line p.widths p.fits e
inst-back names known s free ops.Sub inst p here rest e = binary_case names known s binaries.Sub inst here rest p.is p.line p.widths p.fits e
inst-back names known s free ops.Mul inst p here rest e = binary_case names known s binaries.Mul inst here rest p.is p.line p.widths p.fits e
inst-back names known s free ops.Udiv inst p here rest e = binary_case names known s binaries.Udiv inst here rest p.is p.line p.widths p.fits e
inst-back names known s free ops.Sdiv inst p here rest e = binary_case names known s binaries.Sdiv inst here rest p.is p.line p.widths p.fits e
inst-back names known s free ops.Urem inst p here rest e = binary_case names known s binaries.Urem inst here rest p.is p.line p.widths p.fits e
inst-back names known s free ops.Srem inst p here rest e = binary_case names known s binaries.Srem inst here rest p.is p.line p.widths p.fits e
inst-back names known s free ops.And inst p here rest e = binary_case names known s binaries.And inst here rest p.is p.line p.widths p.fits e
inst-back names known s free ops.Or inst p here rest e = binary_case names known s binaries.Or inst here rest p.is p.line p.widths p.fits e
inst-back names known s free ops.Xor inst p here rest e = binary_case names known s binaries.Xor inst here rest p.is p.line p.widths p.fits e
inst-back names known s free ops.Shl inst p here rest e = binary_case names known s binaries.Shl inst here rest p.is p.line p.widths p.fits e
inst-back names known s free ops.Lshr inst p here rest e = binary_case names known s binaries.Lshr inst here rest p.is p.line p.widths p.fits e
inst-back names known s free ops.Ashr inst p here rest e = binary_case names known s binaries.Ashr inst here rest p.is p.line p.widths p.fits e
inst-back names known s free (ops.Icmp pred) inst p here rest e =
    single known here rest (compare_says names pred inst) inst e
    (compare-back names known s pred rest inst p.is p.line (same_good names inst 2 p.line.operand_count p.line.values p.widths p.fits))
inst-back names known s free (ops.Trunc to) inst p here rest e = convert_case names known s conversions.Trunc to inst here rest p.is p.line p.widths p.fits e
inst-back names known s free (ops.Zext to) inst p here rest e = convert_case names known s conversions.Zext to inst here rest p.is p.line p.widths p.fits e
inst-back names known s free (ops.Sext to) inst p here rest e = convert_case names known s conversions.Sext to inst here rest p.is p.line p.widths p.fits e
inst-back names known s free ops.Select inst p here rest e =
    single known here rest (select_says names inst) inst e
    (select-back names known s rest inst p.is p.line (good_zip names inst.operands (tys.Int 1 ∷ inst.ty ∷ inst.ty ∷ []) p.fits p.line.values (one_width, (p.widths, (p.widths, tt)))))
inst-back names known s free ops.Phi inst p here rest e =
    single known here rest (phi_says names inst) inst e
    (phi-back names known s rest inst p.is p.line.0 (same_good names inst (length inst.operands) refl p.line.0.values p.widths p.fits) p.labels)
inst-back names known s free (ops.Gep elem width place) inst p here rest e =
    single known here rest (step_says names elem width place inst) inst e (step_case names known s elem width place inst p rest)
inst-back names known s free ops.Load inst p here rest e =
    single known here rest (load_says names inst) inst e
    (load-back names known s rest inst p.is p.line (good_zip names inst.operands (tys.Ptr ∷ []) p.fits p.line.values (pointer_width, tt)))
inst-back names known s free ops.Store inst p here rest e =
    single known here rest (store_says names inst) inst e
    (store-back names known s rest inst p.is p.line (good_zip names inst.operands (inst.ty ∷ tys.Ptr ∷ []) p.fits p.line.values (p.widths, (pointer_width, tt))))
inst-back names known s free (ops.Call callee ts) inst p here rest e =
    single known here rest (call_says names callee ts inst) inst e (call_case names known s free callee ts inst p rest)
inst-back names known s free (ops.Statepoint id callee ts) inst p here rest e =
    single known here rest (statepoint_says names id callee ts inst) inst e (statepoint_case names known s free id callee ts inst p rest)
inst-back names known s free ops.GcResult inst p here rest e =
    single known here rest (gc_result_says names inst) inst e (result-back names known s rest inst p.is p.line.0 p.line.1 p.fits)
inst-back names known s free ops.GcRelocate inst p here rest e =
    single known here rest (gc_relocate_says names inst) inst e (relocate-back names known s rest inst p.is p.line.0 p.line.1 p.fits)
inst-back names known s free ops.Br inst p here rest e =
    single known here rest (jump_says names inst) inst e (jump-back names known s rest inst p.is p.line p.labels)
inst-back names known s free ops.CondBr inst p here rest e =
    single known here rest (branch_says names inst) inst e
    (branch-back names known s rest inst p.is p.line (same_good names inst 1 p.line.operand_count p.line.values p.widths p.fits) p.labels)
inst-back names known s free ops.Switch inst p here rest e =
    switch-back names known s inst p.is p.line.0 p.line.1
    (same_good names inst (length inst.operands) refl p.line.0.values p.widths p.fits) p.labels here rest e
inst-back names known s free ops.Ret inst p here rest e =
    single known here rest (return_says names inst.ty inst) inst e
    (return-back names known s rest inst p.is p.line.result p.line.type p.line.operand_count (nil_from_length inst.labels p.line.label_count) p.line.no_bundle
    (same_good names inst (length inst.operands) refl p.line.values p.widths p.fits))
inst-back names known s free ops.Unreachable inst p here rest e =
    single known here rest unreachable inst e
    (same-inst inst None ops.Unreachable tys.Void [] [] (no_result inst.result p.line.result) p.is (void-is inst.ty p.line.type)
    (sym (nil_from_length inst.operands p.line.operand_count)) (sym (nil_from_length inst.labels p.line.label_count)) p.line.no_bundle)
