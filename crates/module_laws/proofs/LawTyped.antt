-- The instruction of each line has the parts of its form, its widths and its names; and its types, where it keeps the rules.
use Rattle.std.proofs.Common.{◌≡◌, ◌∙◌, ℕ, ◌<◌, ◌≤◌, Bool, true, false, ◌&&◌, ◌||◌, ◌==◌, if◌then◌else◌, List, [], ◌∷◌, ◌++◌, length, drop, refl, ap, sym, arith}
use Rattle.std.specs.Prelude.{Option, Some, None, flat_map, ⊤}
use Rattle.std.specs.List.{All, AllByRecursion, list_all}
use Rattle.std.proofs.lemmas.List.Elements.{All-nil, All-cons, All-append, All-from_recursion}
use Rattle.std.proofs.lemmas.Bool.Decides.{Decides-eqb}
use Rattle.sp_ids.specs.declared.ids.BlockId.{BlockId}
use Rattle.ir_ast.specs.declared.types.Ty.{Ty}
use Rattle.ir_ast.specs.declared.types.Ty.TheVariants as tys
use Rattle.ir_ast.specs.declared.ops.Op.{Op}
use Rattle.ir_ast.specs.declared.ops.Op.TheVariants as ops
use Rattle.ir_ast.specs.declared.ops.Operand.{Operand}
use Rattle.ir_ast.specs.declared.ops.Operand.TheVariants as operands
use Rattle.ir_ast.specs.declared.ops.Elem.TheVariants as elements
use Rattle.ir_ast.specs.Insts.{Instruction}
use Rattle.ir_ast.specs.Types.{is_void, is_integer, is_first_class, is_answer}
use Rattle.ir_ast.specs.Lines.{IsLine, Has, is_element, is_bundle, is_rewritten}
use Rattle.ir_ast.specs.Operands.{is_value, functions_named as functions_in, layouts_named as layouts_in}
use Rattle.ir_ast.specs.Widths.{IsWidth, type_widths, operator_widths, line_widths}
use Rattle.ir_ast.specs.Lists.{Distinct}
use Rattle.ir_ast.specs.Scope.{Scope, scope_of as module_scope}
use Rattle.ir_ast.specs.Faults.TypeClash.{IsTyped, IsCallOf, RuleOf}
use Rattle.ir_ast.specs.declared.modules.Form.{Form}
use Rattle.ir_ast.specs.declared.modules.Form.TheVariants.{Source}
use Rattle.line_parts.specs.Types.{TypeWord}
use Rattle.line_parts.specs.Types.{Void, Int, Managed, Plain}
use Rattle.line_tokens.specs.declared.words.Binary.{Binary}
use Rattle.line_tokens.specs.declared.words.Binary.TheVariants.{Add, Sub, Mul, Udiv, Sdiv, Urem, Srem, And, Or, Xor, Shl, Lshr, Ashr}
use Rattle.line_tokens.specs.declared.words.Conversion.{Conversion}
use Rattle.line_tokens.specs.declared.words.Conversion.TheVariants.{Trunc, Zext, Sext}
use Rattle.line_parts.specs.Parts.{is_scalar_type}
use Rattle.ir_lines.specs.Statements.{Line}
use Rattle.ir_lines.specs.Sections.{Definition}
use Rattle.ir_lines.specs.Modules.{type_of, element_of, binary_of, conversion_of, instruction, module_of}
use Rattle.ir_lines.specs.ReadLines.{IsValueType, IsAnswerType}
use Rattle.module_laws.proofs.LawLines.{made}
use Rattle.ir_resolve.specs.ModuleFaults.{RuleBesidesCalls, IsTypedBesidesCalls}
use Rattle.module_laws.proofs.LawCalls.{over}
use Rattle.std.proofs.lemmas.Bool.{and_from}

abbrev pub content : Form → List Line → Rattle.ir_ast.specs.Modules.ModuleContent
content form lines = (module_of form lines).content

abbrev pub scope_made : Form → List Line → Definition → Scope
scope_made form lines func = module_scope (content form lines) (made lines func)

-- what a line calls
abbrev pub IsCalled : Scope → Op → Instruction → Type 0
IsCalled scope (ops.Call callee types) inst = IsCallOf scope callee types inst
IsCalled scope (ops.Statepoint id callee types) inst = IsCallOf scope callee types inst
IsCalled scope _ inst = ⊤

-- what the instruction of a line has by its form, its names and its calls
pub record GoodInst (form : Form) (lines : List Line) (func : Definition) (inst : Instruction) : Type 0 where
  pub line : IsLine inst
  pub called : IsCalled (scope_made form lines func) inst.op inst
  pub widths : All IsWidth (line_widths inst)
  pub bundle : is_bundle inst.bundle ≡ true
  pub few_kept : length inst.bundle ≤ 64
  pub plain : form ≡ Source → is_rewritten inst.op ≡ false
  pub layouts : All (λ layout. layout < length (content form lines).layouts) (layouts_in inst)
  pub functions : All (λ named. named < length (content form lines).funcs) (functions_in inst)
  pub labels : All (λ label. label.0 < length (made lines func).blocks) inst.labels

-- ---- parts

pub all-list : {A : Type 0} (p : A → Bool) (xs : List A) → AllByRecursion (λ x. p x ≡ true) xs → list_all p xs ≡ true
all-list p [] all = refl
all-list p (x ∷ xs) all = and_from (p x) (list_all p xs) all.0 (all-list p xs all.1)

pub type_width : (ty : TypeWord) → IsValueType ty → All IsWidth (type_widths (type_of ty))
type_width (Int width) read = All-cons IsWidth width [] read (All-nil IsWidth)
type_width Managed read = All-nil IsWidth
type_width Void read = absurd read
type_width Plain read = absurd read

pub answer_width : (ty : TypeWord) → IsAnswerType ty → All IsWidth (type_widths (type_of ty))
answer_width (Int width) read = All-cons IsWidth width [] read (All-nil IsWidth)
answer_width Managed read = All-nil IsWidth
answer_width Void read = All-nil IsWidth
answer_width Plain read = absurd read

pub answers : (ty : TypeWord) → is_answer (type_of ty) ≡ true
answers Void = refl
answers (Int width) = refl
answers Managed = refl
answers Plain = refl

pub is_first : (ty : TypeWord) → IsValueType ty → is_first_class (type_of ty) ≡ true
is_first ty read = Rattle.module_laws.proofs.LawCalls.first_class ty read

-- of a line with this operator, type and bundle
pub widths_kept : (op : Op) (ty : Ty) (bundle : List (Ty × Operand)) → All IsWidth (operator_widths op) → All IsWidth (type_widths ty)
    → All IsWidth (flat_map (λ entry. type_widths entry.0) bundle)
    → All IsWidth (operator_widths op ++ type_widths ty ++ flat_map (λ entry. type_widths entry.0) bundle)
widths_kept op ty bundle of_op of_type of_bundle =
    let kept = flat_map (λ (entry : Ty × Operand). type_widths entry.0) bundle in
    All-append IsWidth (operator_widths op ++ type_widths ty) kept (All-append IsWidth (operator_widths op) (type_widths ty) of_op of_type) of_bundle

pub widths_made : (op : Op) (result : Option (List ℕ)) (ty : Ty) (operands : List Operand) (labels : List BlockId)
    → All IsWidth (operator_widths op) → All IsWidth (type_widths ty) → All IsWidth (line_widths (instruction result op ty operands labels))
widths_made op result ty operands labels of_op of_type = widths_kept op ty [] of_op of_type (All-nil IsWidth)

pub values_name_none : (P : ℕ → Type 0) (os : List Operand) → list_all is_value os ≡ true → AllByRecursion P (functions_in (over os))
values_name_none P [] e = tt
values_name_none P (operands.Value value ∷ os) e = values_name_none P os e
values_name_none P (operands.Int number ∷ os) e = values_name_none P os e
values_name_none P (operands.Null ∷ os) e = values_name_none P os e
values_name_none P (operands.Fun f ∷ os) e = absurd (let bad : false ≡ true = e in cc)

pub no_names : (form : Form) (lines : List Line) (os : List Operand) → list_all is_value os ≡ true
    → All (λ named. named < length (content form lines).funcs) (functions_in (over os))
no_names form lines os e =
    All-from_recursion (λ named. named < length (content form lines).funcs) (functions_in (over os)) (values_name_none (λ named. named < length (content form lines).funcs) os e)

-- a line with a result or none, over operands that are values, with no labels
abbrev pub Plain_inst : Option (List ℕ) → Op → Ty → List Operand → Instruction
Plain_inst result op ty operands = instruction result op ty operands []

pub no_layout : (form : Form) (lines : List Line) → All (λ layout. layout < length (content form lines).layouts) []
no_layout form lines = All-nil (λ layout. layout < length (content form lines).layouts)

pub good_plain : (form : Form) (lines : List Line) (func : Definition) (result : Option (List ℕ)) (op : Op) (ty : Ty) (os : List Operand)
    → IsLine (Plain_inst result op ty os) → IsCalled (scope_made form lines func) op (Plain_inst result op ty os)
    → All IsWidth (operator_widths op) → All IsWidth (type_widths ty) → is_rewritten op ≡ false
    → All (λ layout. layout < length (content form lines).layouts) (layouts_in (Plain_inst result op ty os))
    → All (λ named. named < length (content form lines).funcs) (functions_in (Plain_inst result op ty os))
    → GoodInst form lines func (Plain_inst result op ty os)
good_plain form lines func result op ty os line called of_op of_type plain layouts functions = record {
  line = line;
  called = called;
  widths = widths_made op result ty os [] of_op of_type;
  bundle = refl;
  few_kept = omega arith;
  plain = λ is. plain;
  layouts = layouts;
  functions = functions;
  labels = All-nil (λ (label : BlockId). label.0 < length (made lines func).blocks);
}

pub two_values : (a b : Operand) → is_value a ≡ true → is_value b ≡ true → list_all is_value (a ∷ b ∷ []) ≡ true
two_values a b e f = and_from (is_value a) (is_value b && true) e (and_from (is_value b) true f refl)

pub one_value : (a : Operand) → is_value a ≡ true → list_all is_value (a ∷ []) ≡ true
one_value a e = and_from (is_value a) true e refl

-- ---- each form

has_two : (result : List ℕ) (op : Op) (width : ℕ) (a b : Operand) → list_all is_value (a ∷ b ∷ []) ≡ true
    → Has true is_integer 2 0 (Plain_inst (Some result) op (tys.Int width) (a ∷ b ∷ []))
has_two result op width a b vals = record {
  result = refl;
  type = refl;
  operand_count = refl;
  values = vals;
  label_count = refl;
  no_bundle = refl;
}

pub good_binary : (form : Form) (lines : List Line) (func : Definition) (result : List ℕ) (op : Binary) (width : ℕ) (a b : Operand)
    → list_all is_value (a ∷ b ∷ []) ≡ true → IsWidth width
    → GoodInst form lines func (Plain_inst (Some result) (binary_of op) (tys.Int width) (a ∷ b ∷ []))
good_binary form lines func result op width a b v w = by op
  where
    wide : All IsWidth (width ∷ [])
    wide = All-cons IsWidth width [] w (All-nil IsWidth)

    named : All (λ named. named < length (content form lines).funcs) (functions_in (over (a ∷ b ∷ [])))
    named = no_names form lines (a ∷ b ∷ []) v

    by : (op : Binary) → GoodInst form lines func (Plain_inst (Some result) (binary_of op) (tys.Int width) (a ∷ b ∷ []))
    by Add = good_plain form lines func (Some result) ops.Add (tys.Int width) (a ∷ b ∷ []) (has_two result ops.Add width a b v) tt (All-nil IsWidth) wide refl (no_layout form lines) named
    by Sub = good_plain form lines func (Some result) ops.Sub (tys.Int width) (a ∷ b ∷ []) (has_two result ops.Sub width a b v) tt (All-nil IsWidth) wide refl (no_layout form lines) named
    by Mul = good_plain form lines func (Some result) ops.Mul (tys.Int width) (a ∷ b ∷ []) (has_two result ops.Mul width a b v) tt (All-nil IsWidth) wide refl (no_layout form lines) named
    by Udiv = good_plain form lines func (Some result) ops.Udiv (tys.Int width) (a ∷ b ∷ []) (has_two result ops.Udiv width a b v) tt (All-nil IsWidth) wide refl (no_layout form lines) named
    by Sdiv = good_plain form lines func (Some result) ops.Sdiv (tys.Int width) (a ∷ b ∷ []) (has_two result ops.Sdiv width a b v) tt (All-nil IsWidth) wide refl (no_layout form lines) named
    by Urem = good_plain form lines func (Some result) ops.Urem (tys.Int width) (a ∷ b ∷ []) (has_two result ops.Urem width a b v) tt (All-nil IsWidth) wide refl (no_layout form lines) named
    by Srem = good_plain form lines func (Some result) ops.Srem (tys.Int width) (a ∷ b ∷ []) (has_two result ops.Srem width a b v) tt (All-nil IsWidth) wide refl (no_layout form lines) named
    by And = good_plain form lines func (Some result) ops.And (tys.Int width) (a ∷ b ∷ []) (has_two result ops.And width a b v) tt (All-nil IsWidth) wide refl (no_layout form lines) named
    by Or = good_plain form lines func (Some result) ops.Or (tys.Int width) (a ∷ b ∷ []) (has_two result ops.Or width a b v) tt (All-nil IsWidth) wide refl (no_layout form lines) named
    by Xor = good_plain form lines func (Some result) ops.Xor (tys.Int width) (a ∷ b ∷ []) (has_two result ops.Xor width a b v) tt (All-nil IsWidth) wide refl (no_layout form lines) named
    by Shl = good_plain form lines func (Some result) ops.Shl (tys.Int width) (a ∷ b ∷ []) (has_two result ops.Shl width a b v) tt (All-nil IsWidth) wide refl (no_layout form lines) named
    by Lshr = good_plain form lines func (Some result) ops.Lshr (tys.Int width) (a ∷ b ∷ []) (has_two result ops.Lshr width a b v) tt (All-nil IsWidth) wide refl (no_layout form lines) named
    by Ashr = good_plain form lines func (Some result) ops.Ashr (tys.Int width) (a ∷ b ∷ []) (has_two result ops.Ashr width a b v) tt (All-nil IsWidth) wide refl (no_layout form lines) named

pub good_compare : (form : Form) (lines : List Line) (func : Definition) (result : List ℕ) (pred : Rattle.ir_ast.specs.declared.ops.Pred.Pred) (ty : TypeWord) (a b : Operand)
    → list_all is_value (a ∷ b ∷ []) ≡ true → IsValueType ty → GoodInst form lines func (Plain_inst (Some result) (ops.Icmp pred) (type_of ty) (a ∷ b ∷ []))
good_compare form lines func result pred ty a b v read =
    good_plain form lines func (Some result) (ops.Icmp pred) (type_of ty) (a ∷ b ∷ [])
    (record { result = refl; type = is_first ty read; operand_count = refl; values = v; label_count = refl; no_bundle = refl })
    tt (All-nil IsWidth) (type_width ty read) refl (no_layout form lines) (no_names form lines (a ∷ b ∷ []) v)

has_one : (result : List ℕ) (op : Op) (width : ℕ) (a : Operand) → list_all is_value (a ∷ []) ≡ true
    → Has true is_integer 1 0 (Plain_inst (Some result) op (tys.Int width) (a ∷ []))
has_one result op width a vals = record {
  result = refl;
  type = refl;
  operand_count = refl;
  values = vals;
  label_count = refl;
  no_bundle = refl;
}

pub width_one : (width : ℕ) → IsWidth width → All IsWidth (width ∷ [])
width_one width read = All-cons IsWidth width [] read (All-nil IsWidth)

pub good_convert : (form : Form) (lines : List Line) (func : Definition) (result : List ℕ) (op : Conversion) (width to : ℕ) (a : Operand)
    → list_all is_value (a ∷ []) ≡ true → IsWidth width → IsWidth to
    → GoodInst form lines func (Plain_inst (Some result) (conversion_of op to) (tys.Int width) (a ∷ []))
good_convert form lines func result Trunc width to a v w t =
    good_plain form lines func (Some result) (ops.Trunc to) (tys.Int width) (a ∷ []) (has_one result (ops.Trunc to) width a v) tt (width_one to t) (width_one width w) refl
    (no_layout form lines) (no_names form lines (a ∷ []) v)
good_convert form lines func result Zext width to a v w t =
    good_plain form lines func (Some result) (ops.Zext to) (tys.Int width) (a ∷ []) (has_one result (ops.Zext to) width a v) tt (width_one to t) (width_one width w) refl
    (no_layout form lines) (no_names form lines (a ∷ []) v)
good_convert form lines func result Sext width to a v w t =
    good_plain form lines func (Some result) (ops.Sext to) (tys.Int width) (a ∷ []) (has_one result (ops.Sext to) width a v) tt (width_one to t) (width_one width w) refl
    (no_layout form lines) (no_names form lines (a ∷ []) v)

pub good_select : (form : Form) (lines : List Line) (func : Definition) (result : List ℕ) (ty : TypeWord) (c a b : Operand)
    → list_all is_value (c ∷ a ∷ b ∷ []) ≡ true → IsValueType ty → GoodInst form lines func (Plain_inst (Some result) ops.Select (type_of ty) (c ∷ a ∷ b ∷ []))
good_select form lines func result ty c a b v read =
    good_plain form lines func (Some result) ops.Select (type_of ty) (c ∷ a ∷ b ∷ [])
    (record { result = refl; type = is_first ty read; operand_count = refl; values = v; label_count = refl; no_bundle = refl })
    tt (All-nil IsWidth) (type_width ty read) refl (no_layout form lines) (no_names form lines (c ∷ a ∷ b ∷ []) v)

element_ok : (ty : TypeWord) → is_scalar_type ty ≡ true → is_element (element_of ty) None ≡ true
element_ok (Int width) e = and_from ((width == 8) || (width == 16) || (width == 32) || (width == 64)) true e refl
element_ok Managed e = refl
element_ok Void e = absurd (let bad : false ≡ true = e in cc)
element_ok Plain e = absurd (let bad : false ≡ true = e in cc)

scalar_width : (width : ℕ) → ((width == 8) || (width == 16) || (width == 32) || (width == 64)) ≡ true → IsWidth width
scalar_width width e = by (width == 8) refl (width == 16) refl (width == 32) refl (width == 64) refl e
  where
    is : (n : ℕ) → (width == n) ≡ true → width ≡ n
    is n f = (Decides-eqb width n).0 f

    by : (a : Bool) → (width == 8) ≡ a → (b : Bool) → (width == 16) ≡ b → (c : Bool) → (width == 32) ≡ c → (d : Bool) → (width == 64) ≡ d
        → ((width == 8) || (width == 16) || (width == 32) || (width == 64)) ≡ true → IsWidth width
    by true f b g c h d k e = let w = is 8 f in (omega arith, omega arith)
    by false f true g c h d k e = let w = is 16 g in (omega arith, omega arith)
    by false f false g true h d k e = let w = is 32 h in (omega arith, omega arith)
    by false f false g false h true k e = let w = is 64 k in (omega arith, omega arith)
    by false f false g false h false k e =
        let bad : false ≡ true = sym (ap (λ (x : Bool). x || (width == 16) || (width == 32) || (width == 64)) f ∙ ap (λ (x : Bool). false || x || (width == 32) || (width == 64)) g
        ∙ ap (λ (x : Bool). false || false || x || (width == 64)) h ∙ ap (λ (x : Bool). false || false || false || x) k) ∙ e in absurd (cc)

element_width : (ty : TypeWord) (width : ℕ) → is_scalar_type ty ≡ true → IsWidth width → All IsWidth (operator_widths (ops.Gep (element_of ty) width None))
element_width (Int own) width e read = All-cons IsWidth own (width ∷ []) (scalar_width own e) (width_one width read)
element_width Managed width e read = width_one width read
element_width Void width e read = absurd (let bad : false ≡ true = e in cc)
element_width Plain width e read = absurd (let bad : false ≡ true = e in cc)

scalar_layouts : (form : Form) (lines : List Line) (result : List ℕ) (ty : TypeWord) (width : ℕ) (os : List Operand)
    → All (λ layout. layout < length (content form lines).layouts) (layouts_in (Plain_inst (Some result) (ops.Gep (element_of ty) width None) tys.Ptr os))
scalar_layouts form lines result (Int own) width os = no_layout form lines
scalar_layouts form lines result Managed width os = no_layout form lines
scalar_layouts form lines result Void width os = no_layout form lines
scalar_layouts form lines result Plain width os = no_layout form lines

pub good_scalar : (form : Form) (lines : List Line) (func : Definition) (result : List ℕ) (ty : TypeWord) (width : ℕ) (a b : Operand)
    → list_all is_value (a ∷ b ∷ []) ≡ true → is_scalar_type ty ≡ true → IsWidth width
    → GoodInst form lines func (Plain_inst (Some result) (ops.Gep (element_of ty) width None) tys.Ptr (a ∷ b ∷ []))
good_scalar form lines func result ty width a b v e read =
    good_plain form lines func (Some result) (ops.Gep (element_of ty) width None) tys.Ptr (a ∷ b ∷ [])
    (record { result = refl; type = refl; operand_count = refl; values = v; label_count = refl; no_bundle = refl }, element_ok ty e)
    tt (element_width ty width e read) (All-nil IsWidth) refl (scalar_layouts form lines result ty width (a ∷ b ∷ [])) (no_names form lines (a ∷ b ∷ []) v)

pub good_layout : (form : Form) (lines : List Line) (func : Definition) (result : List ℕ) (number width : ℕ) (place : Option ℕ) (a b : Operand)
    → list_all is_value (a ∷ b ∷ []) ≡ true → IsWidth width → number < length (content form lines).layouts
    → GoodInst form lines func (Plain_inst (Some result) (ops.Gep (elements.Layout number) width place) tys.Ptr (a ∷ b ∷ []))
good_layout form lines func result number width place a b v read below =
    good_plain form lines func (Some result) (ops.Gep (elements.Layout number) width place) tys.Ptr (a ∷ b ∷ [])
    (record { result = refl; type = refl; operand_count = refl; values = v; label_count = refl; no_bundle = refl }, refl)
    tt (width_one width read) (All-nil IsWidth) refl
    (All-cons (λ layout. layout < length (content form lines).layouts) number [] below (no_layout form lines)) (no_names form lines (a ∷ b ∷ []) v)

pub good_load : (form : Form) (lines : List Line) (func : Definition) (result : List ℕ) (ty : TypeWord) (a : Operand)
    → list_all is_value (a ∷ []) ≡ true → IsValueType ty → GoodInst form lines func (Plain_inst (Some result) ops.Load (type_of ty) (a ∷ []))
good_load form lines func result ty a v read =
    good_plain form lines func (Some result) ops.Load (type_of ty) (a ∷ [])
    (record { result = refl; type = is_first ty read; operand_count = refl; values = v; label_count = refl; no_bundle = refl })
    tt (All-nil IsWidth) (type_width ty read) refl (no_layout form lines) (no_names form lines (a ∷ []) v)

pub good_store : (form : Form) (lines : List Line) (func : Definition) (ty : TypeWord) (a b : Operand)
    → list_all is_value (a ∷ b ∷ []) ≡ true → IsValueType ty → GoodInst form lines func (Plain_inst None ops.Store (type_of ty) (a ∷ b ∷ []))
good_store form lines func ty a b v read =
    good_plain form lines func None ops.Store (type_of ty) (a ∷ b ∷ [])
    (record { result = refl; type = is_first ty read; operand_count = refl; values = v; label_count = refl; no_bundle = refl })
    tt (All-nil IsWidth) (type_width ty read) refl (no_layout form lines) (no_names form lines (a ∷ b ∷ []) v)

pub good_ret_void : (form : Form) (lines : List Line) (func : Definition) → GoodInst form lines func (Plain_inst None ops.Ret tys.Void [])
good_ret_void form lines func =
    good_plain form lines func None ops.Ret tys.Void []
    (record { result = refl; type = refl; operand_count = refl; values = refl; label_count = refl; no_bundle = refl })
    tt (All-nil IsWidth) (All-nil IsWidth) refl (no_layout form lines) (no_names form lines [] refl)

one_operand : (ty : TypeWord) → IsValueType ty → ◌≡◌ {A = ℕ} 1 (if is_void (type_of ty) then 0 else 1)
one_operand (Int width) read = refl
one_operand Managed read = refl
one_operand Void read = absurd read
one_operand Plain read = absurd read

pub good_ret : (form : Form) (lines : List Line) (func : Definition) (ty : TypeWord) (a : Operand)
    → list_all is_value (a ∷ []) ≡ true → IsValueType ty → GoodInst form lines func (Plain_inst None ops.Ret (type_of ty) (a ∷ []))
good_ret form lines func ty a v read =
    good_plain form lines func None ops.Ret (type_of ty) (a ∷ [])
    (record { result = refl; type = answers ty; operand_count = one_operand ty read; values = v; label_count = refl; no_bundle = refl })
    tt (All-nil IsWidth) (type_width ty read) refl (no_layout form lines) (no_names form lines (a ∷ []) v)

pub good_unreachable : (form : Form) (lines : List Line) (func : Definition) → GoodInst form lines func (Plain_inst None ops.Unreachable tys.Void [])
good_unreachable form lines func =
    good_plain form lines func None ops.Unreachable tys.Void []
    (record { result = refl; type = refl; operand_count = refl; values = refl; label_count = refl; no_bundle = refl })
    tt (All-nil IsWidth) (All-nil IsWidth) refl (no_layout form lines) (no_names form lines [] refl)

-- ---- its types

rule_kept : (scope : Scope) (op : Op) (inst : Instruction) → RuleBesidesCalls scope op inst → IsCalled scope op inst
    → (op ≡ ops.Switch → Distinct (drop 1 inst.operands)) → RuleOf scope op inst
rule_kept scope (ops.Call callee types) inst rule called cases = called
rule_kept scope (ops.Statepoint id callee types) inst rule called cases = called
rule_kept scope ops.Switch inst rule called cases = cases refl
rule_kept scope _ inst rule called cases = rule

pub inst_typed : (form : Form) (lines : List Line) (func : Definition) (inst : Instruction) → GoodInst form lines func inst
    → IsTypedBesidesCalls (scope_made form lines func) inst → (inst.op ≡ ops.Switch → Distinct (drop 1 inst.operands)) → IsTyped (scope_made form lines func) inst
inst_typed form lines func inst good typed cases = record {
  operands = typed.operands;
  bundle = typed.bundle;
  rule = rule_kept (scope_made form lines func) inst.op inst typed.rule good.called cases;
}
