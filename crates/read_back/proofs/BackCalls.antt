-- The calls that a module is printed with agree with the heads of what they call, and each statepoint has as many arguments
-- as it counts.
use Rattle.std.proofs.Common.{◌≡◌, ◌∙◌, inl, inr, ℕ, suc, pos, ◌^◌, ◌≤◌, Bool, true, false, not, ◌&&◌, ◌||◌, if◌then◌else◌, List, [], ◌∷◌, ◌++◌, map, length, drop, refl, ap, sym, subst, arith, codes}
use Rattle.std.specs.Prelude.{Option, Some, None, take, slice_get, option_map}
use Rattle.std.specs.Option.{option_map_or}
use Rattle.std.specs.Str.{bytes_eq}
use Rattle.std.specs.List.{AllByRecursion, AllZip, Contains, zip}
use Rattle.std.proofs.lemmas.List.{length-map}
use Rattle.std.proofs.lemmas.Option.{same_Some, slice_get_within}
use Rattle.std.proofs.lemmas.List.Elements.{recursion_from_All, All-contains}
use Rattle.std.proofs.lemmas.Bool.{lt-ltb, and_from, or_right}
use Rattle.std.proofs.lemmas.Bool.Decides.{Decides-eqb}
use Rattle.sp_ids.specs.declared.ids.FuncId.{FuncId}
use Rattle.sp_ids.specs.declared.ids.BlockId.{BlockId}
use Rattle.ir_ast.specs.declared.modules.Form.{Form}
use Rattle.ir_ast.specs.declared.cells.Cell.{Cell}
use Rattle.ir_ast.specs.Cells.{kind_of}
use Rattle.ir_ast.specs.declared.types.Ty.{Ty}
use Rattle.ir_ast.specs.declared.types.Ty.TheVariants as tys
use Rattle.ir_ast.specs.declared.funcs.Arg.{Arg}
use Rattle.ir_ast.specs.declared.ops.Op.{Op}
use Rattle.ir_ast.specs.declared.ops.Op.TheVariants as ops
use Rattle.ir_ast.specs.declared.ops.Elem.{Elem}
use Rattle.ir_ast.specs.declared.ops.Elem.TheVariants as elements
use Rattle.ir_ast.specs.declared.ops.Operand.{Operand}
use Rattle.ir_ast.specs.declared.ops.Operand.TheVariants as operands
use Rattle.ir_ast.specs.declared.ops.Callee.{Callee}
use Rattle.ir_ast.specs.declared.ops.Callee.TheVariants as callees
use Rattle.ir_ast.specs.Types.{is_first_class}
use Rattle.ir_ast.specs.Lines.{Arguments}
use Rattle.ir_ast.specs.Values.{value_types}
use Rattle.ir_ast.specs.Insts.{Instruction}
use Rattle.ir_ast.specs.Funcs.{Function, instructions_of}
use Rattle.ir_ast.specs.Modules.{ModuleContent}
use Rattle.ir_ast.specs.Scope as module_scope
use Rattle.ir_ast.specs.Scope.{Signature, signature_of}
use Rattle.ir_ast.specs.Faults.TypeClash.{Fits, IsTyped, FunctionIsTyped, RuleOf, IsCallOf, TakesOperands}
use Rattle.ir_ast.specs.Faults.Reserved.{IsExternalName}
use Rattle.ir_printer.specs.Names.{Names, layout_name, function_name}
use Rattle.ir_printer.specs.Calls.{callee_name}
use Rattle.ir_printer.specs.Declarations.{is_callee, is_statepoints, is_call_of}
use Rattle.line_parts.specs.Types.{TypeWord}
use Rattle.line_parts.specs.Types as types
use Rattle.line_parts.specs.Lists.{Named, Given}
use Rattle.ir_lines.specs.Statements.{Line, Statement, switch_end}
use Rattle.ir_lines.specs.Sections.{Head, Definition, types_of, heads_of}
use Rattle.ir_lines.specs.Scope.{Scope, scope_of, head_named}
use Rattle.ir_lines.specs.Types.{same_type, same_types, literal_fits}
use Rattle.ir_lines.specs.Faults.GroupShape.{is_count}
use Rattle.ir_resolve.specs.TextFaults.{says_wrong, miscounts}
use Rattle.ir_lines.specs.Modules.{passed_type}
use Rattle.ir_lines.specs.Faults.TypeClash.{is_task, starts_task, gives_kind, checks_kind, agrees, call_agrees, takes_types, statepoint_agrees}
use Rattle.ir_lines.specs.TextForms.{is_source}
use Rattle.list_laws.proofs.Places.{get_taken}
use Rattle.ir_lines.proofs.LawNames.{stands, contains_get, same_by_name}
use Rattle.module_laws.proofs.LawHeads.{HeadFrom, from_definition, from_declaration, heads-from}
use Rattle.read_back.specs.Said.{word_of, literal_of, argument_says, passed_says, parameter_says, made_says, statepoint_says, step_says, return_says, case_says, operator_says, said_by}
use Rattle.read_back.proofs.Cells.{cell_reads}
use Rattle.read_back.proofs.BackLines.{said}
use Rattle.read_back.proofs.BackLists.{CalleeBelow, other_name}
use Rattle.read_back.proofs.BackInsts.{IsPrintedIn, passing, guards}
use Rattle.read_back.proofs.Fronts.{zip_take}
use Rattle.read_back.proofs.BackSections.{SaysDefinition}
use Rattle.read_back.proofs.BackModules.{IsShaped, names_in, shaped_inst}
use Rattle.read_back.proofs.BackFaults.{Each, IfDeclares, each_declaration, line_said, printed_from}
use Rattle.read_back.proofs.BackTops.{definitions_free}
use Rattle.read_back.proofs.BackHeads.{declares_external}
use Rattle.read_back.proofs.BackUnknown.{HeadFound, Knows, some_block, knows, callee_found, is_called}
use Rattle.text_resolve.proofs.ExternalLemmas.{same_types-self, same_type-self}
use Rattle.list_laws.proofs.Booleans.{and_three}

-- what the head says that a name has
record HeadSays (scope : Scope) (name : List ℕ) (defined : Bool) (answer : TypeWord) (parameters : List TypeWord) : Type 0 where
  head : Head
  found : head_named scope name ≡ Some head
  is_defined : head.defined ≡ defined
  answers : head.answer ≡ answer
  takes : head.parameters ≡ parameters

-- ---- the heads of functions

argument_words : (args : List Arg) → types_of (map argument_says args) ≡ map word_of (map (λ (a : Arg). a.ty) args)
argument_words [] = refl
argument_words (a ∷ args) = ap (λ (ws : List TypeWord). word_of a.ty ∷ ws) (argument_words args)

function_from : (content : ModuleContent) → IsShaped content → (lines : List Line) → said lines ≡ said_by content → (f : Function) → Contains content.funcs f
    → (h : Head) → h.name ≡ f.name → HeadFrom lines h
    → (h.defined ≡ true) × (h.answer ≡ word_of f.answer) × (h.parameters ≡ map word_of (map (λ (a : Arg). a.ty) f.args))
function_from content shaped lines e f c h same (from_definition d inside is) =
    let o = printed_from content lines e d inside in
    let named : o.func.name ≡ f.name = sym o.says.name ∙ ap (λ (x : Head). x.name) is ∙ same in
    let func : o.func ≡ f = same_by_name (λ (g : Function). g.name) content.funcs o.func f shaped.no_fault.names.functions o.stands c named in (
      sym (ap (λ (x : Head). x.defined) is),
      sym (ap (λ (x : Head). x.answer) is) ∙ o.says.answer ∙ ap (λ (g : Function). word_of g.answer) func,
      sym (ap (λ (x : Head). x.parameters) is) ∙ ap types_of o.says.arguments ∙ ap (λ (g : Function). types_of (map argument_says g.args)) func ∙ argument_words f.args,
    )
function_from content shaped lines e f c h same (from_declaration l inside answer name parameters says is) =
    let named : name ≡ f.name = sym (ap (λ (x : Head). x.name) is) ∙ same in
    absurd (All-contains (λ (g : Function). ¬ (IsExternalName g.name)) content.funcs f shaped.no_fault.free c
    (subst IsExternalName named (declares_external content lines e l inside answer name parameters says)))

function_head : (content : ModuleContent) → IsShaped content → (lines : List Line) → said lines ≡ said_by content → (one : Definition) (k : ℕ) (f : Function)
    → slice_get content.funcs k ≡ Some f → HeadFound (scope_of lines one) (function_name content.funcs k)
    → HeadSays (scope_of lines one) (function_name content.funcs k) true (word_of f.answer) (map word_of (map (λ (a : Arg). a.ty) f.args))
function_head content shaped lines e one k f at found =
    let s = stands (λ (h : Head). h.name) (heads_of lines) (function_name content.funcs k) found in
    let same : s.one.name ≡ f.name = s.same ∙ ap (λ (o : Option Function). option_map_or (λ (g : Function). g.name) o []) at in
    let parts = function_from content shaped lines e f (contains_get content.funcs k f at) s.one same
    (All-contains (HeadFrom lines) (heads_of lines) s.one (heads-from lines) (contains_get (heads_of lines) s.place s.one s.there)) in
    record { head = s.one; found = s.found; is_defined = parts.0; answers = parts.1; takes = parts.2 }

record HasFunction (o : Option Function) (sig : Signature) : Type 0 where
  func : Function
  there : o ≡ Some func
  has : signature_of func ≡ sig

has_function : (o : Option Function) (sig : Signature) → option_map signature_of o ≡ Some sig → HasFunction o sig
has_function None sig e = absurd (let bad : None ≡ Some sig = e in cc)
has_function (Some f) sig e = record { func = f; there = refl; has = same_Some (signature_of f) sig e }

-- ---- the heads of externals

-- what an external answers and takes, by its name; other names than the first six are those of `gc_new`
abbrev words_by : List ℕ → TypeWord × List TypeWord
words_by name =
    if bytes_eq name (codes "print_i64") then (types.Void, types.Int 64 ∷ [])
    else if bytes_eq name (codes "read_i64") then (types.Int 64, [])
    else if bytes_eq name (codes "task_start") then (types.Void, types.Plain ∷ types.Managed ∷ [])
    else if bytes_eq name (codes "gc.safepoint_poll") then (types.Void, [])
    else if bytes_eq name (codes "gc_check") then (types.Void, types.Managed ∷ types.Managed ∷ types.Int 64 ∷ [])
    else if bytes_eq name (codes "gc_same") then (types.Int 1, types.Managed ∷ types.Managed ∷ types.Managed ∷ types.Managed ∷ [])
    else (types.Managed, types.Int 64 ∷ [])

abbrev IsExtern : TypeWord → List ℕ → List Named → Type 0
IsExtern answer name parameters = (answer ≡ (words_by name).0) × (types_of parameters ≡ (words_by name).1)

declared : (content : ModuleContent) → Each (IfDeclares IsExtern) content
declared content =
    each_declaration IsExtern content (λ number below. (refl, refl)) (refl, refl) (refl, refl) (refl, refl)
    (λ called. (refl, refl)) (λ called. (refl, refl)) (λ called. (refl, refl))

external_from : (content : ModuleContent) → IsShaped content → (lines : List Line) → said lines ≡ said_by content → (due : List ℕ) → IsExternalName due
    → (h : Head) → h.name ≡ due → HeadFrom lines h → (h.defined ≡ false) × (h.answer ≡ (words_by due).0) × (h.parameters ≡ (words_by due).1)
external_from content shaped lines e due external h same (from_definition d inside is) =
    absurd (definitions_free content shaped lines e d inside (subst IsExternalName (sym (ap (λ (x : Head). x.name) is ∙ same)) external))
external_from content shaped lines e due external h same (from_declaration l inside a name named says is) =
    let told : IsExtern a name named = subst (IfDeclares IsExtern) says (line_said (IfDeclares IsExtern) content lines e (declared content) l inside) in
    let own = subst (λ (n : List ℕ). IsExtern a n named) (sym (ap (λ (x : Head). x.name) is) ∙ same) told in
    (ap (λ (x : Head). x.defined) is, ap (λ (x : Head). x.answer) is ∙ own.0, ap (λ (x : Head). x.parameters) is ∙ own.1)

external_head : (content : ModuleContent) → IsShaped content → (lines : List Line) → said lines ≡ said_by content → (one : Definition)
    → (due : List ℕ) → IsExternalName due → HeadFound (scope_of lines one) due
    → HeadSays (scope_of lines one) due false (words_by due).0 (words_by due).1
external_head content shaped lines e one due external found =
    let s = stands (λ (h : Head). h.name) (heads_of lines) due found in
    let parts = external_from content shaped lines e due external s.one s.same
    (All-contains (HeadFrom lines) (heads_of lines) s.one (heads-from lines) (contains_get (heads_of lines) s.place s.one s.there)) in
    record { head = s.one; found = s.found; is_defined = parts.0; answers = parts.1; takes = parts.2 }

-- ---- what is passed

abbrev passed_of : Names → List Ty → List Operand → List Given
passed_of names ts os = map (λ (argument : Ty × Operand). passed_says names argument.0 argument.1) (zip ts os)

abbrev IsFirst : Ty → Type 0
IsFirst ty = is_first_class ty ≡ true

one_passed : (names : Names) (values : List Ty) (o : Operand) (t : Ty) → Fits values o t → IsFirst t → passed_type (passed_says names t o) ≡ word_of t
one_passed names values (operands.Value v) t fit first = refl
one_passed names values (operands.Int n) t fit first = refl
one_passed names values operands.Null t fit first = refl
one_passed names values (operands.Fun f) t fit first = absurd (let bad : false ≡ true = sym (ap is_first_class fit) ∙ first in cc)

passed_types : (names : Names) (values : List Ty) (os : List Operand) (ts : List Ty) → AllZip (Fits values) os ts → AllByRecursion IsFirst ts
    → map passed_type (passed_of names ts os) ≡ map word_of ts
passed_types names values [] [] fit first = refl
passed_types names values [] (t ∷ ts) fit first = absurd fit
passed_types names values (o ∷ os) [] fit first = absurd fit
passed_types names values (o ∷ os) (t ∷ ts) fit first =
    ap (λ (w : TypeWord). w ∷ map passed_type (passed_of names ts os)) (one_passed names values o t fit.0 first.0)
    ∙ ap (λ (ws : List TypeWord). word_of t ∷ ws) (passed_types names values os ts fit.1 first.1)

record TaskPassed (scope : Scope) (names : Names) (func : FuncId) (os : List Operand) : Type 0 where
  words : map passed_type (passed_of names (tys.Void ∷ tys.Ptr ∷ []) os) ≡ types.Plain ∷ types.Managed ∷ []
  starts : starts_task scope (passed_of names (tys.Void ∷ tys.Ptr ∷ []) os) ≡ is_task (head_named scope (function_name names.funcs func.0))

task_passed : (scope : Scope) (names : Names) (values : List Ty) (func : FuncId) (os : List Operand) → AllZip (Fits values) os (tys.Void ∷ tys.Ptr ∷ [])
    → slice_get os 0 ≡ Some (operands.Fun func) → TaskPassed scope names func os
task_passed scope names values func [] fit at = absurd fit
task_passed scope names values func (o ∷ []) fit at = absurd fit.1
task_passed scope names values func (o ∷ p ∷ q ∷ os) fit at = absurd fit.1.1
task_passed scope names values func (o ∷ p ∷ []) fit at =
    subst (λ (x : Operand). TaskPassed scope names func (x ∷ p ∷ [])) (sym (same_Some o (operands.Fun func) at)) (record {
      words = ap (λ (w : TypeWord). types.Plain ∷ w ∷ []) (one_passed names values p tys.Ptr fit.1.0 refl);
      starts = refl;
    })

-- ---- calls

agree : (scope : Scope) (name : List ℕ) (defined : Bool) (answer : TypeWord) (passed : List Given) → HeadSays scope name defined answer (map passed_type passed)
    → agrees answer passed (head_named scope name) ≡ true
agree scope name defined answer passed s =
    ap (agrees answer passed) s.found
    ∙ and_from (same_type answer s.head.answer) (same_types (map passed_type passed) s.head.parameters)
    (ap (same_type answer) s.answers ∙ same_type-self answer)
    (ap (same_types (map passed_type passed)) s.takes ∙ same_types-self (map passed_type passed))

-- what is asked of the calls of one name only
not_asked : (due name : List ℕ) (b : Bool) → bytes_eq name due ≡ false → (not (bytes_eq name due) || b) ≡ true
not_asked due name b other = ap (λ (c : Bool). not c || b) other

-- only the rewritten form asks something of checks
asked_of : (a b c : Bool) → (b || c) ≡ true → (a || b || c) ≡ true
asked_of true b c e = refl
asked_of false b c e = e

-- a call of what has this signature, by a `call` or a statepoint
record CallFits (form : Form) (scope : Scope) (names : Names) (name : List ℕ) (os : List Operand) (sig : Signature) : Type 0 where
  agrees : call_agrees form scope (word_of sig.answer) name (passed_of names sig.params os) ≡ true
  takes : takes_types (map parameter_says sig.params) (head_named scope name) ≡ true
  few : length sig.params ≤ 64

parameter_words : (ts : List Ty) → AllByRecursion IsFirst ts → map parameter_says ts ≡ map word_of ts
parameter_words [] first = refl
parameter_words (t ∷ ts) first =
    ap (λ (w : TypeWord). w ∷ map parameter_says ts) (one t first.0) ∙ ap (λ (ws : List TypeWord). word_of t ∷ ws) (parameter_words ts first.1)
  where
    one : (t : Ty) → IsFirst t → parameter_says t ≡ word_of t
    one tys.Void e = absurd (let bad : false ≡ true = e in cc)
    one (tys.Int w) e = refl
    one tys.Ptr e = refl
    one tys.Token e = absurd (let bad : false ≡ true = e in cc)

taken : (scope : Scope) (name : List ℕ) (defined : Bool) (answer : TypeWord) (words : List TypeWord) → HeadSays scope name defined answer words
    → takes_types words (head_named scope name) ≡ true
taken scope name defined answer words s = ap (takes_types words) s.found ∙ ap (same_types words) s.takes ∙ same_types-self words

plain_call : (form : Form) (scope : Scope) (names : Names) (values : List Ty) (name : List ℕ) (os : List Operand) (sig : Signature) (defined : Bool)
    → HeadSays scope name defined (word_of sig.answer) (map word_of sig.params) → AllZip (Fits values) os sig.params → AllByRecursion IsFirst sig.params
    → length sig.params ≤ 64 → bytes_eq name (codes "task_start") ≡ false → (not (bytes_eq name (codes "gc_check")) || checks_kind (passed_of names sig.params os)) ≡ true
    → CallFits form scope names name os sig
plain_call form scope names values name os sig defined s fit first few other checks =
    let passed = passed_of names sig.params os in
    let same = parameter_words sig.params first in
    record {
      agrees = and_three (agrees (word_of sig.answer) passed (head_named scope name)) (not (bytes_eq name (codes "task_start")) || starts_task scope passed)
          (is_source form || not (bytes_eq name (codes "gc_check")) || checks_kind passed)
          (agree scope name defined (word_of sig.answer) passed
          (subst (HeadSays scope name defined (word_of sig.answer)) (sym (passed_types names values os sig.params fit first)) s))
          (not_asked (codes "task_start") name (starts_task scope passed) other)
          (asked_of (is_source form) (not (bytes_eq name (codes "gc_check"))) (checks_kind passed) checks);
      takes = taken scope name defined (word_of sig.answer) (map parameter_says sig.params)
          (subst (HeadSays scope name defined (word_of sig.answer)) (sym same) s);
      few = few;
    }

kind_checked : (names : Names) (values : List Ty) (cell : Cell) (os : List Operand) → AllZip (Fits values) os (tys.Ptr ∷ tys.Ptr ∷ tys.Int 64 ∷ [])
    → slice_get os 2 ≡ Some (operands.Int (kind_of cell)) → checks_kind (passed_of names (tys.Ptr ∷ tys.Ptr ∷ tys.Int 64 ∷ []) os) ≡ true
kind_checked names values cell [] fit is = absurd fit
kind_checked names values cell (o ∷ []) fit is = absurd fit.1
kind_checked names values cell (o ∷ p ∷ []) fit is = absurd fit.1.1
kind_checked names values cell (o ∷ p ∷ q ∷ os) fit is =
    ap (λ (x : Operand). gives_kind (passed_says names (tys.Int 64) x)) (same_Some q (operands.Int (kind_of cell)) is) ∙ (cell_reads cell).kind names

task_is : (scope : Scope) (name : List ℕ) → HeadSays scope name true types.Void (types.Managed ∷ []) → is_task (head_named scope name) ≡ true
task_is scope name s =
    ap is_task s.found
    ∙ and_from (s.head.defined && same_type s.head.answer types.Void) (same_types s.head.parameters (types.Managed ∷ []))
    (and_from s.head.defined (same_type s.head.answer types.Void) s.is_defined (ap (λ (t : TypeWord). same_type t types.Void) s.answers))
    (ap (λ (ts : List TypeWord). same_types ts (types.Managed ∷ [])) s.takes)

task_call : (form : Form) (scope : Scope) (names : Names) (values : List Ty) (os : List Operand) (func : FuncId)
    → HeadSays scope (codes "task_start") false types.Void (types.Plain ∷ types.Managed ∷ [])
    → HeadSays scope (function_name names.funcs func.0) true types.Void (types.Managed ∷ [])
    → AllZip (Fits values) os (tys.Void ∷ tys.Ptr ∷ []) → slice_get os 0 ≡ Some (operands.Fun func)
    → CallFits form scope names (codes "task_start") os (record { answer = tys.Void; params = tys.Void ∷ tys.Ptr ∷ [] })
task_call form scope names values os func s task fit at =
    let t = task_passed scope names values func os fit at in
    let passed = passed_of names (tys.Void ∷ tys.Ptr ∷ []) os in
    record {
      agrees = and_three (agrees types.Void passed (head_named scope (codes "task_start"))) (not (bytes_eq (codes "task_start") (codes "task_start")) || starts_task scope passed)
          (is_source form || not (bytes_eq (codes "task_start") (codes "gc_check")) || checks_kind passed)
          (agree scope (codes "task_start") false types.Void passed (subst (HeadSays scope (codes "task_start") false types.Void) (sym t.words) s))
          (or_right (not (bytes_eq (codes "task_start") (codes "task_start"))) (starts_task scope passed)
          (t.starts ∙ task_is scope (function_name names.funcs func.0) task))
          (asked_of (is_source form) (not (bytes_eq (codes "task_start") (codes "gc_check"))) (checks_kind passed) refl);
      takes = taken scope (codes "task_start") false types.Void (types.Plain ∷ types.Managed ∷ []) s;
      few = omega arith;
    }

-- the arguments of a function are first class
args_first : (args : List Arg) → AllByRecursion (λ (a : Arg). is_first_class a.ty ≡ true) args → AllByRecursion IsFirst (map (λ (a : Arg). a.ty) args)
args_first [] h = tt
args_first (a ∷ args) h = (h.0, args_first args h.1)

external_call : (form : Form) (content : ModuleContent) → IsShaped content → (lines : List Line) → said lines ≡ said_by content → (one : Definition) (func : Function)
    → (name : List ℕ) (sig : Signature) → IsExternalName name → HeadFound (scope_of lines one) name
    → words_by name ≡ (word_of sig.answer, map word_of sig.params) → AllByRecursion IsFirst sig.params → length sig.params ≤ 64 → bytes_eq name (codes "task_start") ≡ false
    → (ts : List Ty) (ty : Ty) (os : List Operand) → AllZip (Fits (value_types func)) os ts → Some sig ≡ Some (record { answer = ty; params = ts })
    → (AllZip (Fits (value_types func)) os sig.params → (not (bytes_eq name (codes "gc_check")) || checks_kind (passed_of (names_in content func) sig.params os)) ≡ true)
    → CallFits form (scope_of lines one) (names_in content func) name os (record { answer = ty; params = ts })
external_call form content shaped lines e one func name sig external found words first few other ts ty os fit signature checks =
    let scope = scope_of lines one in
    let names = names_in content func in
    let given : Signature = record { answer = ty; params = ts } in
    let same : sig ≡ given = same_Some sig given signature in
    let own : AllZip (Fits (value_types func)) os sig.params = subst (λ (s : Signature). AllZip (Fits (value_types func)) os s.params) (sym same) fit in
    subst (CallFits form scope names name os) same
    (plain_call form scope names (value_types func) name os sig false
    (subst (λ (w : TypeWord × List TypeWord). HeadSays scope name false w.0 w.1) words (external_head content shaped lines e one name external found))
    own first few other (checks own))

call_keeps : (form : Form) (content : ModuleContent) → IsShaped content → (lines : List Line) → said lines ≡ said_by content → (one : Definition) (func : Function)
    → Knows (scope_of lines one) (names_in content func) → (callee : Callee) → CalleeBelow (names_in content func) callee
    → HeadFound (scope_of lines one) (callee_name (names_in content func) callee)
    → (ts : List Ty) (ty : Ty) (os : List Operand) → AllZip (Fits (value_types func)) os ts
    → (module_scope.scope_of content func).called callee ≡ Some (record { answer = ty; params = ts }) → TakesOperands (module_scope.scope_of content func) callee os
    → CallFits form (scope_of lines one) (names_in content func) (callee_name (names_in content func) callee) os (record { answer = ty; params = ts })
call_keeps form content shaped lines e one func k (callees.Fun named) below found ts ty os fit signature takes =
    let scope = scope_of lines one in
    let names = names_in content func in
    let name = function_name content.funcs named.0 in
    let sig : Signature = record { answer = ty; params = ts } in
    let f = has_function (slice_get content.funcs named.0) sig signature in
    let stands_there = contains_get content.funcs named.0 f.func f.there in
    let typed = All-contains (λ (g : Function). FunctionIsTyped (module_scope.scope_of content g) g) content.funcs f.func shaped.no_fault.typed stands_there in
    let head = function_head content shaped lines e one named.0 f.func f.there found in
    let first = args_first f.func.args (recursion_from_All (λ (a : Arg). is_first_class a.ty ≡ true) f.func.args typed.args) in
    let few : length (map (λ (a : Arg). a.ty) f.func.args) ≤ 64 =
    subst (λ (n : ℕ). n ≤ 64) (sym (length-map f.func.args (λ (a : Arg). a.ty)))
    (All-contains (λ (g : Function). length g.args ≤ 64) content.funcs f.func shaped.limits.arguments stands_there) in
    let called : name ≡ f.func.name = ap (λ (o : Option Function). option_map_or (λ (g : Function). g.name) o []) f.there in
    let free = All-contains (λ (g : Function). ¬ (IsExternalName g.name)) content.funcs f.func shaped.no_fault.free stands_there in
    plain_call form scope names (value_types func) name os sig true
    (subst (λ (s : Signature). HeadSays scope name true (word_of s.answer) (map word_of s.params)) f.has head) fit
    (subst (λ (s : Signature). AllByRecursion IsFirst s.params) f.has first)
    (subst (λ (s : Signature). length s.params ≤ 64) f.has few)
    (other_name name (codes "task_start") (λ same. free (inl (2, omega arith, sym same ∙ called))))
    (not_asked (codes "gc_check") name (checks_kind (passed_of names ts os)) (other_name name (codes "gc_check") (λ same. free (inl (4, omega arith, sym same ∙ called)))))
call_keeps form content shaped lines e one func k (callees.New layout) below found ts ty os fit signature takes =
    external_call form content shaped lines e one func (codes "gc_new." ++ layout_name content.layouts layout) (record { answer = tys.Ptr; params = tys.Int 64 ∷ [] })
    (inr (inl (layout_name content.layouts layout, refl))) found refl (refl, tt) (omega arith) refl ts ty os fit signature (λ own. refl)
call_keeps form content shaped lines e one func k callees.Print below found ts ty os fit signature takes =
    external_call form content shaped lines e one func (codes "print_i64") (record { answer = tys.Void; params = tys.Int 64 ∷ [] })
    (inl (0, omega arith, refl)) found refl (refl, tt) (omega arith) refl ts ty os fit signature (λ own. refl)
call_keeps form content shaped lines e one func k callees.Read below found ts ty os fit signature takes =
    external_call form content shaped lines e one func (codes "read_i64") (record { answer = tys.Int 64; params = [] })
    (inl (1, omega arith, refl)) found refl tt (omega arith) refl ts ty os fit signature (λ own. refl)
call_keeps form content shaped lines e one func k callees.TaskStart below found ts ty os fit signature takes =
    let scope = scope_of lines one in
    let names = names_in content func in
    let sig : Signature = record { answer = tys.Void; params = tys.Void ∷ tys.Ptr ∷ [] } in
    let given : Signature = record { answer = ty; params = ts } in
    let same : sig ≡ given = same_Some sig given signature in
    let to : FuncId = takes.0 in
    let task : Signature = record { answer = tys.Void; params = tys.Ptr ∷ [] } in
    let f = has_function (slice_get content.funcs to.0) task takes.2 in
    let head = function_head content shaped lines e one to.0 f.func f.there (k.function to.0 (slice_get_within content.funcs to.0 f.func f.there)) in
    subst (CallFits form scope names (codes "task_start") os) same
    (task_call form scope names (value_types func) os to
    (external_head content shaped lines e one (codes "task_start") (inl (2, omega arith, refl)) found)
    (subst (λ (s : Signature). HeadSays scope (function_name content.funcs to.0) true (word_of s.answer) (map word_of s.params)) f.has head)
    (subst (λ (s : Signature). AllZip (Fits (value_types func)) os s.params) (sym same) fit) takes.1)
call_keeps form content shaped lines e one func k callees.Poll below found ts ty os fit signature takes =
    external_call form content shaped lines e one func (codes "gc.safepoint_poll") (record { answer = tys.Void; params = [] })
    (inl (3, omega arith, refl)) found refl tt (omega arith) refl ts ty os fit signature (λ own. refl)
call_keeps form content shaped lines e one func k callees.Check below found ts ty os fit signature takes =
    external_call form content shaped lines e one func (codes "gc_check") (record { answer = tys.Void; params = tys.Ptr ∷ tys.Ptr ∷ tys.Int 64 ∷ [] })
    (inl (4, omega arith, refl)) found refl (refl, (refl, (refl, tt))) (omega arith) refl ts ty os fit signature
    (λ own. kind_checked (names_in content func) (value_types func) takes.0 os own takes.1)
call_keeps form content shaped lines e one func k callees.Same below found ts ty os fit signature takes =
    external_call form content shaped lines e one func (codes "gc_same") (record { answer = tys.Int 1; params = tys.Ptr ∷ tys.Ptr ∷ tys.Ptr ∷ tys.Ptr ∷ [] })
    (inl (5, omega arith, refl)) found refl (refl, (refl, (refl, (refl, tt)))) (omega arith) refl ts ty os fit signature (λ own. refl)

-- ---- statepoints

-- what is asked of the operands of a call is asked of the arguments in front
takes_front : (content : ModuleContent) (func : Function) (callee : Callee) (ts : List Ty) (ty : Ty) (os : List Operand)
    → (module_scope.scope_of content func).called callee ≡ Some (record { answer = ty; params = ts }) → TakesOperands (module_scope.scope_of content func) callee os
    → TakesOperands (module_scope.scope_of content func) callee (take (length ts) os)
takes_front content func callees.TaskStart ts ty os signature takes =
    let sig : Signature = record { answer = tys.Void; params = tys.Void ∷ tys.Ptr ∷ [] } in
    let same : sig ≡ record { answer = ty; params = ts } = same_Some sig (record { answer = ty; params = ts }) signature in
    let long : 2 ≡ length ts = ap (λ (s : Signature). length s.params) same in
    (takes.0, get_taken os 0 (length ts) (omega arith) ∙ takes.1, takes.2)
takes_front content func callees.Check ts ty os signature takes =
    let sig : Signature = record { answer = tys.Void; params = tys.Ptr ∷ tys.Ptr ∷ tys.Int 64 ∷ [] } in
    let same : sig ≡ record { answer = ty; params = ts } = same_Some sig (record { answer = ty; params = ts }) signature in
    let long : 3 ≡ length ts = ap (λ (s : Signature). length s.params) same in
    (takes.0, get_taken os 2 (length ts) (omega arith) ∙ takes.1)
takes_front content func (callees.Fun named) ts ty os signature takes = tt
takes_front content func (callees.New layout) ts ty os signature takes = tt
takes_front content func callees.Print ts ty os signature takes = tt
takes_front content func callees.Read ts ty os signature takes = tt
takes_front content func callees.Poll ts ty os signature takes = tt
takes_front content func callees.Same ts ty os signature takes = tt

abbrev GuardedFits : Form → Scope → Names → ℕ → Callee → List Ty → Instruction → Type 0
GuardedFits form scope names id callee ts inst = statepoint_agrees form scope (made_says names id callee ts inst) ≡ true

guarded_fits : (form : Form) (scope : Scope) (names : Names) (id : ℕ) (callee : Callee) (ts : List Ty) (inst : Instruction)
    → CallFits form scope names (callee_name names callee) (take (length ts) inst.operands) (record { answer = inst.ty; params = ts })
    → GuardedFits form scope names id callee ts inst
guarded_fits form scope names id callee ts inst fits =
    let few = fits.few in
    and_three (call_agrees form scope (word_of inst.ty) (callee_name names callee) (passed_of names ts inst.operands))
    (takes_types (map parameter_says ts) (head_named scope (callee_name names callee))) (literal_fits (types.Int 32) (literal_of (pos (length ts))))
    (subst (λ (z : List (Ty × Operand)). call_agrees form scope (word_of inst.ty) (callee_name names callee)
    (map (λ (argument : Ty × Operand). passed_says names argument.0 argument.1) z) ≡ true) (zip_take ts inst.operands) fits.agrees)
    fits.takes (lt-ltb (length ts) (2 ^ 32) (omega arith))

passed_count : (callee : Callee) (ts : List Ty) (os : List Operand) → Arguments callee (take (length ts) os) ts → length (zip ts os) ≡ length ts
passed_count callee [] os arguments = refl
passed_count callee (t ∷ ts) [] arguments = absurd arguments
passed_count callee (t ∷ ts) (o ∷ os) arguments = ap suc (passed_count callee ts os arguments.1)

counted : (names : Names) (id : ℕ) (callee : Callee) (ts : List Ty) (inst : Instruction) → Arguments callee (take (length ts) inst.operands) ts
    → is_count (made_says names id callee ts inst).count (length (made_says names id callee ts inst).passed) ≡ true
counted names id callee ts inst arguments =
    (Decides-eqb (length ts) (length (passed_of names ts inst.operands))).1
    (sym (length-map (zip ts inst.operands) (λ (argument : Ty × Operand). passed_says names argument.0 argument.1) ∙ passed_count callee ts inst.operands arguments))

-- ---- any instruction

-- a line spells nothing wrong but values, and counts its arguments
abbrev pub SaysRight : Form → Scope → Statement → Type 0
SaysRight form scope s = (says_wrong form scope s ≡ false) × (miscounts scope s ≡ false)

cases_right : (form : Form) (scope : Scope) (names : Names) (ty : Ty) (es : List (Operand × BlockId)) → AllByRecursion (SaysRight form scope) (map (case_says names ty) es ++ switch_end ∷ [])
cases_right form scope names ty [] = ((refl, refl), tt)
cases_right form scope names ty (e ∷ es) = ((refl, refl), cases_right form scope names ty es)

step_right : (form : Form) (scope : Scope) (names : Names) (elem : Elem) (width : ℕ) (place : Option ℕ) (inst : Instruction) → SaysRight form scope (step_says names elem width place inst)
step_right form scope names (elements.Int w) width place inst = (refl, refl)
step_right form scope names elements.Ptr width place inst = (refl, refl)
step_right form scope names (elements.Layout l) width None inst = (refl, refl)
step_right form scope names (elements.Layout l) width (Some n) inst = (refl, refl)

return_right : (form : Form) (scope : Scope) (names : Names) (ty : Ty) (inst : Instruction) → SaysRight form scope (return_says names ty inst)
return_right form scope names tys.Void inst = (refl, refl)
return_right form scope names (tys.Int n) inst = (refl, refl)
return_right form scope names tys.Ptr inst = (refl, refl)
return_right form scope names tys.Token inst = (refl, refl)

inst_right : (form : Form) (scope : Scope) (names : Names) (op : Op) (inst : Instruction)
    → ((callee : Callee) (ts : List Ty) → op ≡ ops.Call callee ts
    → CallFits form scope names (callee_name names callee) inst.operands (record { answer = inst.ty; params = ts }))
    → ((id : ℕ) (callee : Callee) (ts : List Ty) → op ≡ ops.Statepoint id callee ts → SaysRight form scope (statepoint_says names id callee ts inst))
    → AllByRecursion (SaysRight form scope) (operator_says names op inst)
inst_right form scope names (ops.Call callee ts) inst calls guarded = ((ap not (calls callee ts refl).agrees, refl), tt)
inst_right form scope names (ops.Statepoint id callee ts) inst calls guarded = (guarded id callee ts refl, tt)
inst_right form scope names ops.Select inst calls guarded = ((ap not (same_type-self (word_of inst.ty)), refl), tt)
inst_right form scope names (ops.Gep elem width place) inst calls guarded = (step_right form scope names elem width place inst, tt)
inst_right form scope names ops.Switch inst calls guarded = ((refl, refl), cases_right form scope names inst.ty (zip (drop 1 inst.operands) (drop 1 inst.labels)))
inst_right form scope names ops.Ret inst calls guarded = (return_right form scope names inst.ty inst, tt)
inst_right form scope names _ inst calls guarded = ((refl, refl), tt)

one_call : (form : Form) (content : ModuleContent) → IsShaped content → (lines : List Line) → said lines ≡ said_by content → (one : Definition) (func : Function)
    → Knows (scope_of lines one) (names_in content func) → Contains content.funcs func → (inst : Instruction) → Contains (instructions_of func.blocks) inst
    → (op : Op) → op ≡ inst.op → IsPrintedIn content.form (names_in content func) op inst → RuleOf (module_scope.scope_of content func) op inst
    → (callee : Callee) (ts : List Ty) → op ≡ ops.Call callee ts
    → CallFits form (scope_of lines one) (names_in content func) (callee_name (names_in content func) callee) inst.operands (record { answer = inst.ty; params = ts })
one_call form content shaped lines e one func k c inst d op has p rule callee ts is =
    let names = names_in content func in
    let q : IsPrintedIn content.form names (ops.Call callee ts) inst = subst (λ (o : Op). IsPrintedIn content.form names o inst) is p in
    let call_rule : IsCallOf (module_scope.scope_of content func) callee ts inst = subst (λ (o : Op). RuleOf (module_scope.scope_of content func) o inst) is rule in
    let below = (passing names callee ts inst q).below in
    let found = callee_found (scope_of lines one) names k callee below
    (λ x called. is_called content.funcs func inst x c d
    (subst (λ (o : Op). is_call_of x o inst.ty ≡ true) (sym is ∙ has) called)) in
    call_keeps form content shaped lines e one func k callee below found ts inst.ty inst.operands q.fits call_rule.signature call_rule.operands

one_statepoint : (form : Form) (content : ModuleContent) → IsShaped content → (lines : List Line) → said lines ≡ said_by content → (one : Definition) (func : Function)
    → Knows (scope_of lines one) (names_in content func) → Contains content.funcs func → (inst : Instruction) → Contains (instructions_of func.blocks) inst
    → (op : Op) → op ≡ inst.op → IsPrintedIn content.form (names_in content func) op inst → RuleOf (module_scope.scope_of content func) op inst
    → (id : ℕ) (callee : Callee) (ts : List Ty) → op ≡ ops.Statepoint id callee ts → SaysRight form (scope_of lines one) (statepoint_says (names_in content func) id callee ts inst)
one_statepoint form content shaped lines e one func k c inst d op has p rule id callee ts is =
    let names = names_in content func in
    let q : IsPrintedIn content.form names (ops.Statepoint id callee ts) inst = subst (λ (o : Op). IsPrintedIn content.form names o inst) is p in
    let call_rule : IsCallOf (module_scope.scope_of content func) callee ts inst = subst (λ (o : Op). RuleOf (module_scope.scope_of content func) o inst) is rule in
    let g = guards names id callee ts inst q in
    let found = callee_found (scope_of lines one) names k callee g.below
    (λ x called. is_called content.funcs func inst x c d
    (subst (λ (o : Op). is_call_of x o inst.ty ≡ true) (sym is ∙ has) (or_right (is_statepoints x) (is_callee x callee) called))) in
    let agrees = guarded_fits form (scope_of lines one) names id callee ts inst
    (call_keeps form content shaped lines e one func k callee g.below found ts inst.ty (take (length ts) inst.operands) g.fits call_rule.signature
    (takes_front content func callee ts inst.ty inst.operands call_rule.signature call_rule.operands)) in
    (ap not agrees, ap not (counted names id callee ts inst q.line.arguments))

pub says_right : (form : Form) (content : ModuleContent) → IsShaped content → (lines : List Line) → said lines ≡ said_by content → (one : Definition) (func : Function)
    → SaysDefinition content.layouts content.funcs one func → Contains content.funcs func → (inst : Instruction) → Contains (instructions_of func.blocks) inst
    → AllByRecursion (SaysRight form (scope_of lines one)) (operator_says (names_in content func) inst.op inst)
says_right form content shaped lines e one func says c inst d =
    let typed = All-contains (λ (g : Function). FunctionIsTyped (module_scope.scope_of content g) g) content.funcs func shaped.no_fault.typed c in
    let fit = All-contains (IsTyped (module_scope.scope_of content func)) (instructions_of func.blocks) inst typed.lines d in
    let k = knows content shaped lines e one func says c (some_block func.blocks inst d) in
    let printed = shaped_inst content shaped func c inst d in
    inst_right form (scope_of lines one) (names_in content func) inst.op inst
    (one_call form content shaped lines e one func k c inst d inst.op refl printed fit.rule)
    (one_statepoint form content shaped lines e one func k c inst d inst.op refl printed fit.rule)
