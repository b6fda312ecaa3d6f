-- A call of an external, and a call of either kind.
use Rattle.std.proofs.Common.{◌≡◌, ◌∙◌, ◌⊎◌, inl, inr, ℕ, ◌<◌, Bool, true, false, not, ◌&&◌, ◌||◌, List, [], ◌∷◌, map, length, refl, ap, sym, subst, arith}
use Rattle.std.specs.Prelude.{Option, Some, None, is_none, find, codes, filter_map}
use Rattle.std.specs.List.{All, AllByRecursion, Contains, list_any}
use Rattle.std.specs.Str.{bytes_eq}
use Rattle.std.proofs.lemmas.List.{length-map}
use Rattle.std.proofs.lemmas.List.Elements.{All-nil, All-cons, All-contains, All-from_recursion, recursion_from_All, Contains-append_cases}
use Rattle.ir_ast.specs.declared.types.Ty.TheVariants as tys
use Rattle.ir_ast.specs.declared.ops.Callee.{Callee}
use Rattle.ir_ast.specs.declared.ops.Callee.TheVariants as callees
use Rattle.ir_ast.specs.Callees.{is_helper}
use Rattle.ir_ast.specs.Operands.{functions_named as functions_in, layouts_named as layouts_in}
use Rattle.ir_ast.specs.Scope.{Signature, called_in, scope_of as module_scope}
use Rattle.ir_ast.specs.Faults.TypeClash.{TakesOperands, ChecksKind}
use Rattle.ir_ast.specs.declared.modules.Form.{Form}
use Rattle.ir_ast.specs.declared.modules.Form.TheVariants.{Source, Rewritten}
use Rattle.ir_ast.specs.declared.ops.Operand.TheVariants as operands
use Rattle.ir_ast.specs.Cells.{is_kind}
use Rattle.ir_ast.proofs.CellLaws.{kind_cell}
use Rattle.line_parts.specs.Types.{TypeWord}
use Rattle.line_parts.specs.Types.{Void, Int, Managed, Plain}
use Rattle.line_tokens.specs.declared.literals.Literal.{Literal}
use Rattle.line_parts.specs.Parts.{Val}
use Rattle.line_parts.specs.Parts as values
use Rattle.line_parts.specs.Lists.{Named, Given, given, function}
use Rattle.ir_lines.specs.Statements.{Line, Statement, declare}
use Rattle.ir_lines.specs.Parts.{passed_function}
use Rattle.ir_lines.specs.Sections.{Head, Definition, LayoutLine, types_of, heads_of, definitions_of, layouts_of}
use Rattle.ir_lines.specs.Scope.{scope_of, head_named}
use Rattle.ir_lines.specs.Places.{place_in, number_of, number_in}
use Rattle.ir_lines.specs.TextForms.{is_source}
use Rattle.ir_lines.specs.Types.{same_type, same_types}
use Rattle.ir_lines.specs.Externals.{External, external, gc_new, externals_of, helpers}
use Rattle.ir_lines.specs.Modules.{Known, known_of, wrapped, width_of, type_of, layout_of, passed_operand, passed_type, external_callee, callee_at, function_of, module_of}
use Rattle.ir_resolve.specs.TextFaults.{unknown_extern, reserved}
use Rattle.ir_resolve.specs.FaultSet.{HasNoResolvedFault, of_text}
use Rattle.ir_lines.specs.Faults.UnknownExtern.{UnknownExtern}
use Rattle.ir_lines.specs.Faults.Reserved.{declares_helper}
use Rattle.ir_lines.specs.Faults.TypeClash.{agrees, starts_task, is_task, checks_kind, call_agrees}
use Rattle.ir_lines.specs.ReadLines.{IsReadPassed, IsValueType}
use Rattle.ir_lines.proofs.LawNames.{stands, stands_below, number-is, contains_get, get_contained, contains_first, contains_later, contains_cons, same_by_name}
use Rattle.module_laws.proofs.LawFacts.{or-left, same_type-is, same_types-is}
use Rattle.module_laws.proofs.LawHeads.{HeadFrom, from_definition, from_declaration, head_of, heads-have, heads-from, heads-distinct}
use Rattle.module_laws.proofs.LawLines.{InLaw, made, is_value_in}
use Rattle.module_laws.proofs.LawCalls.{IsGoodCall, found_by_name, unplaced, contains_mapped, funcs_of, names_defined, called, given_from_types, args_fit, argument-value, over, no_function, no_functions, call_made, signed, calls_definition, contains_external}
use Rattle.list_laws.proofs.Booleans.{true_and_false, first_true, second_true}

-- a declaration of faultless lines is one of the externals, and in the source form no helper
pub declared : (form : Form) (lines : List Line) → HasNoResolvedFault form lines → (l : Line) → Contains lines l → (answer : TypeWord) (name : List ℕ) (parameters : List Named)
    → l.says ≡ declare answer name parameters
    → Contains (externals_of (map (λ one. one.name) (layouts_of lines))) (external name answer (types_of parameters)) × (form ≡ Source → ¬ (Contains helpers name))
declared form lines none l inside answer name parameters e =
    let stands_there : Contains lines (record { number = l.number; says = declare answer name parameters }) =
    subst (λ (s : Statement). Contains lines (record { number = l.number; says = s })) e inside in (
      by (contains_external (externals_of (map (λ one. one.name) (layouts_of lines))) (external name answer (types_of parameters))) stands_there,
      λ is c. none l.number 14 (of_text (reserved (declares_helper is answer name parameters stands_there (inl c)))),
    )
  where
    by : Contains (externals_of (map (λ one. one.name) (layouts_of lines))) (external name answer (types_of parameters))
        ⊎ (¬ (Contains (externals_of (map (λ one. one.name) (layouts_of lines))) (external name answer (types_of parameters))))
        → Contains lines (record { number = l.number; says = declare answer name parameters })
        → Contains (externals_of (map (λ one. one.name) (layouts_of lines))) (external name answer (types_of parameters))
    by (inl c) there = c
    by (inr f) there =
        let told : UnknownExtern lines l.number = record {
          answer = answer;
          name = name;
          parameters = parameters;
          stands = there;
          unknown = f;
        } in absurd (none l.number 12 (of_text (unknown_extern told)))

-- what is known of a call of an external
pub record CallsExternal (form : Form) (lines : List Line) (func : Definition) (name : List ℕ) (answer : TypeWord) (passed : List Given) (e : External) : Type 0 where
  pub law : InLaw form lines func
  pub named : name ≡ e.name
  pub answers : answer ≡ e.answer
  pub takes : map passed_type passed ≡ e.parameters
  pub not_helper : form ≡ Source → ¬ (Contains helpers name)
  pub no_definition : place_in (names_defined lines) name ≡ None
  pub starts : (not (bytes_eq name (codes "task_start")) || starts_task (scope_of lines func) passed) ≡ true
  pub checks : (is_source form || not (bytes_eq name (codes "gc_check")) || checks_kind passed) ≡ true
  pub read : All IsReadPassed passed

plain_external : (form : Form) (lines : List Line) (func : Definition) (name : List ℕ) (answer : TypeWord) (passed : List Given) (e : External)
    → CallsExternal form lines func name answer passed e → (callee : Callee) → external_callee (known_of lines func) e.name ≡ callee
    → called_in (funcs_of lines) callee ≡ Some (record { answer = type_of e.answer; params = map type_of e.parameters })
    → AllByRecursion IsValueType e.parameters
    → TakesOperands (module_scope (module_of form lines).content (made lines func)) callee (map (passed_operand (known_of lines func)) passed)
    → (form ≡ Source → is_helper callee ≡ false)
    → All (λ layout. layout < length (module_of form lines).content.layouts) (layouts_in (call_made callee answer passed (known_of lines func)))
    → functions_in (call_made callee answer passed (known_of lines func)) ≡ functions_in (over (map (passed_operand (known_of lines func)) passed))
    → IsGoodCall form lines func name answer passed
plain_external form lines func name answer passed e c callee is signature value_types takes helper layouts functions =
    let known = known_of lines func in
    let all_given = given_from_types passed (subst (AllByRecursion IsValueType) (sym c.takes) value_types) in
    record {
      callee = callee;
      is = ap (callee_at known name) c.no_definition ∙ ap (external_callee known) c.named ∙ is;
      signature = signature ∙ ap Some (signed e.answer answer e.parameters passed c.answers c.takes);
      takes = takes;
      helper = helper;
      arguments = args_fit known callee passed all_given;
      layouts = layouts;
      functions = subst (All (λ named. named < length (funcs_of lines))) (sym functions)
          (All-from_recursion (λ named. named < length (funcs_of lines)) (functions_in (over (map (passed_operand known) passed)))
          (no_functions (λ named. named < length (funcs_of lines)) known passed all_given));
    }

wide : IsValueType (Int 64)
wide = (omega arith, omega arith)

calls_print : (form : Form) (lines : List Line) (func : Definition) (name : List ℕ) (answer : TypeWord) (passed : List Given)
    → CallsExternal form lines func name answer passed (external (codes "print_i64") Void (Int 64 ∷ [])) → IsGoodCall form lines func name answer passed
calls_print form lines func name answer passed c =
    plain_external form lines func name answer passed (external (codes "print_i64") Void (Int 64 ∷ [])) c callees.Print refl refl (wide, tt) tt (λ is. refl)
    (All-nil (λ layout. layout < length (module_of form lines).content.layouts)) refl

calls_read : (form : Form) (lines : List Line) (func : Definition) (name : List ℕ) (answer : TypeWord) (passed : List Given)
    → CallsExternal form lines func name answer passed (external (codes "read_i64") (Int 64) []) → IsGoodCall form lines func name answer passed
calls_read form lines func name answer passed c =
    plain_external form lines func name answer passed (external (codes "read_i64") (Int 64) []) c callees.Read refl refl tt tt (λ is. refl)
    (All-nil (λ layout. layout < length (module_of form lines).content.layouts)) refl

calls_new : (form : Form) (lines : List Line) (func : Definition) (name : List ℕ) (answer : TypeWord) (passed : List Given) (layout : List ℕ)
    → Contains (map (λ one. one.name) (layouts_of lines)) layout
    → CallsExternal form lines func name answer passed (external (gc_new layout) Managed (Int 64 ∷ [])) → IsGoodCall form lines func name answer passed
calls_new form lines func name answer passed layout there c =
    let known = known_of lines func in
    let one = contains_mapped (λ (l : LayoutLine). l.name) (layouts_of lines) layout there in
    let s = stands (λ (l : LayoutLine). l.name) (layouts_of lines) layout (found_by_name (λ (l : LayoutLine). l.name) (layouts_of lines) one.0 layout one.1 one.2) in
    let few = c.law.read.few_layouts in
    let within : number_in known.layouts layout < length (module_of form lines).content.layouts =
    (let b = stands_below (λ (l : LayoutLine). l.name) (layouts_of lines) layout s in
    let n = number-is (λ (l : LayoutLine). l.name) (layouts_of lines) layout s (omega arith) in
    omega (arith, n, length-map (layouts_of lines) layout_of)) in
    plain_external form lines func name answer passed (external (gc_new layout) Managed (Int 64 ∷ [])) c (callees.New (number_in known.layouts layout)) refl refl (wide, tt) tt (λ is. refl)
    (All-cons (λ layout. layout < length (module_of form lines).content.layouts) (number_in known.layouts layout) [] within
    (All-nil (λ layout. layout < length (module_of form lines).content.layouts))) refl

-- ---- `task_start`

pub record StartsAt (lines : List Line) (name : List ℕ) : Type 0 where
  pub definition : Definition
  pub there : Contains (definitions_of lines) definition
  pub named : definition.name ≡ name
  pub answers : definition.answer ≡ Void
  pub takes : types_of definition.arguments ≡ Managed ∷ []

task_head : (o : Option Head) → is_task o ≡ true → is_none o ≡ false
task_head None e = absurd (let bad : false ≡ true = e in cc)
task_head (Some head) e = refl

task_from : (lines : List Line) (name : List ℕ) (h : Head) → is_task (Some h) ≡ true → h.name ≡ name → HeadFrom lines h → StartsAt lines name
task_from lines name h e same (from_definition d c f) =
    let st = same_type h.answer Void in
    let ps = same_types h.parameters (Managed ∷ []) in
    let answered : h.answer ≡ Void = same_type-is h.answer Void (second_true h.defined st (first_true (h.defined && st) ps e)) in
    let taken : h.parameters ≡ Managed ∷ [] = same_types-is h.parameters (Managed ∷ []) (second_true (h.defined && st) ps e) in
    record {
      definition = d;
      there = c;
      named = ap (λ (x : Head). x.name) f ∙ same;
      answers = ap (λ (x : Head). x.answer) f ∙ answered;
      takes = ap (λ (x : Head). x.parameters) f ∙ taken;
    }
task_from lines name h e same (from_declaration l c answer other parameters f g) =
    let st = same_type h.answer Void in
    let ps = same_types h.parameters (Managed ∷ []) in
    absurd (true_and_false h.defined (first_true h.defined st (first_true (h.defined && st) ps e)) (ap (λ (x : Head). x.defined) g))

pub starts_at : (lines : List Line) (func : Definition) (name : List ℕ) → is_task (head_named (scope_of lines func) name) ≡ true → StartsAt lines name
starts_at lines func name e =
    let s = stands (λ (one : Head). one.name) (heads_of lines) name (task_head (head_named (scope_of lines func) name) e) in
    task_from lines name s.one (sym (ap is_task s.found) ∙ e) s.same
    (All-contains (HeadFrom lines) (heads_of lines) s.one (heads-from lines) (contains_get (heads_of lines) s.place s.one s.there))

task_call : (form : Form) (lines : List Line) (func : Definition) (name : List ℕ) (answer : TypeWord) (to : List ℕ) (v : Val)
    → CallsExternal form lines func name answer (function to ∷ given Managed v ∷ []) (external (codes "task_start") Void (Plain ∷ Managed ∷ []))
    → IsGoodCall form lines func name answer (function to ∷ given Managed v ∷ [])
task_call form lines func name answer to v c =
    let known = known_of lines func in
    let passed : List Given = function to ∷ given Managed v ∷ [] in
    let starts : starts_task (scope_of lines func) passed ≡ true =
    sym (ap (λ (n : List ℕ). not (bytes_eq n (codes "task_start")) || starts_task (scope_of lines func) passed) c.named) ∙ c.starts in
    let at = starts_at lines func to starts in
    let d = at.definition in
    let found = called form lines c.law.read c.law.none d to at.there at.named in
    let number : number_in (names_defined lines) to ≡ number_of (Some found.place) = ap number_of found.placed in
    let within : number_in (names_defined lines) to < length (funcs_of lines) =
    (let b = found.below in let n = found.number in
    omega (arith, number, length-map (definitions_of lines) (λ (one : Definition). function_of (known_of lines one) one))) in
    record {
      callee = callees.TaskStart;
      is = ap (callee_at known name) c.no_definition ∙ ap (external_callee known) c.named;
      signature = ap Some (signed Void answer (Plain ∷ Managed ∷ []) passed c.answers c.takes);
      takes = (
        record { 0 = number_in (names_defined lines) to },
        refl,
        ap (λ (n : ℕ). called_in (funcs_of lines) (callees.Fun (record { 0 = n }))) number ∙ found.signature
            ∙ ap (λ (t : TypeWord). let sig : Signature = record { answer = type_of t; params = map type_of (types_of d.arguments) } in Some sig) at.answers
            ∙ ap (λ (ts : List TypeWord). let sig : Signature = record { answer = tys.Void; params = map type_of ts } in Some sig) at.takes,
      );
      helper = λ is. refl;
      arguments = (refl, (argument-value callees.TaskStart (passed_operand known (given Managed v)) tys.Ptr (is_value_in known.values Managed v), tt));
      layouts = All-nil (λ layout. layout < length (module_of form lines).content.layouts);
      functions = All-cons (λ named. named < length (funcs_of lines)) (number_in (names_defined lines) to) (functions_in (over (passed_operand known (given Managed v) ∷ []))) within
          (All-from_recursion (λ named. named < length (funcs_of lines)) (functions_in (over (passed_operand known (given Managed v) ∷ [])))
          (no_function (λ named. named < length (funcs_of lines)) known Managed v [] tt));
    }

record TaskPassed (passed : List Given) : Type 0 where
  to : List ℕ
  value : Val
  whole : passed ≡ function to ∷ given Managed value ∷ []

plain_value : (ty : TypeWord) → ty ≡ Plain → IsValueType ty → ⊥
plain_value ty e read = subst IsValueType e read

task_passed : (passed : List Given) → same_types (map passed_type passed) (Plain ∷ Managed ∷ []) ≡ true → AllByRecursion IsReadPassed passed → TaskPassed passed
task_passed [] e read = absurd (let bad : false ≡ true = e in cc)
task_passed (given ty v ∷ more) e read =
    absurd (plain_value ty (same_type-is ty Plain (first_true (same_type ty Plain) (same_types (map passed_type more) (Managed ∷ [])) e)) read.0)
task_passed (function to ∷ []) e read = absurd (let bad : false ≡ true = e in cc)
task_passed (function to ∷ function other ∷ more) e read = absurd (let bad : false ≡ true = e in cc)
task_passed (function to ∷ given ty v ∷ []) e read =
    let is : ty ≡ Managed = same_type-is ty Managed (first_true (same_type ty Managed) true e) in
    record { to = to; value = v; whole = ap (λ (t : TypeWord). function to ∷ given t v ∷ []) is }
task_passed (function to ∷ given ty v ∷ one ∷ more) e read =
    absurd (let bad : false ≡ true = second_true (same_type ty Managed) false e in cc)

same_task : same_types (Plain ∷ Managed ∷ []) (Plain ∷ Managed ∷ []) ≡ true
same_task = refl

calls_task : (form : Form) (lines : List Line) (func : Definition) (name : List ℕ) (answer : TypeWord) (passed : List Given)
    → CallsExternal form lines func name answer passed (external (codes "task_start") Void (Plain ∷ Managed ∷ [])) → IsGoodCall form lines func name answer passed
calls_task form lines func name answer passed c =
    let t = task_passed passed (ap (λ (ts : List TypeWord). same_types ts (Plain ∷ Managed ∷ [])) c.takes ∙ same_task) (recursion_from_All IsReadPassed passed c.read) in
    subst (λ (ps : List Given). IsGoodCall form lines func name answer ps) (sym t.whole)
    (task_call form lines func name answer t.to t.value
    (subst (λ (ps : List Given). CallsExternal form lines func name answer ps (external (codes "task_start") Void (Plain ∷ Managed ∷ []))) t.whole c))

-- ---- each external

abbrev own_poll : External
own_poll = external (codes "gc.safepoint_poll") Void []

abbrev own_check : External
own_check = external (codes "gc_check") Void (Managed ∷ Managed ∷ Int 64 ∷ [])

abbrev own_same : External
own_same = external (codes "gc_same") (Int 1) (Managed ∷ Managed ∷ Managed ∷ Managed ∷ [])

abbrev helper_list : List External
helper_list = own_poll ∷ own_check ∷ own_same ∷ []

-- a helper is none in the source form
not_called : (form : Form) (lines : List Line) (func : Definition) (name : List ℕ) (answer : TypeWord) (passed : List Given) (e : External)
    → CallsExternal form lines func name answer passed e → Contains helpers e.name → form ≡ Source → ⊥
not_called form lines func name answer passed e c there is = c.not_helper is (subst (λ (n : List ℕ). Contains helpers n) (sym c.named) there)

is_poll : Contains helpers (codes "gc.safepoint_poll")
is_poll = contains_first (codes "gc.safepoint_poll") (codes "gc_check" ∷ codes "gc_same" ∷ [])

is_check : Contains helpers (codes "gc_check")
is_check =
    contains_later (codes "gc.safepoint_poll") (codes "gc_check") (codes "gc_check" ∷ codes "gc_same" ∷ [])
    (contains_first (codes "gc_check") (codes "gc_same" ∷ []))

is_same : Contains helpers (codes "gc_same")
is_same =
    contains_later (codes "gc.safepoint_poll") (codes "gc_same") (codes "gc_check" ∷ codes "gc_same" ∷ [])
    (contains_later (codes "gc_check") (codes "gc_same") (codes "gc_same" ∷ []) (contains_first (codes "gc_same") []))

calls_poll : (form : Form) (lines : List Line) (func : Definition) (name : List ℕ) (answer : TypeWord) (passed : List Given)
    → CallsExternal form lines func name answer passed own_poll → IsGoodCall form lines func name answer passed
calls_poll form lines func name answer passed c =
    plain_external form lines func name answer passed own_poll c callees.Poll refl refl tt tt
    (λ is. absurd (not_called form lines func name answer passed own_poll c is_poll is))
    (All-nil (λ layout. layout < length (module_of form lines).content.layouts)) refl

calls_same : (form : Form) (lines : List Line) (func : Definition) (name : List ℕ) (answer : TypeWord) (passed : List Given)
    → CallsExternal form lines func name answer passed own_same → IsGoodCall form lines func name answer passed
calls_same form lines func name answer passed c =
    plain_external form lines func name answer passed own_same c callees.Same refl refl (tt, (tt, (tt, (tt, tt)))) tt
    (λ is. absurd (not_called form lines func name answer passed own_same c is_same is))
    (All-nil (λ layout. layout < length (module_of form lines).content.layouts)) refl

kind_at : (known : Known) (a b : Given) (ty : TypeWord) (literal : Literal) (more : List Given) → ty ≡ Int 64 → is_kind (wrapped 64 literal) ≡ true
    → ChecksKind (map (passed_operand known) (a ∷ b ∷ given ty (values.number literal) ∷ more))
kind_at known a b ty literal more is small =
    let kind = kind_cell (wrapped 64 literal) small in (
      kind.0,
      ap (λ (t : TypeWord). Some (operands.Int (wrapped (width_of t) literal))) is ∙ ap (λ (n : ℕ). Some (operands.Int n)) kind.1,
    )

third_type : (a b c : TypeWord) (rest : List TypeWord) → a ∷ b ∷ c ∷ rest ≡ Managed ∷ Managed ∷ Int 64 ∷ [] → c ≡ Int 64
third_type a b c rest e = cc

-- the kind that a own_check is passed
kind_passed : (known : Known) (passed : List Given) → map passed_type passed ≡ Managed ∷ Managed ∷ Int 64 ∷ [] → checks_kind passed ≡ true
    → ChecksKind (map (passed_operand known) passed)
kind_passed known [] types e = absurd (let bad : 0 ≡ 3 = ap (λ (ts : List TypeWord). length ts) types in omega (arith, bad))
kind_passed known (a ∷ []) types e = absurd (let bad : 1 ≡ 3 = ap (λ (ts : List TypeWord). length ts) types in omega (arith, bad))
kind_passed known (a ∷ b ∷ []) types e = absurd (let bad : 2 ≡ 3 = ap (λ (ts : List TypeWord). length ts) types in omega (arith, bad))
kind_passed known (a ∷ b ∷ given ty (values.number literal) ∷ more) types e =
    kind_at known a b ty literal more (third_type (passed_type a) (passed_type b) ty (map passed_type more) types) e
kind_passed known (a ∷ b ∷ given ty (values.local name) ∷ more) types e = absurd (let bad : false ≡ true = e in cc)
kind_passed known (a ∷ b ∷ given ty (values.truth said) ∷ more) types e = absurd (let bad : false ≡ true = e in cc)
kind_passed known (a ∷ b ∷ given ty values.null ∷ more) types e = absurd (let bad : false ≡ true = e in cc)
kind_passed known (a ∷ b ∷ function name ∷ more) types e = absurd (let bad : false ≡ true = e in cc)

-- what a own_check of the rewritten form keeps to
checked_kind : (form : Form) (lines : List Line) (func : Definition) (name : List ℕ) (answer : TypeWord) (passed : List Given)
    → CallsExternal form lines func name answer passed own_check → checks_kind passed ≡ true
checked_kind Source lines func name answer passed c = absurd (not_called Source lines func name answer passed own_check c is_check refl)
checked_kind Rewritten lines func name answer passed c =
    sym (ap (λ (n : List ℕ). not (bytes_eq n (codes "gc_check")) || checks_kind passed) c.named) ∙ c.checks

calls_check : (form : Form) (lines : List Line) (func : Definition) (name : List ℕ) (answer : TypeWord) (passed : List Given)
    → CallsExternal form lines func name answer passed own_check → IsGoodCall form lines func name answer passed
calls_check form lines func name answer passed c =
    plain_external form lines func name answer passed own_check c callees.Check refl refl (tt, (tt, (wide, tt)))
    (kind_passed (known_of lines func) passed c.takes (checked_kind form lines func name answer passed c))
    (λ is. absurd (not_called form lines func name answer passed own_check c is_check is))
    (All-nil (λ layout. layout < length (module_of form lines).content.layouts)) refl

moved : (form : Form) (lines : List Line) (func : Definition) (name : List ℕ) (answer : TypeWord) (passed : List Given) (e f : External) → e ≡ f
    → CallsExternal form lines func name answer passed f → CallsExternal form lines func name answer passed e
moved form lines func name answer passed e f is c = subst (λ (x : External). CallsExternal form lines func name answer passed x) (sym is) c

same_or : (form : Form) (lines : List Line) (func : Definition) (name : List ℕ) (answer : TypeWord) (passed : List Given) (e : External) → CallsExternal form lines func name answer passed e
    → (own_same ≡ e) ⊎ Contains [] e → IsGoodCall form lines func name answer passed
same_or form lines func name answer passed e c (inl is) = calls_same form lines func name answer passed (moved form lines func name answer passed own_same e is c)
same_or form lines func name answer passed e c (inr there) = absurd (let g = get_contained [] e there in let bad : None ≡ Some e = g.1 in cc)

check_or : (form : Form) (lines : List Line) (func : Definition) (name : List ℕ) (answer : TypeWord) (passed : List Given) (e : External) → CallsExternal form lines func name answer passed e
    → (own_check ≡ e) ⊎ Contains (own_same ∷ []) e → IsGoodCall form lines func name answer passed
check_or form lines func name answer passed e c (inl is) = calls_check form lines func name answer passed (moved form lines func name answer passed own_check e is c)
check_or form lines func name answer passed e c (inr there) = same_or form lines func name answer passed e c (contains_cons own_same e [] there)

poll_or : (form : Form) (lines : List Line) (func : Definition) (name : List ℕ) (answer : TypeWord) (passed : List Given) (e : External) → CallsExternal form lines func name answer passed e
    → (own_poll ≡ e) ⊎ Contains (own_check ∷ own_same ∷ []) e → IsGoodCall form lines func name answer passed
poll_or form lines func name answer passed e c (inl is) = calls_poll form lines func name answer passed (moved form lines func name answer passed own_poll e is c)
poll_or form lines func name answer passed e c (inr there) = check_or form lines func name answer passed e c (contains_cons own_check e (own_same ∷ []) there)

task_or : (form : Form) (lines : List Line) (func : Definition) (name : List ℕ) (answer : TypeWord) (passed : List Given) (e : External) → CallsExternal form lines func name answer passed e
    → (external (codes "task_start") Void (Plain ∷ Managed ∷ []) ≡ e) ⊎ Contains helper_list e → IsGoodCall form lines func name answer passed
task_or form lines func name answer passed e c (inl same) = calls_task form lines func name answer passed (moved form lines func name answer passed (external (codes "task_start") Void (Plain ∷ Managed ∷ [])) e same c)
task_or form lines func name answer passed e c (inr there) =
    poll_or form lines func name answer passed e c (contains_cons own_poll e (own_check ∷ own_same ∷ []) there)

read_or : (form : Form) (lines : List Line) (func : Definition) (name : List ℕ) (answer : TypeWord) (passed : List Given) (e : External) → CallsExternal form lines func name answer passed e
    → (external (codes "read_i64") (Int 64) [] ≡ e) ⊎ Contains (external (codes "task_start") Void (Plain ∷ Managed ∷ []) ∷ helper_list) e → IsGoodCall form lines func name answer passed
read_or form lines func name answer passed e c (inl same) = calls_read form lines func name answer passed (moved form lines func name answer passed (external (codes "read_i64") (Int 64) []) e same c)
read_or form lines func name answer passed e c (inr there) =
    task_or form lines func name answer passed e c (contains_cons (external (codes "task_start") Void (Plain ∷ Managed ∷ [])) e helper_list there)

print_or : (form : Form) (lines : List Line) (func : Definition) (name : List ℕ) (answer : TypeWord) (passed : List Given) (e : External) → CallsExternal form lines func name answer passed e
    → (external (codes "print_i64") Void (Int 64 ∷ []) ≡ e)
    ⊎ Contains (external (codes "read_i64") (Int 64) [] ∷ external (codes "task_start") Void (Plain ∷ Managed ∷ []) ∷ helper_list) e → IsGoodCall form lines func name answer passed
print_or form lines func name answer passed e c (inl same) = calls_print form lines func name answer passed (moved form lines func name answer passed (external (codes "print_i64") Void (Int 64 ∷ [])) e same c)
print_or form lines func name answer passed e c (inr there) =
    read_or form lines func name answer passed e c
    (contains_cons (external (codes "read_i64") (Int 64) []) e (external (codes "task_start") Void (Plain ∷ Managed ∷ []) ∷ helper_list) there)

abbrev new_of : List ℕ → External
new_of layout = external (gc_new layout) Managed (Int 64 ∷ [])

abbrev fixed : List External
fixed = external (codes "print_i64") Void (Int 64 ∷ []) ∷ external (codes "read_i64") (Int 64) [] ∷ external (codes "task_start") Void (Plain ∷ Managed ∷ []) ∷ helper_list

new_or : (form : Form) (lines : List Line) (func : Definition) (name : List ℕ) (answer : TypeWord) (passed : List Given) (e : External) → CallsExternal form lines func name answer passed e
    → Contains (map new_of (map (λ one. one.name) (layouts_of lines))) e ⊎ Contains fixed e → IsGoodCall form lines func name answer passed
new_or form lines func name answer passed e c (inl there) =
    let layout = contains_mapped new_of (map (λ one. one.name) (layouts_of lines)) e there in
    calls_new form lines func name answer passed layout.0 layout.1 (moved form lines func name answer passed (new_of layout.0) e layout.2 c)
new_or form lines func name answer passed e c (inr there) =
    print_or form lines func name answer passed e c (contains_cons (external (codes "print_i64") Void (Int 64 ∷ [])) e
    (external (codes "read_i64") (Int 64) [] ∷ external (codes "task_start") Void (Plain ∷ Managed ∷ []) ∷ helper_list) there)

pub calls_external : (form : Form) (lines : List Line) (func : Definition) (name : List ℕ) (answer : TypeWord) (passed : List Given) (e : External)
    → CallsExternal form lines func name answer passed e → Contains (externals_of (map (λ one. one.name) (layouts_of lines))) e → IsGoodCall form lines func name answer passed
calls_external form lines func name answer passed e c there =
    new_or form lines func name answer passed e c (Contains-append_cases (map new_of (map (λ one. one.name) (layouts_of lines))) fixed e there)

-- ---- a call

no_definition_of : (form : Form) (lines : List Line) → HasNoResolvedFault form lines → (h : Head) → Contains (heads_of lines) h → h.defined ≡ false → (name : List ℕ) → h.name ≡ name
    → place_in (names_defined lines) name ≡ None
no_definition_of form lines none h there undefined name same =
    unplaced (λ (one : Definition). one.name) (definitions_of lines) name
    (by (is_none (find (λ (one : Definition). bytes_eq name one.name) (definitions_of lines))) refl)
  where
    by : (b : Bool) → is_none (find (λ (one : Definition). bytes_eq name one.name) (definitions_of lines)) ≡ b → b ≡ true
    by true e = refl
    by false e =
        let s = stands (λ (one : Definition). one.name) (definitions_of lines) name e in
        let headed = All-contains (λ (d : Definition). Contains (heads_of lines) (head_of d)) (definitions_of lines) s.one (heads-have lines)
        (contains_get (definitions_of lines) s.place s.one s.there) in
        let is : head_of s.one ≡ h = same_by_name (λ (x : Head). x.name) (heads_of lines) (head_of s.one) h (heads-distinct form lines none) headed there (s.same ∙ sym same) in
        absurd (true_and_false h.defined (sym (ap (λ (x : Head). x.defined) is)) undefined)

-- the head that a call names, and what it says of the call
record CallsHead (form : Form) (lines : List Line) (func : Definition) (name : List ℕ) (answer : TypeWord) (passed : List Given) (h : Head) : Type 0 where
  law : InLaw form lines func
  there : Contains (heads_of lines) h
  named : h.name ≡ name
  answers : answer ≡ h.answer
  takes : map passed_type passed ≡ h.parameters
  starts : (not (bytes_eq name (codes "task_start")) || starts_task (scope_of lines func) passed) ≡ true
  checks : (is_source form || not (bytes_eq name (codes "gc_check")) || checks_kind passed) ≡ true
  read : All IsReadPassed passed

calls_head : (form : Form) (lines : List Line) (func : Definition) (name : List ℕ) (answer : TypeWord) (passed : List Given) (h : Head)
    → CallsHead form lines func name answer passed h → HeadFrom lines h → IsGoodCall form lines func name answer passed
calls_head form lines func name answer passed h c (from_definition d inside e) =
    calls_definition form lines func c.law name answer passed d inside (ap (λ (x : Head). x.name) e ∙ c.named)
    (c.answers ∙ sym (ap (λ (x : Head). x.answer) e)) (c.takes ∙ sym (ap (λ (x : Head). x.parameters) e))
calls_head form lines func name answer passed h c (from_declaration l inside answered other parameters says e) =
    let d = declared form lines c.law.none l inside answered other parameters says in
    let same : name ≡ other = sym c.named ∙ ap (λ (x : Head). x.name) e in
    calls_external form lines func name answer passed (external other answered (types_of parameters)) (record {
      law = c.law;
      named = same;
      answers = c.answers ∙ ap (λ (x : Head). x.answer) e;
      takes = c.takes ∙ ap (λ (x : Head). x.parameters) e;
      not_helper = λ is k. d.1 is (subst (λ (n : List ℕ). Contains helpers n) same k);
      no_definition = no_definition_of form lines c.law.none h c.there (ap (λ (x : Head). x.defined) e) name c.named;
      starts = c.starts;
      checks = c.checks;
      read = c.read;
    }) d.0

pub good_call : (form : Form) (lines : List Line) (func : Definition) → InLaw form lines func → (name : List ℕ) (answer : TypeWord) (passed : List Given)
    → list_any (λ n. is_none (head_named (scope_of lines func) n)) (name ∷ filter_map passed_function passed) ≡ false
    → call_agrees form (scope_of lines func) answer name passed ≡ true → All IsReadPassed passed → IsGoodCall form lines func name answer passed
good_call form lines func law name answer passed known rule read =
    let scope = scope_of lines func in
    let s = stands (λ (one : Head). one.name) (heads_of lines) name
    (or-left (is_none (head_named scope name)) (list_any (λ n. is_none (head_named scope n)) (filter_map passed_function passed)) known) in
    let h = s.one in
    let agreeing = agrees answer passed (head_named scope name) in
    let start = not (bytes_eq name (codes "task_start")) || starts_task scope passed in
    let checking = is_source form || not (bytes_eq name (codes "gc_check")) || checks_kind passed in
    let takes : (start && checking) ≡ true = second_true agreeing (start && checking) rule in
    let agreed : agrees answer passed (Some h) ≡ true =
    sym (ap (agrees answer passed) s.found) ∙ first_true agreeing (start && checking) rule in
    let there = contains_get (heads_of lines) s.place h s.there in
    calls_head form lines func name answer passed h (record {
      law = law;
      there = there;
      named = s.same;
      answers = same_type-is answer h.answer (first_true (same_type answer h.answer) (same_types (map passed_type passed) h.parameters) agreed);
      takes = same_types-is (map passed_type passed) h.parameters (second_true (same_type answer h.answer) (same_types (map passed_type passed) h.parameters) agreed);
      starts = first_true start checking takes;
      checks = second_true start checking takes;
      read = read;
    }) (All-contains (HeadFrom lines) (heads_of lines) h (heads-from lines) there)
