-- What a line of a text says, by what stands at its slots, its limits and its names.
use Rattle.std.proofs.Common.{◌≡◌, ℕ, refl, subst, Bool, true, false, ◌&&◌, if◌then◌else◌, List, [], ◌∷◌, length, Option, Some, None}
use Rattle.std.specs.Prelude.{nat_le, slice_get}
use Rattle.std.specs.List.{AllByRecursion, list_all, list_any, before_first, after_first}
use Rattle.std.proofs.lemmas.Bool.{leb-true, and_parts}
use Rattle.std.proofs.lemmas.List.Elements.{All-from_recursion}
use Rattle.sp_text.specs.Bytes.{after_blanks}
use Rattle.sp_text.specs.Labels.{is_label, label_in, is_colon}
use Rattle.sp_text.specs.Tokens.{tokens, is_name, says_nothing}
use Rattle.ir_cfg.specs.Limits.{IsName}
use Rattle.ir_ast.specs.Widths.{IsWidth}
use Rattle.line_tokens.specs.Numbers.{is_width}
use Rattle.line_parts.specs.Types.{TypeWord}
use Rattle.line_parts.specs.Types.{Void, Int, Managed, Plain}
use Rattle.line_parts.specs.Parts.{Val, is_value_type, is_answer_type}
use Rattle.line_parts.specs.Lists.{Named, Given, given, function, is_argument_type}
use Rattle.line_forms.specs.declared.forms.Form.{Form}
use Rattle.line_forms.specs.declared.forms.Form.TheVariants as forms
use Rattle.line_forms.specs.Forms.{slots, is_dropped_form}
use Rattle.line_forms.specs.Slots.{Item}
use Rattle.line_forms.specs.Seen.{Said, label, line}
use Rattle.line_forms.proofs.FamilyLines.{fit_parts}
use Rattle.ir_reader.specs.Limits.{name_fits, item_fits, said_fits}
use Rattle.ir_lines.specs.Statements.{of_form, stated}
use Rattle.ir_lines.specs.ReadLines.{IsValueType, IsAnswerType, IsNameIfAny, IsReadArgument, IsReadPassed, IsReadBundle, SaysRead}
use Rattle.module_laws.proofs.Runs.{IsSpelled, IsKept}
use Rattle.module_laws.proofs.Formed.{Parts, items_of, is_named, is_argument, is_kept, parse_told, passes, read_as}

width_is : (width : ℕ) → is_width width ≡ true → IsWidth width
width_is width e = let b = and_parts (nat_le 1 width) (nat_le width 64) e in (leb-true 1 width b.0, leb-true width 64 b.1)

value_type : (ty : TypeWord) → read_as is_value_type ty ≡ true → IsValueType ty
value_type (Int width) e = width_is width e
value_type Managed e = tt
value_type Void e = absurd (let bad : false ≡ true = e in cc)
value_type Plain e = absurd (let bad : false ≡ true = e in cc)

answer_type : (ty : TypeWord) → read_as is_answer_type ty ≡ true → IsAnswerType ty
answer_type (Int width) e = width_is width e
answer_type Managed e = tt
answer_type Void e = tt
answer_type Plain e = absurd (let bad : false ≡ true = e in cc)

argument_type : (ty : TypeWord) → read_as (is_argument_type false) ty ≡ true → IsValueType ty
argument_type (Int width) e = width_is width e
argument_type Managed e = tt
argument_type Void e = absurd (let bad : false ≡ true = e in cc)
argument_type Plain e = absurd (let bad : false ≡ true = e in cc)

name_read : (name : Option (List ℕ)) → is_named name ≡ true → IsNameIfAny name
name_read None e = tt
name_read (Some name) e = e

arguments_read : (arguments : List Named) → list_all (is_argument false) arguments ≡ true → AllByRecursion IsReadArgument arguments
arguments_read [] e = tt
arguments_read (one ∷ more) e =
    let a = and_parts (is_argument false one) (list_all (is_argument false) more) e in
    let b = and_parts (read_as (is_argument_type false) one.ty) (is_named one.name) a.0 in
    ((argument_type one.ty b.0, name_read one.name b.1), arguments_read more a.1)

given_read : (one : Given) → passes one ≡ true → IsReadPassed one
given_read (given ty v) e = value_type ty e
given_read (function name) e = tt

passed_read : (passed : List Given) → list_all passes passed ≡ true → AllByRecursion IsReadPassed passed
passed_read [] e = tt
passed_read (one ∷ more) e =
    let a = and_parts (passes one) (list_all passes more) e in (given_read one a.0, passed_read more a.1)

kept_read : (kept : List (Val × TypeWord)) → list_all is_kept kept ≡ true → AllByRecursion (λ used. IsValueType used.1) kept
kept_read [] e = tt
kept_read (used ∷ kept) e = let a = and_parts (is_kept used) (list_all is_kept kept) e in (value_type used.1 a.0, kept_read kept a.1)

bundle_read : (kept : List (Val × TypeWord)) → list_all is_kept kept ≡ true → nat_le (length kept) 64 ≡ true → IsReadBundle kept
bundle_read kept e f = record {
  typed = All-from_recursion (λ (used : Val × TypeWord). IsValueType used.1) kept (kept_read kept e);
  few = leb-true (length kept) 64 f;
}

-- what stands at the slots of a form, within the limits
says_read : (form : Form) → is_dropped_form form ≡ false → (a : Parts (slots form)) → list_all item_fits (items_of (slots form) a) ≡ true → SaysRead (of_form form (slice_get (items_of (slots form) a)))
says_read (forms.Dropped which) kept a f = absurd (let bad : true ≡ false = kept in cc)
says_read forms.Layout kept a f =
    let b = and_parts (name_fits a.0.x) _ f in
    let c = and_parts (nat_le (length a.1.0) 64) _ b.1 in
    (a.0.is, leb-true (length a.0.x) 4096 b.0, leb-true (length a.1.0) 64 c.0)
says_read forms.Define kept a f =
    let n = a.1.0.x.0 in
    let arguments = a.1.0.x.1 in
    let b = and_parts (name_fits n && nat_le (length arguments) 64) _ f in
    let c = and_parts (name_fits n) (nat_le (length arguments) 64) b.0 in
    let d = and_parts (is_name n) (list_all (is_argument false) arguments) a.1.0.is in
    record {
      answered = answer_type a.0.x a.0.is;
      named = d.0;
      short = leb-true (length n) 4096 c.0;
      few = leb-true (length arguments) 64 c.1;
      each = All-from_recursion IsReadArgument arguments (arguments_read arguments d.1);
    }
says_read (forms.Binary op) kept a f = (a.0.is, width_is a.1.0.x a.1.0.is)
says_read forms.Compare kept a f = (a.0.is, value_type a.1.1.0.x a.1.1.0.is)
says_read (forms.Convert op) kept a f = (a.0.is, width_is a.1.0.x a.1.0.is, width_is a.1.1.1.0.x a.1.1.1.0.is)
says_read forms.Select kept a f = (a.0.is, value_type a.1.1.0.x a.1.1.0.is)
says_read forms.Phi kept a f = (a.0.is, value_type a.1.0.x a.1.0.is, leb-true 1 (length a.1.1.0.x) a.1.1.0.is)
says_read forms.ScalarElement kept a f = (a.0.is, width_is a.1.1.1.0.x a.1.1.1.0.is, a.1.0.is)
says_read forms.LayoutElement kept a f = (a.0.is, width_is a.1.1.1.0.x a.1.1.1.0.is)
says_read forms.Load kept a f = (a.0.is, value_type a.1.0.x a.1.0.is)
says_read forms.Store kept a f = value_type a.0.x a.0.is
says_read forms.ValueCall kept a f =
    let passed = a.1.1.0 in
    let deopt = a.1.1.1.0 in (
      (a.0.is, value_type a.1.0.x a.1.0.is),
      All-from_recursion IsReadPassed passed.x.1 (passed_read passed.x.1 passed.is),
      bundle_read deopt.x deopt.is (and_parts (nat_le (length deopt.x) 64) true f).0,
    )
says_read forms.VoidCall kept a f =
    let deopt = a.1.0 in (
      refl,
      All-from_recursion IsReadPassed a.0.x.1 (passed_read a.0.x.1 a.0.is),
      bundle_read deopt.x deopt.is (and_parts (nat_le (length deopt.x) 64) true f).0,
    )
says_read forms.Switch kept a f = width_is a.0.x a.0.is
says_read forms.Case kept a f = a.1.0.is
says_read forms.Return kept a f = value_type a.0.x a.0.is
says_read forms.Statepoint kept a f =
    let answer = a.1.1.0 in
    let passed = a.1.1.1.1.1.1.0 in
    let both = a.1.1.1.1.1.1.1.0 in
    let few = nat_le (length both.x.0) 64 in
    let short = nat_le (length both.x.1) 16384 in
    let fits = and_parts few short (and_parts (few && short) true f).0 in
    record {
      named = a.0.is;
      answered = answer_type answer.x answer.is;
      passed = All-from_recursion IsReadPassed passed.x (passed_read passed.x passed.is);
      few = leb-true (length both.x.1) 16384 fits.1;
      kept = bundle_read both.x.0 both.is fits.0;
    }
says_read forms.GcResult kept a f = (a.0.is, value_type a.1.0.x a.1.0.is)
says_read forms.GcRelocate kept a f = a.0.is
says_read form kept a f = tt

-- the name of a label line
label_name : (bs name : List ℕ) → label_in bs ≡ Some name → IsName name
label_name bs name e = by (is_label bs) refl e
  where
    first : List ℕ
    first = before_first is_colon bs

    middle : (a b c : Bool) → (a && b && c) ≡ true → b ≡ true
    middle true true c f = refl
    middle true false c f = absurd (let bad : false ≡ true = f in cc)
    middle false b c f = absurd (let bad : false ≡ true = f in cc)

    by : (b : Bool) → is_label bs ≡ b → (if b then Some first else None) ≡ Some name → IsName name
    by true is f =
        let same : first ≡ name = cc in
        subst IsName same (middle (list_any is_colon bs) (is_name first) (says_nothing (after_first is_colon bs)) is)
    by false is f = absurd (let bad : None ≡ Some name = f in cc)

pub said_read : (what : Said) → IsKept what → IsSpelled what → said_fits what ≡ true → SaysRead (stated what)
said_read (label name) kept spelled f = label_name (after_blanks spelled.0) name spelled.1
said_read (line l) kept spelled f =
    let parts = parse_told (slots l.form) (tokens spelled.0) l.items [] (fit_parts l.form (tokens spelled.0) l.items [] spelled.1).0 in
    subst (λ (whole : List Item). list_all item_fits whole ≡ true → SaysRead (of_form l.form (slice_get whole))) parts.1 (says_read l.form kept parts.0) f
