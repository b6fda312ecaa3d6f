-- A text with a declaration of what there isn't is refused in either form.
use Rattle.std.proofs.Common.{◌≡◌, refl, sym, ap, ◌∙◌, subst, ℕ, Bool, true, false, List, [], ◌∷◌, ◌++◌, map, inl, inr, Some, None, Option, Ok, Result}
use Rattle.std.specs.Prelude.{◌⊎◌, codes, nat_eq, drop, not, ◌||◌, if◌then◌else◌}
use Rattle.std.specs.List.{All, Contains, starts_with, filter, list_all}
use Rattle.std.proofs.lemmas.List.Elements.{Contains-append_cases, All-contains}
use Rattle.sp_text.specs.Lines.{NumberedLine, lines_of}
use Rattle.sp_text.specs.Tokens.{Tok, tokens}
use Rattle.ir_ast.specs.declared.modules.Form.{Form as TextForm}
use Rattle.line_parts.specs.Types.{TypeWord, Int, Managed}
use Rattle.line_forms.specs.declared.forms.Form.TheVariants as forms
use Rattle.line_parts.specs.Lists.{Named}
use Rattle.line_parts.specs.Gives.{end_of}
use Rattle.line_forms.specs.Seen.{Said, of_form, line_at}
use Rattle.ir_reader.specs.declared.states.Place.TheVariants as places
use Rattle.ir_reader.specs.Text.{Numbered, Fault, readings_in}
use Rattle.ir_reader.specs.Judged.{Judged, Whole, is_kept}
use Rattle.ir_reader.proofs.Judging.{judged}
use Rattle.ir_lines.specs.Statements.{Line, Statement, layout, declare, stated, line_of, lines_of as lines_said}
use Rattle.ir_lines.specs.Sections.{LayoutLine, layouts_of, layout_said, types_of}
use Rattle.ir_lines.specs.Externals.{External, external, externals_of, makers_of, own_externals, gc_new}
use Rattle.ir_lines.specs.Faults.UnknownExtern.{UnknownExtern}
use Rattle.ir_resolve.specs.TextFaults.{unknown_extern}
use Rattle.ir_resolve.specs.FaultSet.{HasResolvedFault, of_text}
use Rattle.list_laws.proofs.Contents.{contains_none, contains_first, contains_later, contains_cons, contains_map, contains_image, contains_joined, contains_one, get_contained}
use Rattle.list_laws.proofs.Tests.{all_passes}
use Rattle.outside_texts.specs.Declares.{Says, Declares, declaration, begins_named, LacksLayout, IsUnknown, intrinsic, maker, Tells, IsRefused, StandsForNone}
use Rattle.outside_texts.proofs.PlacedLines.{said_by_it, declared_found, no_layout}

-- ---- what is kept

kept_if : (x one : Numbered) (xs : List Numbered) (b : Bool) → is_kept x ≡ b → (Contains (filter is_kept xs) one → Contains xs one)
    → Contains (if b then x ∷ filter is_kept xs else filter is_kept xs) one → Contains (x ∷ xs) one
kept_if x one xs true is each inside = elim (contains_cons x one (filter is_kept xs) inside) [
  | inl same ↦ subst (λ (it : Numbered). Contains (x ∷ xs) it) same (contains_first x xs)
  | inr later ↦ contains_later x one xs (each later)
]
kept_if x one xs false is each inside = contains_later x one xs (each inside)

filter_found : (xs : List Numbered) (one : Numbered) → Contains (filter is_kept xs) one → Contains xs one
filter_found [] one inside = inside
filter_found (x ∷ xs) one inside = kept_if x one xs (is_kept x) refl (filter_found xs one) inside

kept_too : (x one : Numbered) (xs : List Numbered) (b : Bool) → is_kept x ≡ b → is_kept one ≡ true → (x ≡ one) ⊎ Contains (filter is_kept xs) one
    → Contains (if b then x ∷ filter is_kept xs else filter is_kept xs) one
kept_too x one xs true is kept (inl same) = subst (λ (it : Numbered). Contains (x ∷ filter is_kept xs) it) same (contains_first x (filter is_kept xs))
kept_too x one xs true is kept (inr later) = contains_later x one (filter is_kept xs) later
kept_too x one xs false is kept (inl same) = absurd (let bad : false ≡ true = sym is ∙ ap is_kept same ∙ kept in cc)
kept_too x one xs false is kept (inr later) = later

found_kept : (xs : List Numbered) (one : Numbered) → is_kept one ≡ true → Contains xs one → Contains (filter is_kept xs) one
found_kept [] one kept inside = inside
found_kept (x ∷ xs) one kept inside = kept_too x one xs (is_kept x) refl kept (elim (contains_cons x one xs inside) [
  | inl same ↦ inl same
  | inr later ↦ inr (found_kept xs one kept later)
])

-- ---- externals

-- the fronts of names of which no external is whole
abbrev is_fronted : List ℕ → Bool
is_fronted name = starts_with nat_eq name (codes "llvm.") || starts_with nat_eq name (codes "gc_new.")

own_unfronted : list_all (λ (it : External). not (is_fronted it.name)) own_externals ≡ true
own_unfronted = refl

not_own : (one : External) → is_fronted one.name ≡ true → ¬ Contains own_externals one
not_own one fronted inside =
    let at = get_contained own_externals one inside in
    let passes : not (is_fronted one.name) ≡ true = all_passes (λ (it : External). not (is_fronted it.name)) own_externals at.0 one own_unfronted at.1 in
    absurd (let bad : not true ≡ true = ap not (sym fronted) ∙ passes in cc)

maker_apart : (of : List ℕ) → starts_with nat_eq (gc_new of) (codes "llvm.") ≡ false
maker_apart of = refl

same_layout : (one other : List ℕ) → gc_new one ≡ gc_new other → one ≡ other
same_layout one other same = ap (λ (it : List ℕ). drop 7 it) same

-- an external of this name is one of its layout
from_maker : (layouts : List (List ℕ)) (one : External) → is_fronted one.name ≡ true → Contains (externals_of layouts) one
    → (layout : List ℕ) × Contains layouts layout × (gc_new layout ≡ one.name)
from_maker layouts one fronted inside = elim (Contains-append_cases (makers_of layouts) own_externals one inside) [
  | inl made ↦ (let image = contains_image (λ (it : List ℕ). external (gc_new it) Managed (Int 64 ∷ [])) layouts one made in
      (image.of, image.inside, ap (λ (it : External). it.name) image.is))
  | inr own ↦ absurd (not_own one fronted own)
]

-- ---- the fault

-- who names a layout said it
named_layout : (xs : List Numbered) (name : List ℕ) → Contains (map (λ (one : LayoutLine). one.name) (layouts_of (lines_said xs))) name
    → (one : Numbered) × Contains xs one × ((fields : List TypeWord) × (stated one.said ≡ layout name fields))
named_layout xs name inside =
    let image = contains_image (λ (one : LayoutLine). one.name) (layouts_of (lines_said xs)) name inside in
    let joined = contains_joined (λ (l : Line). layout_said l.number l.says) (lines_said xs) image.of image.inside in
    let said = contains_image line_of xs joined.of joined.inside in
    let own : Contains (layout_said joined.of.number (stated said.of.said)) image.of =
    subst (λ (it : Line). Contains (layout_said joined.of.number it.says) image.of) (sym said.is) joined.given in
    let is = by_statement joined.of.number (stated said.of.said) image.of own in
    (said.of, said.inside, (is.0, is.1 ∙ ap (λ (it : List ℕ). layout it is.0) image.is))
  where
    by_statement : (number : ℕ) (says : Statement) (line : LayoutLine) → Contains (layout_said number says) line
        → (fields : List TypeWord) × (says ≡ layout line.name fields)
    by_statement number (layout name fields) line inside = (fields, ap (λ (it : LayoutLine). layout it.name fields) (contains_one (record { line = number; name = name; fields = fields }) line inside))
    by_statement number says line inside = absurd (contains_none line inside)

-- no external of faultless lines has this name
unknown_name : (form : TextForm) (lines : List NumberedLine) (readings : List Numbered) → Whole form lines readings → (name : List ℕ) → IsUnknown lines name
    → (answer : TypeWord) (parameters : List TypeWord)
    → ¬ Contains (externals_of (map (λ (one : LayoutLine). one.name) (layouts_of (lines_said readings)))) (external name answer parameters)
unknown_name form lines readings whole _ (intrinsic name starts) answer parameters inside =
    let fronted : is_fronted name ≡ true = rw starts refl in
    let made = from_maker (map (λ (one : LayoutLine). one.name) (layouts_of (lines_said readings))) (external name answer parameters) fronted inside in
    absurd (let bad : false ≡ true = sym (maker_apart made.0) ∙ ap (λ (it : List ℕ). starts_with nat_eq it (codes "llvm.")) made.2 ∙ starts in cc)
unknown_name form lines readings whole _ (maker of lacks) answer parameters inside =
    let made = from_maker (map (λ (one : LayoutLine). one.name) (layouts_of (lines_said readings))) (external (gc_new of) answer parameters) refl inside in
    let same : made.0 ≡ of = same_layout made.0 of made.2 in
    let named = named_layout readings of (subst (λ (it : List ℕ). Contains (map (λ (one : LayoutLine). one.name) (layouts_of (lines_said readings))) it) same made.1) in
    let found : Contains whole.found named.0 = filter_found whole.found named.0 (subst (λ (it : List Numbered). Contains it named.0) whole.readings_are named.1) in
    no_layout form of lines places.Top whole.found whole.place
    (λ l there. All-contains (λ (line : NumberedLine). begins_named of (tokens line.bytes) ≡ false) lines l lacks there)
    whole.whole.read named.0 named.2.0 found named.2.1

is_whole : (form : TextForm) (text : List ℕ) (readings : List Numbered) → readings_in form text ≡ Ok readings → Whole form (lines_of text) readings
is_whole form text readings reads = subst (λ (it : Result (List Numbered) Fault). Judged form (lines_of text) it) reads (judged form text)

pub refused : (form : TextForm) (text : List ℕ) (l : NumberedLine) (name : List ℕ) → Contains (lines_of text) l → Declares l.bytes name → IsUnknown (lines_of text) name
    → IsRefused form text
refused form text l name inside d unknown readings reads =
    let whole = is_whole form text readings reads in
    let one : Numbered = record { line = l.number; said = said_by_it d } in
    let said : Contains whole.found one = declared_found form name l d (lines_of text) places.Top whole.found whole.place inside whole.whole.read in
    let kept : Contains readings one = subst (λ (it : List Numbered). Contains it one) (sym whole.readings_are) (found_kept whole.found one refl said) in (
      l.number,
      of_text (unknown_extern (record {
        answer = d.says.answer;
        name = name;
        parameters = d.says.parameters;
        stands = contains_map line_of readings one kept;
        unknown = unknown_name form (lines_of text) readings whole name unknown d.says.answer (types_of d.says.parameters);
      })),
    )

-- ---- lines in a row

pub kept : (lines rest all : List NumberedLine) (l : NumberedLine) → lines ≡ l ∷ rest → ((one : NumberedLine) → Contains lines one → Contains all one)
    → (one : NumberedLine) → Contains rest one → Contains all one
kept lines rest all l is each one inside = each one (subst (λ (it : List NumberedLine). Contains it one) (sym is) (contains_later l one rest inside))

pub told : (text : List ℕ) (lines rest : List NumberedLine) (l : NumberedLine) → lines ≡ l ∷ rest → ((one : NumberedLine) → Contains lines one → Contains (lines_of text) one)
    → Tells text l.bytes → StandsForNone text
told text lines rest l is each tells form =
    refused form text l tells.name (each l (subst (λ (it : List NumberedLine). Contains it l) (sym is) (contains_first l rest))) tells.declares tells.unknown

-- what a reader told of a declaration
pub says_by : (ts : List Tok) (answer : TypeWord) (name : List ℕ) (parameters : List Named) (rest : List Tok) (passed : Bool)
    → line_at forms.Declare ts ≡ Some (of_form forms.Declare (declaration answer name parameters), rest) → end_of rest ≡ Some passed → Says ts name
says_by ts answer name parameters rest passed read ends = record {
  answer = answer;
  parameters = parameters;
  passed = passed;
  is = rw (read, ends) refl;
}
