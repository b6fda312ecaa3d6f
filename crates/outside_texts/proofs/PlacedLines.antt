-- What lines say, each in its place: a declaration says itself, and who says a layout begins with its name.
use Rattle.std.proofs.Common.{◌≡◌, refl, sym, ap, ◌∙◌, subst, ℕ, Bool, true, false, ◌&&◌, List, [], ◌∷◌, ◌++◌, map, inl, inr, Some, None, Option}
use Rattle.std.specs.Prelude.{◌⊎◌, ⊤, drop, slice_get, option_map, if◌then◌else◌}
use Rattle.std.specs.List.{Contains}
use Rattle.std.specs.Str.{bytes_eq}
use Rattle.std.proofs.lemmas.Option.{same_Some}
use Rattle.std.proofs.lemmas.Slice.Eq.{bytes_eq-Decides}
use Rattle.sp_text.specs.Tokens.{Tok, tok, bad, over, tokens}
use Rattle.sp_text.specs.Labels.{label_of, is_metadata}
use Rattle.sp_text.specs.Lines.{NumberedLine}
use Rattle.ir_ast.specs.declared.modules.Form.{Form as TextForm}
use Rattle.ir_ast.specs.declared.modules.Form.TheVariants.{Source, Rewritten}
use Rattle.line_tokens.specs.Marks.{local_of, is_this}
use Rattle.line_parts.specs.Types.{TypeWord}
use Rattle.line_parts.specs.Gives.{Found, after, one_at, with_rest, is_nil, end_of}
use Rattle.line_parts.specs.Parts.{local_at}
use Rattle.line_forms.specs.declared.forms.Form.{Form}
use Rattle.line_forms.specs.declared.forms.Form.TheVariants as forms
use Rattle.line_forms.specs.Forms.{form_in, form_of, grouped_form, fit, slots, agree}
use Rattle.line_forms.specs.Slots.{Item, Slot, parse, part, layout_name, says_nothing}
use Rattle.line_forms.specs.Slots as items
use Rattle.line_forms.specs.Seen.{Said, label, line, of_form, line_at, ended}
use Rattle.ir_reader.specs.declared.states.Place.{Place}
use Rattle.ir_reader.specs.Places.{behind, behind_label}
use Rattle.ir_reader.specs.Judged.{Placed, unread, empty, says, placed_said, placed_formed, placed_by_form, placed_tokens, placed_label, placed_labelled, placed, before, said_behind, said_in}
use Rattle.ir_reader.specs.Text.{Numbered, is_top}
use Rattle.ir_lines.specs.Statements.{Statement, layout, stated, name_of}
use Rattle.ir_lines.specs.Statements as statements
use Rattle.list_laws.proofs.Contents.{contains_none, contains_first, contains_later, contains_cons}
use Rattle.outside_texts.specs.Declares.{Declares, declaration, begins_named}

-- ---- a declaration in its place

abbrev pub said_by_it : {bytes name : List ℕ} → Declares bytes name → Said
said_by_it {bytes} {name} d = of_form forms.Declare (declaration d.says.answer name d.says.parameters)

form_is : (form : TextForm) (bytes name : List ℕ) → Declares bytes name → form_in form (tokens bytes) ≡ Some forms.Declare
form_is Source bytes name d = d.source
form_is Rewritten bytes name d = d.rewritten

some_tokens : (ts : List Tok) → form_in Source ts ≡ Some forms.Declare → is_nil ts ≡ false
unfolding form_in form_of
some_tokens [] is = absurd cc
some_tokens (t ∷ ts) is = refl

-- it has no reading there, or says what it says
abbrev pub Stands : Said → Bool → Placed → Type 0
Stands what passed unread = ⊤
Stands what passed empty = ⊥
Stands what passed (says other over_limit next) = (other ≡ what) × (over_limit ≡ passed)

by_place : (bytes name : List ℕ) (d : Declares bytes name) (next : Option Place)
    → Stands (said_by_it d) d.says.passed (placed_formed forms.Declare (tokens bytes) next)
by_place bytes name d None = tt
by_place bytes name d (Some next) = subst (λ it. Stands (said_by_it d) d.says.passed (placed_said next it)) (sym d.says.is) (refl, refl)

by_label : (form : TextForm) (place : Place) (bytes name : List ℕ) (d : Declares bytes name)
    → Stands (said_by_it d) d.says.passed (placed_labelled form place bytes (label_of bytes))
by_label form place bytes name d = rw (d.no_label, some_tokens (tokens bytes) d.source, form_is form bytes name d) (by_place bytes name d (behind place forms.Declare))

by_top : (form : TextForm) (place : Place) (bytes name : List ℕ) (d : Declares bytes name) (top : Bool)
    → Stands (said_by_it d) d.says.passed (if top && is_metadata bytes then empty else placed_labelled form place bytes (label_of bytes))
by_top form place bytes name d true = rw d.no_metadata (by_label form place bytes name d)
by_top form place bytes name d false = by_label form place bytes name d

pub declaration_stands : (form : TextForm) (place : Place) (bytes name : List ℕ) (d : Declares bytes name) → Stands (said_by_it d) d.says.passed (placed form place bytes)
unfolding placed
declaration_stands form place bytes name d = by_top form place bytes name d (is_top place)

-- ---- one line after the other

abbrev pub Read : Type 0
Read = Option (List Numbered × Place)

pub record AddsOne (l : NumberedLine) (what : Said) (more : Read) (found : List Numbered) (end : Place) : Type 0 where
  pub rest : List Numbered
  pub reads : more ≡ Some (rest, end)
  pub is : found ≡ record { line = l.number; said = what } ∷ rest

-- what the first line adds to what the others say
abbrev pub Adds : NumberedLine → Place → (Place → Read) → List Numbered → Place → Placed → Type 0
Adds l place more found end unread = ⊥
Adds l place more found end empty = more place ≡ Some (found, end)
Adds l place more found end (says what true next) = ⊥
Adds l place more found end (says what false next) = AddsOne l what (more next) found end

abbrev one_said : NumberedLine → Said → Numbered
one_said l what = record { line = l.number; said = what }

adds_first : (l : NumberedLine) (what : Said) (found : List Numbered) (end : Place) (read : Read)
    → before (record { line = l.number; said = what }) read ≡ Some (found, end) → AddsOne l what read found end
adds_first l what found end None e = absurd cc
adds_first l what found end (Some (rest, last)) e =
    let same : (one_said l what ∷ rest, last) ≡ (found, end) = same_Some (one_said l what ∷ rest, last) (found, end) e in
    record {
      rest = rest;
      reads = ap (λ (it : Place). Some (rest, it)) (ap (λ (it : List Numbered × Place). it.1) same);
      is = sym (ap (λ (it : List Numbered × Place). it.0) same);
    }

pub first_adds : (l : NumberedLine) (place : Place) (more : Place → Read) (found : List Numbered) (end : Place) (p : Placed)
    → said_behind l p place more ≡ Some (found, end) → Adds l place more found end p
first_adds l place more found end unread e = absurd cc
first_adds l place more found end empty e = e
first_adds l place more found end (says what true next) e = absurd cc
first_adds l place more found end (says what false next) e = adds_first l what found end (more next) e

-- what a declaration among the lines says is among what is said
here : (l : NumberedLine) (place : Place) (more : Place → Read) (found : List Numbered) (end : Place) (what : Said) (passed : Bool) (p : Placed)
    → Stands what passed p → Adds l place more found end p → Contains found (record { line = l.number; said = what })
here l place more found end what passed unread stands added = absurd added
here l place more found end what passed empty stands added = absurd stands
here l place more found end what passed (says other true next) stands added = absurd added
here l place more found end what passed (says other false next) stands added =
    subst (λ (it : List Numbered). Contains it (record { line = l.number; said = what })) (sym added.is)
    (subst (λ (it : Said). Contains (record { line = l.number; said = other } ∷ added.rest) (record { line = l.number; said = it })) stands.0
    (contains_first (record { line = l.number; said = other }) added.rest))

later : (x : NumberedLine) (place : Place) (more : Place → Read) (found : List Numbered) (end : Place) (one : Numbered) (p : Placed)
    → Adds x place more found end p → ((next : Place) (rest : List Numbered) → more next ≡ Some (rest, end) → Contains rest one) → Contains found one
later x place more found end one unread added each = absurd added
later x place more found end one empty added each = each place found added
later x place more found end one (says what true next) added each = absurd added
later x place more found end one (says what false next) added each =
    subst (λ (it : List Numbered). Contains it one) (sym added.is)
    (contains_later (record { line = x.number; said = what }) one added.rest (each next added.rest added.reads))

pub declared_found : (form : TextForm) (name : List ℕ) (l : NumberedLine) (d : Declares l.bytes name) (lines : List NumberedLine) (place : Place) (found : List Numbered) (end : Place)
    → Contains lines l → said_in form place lines ≡ Some (found, end) → Contains found (record { line = l.number; said = said_by_it d })
unfolding said_in
declared_found form name l d [] place found end inside e = absurd (contains_none l inside)
declared_found form name l d (x ∷ xs) place found end inside e = elim (contains_cons x l xs inside) [
  | inl same ↦ here l place (λ next. said_in form next xs) found end (said_by_it d) d.says.passed (placed form place l.bytes)
      (declaration_stands form place l.bytes name d)
      (subst (λ (it : NumberedLine). Adds it place (λ next. said_in form next xs) found end (placed form place it.bytes)) same added)
  | inr behind ↦ later x place (λ next. said_in form next xs) found end (record { line = l.number; said = said_by_it d }) (placed form place x.bytes) added
      (λ next rest reads. declared_found form name l d xs next rest end behind reads)
]
  where
    added : Adds x place (λ next. said_in form next xs) found end (placed form place x.bytes)
    added = first_adds x place (λ next. said_in form next xs) found end (placed form place x.bytes) e

-- ---- layouts

after_some : {A B : Type 0} (found : Found A) (next : A → List Tok → Found B) (whole : B × List Tok) → after found next ≡ Some whole
    → (x : A × List Tok) × (found ≡ Some x) × (next x.0 x.1 ≡ Some whole)
unfolding after
after_some None next whole e = absurd cc
after_some (Some x) next whole e = (x, refl, e)

same_name : (one other : List ℕ) → one ≡ other → is_this other (Some one) ≡ true
same_name one other same = (bytes_eq-Decides one other).1 same

-- the slot of a layout's name
local_slot : (t : Tok) (ts : List Tok) (found : Option (List ℕ)) → local_of t ≡ found → (here : List Item × List Tok)
    → after (with_rest ts found) (λ x rest. Some (layout_name x ∷ [], rest)) ≡ Some here → (name : List ℕ) × (here.0 ≡ layout_name name ∷ []) × (begins_named name (t ∷ ts) ≡ true)
unfolding after
local_slot t ts None is_local here e = absurd cc
local_slot t ts (Some found) is_local here e =
    let items_are : layout_name found ∷ [] ≡ here.0 = ap (λ (it : List Item × List Tok). it.0) (same_Some (layout_name found ∷ [], ts) here e) in
    (found, sym items_are, rw is_local (same_name found found refl))

name_slot : (ts : List Tok) (here : List Item × List Tok) → part items.a_layout_name ts ≡ Some here
    → (name : List ℕ) × (here.0 ≡ layout_name name ∷ []) × (begins_named name ts ≡ true)
unfolding part after one_at
name_slot [] here e = absurd cc
name_slot (over ∷ ts) here e = absurd cc
name_slot (bad ∷ ts) here e = absurd cc
name_slot (tok kind bytes ∷ ts) here e = local_slot (tok kind bytes) ts (local_of (tok kind bytes)) refl here e

layout_slots : (f : List Slot) (ts : List Tok) (whole : List Item × List Tok) → parse (items.a_layout_name ∷ f) ts ≡ Some whole
    → (name : List ℕ) × (slice_get whole.0 0 ≡ Some (layout_name name)) × (begins_named name ts ≡ true)
unfolding parse
layout_slots f ts whole e =
    let first = after_some (part items.a_layout_name ts) (λ here rest. after (parse f rest) (λ more end. Some (here ++ more, end))) whole e in
    let slot = name_slot ts first.0 first.1 in
    let others = after_some (parse f first.0.1) (λ more end. Some (first.0.0 ++ more, end)) whole first.2 in
    let is : first.0.0 ++ others.0.0 ≡ whole.0 = ap (λ (it : List Item × List Tok). it.0) (same_Some (first.0.0 ++ others.0.0, others.0.1) whole others.2) in
    let front : (layout_name slot.0 ∷ []) ++ others.0.0 ≡ whole.0 = ap (λ (it : List Item). it ++ others.0.0) (sym slot.1) ∙ is in
    (slot.0, sym (ap (λ (it : List Item). slice_get it 0) front), slot.2)

layout_fits : (ts : List Tok) (whole : List Item × List Tok) → fit forms.Layout ts ≡ Some whole
    → (name : List ℕ) × (slice_get whole.0 0 ≡ Some (layout_name name)) × (begins_named name ts ≡ true)
unfolding fit
layout_fits ts whole e =
    let parsed = after_some (parse (slots forms.Layout) ts) (λ said rest. if agree forms.Layout said then Some (said, rest) else None) whole e in
    let same : parsed.0 ≡ whole = same_Some parsed.0 whole parsed.2 in
    layout_slots (drop 1 (slots forms.Layout)) ts whole (parsed.1 ∙ ap (λ (it : List Item × List Tok). Some it) same)

-- a line that says a layout is of its form
layout_form : (f : Form) (at : ℕ → Option Item) (name : List ℕ) (fields : List TypeWord) → statements.of_form f at ≡ layout name fields
    → (f ≡ forms.Layout) × (name_of (at 0) ≡ name)
layout_form forms.Layout at name fields e = (refl, (let h : name_of (at 0) ≡ name = cc in h))
layout_form (forms.Dropped which) at name fields e = absurd cc
layout_form forms.Declare at name fields e = absurd cc
layout_form forms.Define at name fields e = absurd cc
layout_form forms.Close at name fields e = absurd cc
layout_form (forms.Binary op) at name fields e = absurd cc
layout_form forms.Compare at name fields e = absurd cc
layout_form (forms.Convert op) at name fields e = absurd cc
layout_form (forms.Cast op) at name fields e = absurd cc
layout_form forms.Select at name fields e = absurd cc
layout_form forms.Phi at name fields e = absurd cc
layout_form forms.ScalarElement at name fields e = absurd cc
layout_form forms.LayoutElement at name fields e = absurd cc
layout_form forms.Load at name fields e = absurd cc
layout_form forms.Store at name fields e = absurd cc
layout_form forms.ValueCall at name fields e = absurd cc
layout_form forms.VoidCall at name fields e = absurd cc
layout_form forms.Jump at name fields e = absurd cc
layout_form forms.Branch at name fields e = absurd cc
layout_form forms.Switch at name fields e = absurd cc
layout_form forms.Case at name fields e = absurd cc
layout_form forms.SwitchEnd at name fields e = absurd cc
layout_form forms.ReturnVoid at name fields e = absurd cc
layout_form forms.Return at name fields e = absurd cc
layout_form forms.Unreachable at name fields e = absurd cc
layout_form forms.Statepoint at name fields e = absurd cc
layout_form forms.GcResult at name fields e = absurd cc
layout_form forms.GcRelocate at name fields e = absurd cc

-- what is placed says a layout of this name only where the line begins so
abbrev pub SaysLayout : List ℕ → List ℕ → Placed → Type 0
SaysLayout bytes name unread = ⊤
SaysLayout bytes name empty = ⊤
SaysLayout bytes name (says what passed next) = (fields : List TypeWord) → stated what ≡ layout name fields → begins_named name (tokens bytes) ≡ true

from_items : (bytes name : List ℕ) (f : Form) (whole : List Item × List Tok) (fields : List TypeWord) → fit f (tokens bytes) ≡ Some whole
    → stated (of_form f whole.0) ≡ layout name fields → begins_named name (tokens bytes) ≡ true
from_items bytes name f whole fields fits is =
    let of = layout_form f (slice_get whole.0) name fields is in
    let found = layout_fits (tokens bytes) whole (subst (λ (it : Form). fit it (tokens bytes) ≡ Some whole) of.0 fits) in
    let same : found.0 ≡ name = ap name_of (sym found.1) ∙ of.1 in
    subst (λ (it : List ℕ). begins_named it (tokens bytes) ≡ true) same found.2

by_fit : (bytes name : List ℕ) (next : Place) (f : Form) (found : Found (List Item)) → fit f (tokens bytes) ≡ found
    → SaysLayout bytes name (placed_said next (ended (after found (λ items rest. Some (of_form f items, rest)))))
unfolding after
by_fit bytes name next f None fits = tt
by_fit bytes name next f (Some whole) fits = by_rest (end_of whole.1)
  where
    by_rest : (passed : Option Bool) → SaysLayout bytes name (placed_said next (option_map (λ p. (of_form f whole.0, p)) passed))
    by_rest None = tt
    by_rest (Some passed) = λ fields is. from_items bytes name f whole fields fits is

layout_by_place : (bytes name : List ℕ) (f : Form) (next : Option Place) → SaysLayout bytes name (placed_formed f (tokens bytes) next)
unfolding line_at
layout_by_place bytes name f None = tt
layout_by_place bytes name f (Some next) = by_fit bytes name next f (fit f (tokens bytes)) refl

layout_by_form : (bytes name : List ℕ) (place : Place) (form : Option Form) → SaysLayout bytes name (placed_by_form place (tokens bytes) form)
layout_by_form bytes name place None = tt
layout_by_form bytes name place (Some f) = layout_by_place bytes name f (behind place f)

layout_by_tokens : (bytes name : List ℕ) (form : TextForm) (place : Place) (nil : Bool)
    → SaysLayout bytes name (if nil then empty else placed_by_form place (tokens bytes) (form_in form (tokens bytes)))
layout_by_tokens bytes name form place true = tt
layout_by_tokens bytes name form place false = layout_by_form bytes name place (form_in form (tokens bytes))

label_says : (bytes name found : List ℕ) (next : Option Place) → SaysLayout bytes name (placed_label found next)
label_says bytes name found None = tt
label_says bytes name found (Some next) = λ fields is. absurd cc

layout_by_label : (bytes name : List ℕ) (form : TextForm) (place : Place) (found : Option (List ℕ)) → SaysLayout bytes name (placed_labelled form place bytes found)
layout_by_label bytes name form place None = layout_by_tokens bytes name form place (is_nil (tokens bytes))
layout_by_label bytes name form place (Some found) = label_says bytes name found (behind_label place)

layout_by_top : (bytes name : List ℕ) (form : TextForm) (place : Place) (dropped : Bool)
    → SaysLayout bytes name (if dropped then empty else placed_labelled form place bytes (label_of bytes))
layout_by_top bytes name form place true = tt
layout_by_top bytes name form place false = layout_by_label bytes name form place (label_of bytes)

pub layout_says : (bytes name : List ℕ) (form : TextForm) (place : Place) → SaysLayout bytes name (placed form place bytes)
unfolding placed
layout_says bytes name form place = layout_by_top bytes name form place (is_top place && is_metadata bytes)

-- where no line begins so, nothing that is said is a layout of this name
one_lacks : (l : NumberedLine) (place : Place) (more : Place → Read) (found : List Numbered) (end : Place) (name : List ℕ) (one : Numbered) (fields : List TypeWord) (p : Placed)
    → begins_named name (tokens l.bytes) ≡ false → SaysLayout l.bytes name p → Adds l place more found end p
    → ((next : Place) (rest : List Numbered) → more next ≡ Some (rest, end) → Contains rest one → ⊥) → Contains found one → stated one.said ≡ layout name fields → ⊥
one_lacks l place more found end name one fields unread lacks says_so added each inside is = absurd added
one_lacks l place more found end name one fields empty lacks says_so added each inside is = each place found added inside
one_lacks l place more found end name one fields (says what true next) lacks says_so added each inside is = absurd added
one_lacks l place more found end name one fields (says what false next) lacks says_so added each inside is =
    elim (contains_cons (record { line = l.number; said = what }) one added.rest (subst (λ (it : List Numbered). Contains it one) added.is inside)) [
      | inl same ↦ (let says_layout : stated what ≡ layout name fields = ap (λ (it : Numbered). stated it.said) same ∙ is in
          let begins = says_so fields says_layout in absurd (let bad = sym lacks ∙ begins in cc))
      | inr behind ↦ each next added.rest added.reads behind
    ]

pub no_layout : (form : TextForm) (name : List ℕ) (lines : List NumberedLine) (place : Place) (found : List Numbered) (end : Place)
    → ((l : NumberedLine) → Contains lines l → begins_named name (tokens l.bytes) ≡ false) → said_in form place lines ≡ Some (found, end)
    → (one : Numbered) (fields : List TypeWord) → Contains found one → stated one.said ≡ layout name fields → ⊥
unfolding said_in
no_layout form name [] place found end lacks e one fields inside is =
    let none : [] ≡ found = ap (λ (it : List Numbered × Place). it.0) (same_Some ([], place) (found, end) e) in contains_none one (subst (λ (it : List Numbered). Contains it one) (sym none) inside)
no_layout form name (x ∷ xs) place found end lacks e one fields inside is =
    one_lacks x place (λ next. said_in form next xs) found end name one fields (placed form place x.bytes) (lacks x (contains_first x xs)) (layout_says x.bytes name form place)
    (first_adds x place (λ next. said_in form next xs) found end (placed form place x.bytes) e)
    (λ next rest reads within. no_layout form name xs next rest end (λ l there. lacks l (contains_later x l xs there)) reads one fields within is) inside is
