-- What a text comes to, by all of its lines up to the one that decides.
use Rattle.std.proofs.Common.{◌≡◌, ℕ, ◌+◌, Bool, true, false, cond, ◌&&◌, List, [], ◌∷◌, ◌++◌, Option, Some, None, Result, Ok, Err, refl, sym, ap, subst, ◌∙◌, append_assoc, inl, inr}
use Rattle.std.specs.Prelude.{◌⊎◌, ⊤, not, map, filter, option_map, if◌then◌else◌}
use Rattle.std.specs.List.{list_all}
use Rattle.std.proofs.lemmas.List.{append-nil, map-append}
use Rattle.std.proofs.lemmas.List.Elements.{filter-append}
use Rattle.std.proofs.lemmas.List.Folds.{list_all-append}
use Rattle.sp_text.specs.Tokens.{Tok, tokens}
use Rattle.sp_text.specs.Lines.{NumberedLine, lines_of}
use Rattle.sp_text.specs.Labels.{label_of, is_metadata}
use Rattle.ir_ast.specs.declared.modules.Form.{Form as TextForm}
use Rattle.ir_ast.specs.declared.modules.Form.TheVariants as text_forms
use Rattle.line_forms.specs.declared.forms.DroppedLine.{DroppedLine}
use Rattle.line_forms.specs.declared.forms.Form.{Form}
use Rattle.line_forms.specs.declared.forms.Form.TheVariants as forms
use Rattle.ir_reader.specs.declared.states.Place.{Place}
use Rattle.ir_reader.specs.declared.states.Place.TheVariants as places
use Rattle.ir_reader.specs.declared.states.State.{State}
use Rattle.ir_reader.specs.declared.states.Counts.{Counts}
use Rattle.ir_reader.specs.declared.states.Counted.{Counted}
use Rattle.ir_reader.specs.declared.states.Counted.TheVariants as kinds
use Rattle.line_parts.specs.Gives.{Found, after, is_nil, end_of}
use Rattle.line_forms.specs.Slots.{Item}
use Rattle.line_forms.specs.Forms.{fit, form_in, is_dropped_form}
use Rattle.line_forms.specs.Seen.{Said, label, of_form, line_at, ended}
use Rattle.ir_reader.specs.Places.{behind, behind_label}
use Rattle.ir_reader.specs.Limits.{said_fits, line_fits, said_counts_as, counts_as, counted, counted_in, counts_fit}
use Rattle.ir_reader.specs.Quantities.{has_form, last_function, quantities_fit, within_limits}
use Rattle.ir_reader.specs.Text.{Outcome, no_reading, over_limit, nothing, said, outcome, is_top, next_state, within, dropped_within, said_by, formed, by_form, tokens_outcome, label_outcome, labelled, Fault, syntax_fault, Numbered, readings_by, readings, readings_in, opening}
use Rattle.ir_reader.specs.Judged.{Placed, unread, empty, says, placed_said, placed_formed, placed_by_form, placed_tokens, placed_label, placed_labelled, placed, before, said_behind, said_in, said_of, ReadTo, OverLimit, number_behind, is_kept, Judged}
use Rattle.ir_reader.proofs.Counting.{IsCounted, fits-are, counted-kept, counted-dropped, counted-none, nothing-in}
use Rattle.ir_reader.proofs.LineByLine.{with_lines, with_none, with_one}
use Rattle.std.proofs.lemmas.Bool.{and_parts, and_left}

-- ---- one line, with the limits

abbrev limited : State → Placed → Outcome
limited s unread = no_reading
limited s empty = nothing
limited s (says what passed next) = if has_form is_dropped_form what then dropped_within what passed else within s next what passed

if_limited : (s : State) (b : Bool) (x : Outcome) (p : Placed) → x ≡ limited s p → cond b nothing x ≡ limited s (cond b empty p)
if_limited s true x p e = refl
if_limited s false x p e = e

pub label_fits : (c : Counts) → counts_fit c ≡ true → counts_fit (counted kinds.Nothing c) ≡ true
label_fits c e =
    ap (λ (x : Bool). x && true) (and_parts _ _ e).0

found-is : (s : State) (form : Form) (next : Place) (found : Found (List Item))
    → said_by s form next (ended (after found (λ items rest. Some (of_form form items, rest)))) ≡ limited s (placed_said next (ended (after found (λ items rest. Some (of_form form items, rest)))))
unfolding after
found-is s form next None = refl
found-is s form next (Some (items, rest)) = ended-is (end_of rest)
  where
    ended-is : (end : Option Bool) → said_by s form next (option_map (λ passed. (of_form form items, passed)) end) ≡ limited s (placed_said next (option_map (λ passed. (of_form form items, passed)) end))
    ended-is None = refl
    ended-is (Some passed) = refl

formed-is : (s : State) (form : Form) (ts : List Tok) (next : Option Place) → formed s form ts next ≡ limited s (placed_formed form ts next)
unfolding line_at
formed-is s form ts None = refl
formed-is s form ts (Some next) = found-is s form next (fit form ts)

by_form-is : (s : State) (ts : List Tok) (form : Option Form) → by_form s ts form ≡ limited s (placed_by_form s.place ts form)
by_form-is s ts None = refl
by_form-is s ts (Some form) = formed-is s form ts (behind s.place form)

tokens-is : (s : State) (ts : List Tok) → tokens_outcome s ts ≡ limited s (placed_tokens s.form s.place ts)
unfolding tokens_outcome
tokens-is s ts = if_limited s (is_nil ts) (by_form s ts (form_in s.form ts)) (placed_by_form s.place ts (form_in s.form ts)) (by_form-is s ts (form_in s.form ts))

label-is : (s : State) (name : List ℕ) (next : Option Place) → counts_fit s.counts ≡ true → label_outcome s name next ≡ limited s (placed_label name next)
label-is s name None fits = refl
label-is s name (Some next) fits = rw (nothing-in s.form, label_fits s.counts fits) refl

labelled-is : (s : State) (bytes : List ℕ) (name : Option (List ℕ)) → counts_fit s.counts ≡ true → labelled s bytes name ≡ limited s (placed_labelled s.form s.place bytes name)
labelled-is s bytes None fits = tokens-is s (tokens bytes)
labelled-is s bytes (Some name) fits = label-is s name (behind_label s.place) fits

outcome-is : (s : State) (bytes : List ℕ) → counts_fit s.counts ≡ true → outcome s bytes ≡ limited s (placed s.form s.place bytes)
unfolding outcome placed
outcome-is s bytes fits = if_limited s (is_top s.place && is_metadata bytes) _ _ (labelled-is s bytes (label_of bytes) fits)

-- ---- lines in a row

abbrev pub prefixed : List Numbered → Option (List Numbered × Place) → Option (List Numbered × Place)
prefixed front None = None
prefixed front (Some read) = Some (front ++ read.0, read.1)

abbrev pub then_said : Option (List Numbered × Place) → (Place → Option (List Numbered × Place)) → Option (List Numbered × Place)
then_said None more = None
then_said (Some read) more = prefixed read.0 (more read.1)

prefixed-none : (read : Option (List Numbered × Place)) → read ≡ prefixed [] read
prefixed-none None = refl
prefixed-none (Some read) = refl

before-prefixed : (x : Numbered) (front : List Numbered) (read : Option (List Numbered × Place)) → before x (prefixed front read) ≡ prefixed (x ∷ front) read
before-prefixed x front None = refl
before-prefixed x front (Some read) = refl

before-then : (x : Numbered) (read : Option (List Numbered × Place)) (more : Place → Option (List Numbered × Place)) → before x (then_said read more) ≡ then_said (before x read) more
before-then x None more = refl
before-then x (Some read) more = before-prefixed x read.0 (more read.1)

behind-append : (text : TextForm) (l : NumberedLine) (ls back : List NumberedLine) (place : Place) (p : Placed)
    → ((next : Place) → said_in text next (ls ++ back) ≡ then_said (said_in text next ls) (λ next. said_in text next back))
    → said_behind l p place (λ next. said_in text next (ls ++ back)) ≡ then_said (said_behind l p place (λ next. said_in text next ls)) (λ next. said_in text next back)
behind-append text l ls back place unread more = refl
behind-append text l ls back place empty more = more place
behind-append text l ls back place (says what true next) more = refl
behind-append text l ls back place (says what false next) more =
    ap (λ (r : Option (List Numbered × Place)). before (record { line = l.number; said = what }) r) (more next)
    ∙ before-then (record { line = l.number; said = what }) (said_in text next ls) (λ next. said_in text next back)

pub said_in-append : (text : TextForm) (place : Place) (front back : List NumberedLine) → said_in text place (front ++ back) ≡ then_said (said_in text place front) (λ next. said_in text next back)
unfolding said_in
said_in-append text place [] back = prefixed-none (said_in text place back)
said_in-append text place (l ∷ ls) back = behind-append text l ls back place (placed text place l.bytes) (λ next. said_in-append text next ls back)

-- one line more
said_in-last : (text : TextForm) (lines : List NumberedLine) (last : NumberedLine) (found : List Numbered) (place : Place) (p : Placed)
    → said_in text places.Top lines ≡ Some (found, place) → placed text place last.bytes ≡ p
    → said_in text places.Top (lines ++ last ∷ []) ≡ prefixed found (said_behind last p place (λ next. Some ([], next)))
unfolding said_in
said_in-last text lines last found place p e is = rw (said_in-append text places.Top lines (last ∷ []), e, is) refl

number_behind-last : (number : ℕ) (lines : List NumberedLine) (last : NumberedLine) → number_behind number (lines ++ last ∷ []) ≡ last.number + 1
unfolding number_behind
number_behind-last number [] last = refl
number_behind-last number (l ∷ ls) last = number_behind-last (l.number + 1) ls last

-- ---- fronts of a list

headed : {A : Type 0} → A → List A → A
headed default [] = default
headed default (x ∷ xs) = x

tailed : {A : Type 0} → List A → List A
tailed [] = []
tailed (x ∷ xs) = xs

nothing_left : {A : Type 0} (front back : List A) → [] ≡ front ++ back → front ≡ []
nothing_left [] back e = refl
nothing_left (x ∷ front) back e = absurd cc

-- a front of a list with one element more is the whole or a front of the list
front_of_last : {A : Type 0} (found : List A) (x : A) (front back : List A) → found ++ x ∷ [] ≡ front ++ back → (front ≡ found ++ x ∷ []) ⊎ ((rest : List A) × (found ≡ front ++ rest))
unfolding headed tailed
front_of_last found x [] back e = inr (found, refl)
front_of_last [] x (y ∷ front) back e =
    let same : x ≡ y = ap (λ (xs : List _). headed x xs) e in
    let none : front ≡ [] = nothing_left front back (ap (λ (xs : List _). tailed xs) e) in
    inl (rw (none, same) refl)
front_of_last (z ∷ found) x (y ∷ front) back e =
    let same : z ≡ y = ap (λ (xs : List _). headed z xs) e in
    elim (front_of_last found x front back (ap (λ (xs : List _). tailed xs) e)) [
      | inl whole ↦ inl (rw (whole, same) refl)
      | inr part ↦ inr (part.0, rw (part.1, same) refl)
    ]

-- ---- what is read so far

record Reached (s : State) (front : List NumberedLine) (found : List Numbered) (number : ℕ) : Type 0 where
  so_far : ReadTo s.form front found s.place
  fits : counts_fit s.counts ≡ true
  counts : IsCounted s.form s.counts (map said_of found)
  outside : is_top s.place ≡ true → s.counts.relocates ≡ 0
  number_is : number_behind 1 front ≡ number

whole_front : (text : TextForm) (found : List Numbered) → ((front back : List Numbered) → found ≡ front ++ back → within_limits text (map said_of front) ≡ true) → within_limits text (map said_of found) ≡ true
whole_front text found within = within found [] (sym (append-nil found))

within-last : (text : TextForm) (found : List Numbered) (x : Numbered)
    → ((front back : List Numbered) → found ≡ front ++ back → within_limits text (map said_of front) ≡ true) → within_limits text (map said_of found ++ x.said ∷ []) ≡ true
    → (front back : List Numbered) → found ++ x ∷ [] ≡ front ++ back → within_limits text (map said_of front) ≡ true
within-last text found x within one front back e =
    elim (front_of_last found x front back e) [
      | inl whole ↦ rw (whole, map-append said_of found (x ∷ [])) one
      | inr part ↦ within front part.0 part.1
    ]

read_on : (text : TextForm) (front : List NumberedLine) (last : NumberedLine) (found : List Numbered) (place : Place) (what : Said) (next : Place)
    → ReadTo text front found place → placed text place last.bytes ≡ says what false next → within_limits text (map said_of found ++ what ∷ []) ≡ true
    → ReadTo text (front ++ last ∷ []) (found ++ record { line = last.number; said = what } ∷ []) next
read_on text front last found place what next r is fits = record {
  read = said_in-last text front last found place (says what false next) r.read is;
  within = within-last text found (record { line = last.number; said = what }) r.within fits;
}

read_past : (text : TextForm) (front : List NumberedLine) (last : NumberedLine) (found : List Numbered) (place : Place)
    → ReadTo text front found place → placed text place last.bytes ≡ empty → ReadTo text (front ++ last ∷ []) found place
read_past text front last found place r is = record {
  read = said_in-last text front last found place empty r.read is ∙ ap (λ (xs : List Numbered). Some (xs, place)) (append-nil found);
  within = r.within;
}

-- all lines say something within their limits, and so one more
all_fit : (text : TextForm) (found : List Said) (what : Said) (q : Bool) → list_all said_fits found ≡ true → quantities_fit text (found ++ what ∷ []) ≡ q
    → within_limits text (found ++ what ∷ []) ≡ (said_fits what && q)
all_fit text found what q each quantities =
    let last : list_all said_fits (found ++ what ∷ []) ≡ said_fits what = list_all-append said_fits found (what ∷ []) ∙ rw each (and_true (said_fits what)) in
    rw (last, quantities) refl
  where
    and_true : (b : Bool) → (true && (b && true)) ≡ b
    and_true true = refl
    and_true false = refl

each_fits : (text : TextForm) (found : List Said) → within_limits text found ≡ true → list_all said_fits found ≡ true
each_fits text found e = (and_parts (list_all said_fits found) (quantities_fit text found) e).0

-- ---- the place of what is dropped, and of a relocate

a_dropped : (form : Form) → is_dropped_form form ≡ true → (which : DroppedLine) × (form ≡ forms.Dropped which)
a_dropped (forms.Dropped which) e = (which, refl)
a_dropped form e = absurd cc

dropped_at : (which : DroppedLine) (place next : Place) → behind place (forms.Dropped which) ≡ Some next → (is_top place ≡ true) × (next ≡ place)
dropped_at which places.Top places.Top e = (refl, refl)
dropped_at which places.Top next e = absurd cc
dropped_at which place next e = absurd cc

a_relocate : (form : Form) (items : List Item) → counts_as form items ≡ kinds.Relocate → form ≡ forms.GcRelocate
a_relocate forms.GcRelocate items e = refl
a_relocate form items e = absurd cc

relocate_at : (place next : Place) → behind place forms.GcRelocate ≡ Some next → is_top next ≡ true → ⊥
relocate_at places.Entry places.Top e top = cc
relocate_at places.Block places.Top e top = cc
relocate_at places.Top next e top = cc
relocate_at places.Closed next e top = cc
relocate_at places.Cases next e top = cc
relocate_at place next e top = cc

-- where a line leads
record Leads (place : Place) (what : Said) (next : Place) : Type 0 where
  dropped : has_form is_dropped_form what ≡ true → (is_top place ≡ true) × (next ≡ place) × (said_counts_as what ≡ kinds.Nothing)
  no_relocate : is_top next ≡ true → said_counts_as what ≡ kinds.Relocate → ⊥

form_leads : (place next : Place) (form : Form) (items : List Item) → behind place form ≡ Some next → Leads place (of_form form items) next
form_leads place next form items e = record {
  dropped = λ is.
      let d = a_dropped form is in
      let at = dropped_at d.0 place next (rw (← d.1) e) in
      (at.0, at.1, rw d.1 refl);
  no_relocate = λ top kind. relocate_at place next (rw (← a_relocate form items kind) e) top;
}

label_leads : (place next : Place) (name : List ℕ) → Leads place (label name) next
label_leads place next name = record { dropped = λ is. absurd cc; no_relocate = λ top kind. cc }

-- a line as it was found
abbrev LeadsTo : Place → Placed → Type 0
LeadsTo place (says what passed next) = Leads place what next
LeadsTo place _ = ⊤

ended_leads : (place to : Place) (form : Form) (items : List Item) (end : Option Bool) → behind place form ≡ Some to → LeadsTo place (placed_said to (option_map (λ passed. (of_form form items, passed)) end))
ended_leads place to form items None e = tt
ended_leads place to form items (Some passed) e = form_leads place to form items e

found_leads : (place to : Place) (form : Form) (found : Found (List Item)) → behind place form ≡ Some to
    → LeadsTo place (placed_said to (ended (after found (λ items rest. Some (of_form form items, rest)))))
unfolding after
found_leads place to form None e = tt
found_leads place to form (Some (items, rest)) e = ended_leads place to form items (end_of rest) e

formed_leads : (place : Place) (form : Form) (ts : List Tok) (to : Option Place) → behind place form ≡ to → LeadsTo place (placed_formed form ts to)
unfolding line_at
formed_leads place form ts None e = tt
formed_leads place form ts (Some to) e = found_leads place to form (fit form ts) e

by_form_leads : (place : Place) (ts : List Tok) (form : Option Form) → LeadsTo place (placed_by_form place ts form)
by_form_leads place ts None = tt
by_form_leads place ts (Some form) = formed_leads place form ts (behind place form) refl

chosen_leads : (place : Place) (b : Bool) (p : Placed) → LeadsTo place p → LeadsTo place (cond b empty p)
chosen_leads place true p l = tt
chosen_leads place false p l = l

label_at_leads : (place : Place) (name : List ℕ) (to : Option Place) → LeadsTo place (placed_label name to)
label_at_leads place name None = tt
label_at_leads place name (Some to) = label_leads place to name

labelled_leads : (text : TextForm) (place : Place) (bytes : List ℕ) (name : Option (List ℕ)) → LeadsTo place (placed_labelled text place bytes name)
labelled_leads text place bytes None = chosen_leads place (is_nil (tokens bytes)) (placed_by_form place (tokens bytes) (form_in text (tokens bytes))) (by_form_leads place (tokens bytes) (form_in text (tokens bytes)))
labelled_leads text place bytes (Some name) = label_at_leads place name (behind_label place)

leads : (text : TextForm) (place next : Place) (bytes : List ℕ) (what : Said) (passed : Bool) → placed text place bytes ≡ says what passed next → Leads place what next
unfolding placed
leads text place next bytes what passed is =
    subst (λ (p : Placed). LeadsTo place p) is (chosen_leads place (is_top place && is_metadata bytes) (placed_labelled text place bytes (label_of bytes)) (labelled_leads text place bytes (label_of bytes)))

-- ---- the text

-- what the lines that are left come to, from any state
Rest : List NumberedLine → List NumberedLine → Type 0
Rest lines left = (s : State) (front : List NumberedLine) (found : List Numbered) (number : ℕ) → Reached s front found number → lines ≡ front ++ left
    → Judged s.form lines (with_lines (filter is_kept found) (readings s number left))

at_end : (lines : List NumberedLine) → Rest lines []
unfolding Rest readings
at_end lines s front found number r e = by (is_top s.place) refl
  where
    whole : ReadTo s.form lines found s.place
    whole = rw (e, append-nil front) r.so_far

    by : (b : Bool) → is_top s.place ≡ b → Judged s.form lines (with_lines (filter is_kept found) (if b then Ok [] else Err (syntax_fault number)))
    by true top = record { found = found; place = s.place; whole = whole; outside = top; readings_are = append-nil (filter is_kept found) }
    by false top = inr (record { found = found; place = s.place; whole = whole; inside = top; number_is = rw (e, append-nil front) r.number_is })

over_at : (s : State) (lines front back : List NumberedLine) (last : NumberedLine) (found : List Numbered) (number : ℕ) (what : Said) (passed : Bool) (next : Place) → Reached s front found number
    → lines ≡ front ++ last ∷ back → placed s.form s.place last.bytes ≡ says what passed next → (not passed && within_limits s.form (map said_of found ++ what ∷ [])) ≡ false → OverLimit s.form lines last.number
over_at s lines front back last found number what passed next r e is passes = record {
  front = front;
  last = last;
  back = back;
  lines_are = e;
  number_is = refl;
  found = found;
  place = s.place;
  before_it = r.so_far;
  what = what;
  passed = passed;
  next = next;
  read = is;
  passes = passes;
}

-- behind a line
on : (lines front back : List NumberedLine) (last : NumberedLine) → lines ≡ front ++ last ∷ back → lines ≡ (front ++ last ∷ []) ++ back
on lines front back last e = e ∙ sym (append_assoc front (last ∷ []) back)

past_line : (s : State) (front : List NumberedLine) (last : NumberedLine) (found : List Numbered) (number : ℕ) → Reached s front found number → placed s.form s.place last.bytes ≡ empty
    → Reached s (front ++ last ∷ []) found (last.number + 1)
past_line s front last found number r is = record {
  so_far = read_past s.form front last found s.place r.so_far is;
  fits = r.fits;
  counts = r.counts;
  outside = r.outside;
  number_is = number_behind-last 1 front last;
}

kept_dropped : (found : List Numbered) (x : Numbered) → has_form is_dropped_form x.said ≡ true → filter is_kept (found ++ x ∷ []) ≡ filter is_kept found
kept_dropped found x e = filter-append is_kept found (x ∷ []) ∙ ap (λ (xs : List Numbered). filter is_kept found ++ xs) (rw e refl) ∙ append-nil (filter is_kept found)

kept_one : (found : List Numbered) (x : Numbered) → has_form is_dropped_form x.said ≡ false → filter is_kept (found ++ x ∷ []) ≡ filter is_kept found ++ x ∷ []
kept_one found x e = filter-append is_kept found (x ∷ []) ∙ ap (λ (xs : List Numbered). filter is_kept found ++ xs) (rw e refl)

-- a line that is dropped
dropped_line : (s : State) (front : List NumberedLine) (last : NumberedLine) (found : List Numbered) (number : ℕ) (what : Said) (next : Place) → Reached s front found number
    → placed s.form s.place last.bytes ≡ says what false next → has_form is_dropped_form what ≡ true → said_fits what ≡ true
    → Reached s (front ++ last ∷ []) (found ++ record { line = last.number; said = what } ∷ []) (last.number + 1)
dropped_line s front last found number what next r is dropped fits =
    let l = (leads s.form s.place next last.bytes what false is).dropped dropped in
    let counts : IsCounted s.form s.counts (map said_of found ++ what ∷ []) = counted-dropped s.form s.counts (map said_of found) what l.2 (r.outside l.0) r.counts in
    let each = each_fits s.form (map said_of found) (whole_front s.form found r.so_far.within) in
    let good : within_limits s.form (map said_of found ++ what ∷ []) ≡ true
    = all_fit s.form (map said_of found) what true each (sym (fits-are s.form s.counts (map said_of found ++ what ∷ []) counts) ∙ r.fits) ∙ rw fits refl in
    record {
      so_far = subst (λ (place : Place). ReadTo s.form (front ++ last ∷ []) (found ++ record { line = last.number; said = what } ∷ []) place) l.1 (read_on s.form front last found s.place what next r.so_far is good);
      fits = r.fits;
      counts = rw (map-append said_of found (record { line = last.number; said = what } ∷ [])) counts;
      outside = r.outside;
      number_is = number_behind-last 1 front last;
    }

-- a line that is kept
no_relocates : (s : State) (what : Said) (next : Place) → Leads s.place what next → is_top next ≡ true → (next_state s next what).counts.relocates ≡ 0
no_relocates s what next l top = by s.form (said_counts_as what) refl
  where
    by : (text : TextForm) (kind : Counted) → said_counts_as what ≡ kind → (counted (counted_in text kind) s.counts).relocates ≡ 0
    by text kinds.Relocate is = absurd (l.no_relocate top is)
    by text_forms.Source kinds.Layout is = refl
    by text_forms.Source (kinds.Function arguments) is = refl
    by text_forms.Source kinds.Instruction is = refl
    by text_forms.Source kinds.Nothing is = refl
    by text_forms.Rewritten kinds.Layout is = refl
    by text_forms.Rewritten (kinds.Function arguments) is = refl
    by text_forms.Rewritten kinds.Instruction is = refl
    by text_forms.Rewritten kinds.Nothing is = refl

kept_line : (s : State) (front : List NumberedLine) (last : NumberedLine) (found : List Numbered) (number : ℕ) (what : Said) (next : Place) → Reached s front found number
    → placed s.form s.place last.bytes ≡ says what false next → said_fits what ≡ true → counts_fit (next_state s next what).counts ≡ true
    → Reached (next_state s next what) (front ++ last ∷ []) (found ++ record { line = last.number; said = what } ∷ []) (last.number + 1)
kept_line s front last found number what next r is fits few =
    let counts : IsCounted s.form (next_state s next what).counts (map said_of found ++ what ∷ []) = counted-kept s.form s.counts (map said_of found) what r.counts in
    let each = each_fits s.form (map said_of found) (whole_front s.form found r.so_far.within) in
    let good : within_limits s.form (map said_of found ++ what ∷ []) ≡ true
    = all_fit s.form (map said_of found) what true each (sym (fits-are s.form (next_state s next what).counts (map said_of found ++ what ∷ []) counts) ∙ few) ∙ rw fits refl in
    record {
      so_far = read_on s.form front last found s.place what next r.so_far is good;
      fits = few;
      counts = rw (map-append said_of found (record { line = last.number; said = what } ∷ [])) counts;
      outside = no_relocates s what next (leads s.form s.place next last.bytes what false is);
      number_is = number_behind-last 1 front last;
    }

-- a line over a limit
over_limit_by : (s : State) (found : List Numbered) (what : Said) (passed q : Bool) (front : List NumberedLine) (number : ℕ) → Reached s front found number
    → quantities_fit s.form (map said_of found ++ what ∷ []) ≡ q → (line_fits what passed && q) ≡ false → (not passed && within_limits s.form (map said_of found ++ what ∷ [])) ≡ false
over_limit_by s found what true q front number r quantities misfits = refl
over_limit_by s found what false q front number r quantities misfits =
    all_fit s.form (map said_of found) what q (each_fits s.form (map said_of found) (whole_front s.form found r.so_far.within)) quantities ∙ misfits

-- a line that fits has no note
unnoted : (what : Said) (passed : Bool) (next : Place) (p : Placed) → p ≡ says what passed next → line_fits what passed ≡ true → (p ≡ says what false next) × (said_fits what ≡ true)
unnoted what true next p is fits = absurd (let wrong : false ≡ true = fits in cc)
unnoted what false next p is fits = (is, fits)

at_line : (lines : List NumberedLine) (l : NumberedLine) (ls : List NumberedLine) → Rest lines ls → Rest lines (l ∷ ls)
unfolding Rest readings
at_line lines l ls rest s front found number r e = rw (outcome-is s l.bytes r.fits) (by (placed s.form s.place l.bytes) refl)
  where
    more : State → Result (List Numbered) Fault
    more next = readings next (l.number + 1) ls

    Comes : Outcome → Type 0
    Comes o = Judged s.form lines (with_lines (filter is_kept found) (readings_by o l.number more s))

    dropped : (what : Said) (passed : Bool) (next : Place) → placed s.form s.place l.bytes ≡ says what passed next → has_form is_dropped_form what ≡ true
        → (b : Bool) → line_fits what passed ≡ b → Comes (if b then nothing else over_limit)
    dropped what passed next is is_dropped true fits =
        let u = unnoted what passed next (placed s.form s.place l.bytes) is fits in
        subst (λ (front : List Numbered). Judged s.form lines (with_lines front (more s))) (kept_dropped found (record { line = l.number; said = what }) is_dropped)
        (rest s (front ++ l ∷ []) (found ++ record { line = l.number; said = what } ∷ []) (l.number + 1) (dropped_line s front l found number what next r u.0 is_dropped u.1) (on lines front ls l e))
    dropped what passed next is is_dropped false misfits =
        over_at s lines front ls l found number what passed next r e is
        (over_limit_by s found what passed (quantities_fit s.form (map said_of found ++ what ∷ [])) front number r refl (and_left (line_fits what passed) _ misfits))

    kept : (what : Said) (passed : Bool) (next : Place) → placed s.form s.place l.bytes ≡ says what passed next → has_form is_dropped_form what ≡ false
        → (b : Bool) → (line_fits what passed && counts_fit (next_state s next what).counts) ≡ b → Comes (if b then said what (next_state s next what) else over_limit)
    kept what passed next is is_kept_form true fits =
        let h = and_parts (line_fits what passed) (counts_fit (next_state s next what).counts) fits in
        let u = unnoted what passed next (placed s.form s.place l.bytes) is h.0 in
        rw (with_one (filter is_kept found) (record { line = l.number; said = what }) (more (next_state s next what)))
        (subst (λ (front : List Numbered). Judged s.form lines (with_lines front (more (next_state s next what)))) (kept_one found (record { line = l.number; said = what }) is_kept_form)
        (rest (next_state s next what) (front ++ l ∷ []) (found ++ record { line = l.number; said = what } ∷ []) (l.number + 1) (kept_line s front l found number what next r u.0 u.1 h.1) (on lines front ls l e)))
    kept what passed next is is_kept_form false misfits =
        let counts : IsCounted s.form (next_state s next what).counts (map said_of found ++ what ∷ []) = counted-kept s.form s.counts (map said_of found) what r.counts in
        over_at s lines front ls l found number what passed next r e is
        (over_limit_by s found what passed (counts_fit (next_state s next what).counts) front number r (sym (fits-are s.form (next_state s next what).counts (map said_of found ++ what ∷ []) counts)) misfits)

    chosen : (what : Said) (passed : Bool) (next : Place) → placed s.form s.place l.bytes ≡ says what passed next → (b : Bool) → has_form is_dropped_form what ≡ b
        → Comes (if b then dropped_within what passed else within s next what passed)
    chosen what passed next is true is_dropped = dropped what passed next is is_dropped (line_fits what passed) refl
    chosen what passed next is false is_kept_form = kept what passed next is is_kept_form (line_fits what passed && counts_fit (next_state s next what).counts) refl

    by : (p : Placed) → placed s.form s.place l.bytes ≡ p → Comes (limited s p)
    by unread is = inl (record { front = front; last = l; back = ls; lines_are = e; number_is = refl; found = found; place = s.place; before_it = r.so_far; none = is })
    by empty is = rest s (front ++ l ∷ []) found (l.number + 1) (past_line s front l found number r is) (on lines front ls l e)
    by (says what passed next) is = chosen what passed next is (has_form is_dropped_form what) refl

judge : (lines left : List NumberedLine) → Rest lines left
judge lines [] = at_end lines
judge lines (l ∷ ls) = at_line lines l ls (judge lines ls)

none_within : (text : TextForm) (front back : List Numbered) → [] ≡ front ++ back → within_limits text (map said_of front) ≡ true
unfolding last_function
none_within text_forms.Source [] back e = refl
none_within text_forms.Rewritten [] back e = refl
none_within text (x ∷ front) back e = absurd cc

at_first : (text : TextForm) → Reached (opening text) [] [] 1
unfolding said_in number_behind
at_first text = record {
  so_far = record { read = refl; within = none_within text };
  fits = refl;
  counts = counted-none text (opening text).counts refl refl refl refl refl;
  outside = λ top. refl;
  number_is = refl;
}

pub judged : (form : TextForm) (text : List ℕ) → Judged form (lines_of text) (readings_in form text)
unfolding readings_in Rest
judged form text =
    subst (λ (r : Result (List Numbered) Fault). Judged form (lines_of text) r) (with_none (readings (opening form) 1 (lines_of text)))
    (judge (lines_of text) (lines_of text) (opening form) [] [] 1 (at_first form) refl)
