-- The readings of a text one behind the other: what a line comes to in its place says of the line.
use Rattle.std.proofs.Common.{◌≡◌, ℕ, ◌+◌, ◌≤◌, suc, refl, ap, sym, Bool, true, false, ◌&&◌, List, [], ◌∷◌, length, Ok, Err, Result, Option, Some, None, arith}
use Rattle.std.specs.Prelude.{if◌then◌else◌, ⊤}
use Rattle.sp_text.specs.Tokens.{over, tokens}
use Rattle.sp_text.specs.Lines.{NumberedLine}
use Rattle.sp_text.specs.Labels.{label_of, is_metadata}
use Rattle.ir_ast.specs.declared.modules.Form.{Form as TextForm}
use Rattle.line_forms.specs.declared.forms.Form.{Form}
use Rattle.ir_reader.specs.declared.states.Counted.{Counted}
use Rattle.ir_reader.specs.declared.states.Counted.TheVariants as kinds
use Rattle.ir_reader.specs.declared.states.Place.{Place}
use Rattle.ir_reader.specs.declared.states.State.{State}
use Rattle.line_parts.specs.Gives.{Found, after, is_nil}
use Rattle.line_forms.specs.Forms.{fit, form_in, stands_in, is_dropped_form}
use Rattle.line_forms.specs.Slots.{Item}
use Rattle.ir_reader.specs.Places.{behind, behind_label}
use Rattle.ir_reader.specs.Limits.{said_fits, line_fits, said_counts_as, counted, counted_in, counts_fit}
use Rattle.line_forms.proofs.FamilyLines.{fit_parts, stands_where_read}
use Rattle.line_forms.specs.Seen.{Said, label, line, of_form, line_at, ended}
use Rattle.ir_reader.specs.Text.{Outcome, no_reading, over_limit, nothing, said, is_top, next_state, within, dropped_within, said_by, formed, by_form, tokens_outcome, label_outcome, labelled, outcome, Fault, syntax_fault, limit_fault, Numbered, with_first, readings_by, readings}
use Rattle.ir_reader.proofs.Judging.{label_fits}
use Rattle.ir_reader.proofs.Counting.{nothing-in}
use Rattle.std.proofs.lemmas.Bool.{and_parts}

-- ---- what a line comes to

abbrev pub said_behind : Place → Said → Option Place
said_behind place (label name) = behind_label place
said_behind place (line l) = behind place l.form

-- the bytes of some line spell it
abbrev pub IsSpelled : Said → Type 0
IsSpelled (label name) = (bytes : List ℕ) × (label_of bytes ≡ Some name)
IsSpelled (line l) = (bytes : List ℕ) × (fit l.form (tokens bytes) ≡ Some (l.items, []))

-- its form is none of those that are dropped
abbrev pub IsKept : Said → Type 0
IsKept (label name) = ⊤
IsKept (line l) = is_dropped_form l.form ≡ false

-- it stands in texts of the form
abbrev pub IsOwn : TextForm → Said → Type 0
IsOwn text (label name) = ⊤
IsOwn text (line l) = stands_in text l.form l.items ≡ true

pub record IsStep (s : State) (what : Said) (next : State) : Type 0 where
  pub place : said_behind s.place what ≡ Some next.place
  pub form : next.form ≡ s.form
  pub fits : said_fits what ≡ true
  pub counts : next.counts ≡ counted (counted_in s.form (said_counts_as what)) s.counts
  pub few : counts_fit s.counts ≡ true → counts_fit next.counts ≡ true
  pub spelled : IsSpelled what
  pub kept : IsKept what
  pub own : IsOwn s.form what

step-is : (s : State) (w what : Said) (n next : State) → w ≡ what → n ≡ next → IsStep s w n → IsStep s what next
step-is s w what n next e f h = rw (← e, ← f) h

within-step : (s : State) (form : Form) (place : Place) (items : List Item) (bytes : List ℕ) (passed b : Bool) (what : Said) (next : State)
    → is_dropped_form form ≡ false → form_in s.form (tokens bytes) ≡ Some form → (passed ≡ false → fit form (tokens bytes) ≡ Some (items, [])) → behind s.place form ≡ Some place
    → (line_fits (of_form form items) passed && counts_fit (next_state s place (of_form form items)).counts) ≡ b
    → (if b then said (of_form form items) (next_state s place (of_form form items)) else over_limit) ≡ said what next
    → IsStep s what next
within-step s form place items bytes passed false what next kept f p e fits o = absurd (let bad : over_limit ≡ said what next = o in cc)
within-step s form place items bytes true true what next kept f p e fits o = absurd (let bad : false ≡ true = fits in cc)
within-step s form place items bytes false true what next kept f p e fits o =
    let is : said (of_form form items) (next_state s place (of_form form items)) ≡ said what next = o in
    let w : of_form form items ≡ what = cc in
    let n : next_state s place (of_form form items) ≡ next = cc in
    let h = and_parts (said_fits (of_form form items)) (counts_fit (next_state s place (of_form form items)).counts) fits in
    step-is s (of_form form items) what (next_state s place (of_form form items)) next w n (record {
      place = e;
      form = refl;
      fits = h.0;
      counts = refl;
      few = λ _. h.1;
      spelled = (bytes, p refl);
      kept = kept;
      own = stands_where_read s.form form items (tokens bytes) [] f (fit_parts form (tokens bytes) items [] (p refl)).0;
    })

dropped-step : (s : State) (form : Form) (place : Place) (items : List Item) (bytes : List ℕ) (passed b : Bool) (what : Said) (next : State)
    → is_dropped_form form ≡ b → form_in s.form (tokens bytes) ≡ Some form → (passed ≡ false → fit form (tokens bytes) ≡ Some (items, [])) → behind s.place form ≡ Some place
    → (if b then dropped_within (of_form form items) passed else within s place (of_form form items) passed) ≡ said what next
    → IsStep s what next
dropped-step s form place items bytes passed true what next drops f p e o = absurd (by (line_fits (of_form form items) passed) o)
  where
    by : (fits : Bool) → (if fits then nothing else over_limit) ≡ said what next → ⊥
    by true bad = cc
    by false bad = cc
dropped-step s form place items bytes passed false what next kept f p e o =
    within-step s form place items bytes passed (line_fits (of_form form items) passed && counts_fit (next_state s place (of_form form items)).counts) what next kept f p e refl o

-- what the tokens of a form come to
found-step : (s : State) (form : Form) (place : Place) (bytes : List ℕ) (found : Found (List Item)) (what : Said) (next : State)
    → form_in s.form (tokens bytes) ≡ Some form → fit form (tokens bytes) ≡ found → behind s.place form ≡ Some place
    → said_by s form place (ended (after found (λ items rest. Some (of_form form items, rest)))) ≡ said what next
    → IsStep s what next
unfolding after
found-step s form place bytes None what next f p e o = absurd (let bad : no_reading ≡ said what next = o in cc)
found-step s form place bytes (Some (items, [])) what next f p e o =
    dropped-step s form place items bytes false (is_dropped_form form) what next refl f (λ _. p) e o
found-step s form place bytes (Some (items, over ∷ [])) what next f p e o =
    dropped-step s form place items bytes true (is_dropped_form form) what next refl f (λ none. absurd (let wrong : true ≡ false = none in cc)) e o
found-step s form place bytes (Some (items, rest)) what next f p e o = absurd (let bad : no_reading ≡ said what next = o in cc)

formed-step : (s : State) (form : Form) (bytes : List ℕ) (place : Option Place) (what : Said) (next : State)
    → form_in s.form (tokens bytes) ≡ Some form → behind s.place form ≡ place → formed s form (tokens bytes) place ≡ said what next → IsStep s what next
unfolding line_at
formed-step s form bytes None what next f e o = absurd (let bad : no_reading ≡ said what next = o in cc)
formed-step s form bytes (Some place) what next f e o =
    found-step s form place bytes (fit form (tokens bytes)) what next f refl e o

form-step : (s : State) (bytes : List ℕ) (form : Option Form) (what : Said) (next : State)
    → form_in s.form (tokens bytes) ≡ form → by_form s (tokens bytes) form ≡ said what next → IsStep s what next
form-step s bytes None what next f o = absurd (let bad : no_reading ≡ said what next = o in cc)
form-step s bytes (Some form) what next f o = formed-step s form bytes (behind s.place form) what next f refl o

tokens-step : (s : State) (bytes : List ℕ) (what : Said) (next : State) → tokens_outcome s (tokens bytes) ≡ said what next → IsStep s what next
unfolding tokens_outcome
tokens-step s bytes what next o = by (is_nil (tokens bytes)) o
  where
    by : (b : Bool) → (if b then nothing else by_form s (tokens bytes) (form_in s.form (tokens bytes))) ≡ said what next → IsStep s what next
    by true e = absurd (let bad : nothing ≡ said what next = e in cc)
    by false e = form-step s bytes (form_in s.form (tokens bytes)) what next refl e

label-step : (s : State) (bytes name : List ℕ) (place : Option Place) (what : Said) (next : State) → label_of bytes ≡ Some name
    → behind_label s.place ≡ place → label_outcome s name place ≡ said what next → IsStep s what next
label-step s bytes name None what next is_label e o = absurd (let bad : no_reading ≡ said what next = o in cc)
label-step s bytes name (Some place) what next is_label e o =
    let behind : State = record { form = s.form; place = place; counts = counted kinds.Nothing s.counts } in
    let is : said (label name) behind ≡ said what next = o in
    let w : label name ≡ what = cc in
    let n : behind ≡ next = cc in
    step-is s (label name) what behind next w n (record {
      place = e;
      form = refl;
      fits = refl;
      counts = sym (ap (λ (kind : Counted). counted kind s.counts) (nothing-in s.form));
      few = label_fits s.counts;
      spelled = (bytes, is_label);
      kept = tt;
      own = tt;
    })

labelled-step : (s : State) (bytes : List ℕ) (name : Option (List ℕ)) (what : Said) (next : State) → label_of bytes ≡ name
    → labelled s bytes name ≡ said what next → IsStep s what next
labelled-step s bytes None what next is o = tokens-step s bytes what next o
labelled-step s bytes (Some name) what next is o = label-step s bytes name (behind_label s.place) what next is refl o

metadata-step : (s : State) (bytes : List ℕ) (b : Bool) (what : Said) (next : State)
    → (if b then nothing else labelled s bytes (label_of bytes)) ≡ said what next → IsStep s what next
metadata-step s bytes true what next o = absurd (let bad : nothing ≡ said what next = o in cc)
metadata-step s bytes false what next o = labelled-step s bytes (label_of bytes) what next refl o

pub outcome-step : (s : State) (bytes : List ℕ) (what : Said) (next : State) → outcome s bytes ≡ said what next → IsStep s what next
unfolding outcome
outcome-step s bytes what next o = metadata-step s bytes (is_top s.place && is_metadata bytes) what next o

-- ---- the readings of a text

-- a step, behind which the rest stands
pub record Steps (s : State) (what : Said) (rest : State → Type 0) : Type 0 where
  pub next : State
  pub step : IsStep s what next
  pub more : rest next

abbrev pub Runs : State → List Numbered → Type 0
Runs s [] = is_top s.place ≡ true
Runs s (x ∷ xs) = Steps s x.said (λ next. Runs next xs)

abbrev pub as_read : List Numbered → Result (List Numbered) Fault
as_read xs = Ok xs

abbrev pub as_fault : Fault → Result (List Numbered) Fault
as_fault fault = Err fault

pub read-is : (xs ys : List Numbered) → as_read xs ≡ as_read ys → xs ≡ ys
read-is xs ys e = cc

pub no-fault : (fault : Fault) (xs : List Numbered) → as_fault fault ≡ as_read xs → ⊥
no-fault fault xs e = cc

runs-is : (s : State) (xs ys : List Numbered) → xs ≡ ys → Runs s xs → Runs s ys
runs-is s xs ys e h = rw (← e) h

end-runs : (s : State) (number : ℕ) (b : Bool) (xs : List Numbered) → is_top s.place ≡ b
    → (if b then Ok [] else Err (syntax_fault number)) ≡ Ok xs → Runs s xs
end-runs s number true xs top e = let none = read-is [] xs e in runs-is s [] xs none top
end-runs s number false xs top e = absurd (no-fault (syntax_fault number) xs e)

first-runs : (s : State) (x : Numbered) (next : State) (read : Result (List Numbered) Fault) (xs : List Numbered)
    → IsStep s x.said next → with_first x read ≡ Ok xs → ((ys : List Numbered) → read ≡ Ok ys → Runs next ys) → Runs s xs
first-runs s x next (Ok ys) xs step e rest =
    let same = read-is (x ∷ ys) xs e in
    runs-is s (x ∷ ys) xs same (record { next = next; step = step; more = rest ys refl })
first-runs s x next (Err fault) xs step e rest = absurd (no-fault fault xs e)

outcome-runs : (s : State) (bytes : List ℕ) (number : ℕ) (o : Outcome) (more : State → Result (List Numbered) Fault) (xs : List Numbered)
    → outcome s bytes ≡ o → readings_by o number more s ≡ Ok xs
    → ((next : State) (ys : List Numbered) → more next ≡ Ok ys → Runs next ys) → Runs s xs
outcome-runs s bytes number no_reading more xs o e rest = absurd (no-fault (syntax_fault number) xs e)
outcome-runs s bytes number over_limit more xs o e rest = absurd (no-fault (limit_fault number) xs e)
outcome-runs s bytes number nothing more xs o e rest = rest s xs e
outcome-runs s bytes number (said what next) more xs o e rest =
    first-runs s (record { line = number; said = what }) next (more next) xs (outcome-step s bytes what next o) e (rest next)

pub readings-run : (ls : List NumberedLine) (s : State) (number : ℕ) (xs : List Numbered) → readings s number ls ≡ Ok xs → Runs s xs
unfolding readings
readings-run [] s number xs e = end-runs s number (is_top s.place) xs refl e
readings-run (l ∷ ls) s number xs e =
    outcome-runs s l.bytes l.number (outcome s l.bytes) (λ next. readings next (l.number + 1) ls) xs refl e
    (λ next ys f. readings-run ls next (l.number + 1) ys f)

-- ---- there are at most as many as lines

first-few : (x : Numbered) (read : Result (List Numbered) Fault) (xs : List Numbered) (n : ℕ)
    → with_first x read ≡ Ok xs → ((ys : List Numbered) → read ≡ Ok ys → length ys ≤ n) → length xs ≤ suc n
first-few x (Ok ys) xs n e few =
    let same = read-is (x ∷ ys) xs e in
    let h : length ys ≤ n = few ys refl in
    let k : suc (length ys) ≡ length xs = ap length same in omega arith
first-few x (Err fault) xs n e few = absurd (no-fault fault xs e)

outcome-few : (s : State) (number : ℕ) (o : Outcome) (more : State → Result (List Numbered) Fault) (xs : List Numbered) (n : ℕ)
    → readings_by o number more s ≡ Ok xs
    → ((next : State) (ys : List Numbered) → more next ≡ Ok ys → length ys ≤ n) → length xs ≤ suc n
outcome-few s number no_reading more xs n e few = absurd (no-fault (syntax_fault number) xs e)
outcome-few s number over_limit more xs n e few = absurd (no-fault (limit_fault number) xs e)
outcome-few s number nothing more xs n e few = let h : length xs ≤ n = few s xs e in omega arith
outcome-few s number (said what next) more xs n e few = first-few (record { line = number; said = what }) (more next) xs n e (few next)

end-few : (b : Bool) (number : ℕ) (xs : List Numbered) → (if b then Ok [] else Err (syntax_fault number)) ≡ Ok xs → length xs ≤ 0
end-few true number xs e =
    let none = read-is [] xs e in
    let k : 0 ≡ length xs = ap length none in omega arith
end-few false number xs e = absurd (no-fault (syntax_fault number) xs e)

pub readings-few : (ls : List NumberedLine) (s : State) (number : ℕ) (xs : List Numbered) → readings s number ls ≡ Ok xs → length xs ≤ length ls
unfolding readings
readings-few [] s number xs e = end-few (is_top s.place) number xs e
readings-few (l ∷ ls) s number xs e =
    outcome-few s l.number (outcome s l.bytes) (λ next. readings next (l.number + 1) ls) xs (length ls) e
    (λ next ys f. readings-few ls next (l.number + 1) ys f)
