-- The lines of a text that has readings stand where they may, pass no limit of a line, and are few.
use Rattle.std.proofs.Common.{◌≡◌, ◌∙◌, ℕ, ◌+◌, ◌≤◌, suc, refl, sym, ap, subst, Bool, true, false, List, [], ◌∷◌, length, Ok, arith}
use Rattle.std.specs.Prelude.{map, ◌==◌, if◌then◌else◌, slice_get, Option}
use Rattle.std.specs.List.{All, list_all, slice_split}
use Rattle.std.specs.Str.Lines.{lines, lines_of_parts}
use Rattle.std.proofs.lemmas.List.{length-map}
use Rattle.std.proofs.lemmas.List.Elements.{All-nil, All-cons}
use Rattle.std.proofs.lemmas.List.Splits.{length-slice_split}
use Rattle.std.proofs.lemmas.List.Sums.{count_by-le-length}
use Rattle.sp_text.specs.Lines.{numbered, lines_of as text_lines}
use Rattle.sp_text.specs.Tokens.{tokens}
use Rattle.ir_ast.specs.declared.modules.Form.{Form as TextForm}
use Rattle.ir_ast.specs.declared.modules.Form.TheVariants.{Source, Rewritten}
use Rattle.ir_reader.specs.declared.raw.NumberedReading.{NumberedReading}
use Rattle.ir_reader.specs.declared.states.Place.{Place}
use Rattle.ir_reader.specs.declared.states.Place.TheVariants as places
use Rattle.ir_reader.specs.declared.states.State.{State}
use Rattle.ir_reader.specs.Limits.{item_fits, said_fits}
use Rattle.ir_reader.specs.Places.{behind}
use Rattle.ir_reader.specs.Raws.{Readings, IsRead, seen_numbered}
use Rattle.ir_reader.specs.Text.{Numbered, is_top, opening, readings_in}
use Rattle.line_forms.specs.declared.forms.Form.{Form}
use Rattle.line_forms.specs.declared.forms.Form.TheVariants as forms
use Rattle.line_forms.specs.Forms.{slots, is_dropped_form}
use Rattle.line_forms.specs.Slots.{Item}
use Rattle.line_forms.specs.Seen.{Said, label, line}
use Rattle.line_forms.proofs.FamilyLines.{fit_parts}
use Rattle.ir_lines.specs.Statements.{Line, of_form, stated, line_of, lines_of}
use Rattle.ir_lines.specs.Views.{seen_line, seen_lines}
use Rattle.ir_lines.specs.TextLines.{place_behind, Stand, statement_fits, stands_in, IsTextLines}
use Rattle.module_laws.proofs.Formed.{Parts, items_of, parse_told}
use Rattle.module_laws.proofs.Runs.{said_behind, IsKept, IsOwn, IsSpelled, Runs, readings-run, readings-few}
use Rattle.module_laws.proofs.ReadCounts.{runs-counted, relocates_few}
use Rattle.list_laws.proofs.Booleans.{and_true}

-- ---- line by line

form-place : (place : Place) (form : Form) (at : ℕ → Option Item) → is_dropped_form form ≡ false → place_behind place (of_form form at) ≡ behind place form
form-place place (forms.Dropped which) at kept = absurd (let bad : true ≡ false = kept in cc)
form-place places.Top form at kept = refl
form-place places.Entry form at kept = refl
form-place places.Block form at kept = refl
form-place places.Closed form at kept = refl
form-place places.Cases form at kept = refl

same-place : (place : Place) (what : Said) → IsKept what → place_behind place (stated what) ≡ said_behind place what
same-place places.Top (label name) kept = refl
same-place places.Entry (label name) kept = refl
same-place places.Block (label name) kept = refl
same-place places.Closed (label name) kept = refl
same-place places.Cases (label name) kept = refl
same-place place (line l) kept = form-place place l.form (slice_get l.items) kept

form-limits : (form : Form) → is_dropped_form form ≡ false → (a : Parts (slots form)) → list_all item_fits (items_of (slots form) a) ≡ statement_fits (of_form form (slice_get (items_of (slots form) a)))
form-limits (forms.Dropped which) kept a = absurd (let bad : true ≡ false = kept in cc)
form-limits forms.Layout kept a = simp and_true
form-limits forms.Define kept a = simp and_true
form-limits forms.ValueCall kept a = simp and_true
form-limits forms.VoidCall kept a = simp and_true
form-limits forms.Statepoint kept a = simp and_true
form-limits form kept a = refl

same-limits : (what : Said) → IsKept what → IsSpelled what → said_fits what ≡ statement_fits (stated what)
same-limits (label name) kept spelled = refl
same-limits (line l) kept spelled =
    let parts = parse_told (slots l.form) (tokens spelled.0) l.items [] (fit_parts l.form (tokens spelled.0) l.items [] spelled.1).0 in
    subst (λ (whole : List Item). list_all item_fits whole ≡ statement_fits (of_form l.form (slice_get whole))) parts.1 (form-limits l.form kept parts.0)

form-own : (form : Form) (items : List Item) (at : ℕ → Option Item) → Rattle.line_forms.specs.Forms.stands_in Source form items ≡ true → stands_in Source (of_form form at) ≡ true
form-own forms.Statepoint items at own = own
form-own forms.GcResult items at own = own
form-own forms.GcRelocate items at own = own
form-own form items at own = refl

same-own : (form : TextForm) (what : Said) → IsOwn form what → stands_in form (stated what) ≡ true
same-own Rewritten what own = refl
same-own Source (label name) own = refl
same-own Source (line l) own = form-own l.form l.items (slice_get l.items) own

top-is : (place : Place) → is_top place ≡ true → place ≡ places.Top
top-is places.Top e = refl
top-is place e = absurd (let bad : false ≡ true = e in cc)

stand-of : (xs : List Numbered) (s : State) → Runs s xs → Stand s.place (lines_of xs)
stand-of [] s top = top-is s.place top
stand-of (x ∷ xs) s run =
    record { next = run.next.place; is = same-place s.place x.said run.step.kept ∙ run.step.place; more = stand-of xs run.next run.more }

abbrev Fits : Line → Type 0
Fits l = statement_fits l.says ≡ true

fit-of : (xs : List Numbered) (s : State) → Runs s xs → All Fits (lines_of xs)
fit-of [] s top = All-nil Fits
fit-of (x ∷ xs) s run =
    All-cons Fits (line_of x) (lines_of xs) (sym (same-limits x.said run.step.kept run.step.spelled) ∙ run.step.fits) (fit-of xs run.next run.more)

abbrev Own : TextForm → Line → Type 0
Own form l = stands_in form l.says ≡ true

own-of : (xs : List Numbered) (s : State) → Runs s xs → All (Own s.form) (lines_of xs)
own-of [] s top = All-nil (Own s.form)
own-of (x ∷ xs) s run =
    All-cons (Own s.form) (line_of x) (lines_of xs) (same-own s.form x.said run.step.own)
    (subst (λ (form : TextForm). All (Own form) (lines_of xs)) run.step.form (own-of xs run.next run.more))

-- ---- few lines

length-numbered : (n : ℕ) (ls : List (List ℕ)) → length (numbered n ls) ≡ length ls
length-numbered n [] = refl
length-numbered n (l ∷ ls) = ap suc (length-numbered (n + 1) ls)

last-part : (x : List ℕ) (b : Bool) → length (if b then [] else x ∷ []) ≤ 1
last-part x true = omega arith
last-part x false = omega arith

parts-few : (parts : List (List ℕ)) → length (lines_of_parts parts) ≤ length parts
parts-few [] = omega arith
parts-few (x ∷ []) = last-part x (length x == 0)
parts-few (x ∷ y ∷ more) = let h = parts-few (y ∷ more) in omega (arith, h)

lines-few : (text : List ℕ) → length (text_lines text) ≤ length text + 1
unfolding text_lines
lines-few text =
    let a = length-numbered 1 (lines text) in
    let b = parts-few (slice_split (λ (c : ℕ). c == 10) text) in
    let d = length-slice_split (λ (c : ℕ). c == 10) text in
    let e = count_by-le-length (λ (c : ℕ). c == 10) text in
    omega (arith, a, b, d, e)

-- ---- the text

pub text-runs : (form : TextForm) (text : List ℕ) (xs : List Numbered) → readings_in form text ≡ Ok xs → Runs (opening form) xs
unfolding readings_in
text-runs form text xs e = readings-run (text_lines text) (opening form) 1 xs e

text-few : (form : TextForm) (text : List ℕ) (xs : List Numbered) → length text ≤ 16777216 → readings_in form text ≡ Ok xs → length (lines_of xs) ≤ 16777217
unfolding readings_in
text-few form text xs small e =
    let a = readings-few (text_lines text) (opening form) 1 xs e in
    let b = lines-few text in
    let c = length-map xs line_of in
    omega (arith, a, b, c, small)

pub text-lines : (form : TextForm) (text : List ℕ) (xs : List Numbered) → length text ≤ 16777216 → readings_in form text ≡ Ok xs → IsTextLines form (lines_of xs)
text-lines form text xs small e =
    let run = text-runs form text xs e in
    record {
      placed = stand-of xs (opening form) run;
      fit = fit-of xs (opening form) run;
      own = own-of xs (opening form) run;
      few_relocates = relocates_few form (lines_of xs) (opening form).counts (runs-counted xs (opening form) refl run);
      few = text-few form text xs small e;
    }

-- the lines of what a reader gave are those of the text
pub seen-again : (rs : List NumberedReading) → lines_of (map seen_numbered rs) ≡ seen_lines rs
seen-again [] = refl
seen-again (r ∷ rs) = ap (λ (ls : List Line). seen_line r ∷ ls) (seen-again rs)

pub read-lines : (r : Readings) → IsRead r → IsTextLines r.form (seen_lines r.lines)
read-lines r read =
    subst (λ (ls : List Line). IsTextLines r.form ls) (seen-again r.lines) (text-lines r.form r.text (map seen_numbered r.lines) read.small read.lines)
