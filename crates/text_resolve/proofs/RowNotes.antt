-- One more line of a function: the lines of its cases, and those of another width.
use Rattle.std.proofs.Common.{◌≡◌, ◌≢◌, ◌∙◌, ℕ, ◌+◌, ◌<◌, ◌≤◌, Bool, false, List, [], ◌∷◌, ◌++◌, length, get_or, drop, ap, refl, sym, subst, append_assoc}
use Rattle.std.specs.Prelude.{Option, map, IsTrue, OnOk, Result, Ok, Err, ◌↔◌, if◌then◌else◌}
use Rattle.std.proofs.lemmas.List.{append-nil, drop_all}
use Rattle.sp_text.specs.declared.names.Name.{Name}
use Rattle.line_tokens.specs.declared.widths.Width.{Width}
use Rattle.line_forms.specs.declared.readings.Reading.{Reading}
use Rattle.line_forms.specs.declared.readings.Reading.TheVariants.{Case, Switch}
use Rattle.line_parts.specs.declared.readings.Value.{Value}
use Rattle.ir_reader.specs.declared.raw.NumberedReading.{NumberedReading}
use Rattle.list_laws.proofs.Places.{drop_item}
use Rattle.ir_lines.specs.declared.faults.Fault.{Fault}
use Rattle.ir_lines.specs.Notes.{Notes, Is}
use Rattle.ir_lines.specs.Statements.{Line}
use Rattle.ir_lines.specs.Sections.{is_case, cases_of}
use Rattle.ir_lines.specs.Views.{said, seen_line, seen_lines}
use Rattle.ir_lines.proofs.NoteLemmas.{notes-same}
use Rattle.ir_lines.specs.ReadLines.{is_instruction}
use Rattle.text_resolve.specs.Lost.{IsOtherWidth, OtherWidthAt, WidthsBehind}
use Rattle.text_resolve.specs.Rows.{row_said, rows_of}

-- ---- the lines of cases

abbrev pub numbers_of : List Line → List ℕ
numbers_of lines = map (λ (l : Line). l.number) lines

pub case-more : (line : NumberedReading) (rest : List Line) (width : Width) (value : Value) (label : Name) → line.reading ≡ Case width value label
    → numbers_of (cases_of (seen_line line ∷ rest)) ≡ line.line ∷ numbers_of (cases_of rest)
case-more line rest width value label e =
    ap (λ (r : Reading). numbers_of (cases_of (record { number = line.line; says = said r } ∷ rest))) e

-- a line that is no case ends them
pub case-stop : (xs : List NumberedReading) (i : ℕ) (x : NumberedReading) (items whole : List ℕ) → i < length xs → x ≡ get_or xs i x
    → is_case (said x.reading) ≡ false → items ++ numbers_of (cases_of (seen_lines (drop i xs))) ≡ whole → items ≡ whole
case-stop xs i x items whole below is stop e =
    let none : numbers_of (cases_of (seen_lines (drop i xs))) ≡ [] =
    ap (λ (ys : List NumberedReading). numbers_of (cases_of (seen_lines ys))) (drop_item xs i x below is)
    ∙ ap (λ (b : Bool). numbers_of (if b then seen_line x ∷ cases_of (seen_lines (drop (i + 1) xs)) else [])) stop in
    sym (append-nil items) ∙ ap (λ (ns : List ℕ). items ++ ns) (sym none) ∙ e

pub case-end : (xs : List NumberedReading) (i : ℕ) (items whole : List ℕ) → length xs ≤ i
    → items ++ numbers_of (cases_of (seen_lines (drop i xs))) ≡ whole → items ≡ whole
case-end xs i items whole end e =
    sym (append-nil items) ∙ ap (λ (ys : List NumberedReading). items ++ numbers_of (cases_of (seen_lines ys))) (sym (drop_all i xs end)) ∙ e

-- ---- widths

said-case : (width : ℕ) (r : Reading) (other : Width) (value : Value) (label : Name) → r ≡ Case other value label
    → IsOtherWidth width (said r) ≡ (other.bits ≢ width)
said-case width r other value label e = ap (λ (s : Reading). IsOtherWidth width (said s)) e

pub notes-width : (width : ℕ) (other : Width) (value : Value) (label : Name) (test : Bool) (earlier : List Line) (here : NumberedReading) (later : List Line)
    (old new : Option Fault) → here.reading ≡ Case other value label → (IsTrue test ↔ (other.bits ≢ width))
    → Notes old new (λ l code. IsTrue test × Is here.line 5 l code) → Notes old new (OtherWidthAt width earlier (seen_line here) later)
notes-width width other value label test earlier here later old new e is n =
    let same = said-case width here.reading other value label e in
    notes-same old new (λ l code. IsTrue test × Is here.line 5 l code) (OtherWidthAt width earlier (seen_line here) later)
    (λ l code f. (f.1.1, f.1.0, subst (λ (T : Type 0). T) (sym same) (is.0 f.0)))
    (λ l code f. (is.1 (subst (λ (T : Type 0). T) same f.2), (f.1, f.0))) n

-- ---- rows

pub rows-more : (xs : List NumberedReading) (i : ℕ) (x : NumberedReading) (old new whole : List (List ℕ)) → i < length xs → x ≡ get_or xs i x
    → new ≡ old ++ row_said (seen_lines (drop (i + 1) xs)) (said x.reading) → old ++ rows_of (seen_lines (drop i xs)) ≡ whole
    → new ++ rows_of (seen_lines (drop (i + 1) xs)) ≡ whole
rows-more xs i x old new whole below is added so_far =
    let rest = rows_of (seen_lines (drop (i + 1) xs)) in
    ap (λ (ys : List (List ℕ)). ys ++ rest) added
    ∙ append_assoc old (row_said (seen_lines (drop (i + 1) xs)) (said x.reading)) rest
    ∙ ap (λ (ys : List (List ℕ)). old ++ ys) (sym (ap (λ (zs : List NumberedReading). rows_of (seen_lines zs)) (drop_item xs i x below is)))
    ∙ so_far

pub rows-end : (xs : List NumberedReading) (i : ℕ) (items whole : List (List ℕ)) → length xs ≤ i
    → items ++ rows_of (seen_lines (drop i xs)) ≡ whole → items ≡ whole
rows-end xs i items whole end e =
    sym (append-nil items) ∙ ap (λ (ys : List NumberedReading). items ++ rows_of (seen_lines ys)) (sym (drop_all i xs end)) ∙ e

-- ---- a line that is no `switch`

pub other-row : (behind : List Line) (r : Reading) → ((width : Width) (value : Value) (default : Name) → r ≡ Switch width value default → ⊥)
    → (if is_instruction (said r) then [] ∷ [] else []) ≡ row_said behind (said r)
other-row behind (Switch width value default) none = absurd (none width value default refl)
other-row behind _ none = refl

pub other-widths : (behind : List Line) (r : Reading) → ((width : Width) (value : Value) (default : Name) → r ≡ Switch width value default → ⊥)
    → (line code : ℕ) → WidthsBehind (said r) behind line code → ⊥
other-widths behind (Switch width value default) none line code f = none width value default refl
other-widths behind _ none line code f = f

pub always : {A E : Type 0} (r : Result A E) (P : Type 0) → P → OnOk r P
always (Ok a) P h = h
always (Err e) P h = tt
