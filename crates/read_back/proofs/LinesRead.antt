-- A text is read line by line: what its lines say, and what is known behind them.
use Rattle.std.proofs.Common.{◌≡◌, refl, ap, sym, ◌∙◌, ℕ, zero, suc, ◌+◌, ◌-◌, Bool, true, false, not, ◌&&◌, cond, List, [], ◌∷◌, ◌++◌, length, map, Some, None, Result, Ok, Err, arith, append_assoc}
use Rattle.std.specs.Prelude.{◌==◌, slice_index, drop}
use Rattle.std.specs.List.{slice_split, onto_first, list_all, list_any, prefix_len}
use Rattle.std.specs.Str.Lines.{lines, strip_carriage_return}
use Rattle.std.proofs.lemmas.Bool.{and_parts, not-true}
use Rattle.sp_text.specs.Tokens.{Tok, tokens, is_name}
use Rattle.sp_text.specs.Bytes.{is_blank}
use Rattle.sp_text.proofs.Spelled.{label-spelled}
use Rattle.line_parts.specs.Gives.{after}
use Rattle.line_forms.specs.Forms.{fit, form_of, form_in, is_dropped_form}
use Rattle.line_forms.specs.Slots.{Item}
use Rattle.ir_reader.specs.Places.{behind, behind_label}
use Rattle.ir_reader.specs.Limits as limits
use Rattle.ir_reader.specs.Limits.{said_fits}
use Rattle.read_back.proofs.Steps.{IsClean, in_line}
use Rattle.sp_text.proofs.TokenLemmas.{tokens-nil}
use Rattle.sp_text.specs.Lines.{numbered}
use Rattle.sp_text.specs.Labels.{label_of, is_metadata, is_colon}
use Rattle.ir_ast.specs.declared.modules.Form.{Form as TextForm}
use Rattle.ir_ast.specs.declared.modules.Form.TheVariants as text_forms
use Rattle.ir_reader.specs.declared.states.Counted.TheVariants as kinds
use Rattle.line_forms.specs.declared.forms.Form.{Form}
use Rattle.ir_reader.specs.declared.states.Place.{Place}
use Rattle.ir_reader.specs.declared.states.State.{State}
use Rattle.line_forms.specs.Seen.{Said, label, of_form, line_at}
use Rattle.ir_reader.specs.Text.{nothing, said, outcome, Fault, Numbered, with_first, readings, is_top, within, labelled, tokens_outcome}
use Rattle.ir_reader.specs.Text as texts
use Rattle.ir_lines.specs.Statements.{Statement, stated}
use Rattle.list_laws.proofs.Places.{map_append}

-- a byte that ends no line
abbrev pub ends_none : ℕ → Bool
ends_none b = not (b == 10) && not (b == 13)

-- the lines of a line that a newline ends, and of what follows

split_here : (line rest : List ℕ) → list_all ends_none line ≡ true → slice_split (λ b. b == 10) (line ++ (10 ∷ rest)) ≡ line ∷ slice_split (λ b. b == 10) rest
split_here [] rest clean = refl
split_here (b ∷ bs) rest clean =
    let parts = and_parts (ends_none b) (list_all ends_none bs) clean in
    let other : (b == 10) ≡ false = not-true (b == 10) (and_parts (not (b == 10)) (not (b == 13)) parts.0).0 in
    rw other (rw (split_here bs rest parts.1) refl)

-- there is always a part
split_some : (bs : List ℕ) → (part : List ℕ) × (parts : List (List ℕ)) × (slice_split (λ b. b == 10) bs ≡ part ∷ parts)
split_some [] = ([], [], refl)
split_some (b ∷ bs) = by (b == 10) (split_some bs)
  where
    by : (t : Bool) → ((part : List ℕ) × (parts : List (List ℕ)) × (slice_split (λ b. b == 10) bs ≡ part ∷ parts))
        → (part : List ℕ) × (parts : List (List ℕ)) × (cond t ([] ∷ slice_split (λ b. b == 10) bs) (onto_first b (slice_split (λ b. b == 10) bs)) ≡ part ∷ parts)
    by true more = ([], slice_split (λ b. b == 10) bs, refl)
    by false more = (b ∷ more.0, more.1, rw more.2 refl)

last_clean : (b : ℕ) (bs : List ℕ) → list_all ends_none (b ∷ bs) ≡ true → (slice_index (b ∷ bs) (length bs) == 13) ≡ false
last_clean b [] clean = not-true (b == 13) (and_parts (not (b == 10)) (not (b == 13)) (and_parts (ends_none b) true clean).0).1
last_clean b (c ∷ cs) clean = last_clean c cs (and_parts (ends_none b) (list_all ends_none (c ∷ cs)) clean).1

no_return : (line : List ℕ) → list_all ends_none line ≡ true → strip_carriage_return line ≡ line
no_return [] clean = refl
no_return (b ∷ bs) clean = let less : suc (length bs) - 1 ≡ length bs = omega arith in rw less (rw (last_clean b bs clean) refl)

pub lines-first : (line rest : List ℕ) → list_all ends_none line ≡ true → lines (line ++ (10 ∷ rest)) ≡ line ∷ lines rest
lines-first line rest clean =
    let more = split_some rest in
    rw (split_here line rest clean) (rw more.2 (rw (no_return line clean) refl))

-- ---- texts

-- readings before others
abbrev pub before : List Numbered → Result (List Numbered) Fault → Result (List Numbered) Fault
before front (Ok more) = Ok (front ++ more)
before front (Err fault) = Err fault

-- From one state to another the text says this, line by line, whatever follows it.
pub record Says (from : State) (text : List ℕ) (to : State) (statements : List Statement) : Type 0 where
  pub read : ℕ → List Numbered
  pub next : ℕ → ℕ
  pub reads : (number : ℕ) (rest : List ℕ) → readings from number (numbered number (lines (text ++ rest))) ≡ before (read number) (readings to (next number) (numbered (next number) (lines rest)))
  pub says : (number : ℕ) → map (λ one. stated one.said) (read number) ≡ statements

before-nil : (found : Result (List Numbered) Fault) → found ≡ before [] found
before-nil (Ok more) = refl
before-nil (Err fault) = refl

before-before : (front more : List Numbered) (found : Result (List Numbered) Fault) → before front (before more found) ≡ before (front ++ more) found
before-before front more (Ok end) = ap Ok (sym (append_assoc front more end))
before-before front more (Err fault) = refl

pub says-nil : (s : State) → Says s [] s []
says-nil s = record { read = λ number. []; next = λ number. number; reads = λ number rest. before-nil (readings s number (numbered number (lines rest))); says = λ number. refl }

pub says-both : {s t u : State} {a b : List ℕ} {x y : List Statement} → Says s a t x → Says t b u y → Says s (a ++ b) u (x ++ y)
says-both {s} {t} {u} {a} {b} {x} {y} first second = record {
  read = λ number. first.read number ++ second.read (first.next number);
  next = λ number. second.next (first.next number);
  reads = λ number rest. rw (append_assoc a b rest) (first.reads number (b ++ rest)
      ∙ (ap (before (first.read number)) (second.reads (first.next number) rest) ∙ before-before (first.read number) (second.read (first.next number)) _));
  says = λ number. map_append (λ one. stated one.said) (first.read number) (second.read (first.next number)) ∙ (rw (first.says number) (rw (second.says (first.next number)) refl));
}

with_first-before : (one : Numbered) (found : Result (List Numbered) Fault) → with_first one found ≡ before (one ∷ []) found
with_first-before one (Ok more) = refl
with_first-before one (Err fault) = refl

-- a line that says something
pub says-line : (s t : State) (line : List ℕ) (what : Said) → list_all ends_none line ≡ true → outcome s line ≡ said what t → Says s (line ++ (10 ∷ [])) t (stated what ∷ [])
unfolding readings
says-line s t line what clean is = record {
  read = λ number. record { line = number; said = what } ∷ [];
  next = λ number. number + 1;
  reads = λ number rest. rw (append_assoc line (10 ∷ []) rest) (rw (lines-first line rest clean) (rw is (with_first-before _ _)));
  says = λ number. refl;
}

-- a line that says nothing
pub says-nothing : (s : State) (line : List ℕ) → list_all ends_none line ≡ true → outcome s line ≡ nothing → Says s (line ++ (10 ∷ [])) s []
unfolding readings
says-nothing s line clean is = record {
  read = λ number. [];
  next = λ number. number + 1;
  reads = λ number rest. rw (append_assoc line (10 ∷ []) rest) (rw (lines-first line rest clean) (rw is (before-nil _)));
  says = λ number. refl;
}

-- ---- lines of a form

pub ends_none-clean : (bs : List ℕ) → IsClean bs → list_all ends_none bs ≡ true
ends_none-clean [] clean = refl
ends_none-clean (b ∷ bs) clean =
    let parts = and_parts (in_line b) (list_all in_line bs) clean in
    let first = and_parts (not (b == 10)) (not (b == 13) && not (b == 58)) parts.0 in
    let second = and_parts (not (b == 13)) (not (b == 58)) first.1 in
    rw (first.0, second.0) (ends_none-clean bs parts.1)

no_colon : (bs : List ℕ) → IsClean bs → list_any is_colon bs ≡ false
no_colon [] clean = refl
no_colon (b ∷ bs) clean =
    let parts = and_parts (in_line b) (list_all in_line bs) clean in
    let first = and_parts (not (b == 10)) (not (b == 13) && not (b == 58)) parts.0 in
    let second = and_parts (not (b == 13)) (not (b == 58)) first.1 in
    let other : (b == 58) ≡ false = not-true (b == 58) second.1 in
    rw other (no_colon bs parts.1)

clean-drop : (count : ℕ) (bs : List ℕ) → IsClean bs → IsClean (drop count bs)
clean-drop zero bs clean = clean
clean-drop (suc count) [] clean = refl
clean-drop (suc count) (b ∷ bs) clean = clean-drop count bs (and_parts (in_line b) (list_all in_line bs) clean).1

label-none : (bs : List ℕ) → IsClean bs → label_of bs ≡ None
label-none bs clean = rw (no_colon (drop (prefix_len is_blank bs) bs) (clean-drop (prefix_len is_blank bs) bs clean)) refl

no_form : (of : TextForm) → form_in of [] ≡ None
unfolding form_in form_of
no_form text_forms.Source = refl
no_form text_forms.Rewritten = refl

-- a reading that passes no limit
within_said : (s : State) (place : Place) (what : Said) → said_fits what ≡ true → limits.counts_fit (texts.next_state s place what).counts ≡ true
    → within s place what false ≡ said what (texts.next_state s place what)
within_said s place what fits counts = rw (fits, counts) refl

tokens_said : (s : State) (ts : List Tok) (form : Form) (place : Place) (items : List Item) → form_in s.form ts ≡ Some form → fit form ts ≡ Some (items, [])
    → behind s.place form ≡ Some place → is_dropped_form form ≡ false → said_fits (of_form form items) ≡ true → limits.counts_fit (texts.next_state s place (of_form form items)).counts ≡ true
    → tokens_outcome s ts ≡ said (of_form form items) (texts.next_state s place (of_form form items))
unfolding tokens_outcome line_at after
tokens_said s [] form place items is fitting stands kept fits counts = let none = no_form s.form in cc
tokens_said s (t ∷ ts) form place items is fitting stands kept fits counts =
    rw is (rw stands (rw fitting (rw kept (within_said s place (of_form form items) fits counts))))

tokens_dropped : (s : State) (ts : List Tok) (form : Form) (place : Place) (items : List Item) → form_in s.form ts ≡ Some form → fit form ts ≡ Some (items, [])
    → behind s.place form ≡ Some place → is_dropped_form form ≡ true → said_fits (of_form form items) ≡ true → tokens_outcome s ts ≡ nothing
unfolding tokens_outcome line_at after
tokens_dropped s [] form place items is fitting stands dropped fits = refl
tokens_dropped s (t ∷ ts) form place items is fitting stands dropped fits = rw is (rw stands (rw fitting (rw dropped (rw fits refl))))

-- a line of a form, where it may stand and passes no limit
pub formed_in : (s : State) (line : List ℕ) (form : Form) (place : Place) (items : List Item) → IsClean line → (is_top s.place && is_metadata line) ≡ false
    → form_in s.form (tokens line) ≡ Some form → fit form (tokens line) ≡ Some (items, [])
    → behind s.place form ≡ Some place → is_dropped_form form ≡ false → said_fits (of_form form items) ≡ true → limits.counts_fit (texts.next_state s place (of_form form items)).counts ≡ true
    → outcome s line ≡ said (of_form form items) (texts.next_state s place (of_form form items))
unfolding outcome
formed_in s line form place items clean other is fitting stands kept fits counts =
    rw other (rw (label-none line clean) (tokens_said s (tokens line) form place items is fitting stands kept fits counts))

-- a line of a form that is dropped, where it may stand
pub dropped_in : (s : State) (line : List ℕ) (form : Form) (place : Place) (items : List Item) → IsClean line → (is_top s.place && is_metadata line) ≡ false
    → form_in s.form (tokens line) ≡ Some form → fit form (tokens line) ≡ Some (items, []) → behind s.place form ≡ Some place → is_dropped_form form ≡ true
    → said_fits (of_form form items) ≡ true → outcome s line ≡ nothing
unfolding outcome
dropped_in s line form place items clean other is fitting stands dropped fits =
    rw other (rw (label-none line clean) (tokens_dropped s (tokens line) form place items is fitting stands dropped fits))

-- a label
pub label_line : (s : State) (name : List ℕ) (place : Place) → is_name name ≡ true → is_top s.place ≡ false → behind_label s.place ≡ Some place
    → outcome s (name ++ (58 ∷ [])) ≡ said (label name) (record { form = s.form; place = place; counts = limits.counted kinds.Nothing s.counts })
unfolding outcome
label_line s name place is inside stands = rw inside (rw (label-spelled name is) (rw stands refl))

-- an empty line
empty_outcome : (s : State) → outcome s [] ≡ nothing
unfolding outcome tokens_outcome
empty_outcome s = by (is_top s.place)
  where
    by : (top : Bool) → cond (top && is_metadata []) nothing (labelled s [] (label_of [])) ≡ nothing
    by true = rw tokens-nil refl
    by false = rw tokens-nil refl

pub says-empty : (s : State) → Says s (10 ∷ []) s []
says-empty s = says-nothing s [] refl (empty_outcome s)
