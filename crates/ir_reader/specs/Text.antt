-- The readings of a text: of all lines that are neither empty nor dropped, or the first fault.
use Rattle.std.specs.Prelude.{ℕ, ◌+◌, Bool, true, false, ◌&&◌, List, [], ◌∷◌, Option, Some, None, Result, Ok, Err, if◌then◌else◌}
use Rattle.sp_text.specs.Tokens.{Tok, tokens}
use Rattle.sp_text.specs.Lines.{NumberedLine, lines_of}
use Rattle.sp_text.specs.Labels.{label_of, is_metadata}
use Rattle.ir_ast.specs.declared.modules.Form.{Form as TextForm}
use Rattle.ir_ast.specs.declared.modules.Form.TheVariants as text_forms
use Rattle.ir_reader.specs.declared.states.Counted.TheVariants as kinds
use Rattle.line_forms.specs.declared.forms.Form.{Form}
use Rattle.ir_reader.specs.declared.states.Place.{Place}
use Rattle.ir_reader.specs.declared.states.Place.TheVariants as places
use Rattle.ir_reader.specs.declared.states.State.{State}
use Rattle.line_parts.specs.Gives.{is_nil}
use Rattle.line_forms.specs.Forms.{form_in, is_dropped_form}
use Rattle.ir_reader.specs.Places.{behind, behind_label}
use Rattle.line_forms.specs.Seen.{Said, label, line_at, ended}
use Rattle.ir_reader.specs.Limits.{line_fits, said_counts_as, counted, counted_in, counts_fit}

-- what a line comes to
pub data Outcome : Type 0 where
  no_reading : Outcome
  over_limit : Outcome
  -- an empty or dropped line
  nothing : Outcome
  -- what it says, and what is known behind it
  said : Said → State → Outcome

abbrev pub is_top : Place → Bool
is_top places.Top = true
is_top _ = false

-- what is known behind a line
abbrev pub next_state : State → Place → Said → State
next_state s place what = record { form = s.form; place = place; counts = counted (counted_in s.form (said_counts_as what)) s.counts }

-- a reading, if it passes no limit
abbrev pub within : State → Place → Said → Bool → Outcome
within s place what passed = if line_fits what passed && counts_fit (next_state s place what).counts then said what (next_state s place what) else over_limit

-- a line that is dropped, if it passes no limit
abbrev pub dropped_within : Said → Bool → Outcome
dropped_within what passed = if line_fits what passed then nothing else over_limit

abbrev pub said_by : State → Form → Place → Option (Said × Bool) → Outcome
said_by s form place None = no_reading
said_by s form place (Some (what, passed)) = if is_dropped_form form then dropped_within what passed else within s place what passed

-- a line of this form
abbrev pub formed : State → Form → List Tok → Option Place → Outcome
formed s form ts None = no_reading
formed s form ts (Some place) = said_by s form place (ended (line_at form ts))

abbrev pub by_form : State → List Tok → Option Form → Outcome
by_form s ts None = no_reading
by_form s ts (Some form) = formed s form ts (behind s.place form)

-- a line of tokens
unfoldable pub tokens_outcome : State → List Tok → Outcome
tokens_outcome s ts = if is_nil ts then nothing else by_form s ts (form_in s.form ts)

abbrev pub label_outcome : State → List ℕ → Option Place → Outcome
label_outcome s name None = no_reading
label_outcome s name (Some place) = said (label name) (record { form = s.form; place = place; counts = counted kinds.Nothing s.counts })

abbrev pub labelled : State → List ℕ → Option (List ℕ) → Outcome
labelled s bytes None = tokens_outcome s (tokens bytes)
labelled s bytes (Some name) = label_outcome s name (behind_label s.place)

-- a line: metadata outside functions, a label, or tokens
unfoldable pub outcome : State → List ℕ → Outcome
outcome s bytes = if is_top s.place && is_metadata bytes then nothing else labelled s bytes (label_of bytes)

-- ---- the text

pub data Fault : Type 0 where
  syntax_fault : ℕ → Fault
  limit_fault : ℕ → Fault

-- what a line says, with the line's number
pub record Numbered : Type 0 where
  pub line : ℕ
  pub said : Said

abbrev pub with_first : Numbered → Result (List Numbered) Fault → Result (List Numbered) Fault
with_first x (Ok xs) = Ok (x ∷ xs)
with_first x (Err fault) = Err fault

-- the readings of the lines that are left, by what the first of them comes to
abbrev pub readings_by : Outcome → ℕ → (State → Result (List Numbered) Fault) → State → Result (List Numbered) Fault
readings_by no_reading number more s = Err (syntax_fault number)
readings_by over_limit number more s = Err (limit_fault number)
readings_by nothing number more s = more s
readings_by (said what next) number more s = with_first (record { line = number; said = what }) (more next)

-- the readings of the lines that are left; `number` is that of the line after the last one
unfoldable pub readings : State → ℕ → List NumberedLine → Result (List Numbered) Fault
readings s number [] = if is_top s.place then Ok [] else Err (syntax_fault number)
readings s number (l ∷ ls) = readings_by (outcome s l.bytes) l.number (λ next. readings next (l.number + 1) ls) s

-- nothing was read yet of a text in this form
abbrev pub opening : TextForm → State
opening form = record { form = form; place = places.Top; counts = record { layouts = 0; functions = 0; values = 0; instructions = 0; relocates = 0 } }

unfoldable pub readings_in : TextForm → List ℕ → Result (List Numbered) Fault
readings_in form text = readings (opening form) 1 (lines_of text)

-- of a text in the source form
abbrev pub text_readings : List ℕ → Result (List Numbered) Fault
text_readings text = readings_in text_forms.Source text
