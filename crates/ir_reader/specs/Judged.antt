-- Why a text is read or refused, by all of its lines up to the one that decides.
use Rattle.std.specs.Prelude.{◌≡◌, ◌⊎◌, ℕ, ◌+◌, Bool, true, false, ◌&&◌, not, List, [], ◌∷◌, ◌++◌, map, filter, Option, Some, None, Result, Ok, Err, if◌then◌else◌}
use Rattle.sp_text.specs.Tokens.{Tok, tokens}
use Rattle.sp_text.specs.Lines.{NumberedLine}
use Rattle.sp_text.specs.Labels.{label_of, is_metadata}
use Rattle.ir_ast.specs.declared.modules.Form.{Form as TextForm}
use Rattle.line_forms.specs.declared.forms.Form.{Form}
use Rattle.ir_reader.specs.declared.states.Place.{Place}
use Rattle.ir_reader.specs.declared.states.Place.TheVariants as places
use Rattle.line_parts.specs.Gives.{is_nil}
use Rattle.line_forms.specs.Forms.{form_in, is_dropped_form}
use Rattle.line_forms.specs.Seen.{Said, label, line_at, ended}
use Rattle.ir_reader.specs.Places.{behind, behind_label}
use Rattle.ir_reader.specs.Quantities.{has_form, within_limits}
use Rattle.ir_reader.specs.Text.{is_top, Fault, syntax_fault, limit_fault, Numbered}

-- ---- one line in its place, whatever the limits

pub data Placed : Type 0 where
  unread : Placed
  -- an empty line
  empty : Placed
  -- what it says, whether a width or number in it passed its limit, and the place behind it
  says : Said → Bool → Place → Placed

abbrev pub placed_said : Place → Option (Said × Bool) → Placed
placed_said next None = unread
placed_said next (Some (what, passed)) = says what passed next

abbrev pub placed_formed : Form → List Tok → Option Place → Placed
placed_formed form ts None = unread
placed_formed form ts (Some next) = placed_said next (ended (line_at form ts))

abbrev pub placed_by_form : Place → List Tok → Option Form → Placed
placed_by_form place ts None = unread
placed_by_form place ts (Some form) = placed_formed form ts (behind place form)

abbrev pub placed_tokens : TextForm → Place → List Tok → Placed
placed_tokens text place ts = if is_nil ts then empty else placed_by_form place ts (form_in text ts)

abbrev pub placed_label : List ℕ → Option Place → Placed
placed_label name None = unread
placed_label name (Some next) = says (label name) false next

abbrev pub placed_labelled : TextForm → Place → List ℕ → Option (List ℕ) → Placed
placed_labelled text place bytes None = placed_tokens text place (tokens bytes)
placed_labelled text place bytes (Some name) = placed_label name (behind_label place)

unfoldable pub placed : TextForm → Place → List ℕ → Placed
placed text place bytes = if is_top place && is_metadata bytes then empty else placed_labelled text place bytes (label_of bytes)

-- ---- lines in a row

-- a line's number and what it says, before what the lines behind it say
abbrev pub before : Numbered → Option (List Numbered × Place) → Option (List Numbered × Place)
before x None = None
before x (Some read) = Some (x ∷ read.0, read.1)

abbrev pub said_behind : NumberedLine → Placed → Place → (Place → Option (List Numbered × Place)) → Option (List Numbered × Place)
said_behind l unread place more = None
said_behind l empty place more = more place
said_behind l (says what true next) place more = None
said_behind l (says what false next) place more = before (record { line = l.number; said = what }) (more next)

-- what the lines say, each in its place, and the place behind the last one; none where one has no reading in its place or a width
-- or number that passed its limit
unfoldable pub said_in : TextForm → Place → List NumberedLine → Option (List Numbered × Place)
said_in text place [] = Some ([], place)
said_in text place (l ∷ ls) = said_behind l (placed text place l.bytes) place (λ next. said_in text next ls)

abbrev pub said_of : Numbered → Said
said_of x = x.said

-- From the top of a text on the lines say this, and up to each of them all is within the limits.
pub record ReadTo (text : TextForm) (lines : List NumberedLine) (found : List Numbered) (place : Place) : Type 0 where
  pub read : said_in text places.Top lines ≡ Some (found, place)
  pub within : (front back : List Numbered) → found ≡ front ++ back → within_limits text (map said_of front) ≡ true

-- ---- what a text comes to

-- the first line up to which something passes its limit
pub record OverLimit (text : TextForm) (lines : List NumberedLine) (number : ℕ) : Type 0 where
  pub front : List NumberedLine
  pub last : NumberedLine
  pub back : List NumberedLine
  pub lines_are : lines ≡ front ++ last ∷ back
  pub number_is : last.number ≡ number
  pub found : List Numbered
  pub place : Place
  pub before_it : ReadTo text front found place
  pub what : Said
  pub passed : Bool
  pub next : Place
  pub read : placed text place last.bytes ≡ says what passed next
  pub passes : (not passed && within_limits text (map said_of found ++ what ∷ [])) ≡ false

-- the first line without a reading in its place
pub record Unread (text : TextForm) (lines : List NumberedLine) (number : ℕ) : Type 0 where
  pub front : List NumberedLine
  pub last : NumberedLine
  pub back : List NumberedLine
  pub lines_are : lines ≡ front ++ last ∷ back
  pub number_is : last.number ≡ number
  pub found : List Numbered
  pub place : Place
  pub before_it : ReadTo text front found place
  pub none : placed text place last.bytes ≡ unread

-- the number of the line behind the last one
unfoldable pub number_behind : ℕ → List NumberedLine → ℕ
number_behind number [] = number
number_behind number (l ∷ ls) = number_behind (l.number + 1) ls

-- a text that ends inside a function
pub record Unclosed (text : TextForm) (lines : List NumberedLine) (number : ℕ) : Type 0 where
  pub found : List Numbered
  pub place : Place
  pub whole : ReadTo text lines found place
  pub inside : is_top place ≡ false
  pub number_is : number_behind 1 lines ≡ number

-- not dropped
abbrev pub is_kept : Numbered → Bool
is_kept x = not (has_form is_dropped_form x.said)

-- a text all of whose lines have a reading and are within the limits
pub record Whole (text : TextForm) (lines : List NumberedLine) (readings : List Numbered) : Type 0 where
  pub found : List Numbered
  pub place : Place
  pub whole : ReadTo text lines found place
  pub outside : is_top place ≡ true
  pub readings_are : readings ≡ filter is_kept found

abbrev pub Judged : TextForm → List NumberedLine → Result (List Numbered) Fault → Type 0
Judged text lines (Ok readings) = Whole text lines readings
Judged text lines (Err (limit_fault number)) = OverLimit text lines number
Judged text lines (Err (syntax_fault number)) = Unread text lines number ⊎ Unclosed text lines number
