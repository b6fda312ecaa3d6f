-- The readings of a text as a value, and what a call that reads a text returns.
use Rattle.std.specs.Prelude.{◌≡◌, ℕ, ◌≤◌, List, length, map, Ok}
use Rattle.ir_reader.specs.declared.raw.NumberedReading.{NumberedReading}
use Rattle.ir_ast.specs.declared.modules.Form.{Form}
use Rattle.line_forms.specs.Seen.{seen}
use Rattle.ir_reader.specs.Text.{Numbered, readings_in}

-- a text, its form and the readings of its lines
pub record Readings : Type 0 where
  pub text : List ℕ
  pub form : Form
  pub lines : List NumberedReading

abbrev pub seen_numbered : NumberedReading → Numbered
seen_numbered n = record { line = n.line; said = seen n.reading }

-- the text is within the file limit, and these are the readings of its lines in its form
pub record IsRead (r : Readings) : Type 0 where
  pub small : length r.text ≤ 16777216
  pub lines : readings_in r.form r.text ≡ Ok (map seen_numbered r.lines)
