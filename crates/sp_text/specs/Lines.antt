-- The lines of a text.
use Rattle.std.specs.Prelude.{◌≡◌, ℕ, ◌+◌, List, [], ◌∷◌, length, drop, slice_range}
use Rattle.std.specs.Str.Lines.{lines}
use Rattle.sp_text.specs.declared.lines.Line.{Line}

-- a line, without its end, and its number in the text
pub record NumberedLine : Type 0 where
  pub number : ℕ
  pub bytes : List ℕ

-- the lines, numbered from this number on
abbrev pub numbered : ℕ → List (List ℕ) → List NumberedLine
numbered first [] = []
numbered first (line ∷ more) = record { number = first; bytes = line } ∷ numbered (first + 1) more

-- The lines of a text: the parts between newlines, numbered from 1. An empty last part is no line, and a
-- part that a newline ends loses the one carriage return directly before it.
unfoldable pub lines_of : List ℕ → List NumberedLine
lines_of text = numbered 1 (lines text)

-- a place in a text at which a line begins, and that line's number
pub record LineStart : Type 0 where
  pub text : List ℕ
  pub at : ℕ
  pub number : ℕ

-- the lines from there on
unfoldable pub lines_left : LineStart → List NumberedLine
lines_left start = numbered start.number (lines (drop start.at start.text))

abbrev pub seen_line : Line → NumberedLine
seen_line line = record { number = line.number; bytes = line.bytes.now }

-- the bytes stand in the text from `at` on
abbrev pub IsSliceAt : List ℕ → ℕ → List ℕ → Type 0
IsSliceAt text at bytes = slice_range text at (at + length bytes) ≡ bytes
