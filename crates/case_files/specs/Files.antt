-- Files of cases: their parts, and the texts that lines stand for.
use Rattle.std.specs.Prelude.{ℕ, ◌==◌, List, [], ◌∷◌, ◌++◌, length, Option, Some, None, is_none, if◌then◌else◌, take_while}
use Rattle.std.specs.List.{flat_map}
use Rattle.std.specs.Option.{option_map, option_to_list}
use Rattle.sp_text.specs.Lines.{NumberedLine}
use Rattle.case_files.specs.declared.lines.CaseLine.{CaseLine}

abbrev pub shown_line : CaseLine → NumberedLine
shown_line line = record { number = line.number; bytes = line.text.now }

-- A line that begins with `=` opens a part. Its head is the rest of the line.
abbrev pub head_of : List ℕ → Option (List ℕ)
head_of [] = None
head_of (byte ∷ bytes) = if byte == 61 then Some bytes else None

-- the lines up to the first that opens a part
abbrev pub body_of : List NumberedLine → List NumberedLine
body_of lines = take_while (λ line. is_none (head_of line.bytes)) lines

-- a part: the number of the line that opens it, its head, and the lines up to the next one that opens a part
pub record FilePart : Type 0 where
  pub line : ℕ
  pub head : List ℕ
  pub body : List NumberedLine

-- the part that a line opens, if it opens one, before these lines
abbrev pub part_at : NumberedLine → List NumberedLine → Option FilePart
part_at line behind = option_map (λ head. record { line = line.number; head = head; body = body_of behind }) (head_of line.bytes)

-- The parts of a file with these lines. What stands before the first is for readers.
abbrev pub parts_of : List NumberedLine → List FilePart
parts_of [] = []
parts_of (line ∷ lines) = option_to_list (part_at line lines) ++ parts_of lines

-- a line before others; an empty one goes where nothing is left behind it
abbrev pub unless_empty : NumberedLine → List NumberedLine → List NumberedLine
unless_empty line (next ∷ more) = line ∷ next ∷ more
unless_empty line [] = if length line.bytes == 0 then [] else line ∷ []

-- the lines without the empty ones at their end
abbrev pub without_empty_ends : List NumberedLine → List NumberedLine
without_empty_ends [] = []
without_empty_ends (line ∷ lines) = unless_empty line (without_empty_ends lines)

-- the text that lines stand for: each with a newline
abbrev pub text_of : List NumberedLine → List ℕ
text_of lines = flat_map (λ line. line.bytes ++ 10 ∷ []) lines
