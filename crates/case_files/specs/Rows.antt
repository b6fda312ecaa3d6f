-- Rows of cells with bars between them.
use Rattle.std.specs.Prelude.{◌≡◌, ℕ, ◌==◌, ◌<◌, Bool, not, List, [], ◌∷◌, length, filter}
use Rattle.std.specs.List.{position_or_len, before_first, after_first}
use Rattle.std.specs.Str.{trim}
use Rattle.sp_text.specs.Lines.{NumberedLine}

-- the rows of a part: its lines that aren't empty
abbrev pub rows_of : List NumberedLine → List NumberedLine
rows_of body = filter (λ line. not (length line.bytes == 0)) body

abbrev pub is_bar : ℕ → Bool
is_bar byte = byte == 124

abbrev pub HasBar : List ℕ → Type 0
HasBar text = position_or_len is_bar text < length text

abbrev pub HasNoBar : List ℕ → Type 0
HasNoBar text = position_or_len is_bar text ≡ length text

-- the text is these cells with a bar between two of them, and blanks around each that don't count
abbrev pub IsRow : List (List ℕ) → List ℕ → Type 0
IsRow [] text = ⊥
IsRow (cell ∷ []) text = HasNoBar text × (cell ≡ trim text)
IsRow (cell ∷ next ∷ more) text = HasBar text × (cell ≡ trim (before_first is_bar text)) × IsRow (next ∷ more) (after_first is_bar text)
