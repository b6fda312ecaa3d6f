-- The words of a line of a plan or an input.
use Rattle.std.specs.Prelude.{◌≡◌, ℕ, Bool, not, List, [], filter}
use Rattle.std.specs.List.{slice_split}
use Rattle.sp_text.specs.Bytes.{is_blank}
use Rattle.sp_text.specs.Tokens.{is_nothing}

abbrev pub is_word : List ℕ → Bool
is_word part = not (is_nothing part)

-- what stands between blanks; there are no comments
unfoldable pub words : List ℕ → List (List ℕ)
words line = filter is_word (slice_split is_blank line)

-- nothing but blanks
abbrev pub IsBlank : List ℕ → Type 0
IsBlank line = words line ≡ []
