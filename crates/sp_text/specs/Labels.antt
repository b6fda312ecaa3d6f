-- Lines that are recognised by their bytes, before their tokens are read.
use Rattle.std.specs.Prelude.{ℕ, Bool, false, ◌==◌, ◌&&◌, List, [], ◌∷◌, Option, None, Some, if◌then◌else◌}
use Rattle.std.specs.List.{list_any, before_first, after_first}
use Rattle.sp_text.specs.Bytes.{bang, colon, after_blanks}
use Rattle.sp_text.specs.Tokens.{is_name, says_nothing}

abbrev pub is_colon : ℕ → Bool
is_colon b = b == colon

-- a name, a `:` directly after it, and nothing more but blanks and at most a comment
abbrev pub is_label : List ℕ → Bool
is_label bs = list_any is_colon bs && is_name (before_first is_colon bs) && says_nothing (after_first is_colon bs)

-- the name that such a line gives
abbrev pub label_in : List ℕ → Option (List ℕ)
label_in bs = if is_label bs then Some (before_first is_colon bs) else None

-- the name that a label line gives, with blanks before it or not
abbrev pub label_of : List ℕ → Option (List ℕ)
label_of line = label_in (after_blanks line)

-- the first byte is this one
abbrev pub begins_with : ℕ → List ℕ → Bool
begins_with first [] = false
begins_with first (b ∷ bs) = b == first

-- a metadata line: its first byte after blanks is `!`
abbrev pub is_metadata : List ℕ → Bool
is_metadata line = begins_with bang (after_blanks line)
