-- The tokens of a line as they stand in a row.
use Rattle.std.specs.Prelude.{Bool, List, [], ◌∷◌, ◌++◌, if◌then◌else◌}
use Rattle.sp_text.specs.Tokens.{Tok, bad}

-- all of them, or those before a byte that begins none
abbrev pub row_of : List Tok → Bool → List Tok
row_of ts whole = if whole then ts else ts ++ bad ∷ []
