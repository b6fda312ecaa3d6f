-- A list that is told, or not, and grows at its end.
use Rattle.std.specs.Prelude.{List, [], ◌∷◌, ◌++◌, Option, Some, None}

-- the list with this behind it, where it is told
abbrev pub append_told : {A : Type 0} → Option (List A) → List A → Option (List A)
append_told None more = None
append_told (Some held) more = Some (held ++ more)

-- and with one entry more
abbrev pub add_told : {A : Type 0} → Option (List A) → A → Option (List A)
add_told told entry = append_told told (entry ∷ [])
