-- Texts of lists.
use Rattle.std.specs.Prelude.{ℕ, List, [], ◌∷◌, ◌++◌}
use Rattle.std.specs.List.{flat_map}

-- each text after the separator
abbrev pub led : List ℕ → List (List ℕ) → List ℕ
led separator texts = flat_map (λ text. separator ++ text) texts

-- the texts with the separator between them
abbrev pub joined : List ℕ → List (List ℕ) → List ℕ
joined separator [] = []
joined separator (first ∷ rest) = first ++ led separator rest
