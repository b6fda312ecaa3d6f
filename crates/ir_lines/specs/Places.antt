-- Names by their places in a list, where a name stands for its first place.
use Rattle.std.specs.Prelude.{ℕ, ◌-◌, ◌^◌, min, List, position, Option, Some, None}
use Rattle.std.specs.Str.{bytes_eq}

-- the place of the first of the name
abbrev pub place_in : List (List ℕ) → List ℕ → Option ℕ
place_in names name = position (λ other. bytes_eq name other) names

-- a place as a number of 32 bits; the greatest such number is that of no place
abbrev pub number_of : Option ℕ → ℕ
number_of None = 2 ^ 32 - 1
number_of (Some place) = min place (2 ^ 32 - 1)

abbrev pub number_in : List (List ℕ) → List ℕ → ℕ
number_in names name = number_of (place_in names name)
