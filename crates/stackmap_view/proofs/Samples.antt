-- A map without functions, whose list of constants has two numbers: what a record of it would be told of them, the greatest too.
use Rattle.std.proofs.Common.{◌≡◌, ℕ, List, [], ◌∷◌, ◌++◌, Some, None, refl}
use Rattle.std.specs.Prelude.{slice_get}
use Rattle.map_bytes.specs.Reads.{constants_read, functions_read, map_read, records_read}

abbrev header : List ℕ
header = 3 ∷ 0 ∷ 0 ∷ 0 ∷ 0 ∷ 0 ∷ 0 ∷ 0 ∷ 2 ∷ 0 ∷ 0 ∷ 0 ∷ 0 ∷ 0 ∷ 0 ∷ 0 ∷ []

abbrev listed : List ℕ
listed = 0 ∷ 242 ∷ 5 ∷ 42 ∷ 1 ∷ 0 ∷ 0 ∷ 0 ∷ 255 ∷ 255 ∷ 255 ∷ 255 ∷ 255 ∷ 255 ∷ 255 ∷ 255 ∷ []

pub first_listed : slice_get (map_read (header ++ listed)).constants 0 ≡ Some 5000000000
unfolding map_read constants_read functions_read records_read
first_listed = refl

pub greatest_listed : slice_get (map_read (header ++ listed)).constants 1 ≡ Some 18446744073709551615
unfolding map_read constants_read functions_read records_read
greatest_listed = refl

pub none_listed : slice_get (map_read (header ++ listed)).constants 2 ≡ None
unfolding map_read constants_read functions_read records_read
none_listed = refl
