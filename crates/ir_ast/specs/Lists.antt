-- Lists of names, of operands and of marks.
use Rattle.std.specs.Prelude.{◌≡◌, ◌≢◌, ℕ, ◌<◌, Bool, false, List, ◌++◌, length, slice_get, slice_index_or}

-- no element stands twice
abbrev pub Distinct : {A : Type 0} → List A → Type 0
Distinct xs = (j k : ℕ) → j < k → k < length xs → slice_get xs j ≢ slice_get xs k

-- the name begins so
abbrev pub HasFront : List ℕ → List ℕ → Type 0
HasFront front name = (rest : List ℕ) × (name ≡ front ++ rest)

-- the value with this number has a mark
abbrev pub has_mark : List Bool → ℕ → Bool
has_mark marks value = slice_index_or marks value false
