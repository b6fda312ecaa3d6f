-- The three families of functions that statepoint groups are made of (Garbage Collection Safepoints in LLVM,
-- "Intrinsics"): the statepoint, its result, its relocates.
use Rattle.std.specs.Prelude.{ℕ, Bool, false, ◌||◌, List, Option, Some, None, drop, length, nat_eq, codes, if◌then◌else◌}
use Rattle.std.specs.List.{starts_with}
use Rattle.std.specs.Str.{bytes_eq}
use Rattle.line_tokens.specs.Numbers.{is_integer_word}

unfoldable pub statepoint_name : List ℕ
statepoint_name = codes "llvm.experimental.gc.statepoint.p0"

unfoldable pub relocate_name : List ℕ
relocate_name = codes "llvm.experimental.gc.relocate.p1"

-- what the name of a result begins with
unfoldable pub result_front : List ℕ
result_front = codes "llvm.experimental.gc.result."

-- the end of a name that begins as those of results do
unfoldable pub result_suffix : List ℕ → Option (List ℕ)
result_suffix name = if starts_with nat_eq name result_front then Some (drop (length result_front) name) else None

-- `p1`, or `i` and digits
abbrev pub is_suffix : Option (List ℕ) → Bool
is_suffix None = false
is_suffix (Some suffix) = bytes_eq suffix (codes "p1") || is_integer_word suffix

abbrev pub is_result_name : List ℕ → Bool
is_result_name name = is_suffix (result_suffix name)

-- a name of one of the three families
abbrev pub is_family_name : List ℕ → Bool
is_family_name name = is_result_name name || (bytes_eq name statepoint_name || bytes_eq name relocate_name)

-- the name of the result that ends so
abbrev pub ends_in : List ℕ → Option (List ℕ) → Bool
ends_in suffix None = false
ends_in suffix (Some found) = bytes_eq found suffix

abbrev pub is_result_of : List ℕ → List ℕ → Bool
is_result_of suffix name = ends_in suffix (result_suffix name)
