-- What the parts of the writer put.
use Rattle.std.specs.Prelude.{ℕ, List, ◌++◌}
use Rattle.byteorder.specs.Endian.{little_bytes}

-- the header of a map of so many functions, constants and records
abbrev pub header_of : ℕ → ℕ → ℕ → List ℕ
header_of functions constants records =
    little_bytes 1 3 ++ (little_bytes 1 0 ++ (little_bytes 2 0 ++ (little_bytes 4 functions ++ (little_bytes 4 constants ++ little_bytes 4 records))))
