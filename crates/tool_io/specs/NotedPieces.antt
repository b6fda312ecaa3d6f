-- A sink in memory that keeps each piece by itself, and its count of faults.
use Rattle.std.specs.Prelude.{ℕ, List, []}

pub record NotedPieces : Type 0 where
  pub pieces : List (List ℕ)
  pub faults : ℕ

-- nothing was put yet
abbrev pub no_pieces : NotedPieces
no_pieces = record { pieces = []; faults = 0 }
