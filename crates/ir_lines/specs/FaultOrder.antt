-- The order of faults, and the least of a set of them.
use Rattle.std.specs.Prelude.{◌≡◌, ℕ, ◌<◌, ◌≤◌, ◌⊎◌}

-- an earlier line, or the same line and no greater code
abbrev pub ComesFirst : ℕ → ℕ → ℕ → ℕ → Type 0
ComesFirst line code other_line other_code = (line < other_line) ⊎ ((line ≡ other_line) × (code ≤ other_code))

pub record IsLeast (Has : ℕ → ℕ → Type 0) (line code : ℕ) : Type 0 where
  pub is : Has line code
  pub least : (other_line other_code : ℕ) → Has other_line other_code → ComesFirst line code other_line other_code
