-- Counts of faults. A count stands still at 2^64 - 1, the last value of a counter.
use Rattle.std.specs.Prelude.{ℕ, ◌+◌, ◌-◌, ◌^◌, ◌≤◌, min, List}

-- the count after one more fault
abbrev pub raised : ℕ → ℕ
raised count = min (count + 1) (2 ^ 64 - 1)

-- the count rose, or stands at its last value
abbrev pub Rose : ℕ → ℕ → Type 0
Rose before now = min (before + 1) (2 ^ 64 - 1) ≤ now

-- no name's count fell
pub record NoneFell (before now : List ℕ → ℕ) : Type 0 where
  pub at : (name : List ℕ) → before name ≤ now name
