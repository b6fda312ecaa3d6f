-- How counts of faults compose over several calls.
use Rattle.std.proofs.Common.{ℕ, ◌-◌, ◌^◌, ◌<◌, ◌≤◌, List, Result, Ok, Err, OnErr, IsOk, refl, arith}
use Rattle.tool_io.specs.Counts.{raised, Rose, NoneFell}

-- a count that rose and then didn't fall, rose
pub Rose-later : (before mid now : ℕ) → Rose before mid → mid ≤ now → Rose before now
Rose-later before mid now rose stayed = omega arith

-- a count that didn't fall and then rose, rose
pub Rose-earlier : (before mid now : ℕ) → before ≤ mid → Rose mid now → Rose before now
Rose-earlier before mid now stayed rose = omega arith

-- the constant 0 never rises
pub Rose-zero-absurd : Rose 0 0 → ⊥
Rose-zero-absurd rose = omega arith

-- a name's count that rose, and then no count fell
pub Rose-then-none_fell : {mid now : List ℕ → ℕ} → (before : ℕ) (name : List ℕ) → Rose before (mid name) → NoneFell mid now → Rose before (now name)
Rose-then-none_fell {mid} {now} before name rose stayed = Rose-later before (mid name) (now name) rose (stayed.at name)

-- no count fell, and then a name's count rose
pub Rose-after-none_fell : {before mid : List ℕ → ℕ} → (now : ℕ) (name : List ℕ) → NoneFell before mid → Rose (mid name) now → Rose (before name) now
Rose-after-none_fell {before} {mid} now name stayed rose = Rose-earlier (before name) (mid name) now (stayed.at name) rose
