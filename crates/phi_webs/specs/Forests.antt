-- What names have become so far, as a forest: each name has a name one step further, or itself.
use Rattle.std.specs.Prelude.{◌≡◌, ◌≢◌, ℕ, ◌^◌, ◌<◌, ◌≤◌, List, length, slice_index_or}

-- the name one step further; one past the end is its own
abbrev pub up_of : List ℕ → ℕ → ℕ
up_of ups n = slice_index_or ups n n

-- steps lead each name to what it has become: each step leads to a name that went later
pub record Leads (ups : List ℕ) (now : ℕ → ℕ) (last : ℕ) : Type 0 where
  pub time : ℕ → ℕ
  pub in_time : (n : ℕ) → time n ≤ last
  pub few : last < 2 ^ 34
  pub follows : (n : ℕ) → now (up_of ups n) ≡ now n
  pub ends : (n : ℕ) → up_of ups n ≡ n → now n ≡ n
  pub later : (n : ℕ) → up_of ups n ≢ n → time n < time (up_of ups n)

-- what a name has become
abbrev pub IsEnd : List ℕ → ℕ → ℕ → Type 0
IsEnd ups n end = (now : ℕ → ℕ) (last : ℕ) → Leads ups now last → end ≡ now n

-- names have become what they had become, and none got or lost its place
pub record KeepsEnds (old new : List ℕ) : Type 0 where
  pub ends : (now : ℕ → ℕ) (last : ℕ) → Leads old now last → Leads new now last
  pub len : length new ≡ length old
