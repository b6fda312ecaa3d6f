-- The longest front of a list that passes a test.
use Rattle.std.specs.Prelude.{◌≡◌, ℕ, ◌<◌, ◌≤◌, Bool, true, false, List, length, take}

-- the first `len` bytes pass, and no more bytes do
pub record IsLongestFront (test : List ℕ → Bool) (bs : List ℕ) (len : ℕ) : Type 0 where
  pub within : len ≤ length bs
  pub passes : test (take len bs) ≡ true
  pub longest : (more : ℕ) → len < more → more ≤ length bs → test (take more bs) ≡ false

-- no front passes
pub record HasNoFront (test : List ℕ → Bool) (bs : List ℕ) : Type 0 where
  pub none : (len : ℕ) → len ≤ length bs → test (take len bs) ≡ false
