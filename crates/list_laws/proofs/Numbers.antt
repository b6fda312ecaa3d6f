-- Orders and sums of numbers, where a search for them is no shorter.
use Rattle.std.proofs.Common.{◌≡◌, ◌⊎◌, ℕ, suc, ◌+◌, ◌<◌, ◌≤◌, arith}

pub less : (a b : ℕ) → suc a < suc b → a < b
less a b below = omega arith

pub one_more : (n : ℕ) → suc n ≡ n + 1
one_more n = omega arith

pub after_one : (n : ℕ) → 1 + n ≡ suc n
after_one n = omega arith
