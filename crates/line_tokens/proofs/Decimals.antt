-- The number that digits spell, digit by digit.
use Rattle.std.proofs.Common.{◌≡◌, ℕ, ◌+◌, ◌*◌, ◌-◌, ◌<◌, ◌≤◌, List, [], ◌∷◌, length, get_or, drop, refl, arith, add-one, drop-cons}
use Rattle.std.proofs.Math.ListN.{drop_of_length-le}
use Rattle.line_tokens.specs.Numbers.{decimal_from}

pub decimal_from-ge : (front : ℕ) (bs : List ℕ) → front ≤ decimal_from front bs
unfolding decimal_from
decimal_from-ge front [] = omega arith
decimal_from-ge front (b ∷ bs) = omega (arith, decimal_from-ge (10 * front + (b - 48)) bs)

pub decimal_from-at : (front i : ℕ) (bs : List ℕ) → i < length bs → decimal_from front (drop i bs) ≡ decimal_from (10 * front + (get_or bs i 0 - 48)) (drop (i + 1) bs)
unfolding decimal_from
decimal_from-at front i bs lt = rw (add-one, drop-cons bs i 0) refl

pub decimal_from-done : (front i : ℕ) (bs : List ℕ) → length bs ≤ i → decimal_from front (drop i bs) ≡ front
unfolding decimal_from
decimal_from-done front i bs le = rw (drop_of_length-le bs le) refl
