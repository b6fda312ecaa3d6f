-- The random numbers: a linear congruential generator modulo 2^64. A draw leaves the next state, and what it gives
-- comes of the upper 31 bits of that state.
use Rattle.std.specs.Prelude.{ℕ, zero, suc, ◌+◌, ◌*◌, ◌/◌, ◌%◌, ◌^◌}

unfoldable pub next_state : ℕ → ℕ
next_state state = (6364136223846793005 * state + 1442695040888963407) % 2 ^ 64

-- what a draw that left this state gives, below a number
unfoldable pub drawn : ℕ → ℕ → ℕ
drawn below state = state / 2 ^ 33 % below

-- the state after so many draws
unfoldable pub state_after : ℕ → ℕ → ℕ
state_after seed zero = seed
state_after seed (suc count) = next_state (state_after seed count)
