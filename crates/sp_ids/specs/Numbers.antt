-- The values of the integer types: numbers modulo 2^width, and the signed numbers that they spell.
use Rattle.std.specs.Prelude.{ℕ, ℤ, pos, ◌*◌, ◌%◌, ◌^◌, ◌-ℤ◌, nat_lt, if◌then◌else◌}

-- the number that is left in `width` bits
abbrev pub wrapped : ℕ → ℕ → ℕ
wrapped width n = n % 2 ^ width

-- the number that those bits spell in two's complement: from 2^(width - 1) up they count as negative
abbrev pub signed : ℕ → ℕ → ℤ
signed width n =
    if nat_lt (2 * wrapped width n) (2 ^ width)
    then pos (wrapped width n)
    else pos (wrapped width n) -ℤ pos (2 ^ width)
