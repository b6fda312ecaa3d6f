-- What a table reads of a name's hash.
use Rattle.std.specs.Prelude.{ℕ, ◌+◌, ◌*◌, ◌/◌, ◌%◌, ◌^◌}

-- the low 24 bits, of which the lowest four stand again above them, and then the highest four
abbrev pub spread : ℕ → ℕ
spread hash = hash % 2 ^ 24 + hash % 16 * 2 ^ 24 + hash / 2 ^ 60 * 2 ^ 28
