-- How far apart functions start.
use Rattle.std.specs.Prelude.{ℕ, ◌*◌}
use Rattle.frame_forms.specs.CodeAddresses.{rounded}

-- the bytes from the start of a function with so many instructions to that of the next one
abbrev pub span_of : ℕ → ℕ
span_of count = rounded (4 * count)
