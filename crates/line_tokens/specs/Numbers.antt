-- Widths and literals. One that passes its limit counts as 1, so that the line has its reading, and a reader notes it.
use Rattle.std.specs.Prelude.{ℕ, Bool, true, false, ◌&&◌, List, [], ◌∷◌, ◌+◌, ◌-◌, ◌*◌, ◌^◌, ◌==◌, nat_le, not, Option, Some, None, if◌then◌else◌}
use Rattle.line_tokens.specs.declared.literals.Literal.{Literal}
use Rattle.sp_text.specs.Tokens.{Tok, tok, are_digits, is_numeral}
use Rattle.sp_text.specs.declared.tokens.Kind.TheVariants as kinds

-- the number that digits spell behind those that spell `front`
unfoldable pub decimal_from : ℕ → List ℕ → ℕ
decimal_from front [] = front
decimal_from front (b ∷ bs) = decimal_from (10 * front + (b - 48)) bs

abbrev pub decimal : List ℕ → ℕ
decimal digits = decimal_from 0 digits

-- ---- widths

-- `i` and digits
abbrev pub is_integer_word : List ℕ → Bool
is_integer_word [] = false
is_integer_word (i ∷ digits) = (i == 105) && are_digits digits

-- from 1 to 64 bits
abbrev pub is_width : ℕ → Bool
is_width bits = nat_le 1 bits && nat_le bits 64

abbrev pub width_within : ℕ → ℕ
width_within bits = if is_width bits then bits else 1

-- the width of `iN`, which has no leading zero
abbrev pub width_of : Tok → Option ℕ
width_of (tok kinds.Word (i ∷ digits)) = if (i == 105) && is_numeral digits then Some (width_within (decimal digits)) else None
width_of _ = None

-- an `iN` of no width
abbrev pub width_passes : Tok → Bool
width_passes (tok kinds.Word (i ∷ digits)) = not (is_width (decimal digits))
width_passes _ = false

-- ---- literals

-- the number that an optional `-` and digits spell
abbrev pub number_spelled : List ℕ → Literal
number_spelled [] = record { negative = false; magnitude = decimal [] }
number_spelled (b ∷ bs) = record { negative = b == 45; magnitude = decimal (if b == 45 then bs else b ∷ bs) }

-- from -2^63 to 2^64 - 1
abbrev pub is_literal : Literal → Bool
is_literal number = nat_le number.magnitude (if number.negative then 2 ^ 63 else 2 ^ 64 - 1)

abbrev pub literal_within : Literal → Literal
literal_within number = if is_literal number then number else record { negative = false; magnitude = 1 }

abbrev pub literal_spelled : List ℕ → Literal
literal_spelled bytes = literal_within (number_spelled bytes)

abbrev pub literal_of : Tok → Option Literal
literal_of (tok kinds.Number bytes) = Some (literal_spelled bytes)
literal_of _ = None

-- a number that is no literal
abbrev pub literal_passes : Tok → Bool
literal_passes (tok kinds.Number bytes) = not (is_literal (number_spelled bytes))
literal_passes _ = false
