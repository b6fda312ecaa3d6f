-- What a line of an input holds.
use Rattle.std.specs.Prelude.{◌≡◌, ℕ, ℤ, pos, neg_ℤ, ◌≤◌, List, [], ◌∷◌, length, FitsSigned, Option, Some, None}
use Rattle.std.specs.Int.{w64}
use Rattle.std.specs.Str.Parse.{digits_value, IsNumeral}
use Rattle.sp_text.specs.Bytes.{minus}
use Rattle.move_plan.specs.Words.{words, IsBlank}

-- 1 to 19 digits, leading zeros counted
pub record AreDigits (digits : List ℕ) : Type 0 where
  pub each : IsNumeral 10 digits
  pub few : length digits ≤ 19

-- an optional `-` and digits spell this number
pub data Spells (word : List ℕ) (n : ℤ) : Type 0 where
  positive : AreDigits word → n ≡ pos (digits_value 10 word) → Spells word n
  negative : (digits : List ℕ) → word ≡ minus ∷ digits → AreDigits digits → n ≡ neg_ℤ (pos (digits_value 10 digits)) → Spells word n

-- and it has 64 bits
pub record IsNumber (word : List ℕ) (n : ℤ) : Type 0 where
  pub spelled : Spells word n
  pub fits : FitsSigned w64 n

-- the line holds this number and nothing else
pub record HoldsNumber (line : List ℕ) (n : ℤ) : Type 0 where
  pub word : List ℕ
  pub only : words line ≡ word ∷ []
  pub number : IsNumber word n

-- a blank line holds none
abbrev pub Holds : List ℕ → Option ℤ → Type 0
Holds line None = IsBlank line
Holds line (Some n) = HoldsNumber line n
