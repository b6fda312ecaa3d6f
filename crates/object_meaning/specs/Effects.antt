-- What a step does, on states of any kind, and the run of such steps with the lines that they print.
use Rattle.std.specs.Prelude.{◌≡◌, ℕ, List, ◌∷◌, ◌++◌, [], min, length, ◌-◌, ◌^◌}
use Rattle.std.specs.Fmt.{signed_decimal}
use Rattle.sp_ids.specs.Numbers.{signed}
use Rattle.sp_ids.specs.declared.ends.End.{End}
use Rattle.object_meaning.specs.Runs.{Next, Go, End as Over}

-- what one line does: the run goes on, prints a number and goes on, or ends
pub data Effect (S : Type 0) : Type 0 where
  goes_on : S → Effect S
  prints : ℕ → S → Effect S
  ends : End → S → Effect S

-- a state, and the lines that were printed, newest first
pub record Progress (S : Type 0) : Type 0 where
  pub state : S
  pub lines : List (List ℕ)

abbrev pub newline : List ℕ
newline = 10 ∷ []

-- the signed decimal of an `i64`
unfoldable pub printed_line : ℕ → List ℕ
printed_line word = signed_decimal (signed 64 word) ++ newline

abbrev pub after : {S : Type 0} → List (List ℕ) → Effect S → Next End (Progress S)
after lines (goes_on state) = Go (record { state = state; lines = lines })
after lines (prints word state) = Go (record { state = state; lines = printed_line word ∷ lines })
after lines (ends end state) = Over end (record { state = state; lines = lines })

-- the text of lines that stand newest first
abbrev pub text_of : List (List ℕ) → List ℕ
text_of [] = []
text_of (line ∷ lines) = text_of lines ++ line

-- what these lines print first, those print too, and this more behind it
pub record PrintsMore (now last : List (List ℕ)) : Type 0 where
  pub more : List ℕ
  pub text : text_of last ≡ text_of now ++ more

-- how many there are; the count stands still at 2^64 - 1
abbrev pub line_count : List (List ℕ) → ℕ
line_count lines = min (length lines) (2 ^ 64 - 1)
