-- What is found first from a place of a line on.
use Rattle.std.specs.Prelude.{◌≡◌, ℕ, ◌+◌, ◌<◌, ◌≤◌, ◌⊎◌, false, IsTrue, List, [], ◌∷◌, length, drop, take, slice_range, Option, None, Some, Result, Ok, Err}
use Rattle.std.specs.List.{list_all, prefix_len}
use Rattle.sp_text.specs.Bytes.{is_blank, after_blanks}
use Rattle.sp_text.specs.Tokens.{is_token, says_nothing, Tok, tok, bad, tokens}
use Rattle.sp_text.specs.declared.tokens.Kind.{Kind}
use Rattle.sp_text.specs.declared.tokens.PlacedToken.{PlacedToken}
use Rattle.sp_text.specs.declared.tokens.Token.{Token}
use Rattle.sp_text.specs.declared.tokens.BadByte.{BadByte}

-- the token is the first one from `from` on, and the longest at its place
pub record IsFirstToken (line : List ℕ) (from : ℕ) (token : PlacedToken) : Type 0 where
  pub after : from ≤ token.from
  pub blanks : IsTrue (list_all is_blank (slice_range line from token.from))
  pub some : token.from < token.to
  pub within : token.to ≤ length line
  pub slice : token.bytes.now ≡ slice_range line token.from token.to
  pub kind : IsTrue (is_token token.kind token.bytes.now)
  pub longest : (to : ℕ) (kind : Kind) → token.to < to → to ≤ length line → is_token kind (slice_range line token.from to) ≡ false

-- the first byte after the blanks begins no comment and no token
pub record BeginsNoToken (bs : List ℕ) : Type 0 where
  pub something : says_nothing bs ≡ false
  pub no_token : (len : ℕ) (kind : Kind) → is_token kind (take len (after_blanks bs)) ≡ false

-- the place of the first byte from `from` on that is no blank
abbrev pub past_blanks : List ℕ → ℕ → ℕ
past_blanks line from = from + prefix_len is_blank (drop from line)

-- the tokens of a line from a place on, by what was found there first
abbrev pub tokens_by : List ℕ → Result (Option PlacedToken) BadByte → List Tok
tokens_by line (Ok None) = []
tokens_by line (Ok (Some token)) = tok token.kind token.bytes.now ∷ tokens (drop token.to line)
tokens_by line (Err byte) = bad ∷ []

-- nothing follows, or a byte that begins no token
abbrev pub HasNoToken : List ℕ → Type 0
HasNoToken bs = (tokens bs ≡ []) ⊎ (tokens bs ≡ bad ∷ [])

-- what stands in the line from some place on
pub record IsEnd (line rest : List ℕ) : Type 0 where
  pub at : ℕ
  pub within : at ≤ length line
  pub is : rest ≡ drop at line

-- the token as a line has it: its place in memory means nothing
abbrev pub seen_token : Token → Tok
seen_token token = tok token.kind token.bytes.now
