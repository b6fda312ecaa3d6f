-- What a token is, and the tokens of a line.
use Rattle.std.specs.Prelude.{ℕ, zero, suc, ◌-◌, Bool, true, false, ◌==◌, ◌&&◌, ◌||◌, List, [], ◌∷◌, length, take, Option, None, Some, if◌then◌else◌}
use Rattle.std.specs.List.{list_all, find}
use Rattle.std.specs.Char.{is_ascii_digit}
use Rattle.sp_text.specs.Bytes.{bang, quote, hash, percent, minus, dot, zero_digit, semicolon, at_sign, is_blank, after_blanks, begins_word, in_word, begins_name, in_name, is_mark}
use Rattle.sp_text.specs.declared.tokens.Kind.{Kind}
use Rattle.sp_text.specs.declared.tokens.Kind.TheVariants.{Word, Local, Global, Number, Quoted, Hash, Bang, Punct}

-- the spelling of each kind

abbrev pub is_nothing : List ℕ → Bool
is_nothing [] = true
is_nothing (b ∷ bs) = false

-- this byte, and then what `rest` says
abbrev pub first_then : ℕ → (List ℕ → Bool) → List ℕ → Bool
first_then first rest [] = false
first_then first rest (b ∷ bs) = b == first && rest bs

-- one or more digits
abbrev pub are_digits : List ℕ → Bool
are_digits [] = false
are_digits (b ∷ bs) = is_ascii_digit b && list_all is_ascii_digit bs

-- digits without a leading zero
abbrev pub is_numeral : List ℕ → Bool
is_numeral [] = false
is_numeral (b ∷ bs) = if b == zero_digit then is_nothing bs else are_digits (b ∷ bs)

-- `[-a-zA-Z$._][-a-zA-Z$._0-9]*`
abbrev pub is_plain_name : List ℕ → Bool
is_plain_name [] = false
is_plain_name (b ∷ bs) = begins_name b && list_all in_name bs

-- a name as in the manual, or a number without leading zeros
abbrev pub is_name : List ℕ → Bool
is_name bs = is_plain_name bs || is_numeral bs

-- bytes other than `"`, and then a `"`
abbrev pub ends_quote : List ℕ → Bool
ends_quote [] = false
ends_quote (b ∷ bs) = if b == quote then is_nothing bs else ends_quote bs

-- a letter or `_`, then letters, digits, `_` and `.`
abbrev pub is_plain_word : List ℕ → Bool
is_plain_word [] = false
is_plain_word (b ∷ bs) = begins_word b && list_all in_word bs

-- `..`, the end of `...`
abbrev pub is_ellipsis_end : List ℕ → Bool
is_ellipsis_end bs = first_then dot (first_then dot is_nothing) bs

-- a name or digits, the end of a token that begins with `!`
abbrev pub is_bang_end : List ℕ → Bool
is_bang_end bs = is_name bs || are_digits bs

abbrev pub is_punct : List ℕ → Bool
is_punct [] = false
is_punct (b ∷ bs) = is_mark b && is_nothing bs

-- the bytes are a token of the kind
abbrev pub is_token : Kind → List ℕ → Bool
is_token Word bs = is_plain_word bs || first_then dot is_ellipsis_end bs
is_token Local bs = first_then percent is_name bs
is_token Global bs = first_then at_sign is_name bs
is_token Number bs = are_digits bs || first_then minus are_digits bs
is_token Quoted bs = first_then quote ends_quote bs
is_token Hash bs = first_then hash are_digits bs
is_token Bang bs = first_then bang is_bang_end bs
is_token Punct bs = is_punct bs

abbrev pub kinds : List Kind
kinds = Word ∷ Local ∷ Global ∷ Number ∷ Quoted ∷ Hash ∷ Bang ∷ Punct ∷ []

-- the kind of which the bytes are a token, if they are one
unfoldable pub kind_of : List ℕ → Option Kind
kind_of bs = find (λ kind. is_token kind bs) kinds

-- the longest token with which a list begins

-- the front of `len` bytes, where it is a token, else a shorter one
abbrev pub or_shorter : Option Kind → ℕ → Option (Kind × ℕ) → Option (Kind × ℕ)
or_shorter None len shorter = shorter
or_shorter (Some kind) len shorter = Some (kind, len)

-- the longest front of at most so many bytes that is a token: its kind and its length
unfoldable pub longest_front : ℕ → List ℕ → Option (Kind × ℕ)
longest_front zero bs = None
longest_front (suc most) bs = or_shorter (kind_of (take (suc most) bs)) (suc most) (longest_front most bs)

-- the longest front that is a token: its kind and its length
unfoldable pub front_of : List ℕ → Option (Kind × ℕ)
front_of bs = longest_front (length bs) bs

-- the tokens of a line

-- a token by its kind and bytes, or a byte that begins no token, after which no token is read
pub data Tok : Type 0 where
  tok : Kind → List ℕ → Tok
  bad : Tok
  -- a reader's note, behind all tokens that are left: a width or number on the way here passed its limit
  over : Tok

-- the tokens that are left, with the note
unfoldable pub note : List Tok → List Tok
note [] = over ∷ []
note (over ∷ ts) = over ∷ ts
note (bad ∷ ts) = bad ∷ ts
note (tok kind bytes ∷ ts) = tok kind bytes ∷ note ts

-- the front as a token, and the tokens after it
abbrev pub front_and_more : Option (Kind × ℕ) → List ℕ → (ℕ → List Tok) → List Tok
front_and_more None bs more = bad ∷ []
front_and_more (Some (kind, len)) bs more = tok kind (take len bs) ∷ more len

-- the tokens of what follows the first `skip` bytes
unfoldable pub tokens_after : ℕ → List ℕ → List Tok
tokens_after skip [] = []
tokens_after zero (b ∷ bs) =
    if is_blank b then tokens_after 0 bs
    else (if b == semicolon then []
    else front_and_more (front_of (b ∷ bs)) (b ∷ bs) (λ len. tokens_after (len - 1) bs))
tokens_after (suc skip) (b ∷ bs) = tokens_after skip bs

-- the tokens of a line's bytes: blanks part them, and a `;` that no quotes enclose ends them
unfoldable pub tokens : List ℕ → List Tok
tokens bs = tokens_after 0 bs

-- the end of a line, or a comment
abbrev pub is_end : List ℕ → Bool
is_end [] = true
is_end (b ∷ bs) = b == semicolon

-- nothing but blanks and at most a comment
abbrev pub says_nothing : List ℕ → Bool
says_nothing bs = is_end (after_blanks bs)
