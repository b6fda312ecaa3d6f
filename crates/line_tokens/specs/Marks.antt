-- What one token says. A name stands without its mark.
use Rattle.std.specs.Prelude.{ℕ, Bool, true, false, List, [], ◌∷◌, Option, Some, None, drop, take, length, ◌-◌, if◌then◌else◌}
use Rattle.std.specs.Str.{bytes_eq}
use Rattle.sp_text.specs.Tokens.{Tok, tok, is_name}
use Rattle.sp_text.specs.declared.tokens.Kind.TheVariants as kinds

abbrev pub is_word : List ℕ → Tok → Bool
is_word text (tok kinds.Word bytes) = bytes_eq bytes text
is_word text _ = false

abbrev pub is_mark : List ℕ → Tok → Bool
is_mark text (tok kinds.Punct bytes) = bytes_eq bytes text
is_mark text _ = false

abbrev pub is_number : Tok → Bool
is_number (tok kinds.Number bytes) = true
is_number _ = false

abbrev pub is_quoted : Tok → Bool
is_quoted (tok kinds.Quoted bytes) = true
is_quoted _ = false

abbrev pub is_hash : Tok → Bool
is_hash (tok kinds.Hash bytes) = true
is_hash _ = false

abbrev pub is_local : Tok → Bool
is_local (tok kinds.Local bytes) = true
is_local _ = false

-- the bytes, where they are a name
abbrev pub named : List ℕ → Option (List ℕ)
named bytes = if is_name bytes then Some bytes else None

-- the name behind `%`
abbrev pub local_of : Tok → Option (List ℕ)
local_of (tok kinds.Local bytes) = named (drop 1 bytes)
local_of _ = None

-- the name behind `@`
abbrev pub global_of : Tok → Option (List ℕ)
global_of (tok kinds.Global bytes) = named (drop 1 bytes)
global_of _ = None

abbrev pub is_this : List ℕ → Option (List ℕ) → Bool
is_this text None = false
is_this text (Some name) = bytes_eq name text

-- this name behind `@`
abbrev pub is_global : List ℕ → Tok → Bool
is_global text t = is_this text (global_of t)

-- the bytes between the quotes
abbrev pub quoted_of : Tok → Option (List ℕ)
quoted_of (tok kinds.Quoted bytes) = Some (take (length bytes - 2) (drop 1 bytes))
quoted_of _ = None

-- a token that only has to stand there
abbrev pub stands : (Tok → Bool) → Tok → Option (Unit {0})
stands test t = if test t then Some tt else None

-- the first token meets the test
abbrev pub begins : (Tok → Bool) → List Tok → Bool
begins test [] = false
begins test (t ∷ ts) = test t
