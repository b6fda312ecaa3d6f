-- Words that are read and dropped.
use Rattle.std.specs.Prelude.{ℕ, zero, suc, Bool, true, false, ◌&&◌, ◌||◌, not, List, [], ◌∷◌, Option, Some, None, length, ◌+◌, ◌-◌, ◌==◌, codes, unwrap_or, if◌then◌else◌}
use Rattle.std.specs.Char.{is_ascii_digit}
use Rattle.std.specs.Str.{bytes_eq}
use Rattle.sp_text.specs.Tokens.{Tok, tok}
use Rattle.sp_text.specs.declared.tokens.Kind.TheVariants as kinds
use Rattle.line_tokens.specs.declared.words.Dropped.{Dropped}
use Rattle.line_tokens.specs.declared.words.Dropped.TheVariants as drops
use Rattle.line_tokens.specs.declared.words.Flags.{Flags}
use Rattle.line_tokens.specs.declared.words.Flags.TheVariants as flags
use Rattle.line_tokens.specs.Marks.{is_word, is_mark, is_number, is_quoted, begins}
use Rattle.line_tokens.specs.Numbers.{is_integer_word}

abbrev pub is_one_of : List (List ℕ) → List ℕ → Bool
is_one_of [] bytes = false
is_one_of (text ∷ texts) bytes = bytes_eq bytes text || is_one_of texts bytes

-- ---- attribute groups

-- words that no attribute group begins with
abbrev pub reserved : List (List ℕ)
reserved = codes "void" ∷ codes "ptr" ∷ codes "token" ∷ codes "addrspace" ∷ codes "gc" ∷ codes "true" ∷ codes "false"
    ∷ codes "null" ∷ codes "byval" ∷ codes "inalloca" ∷ codes "preallocated" ∷ []

abbrev pub is_attribute_word : List ℕ → Bool
is_attribute_word bytes = not (is_one_of reserved bytes || is_integer_word bytes)

-- the tokens after the bracket that closes the open one, with `depth` brackets open inside it
unfoldable pub after_bracket : ℕ → List Tok → Option (List Tok)
after_bracket depth [] = None
after_bracket depth (t ∷ ts) = if is_mark (codes "(") t then after_bracket (depth + 1) ts else
    if is_mark (codes ")") t then (if depth == 0 then Some ts else after_bracket (depth - 1) ts) else after_bracket depth ts

-- the tokens after a bracketing, where one stands first
abbrev pub past_bracketing : List Tok → List Tok
past_bracketing [] = []
past_bracketing (t ∷ ts) = if is_mark (codes "(") t then unwrap_or (after_bracket 0 ts) (t ∷ ts) else t ∷ ts

-- the tokens after a first one that meets the test
abbrev pub past : (Tok → Bool) → List Tok → List Tok
past test [] = []
past test (t ∷ ts) = if test t then ts else t ∷ ts

-- what follows a quoted text of a group: `=` and a quoted text belong to it
abbrev pub past_quoted_value : List Tok → List Tok
past_quoted_value (e ∷ v ∷ ts) = if is_mark (codes "=") e && is_quoted v then ts else e ∷ v ∷ ts
past_quoted_value ts = ts

abbrev pub past_word : List ℕ → List Tok → List Tok
past_word word ts = if bytes_eq word (codes "align") && begins is_number ts then past is_number ts else past_bracketing ts

-- the tokens after the longest attribute group, where one stands first
abbrev pub past_group : List Tok → Option (List Tok)
past_group (tok kinds.Word bytes ∷ ts) = if is_attribute_word bytes then Some (past_word bytes ts) else None
past_group (tok kinds.Quoted bytes ∷ ts) = Some (past_quoted_value ts)
past_group (tok kinds.Hash bytes ∷ ts) = Some ts
past_group _ = None

-- ---- attachments and alignments

-- `!` and a name that is no number
abbrev pub is_bang_name : Tok → Bool
is_bang_name (tok kinds.Bang (bang ∷ b ∷ bs)) = not (is_ascii_digit b)
is_bang_name _ = false

-- `!` and a number
abbrev pub is_bang_number : Tok → Bool
is_bang_number (tok kinds.Bang (bang ∷ b ∷ bs)) = is_ascii_digit b
is_bang_number _ = false

abbrev pub past_head_attachment : List Tok → Option (List Tok)
past_head_attachment (t ∷ u ∷ ts) = if is_bang_name t && is_bang_number u then Some ts else None
past_head_attachment _ = None

abbrev pub past_attachment : List Tok → Option (List Tok)
past_attachment (t ∷ u ∷ v ∷ ts) = if is_mark (codes ",") t && is_bang_name u && is_bang_number v then Some ts else None
past_attachment _ = None

abbrev pub past_alignment : List Tok → Option (List Tok)
past_alignment (t ∷ u ∷ v ∷ ts) = if is_mark (codes ",") t && is_word (codes "align") u && is_number v then Some ts else None
past_alignment _ = None

-- beside `elementtype`, which is a part of its form and no group
abbrev pub past_group_beside : List Tok → Option (List Tok)
past_group_beside ts = if begins (is_word (codes "elementtype")) ts then None else past_group ts

abbrev pub past_one_of : List (List ℕ) → List Tok → Option (List Tok)
past_one_of words (tok kinds.Word bytes ∷ ts) = if is_one_of words bytes then Some ts else None
past_one_of words _ = None

abbrev pub is_any_word : Tok → Bool
is_any_word (tok kinds.Word bytes) = true
is_any_word _ = false

-- the words of a flag
abbrev pub flag_words : Flags → List (List ℕ)
flag_words flags.Calling = codes "tail" ∷ codes "notail" ∷ []
flag_words flags.SameSign = codes "samesign" ∷ []
flag_words flags.Wrapping = codes "nuw" ∷ codes "nsw" ∷ []
flag_words flags.Exact = codes "exact" ∷ []
flag_words flags.Disjoint = codes "disjoint" ∷ []
flag_words flags.NonNegative = codes "nneg" ∷ []
flag_words flags.Bounds = codes "inbounds" ∷ codes "nusw" ∷ codes "nuw" ∷ []
flag_words flags.Nothing = []

-- ---- all of them

-- the tokens after one thing that is dropped, where one stands first
abbrev pub past_dropped : Dropped → List Tok → Option (List Tok)
past_dropped drops.Groups ts = past_group ts
past_dropped drops.BesideElementType ts = past_group_beside ts
past_dropped drops.Attachments ts = past_attachment ts
past_dropped drops.HeadAttachments ts = past_head_attachment ts
past_dropped drops.Alignments ts = past_alignment ts
past_dropped (drops.Words which) ts = past_one_of (flag_words which) ts

-- at most `count` of them
unfoldable pub past_at_most : ℕ → Dropped → List Tok → List Tok
past_at_most zero what ts = ts
past_at_most (suc count) what ts = elim (past_dropped what ts) [ None ↦ ts | Some rest ↦ past_at_most count what rest ]

-- as often as one stands there: no more can stand than there are tokens
unfoldable pub past_all : Dropped → List Tok → List Tok
past_all what ts = past_at_most (length ts) what ts
