-- The parts of line forms: types, values, elements, heads.
use Rattle.std.specs.Prelude.{ℕ, Bool, true, false, ◌&&◌, ◌||◌, List, [], ◌∷◌, Option, Some, None, ◌==◌, drop, option_map, is_some, codes, if◌then◌else◌}
use Rattle.std.specs.Str.{bytes_eq}
use Rattle.sp_text.specs.Tokens.{Tok, tok}
use Rattle.sp_text.specs.declared.tokens.Kind.TheVariants as kinds
use Rattle.line_parts.specs.Types.{TypeWord}
use Rattle.line_parts.specs.Types as types
use Rattle.line_tokens.specs.declared.literals.Literal.{Literal}
use Rattle.line_parts.specs.Gives.{Found, after, one_at, noted, one_noted_at, end_of}
use Rattle.line_tokens.specs.Marks.{is_word, is_mark, named, local_of, global_of, quoted_of, stands, begins}
use Rattle.line_tokens.specs.Numbers.{width_of, width_passes, literal_spelled, literal_of, literal_passes}

abbrev pub word_at : List ℕ → List Tok → Found (Unit {0})
word_at text ts = one_at (stands (is_word text)) ts

abbrev pub mark_at : List ℕ → List Tok → Found (Unit {0})
mark_at text ts = one_at (stands (is_mark text)) ts

abbrev pub local_at : List Tok → Found (List ℕ)
local_at ts = one_at local_of ts

abbrev pub global_at : List Tok → Found (List ℕ)
global_at ts = one_at global_of ts

-- ---- widths and numbers

abbrev pub width_at : List Tok → Found ℕ
width_at ts = one_noted_at width_of width_passes ts

abbrev pub literal_at : List Tok → Found Literal
literal_at ts = one_noted_at literal_of literal_passes ts

-- ---- types

-- the number 1
abbrev pub is_one : Tok → Bool
is_one (tok kinds.Number bytes) = bytes_eq bytes (codes "1")
is_one _ = false

-- `addrspace(1)`
unfoldable pub addrspace_at : List Tok → Found (Unit {0})
addrspace_at ts = after (word_at (codes "addrspace") ts) (λ _ ts. after (mark_at (codes "(") ts) (λ _ ts.
    after (one_at (stands is_one) ts) (λ _ ts. mark_at (codes ")") ts)))

-- behind `ptr`
unfoldable pub pointer_at : List Tok → Found TypeWord
pointer_at ts = if begins (is_word (codes "addrspace")) ts then after (addrspace_at ts) (λ _ ts. Some (types.Managed, ts)) else Some (types.Plain, ts)

abbrev pub other_type_at : Tok → List Tok → Found TypeWord
other_type_at t ts = if is_word (codes "void") t then Some (types.Void, ts) else if is_word (codes "ptr") t then pointer_at ts else None

abbrev pub type_behind : Tok → List Tok → Option ℕ → Found TypeWord
type_behind t ts (Some width) = Some (types.Int width, noted (width_passes t) ts)
type_behind t ts None = other_type_at t ts

-- `void`, `iN`, `ptr` or `ptr addrspace(1)`
unfoldable pub spelled_type_at : List Tok → Found TypeWord
spelled_type_at [] = None
spelled_type_at (t ∷ ts) = type_behind t ts (width_of t)

-- a type that the test allows
unfoldable pub allowed_type_at : (TypeWord → Bool) → List Tok → Found TypeWord
allowed_type_at allows ts = after (spelled_type_at ts) (λ ty rest. if allows ty then Some (ty, rest) else None)

-- `iN` or `ptr addrspace(1)`
abbrev pub is_value_type : TypeWord → Bool
is_value_type (types.Int width) = true
is_value_type types.Managed = true
is_value_type _ = false

-- what a function answers
abbrev pub is_answer_type : TypeWord → Bool
is_answer_type types.Plain = false
is_answer_type _ = true

-- what a cast may name
abbrev pub is_cast_type : TypeWord → Bool
is_cast_type types.Void = false
is_cast_type _ = true

abbrev pub is_managed : TypeWord → Bool
is_managed types.Managed = true
is_managed _ = false

-- a type that a `getelementptr` may go over, beside layouts
abbrev pub is_scalar_type : TypeWord → Bool
is_scalar_type (types.Int width) = (width == 8) || (width == 16) || (width == 32) || (width == 64)
is_scalar_type types.Managed = true
is_scalar_type _ = false

-- ---- values

-- a value that an instruction uses
pub data Val : Type 0 where
  local : List ℕ → Val
  number : Literal → Val
  truth : Bool → Val
  null : Val

abbrev pub word_value : List ℕ → Option Val
word_value bytes = if bytes_eq bytes (codes "true") then Some (truth true) else if bytes_eq bytes (codes "false") then Some (truth false)
    else if bytes_eq bytes (codes "null") then Some null else None

abbrev pub value_of : Tok → Option Val
value_of (tok kinds.Local bytes) = option_map local (named (drop 1 bytes))
value_of (tok kinds.Number bytes) = Some (number (literal_spelled bytes))
value_of (tok kinds.Word bytes) = word_value bytes
value_of _ = None

abbrev pub value_at : List Tok → Found Val
value_at ts = one_noted_at value_of literal_passes ts

-- a value that a case may name
abbrev pub is_case_value : Val → Bool
is_case_value (number n) = true
is_case_value (truth b) = true
is_case_value _ = false

unfoldable pub case_value_at : List Tok → Found Val
case_value_at ts = after (value_at ts) (λ value rest. if is_case_value value then Some (value, rest) else None)

-- ---- names of arguments, places, strategies

-- a name, where one stands
abbrev pub name_if_any : List Tok → Option (List ℕ) × List Tok
name_if_any [] = (None, [])
name_if_any (t ∷ ts) = elim (local_of t) [ None ↦ (None, t ∷ ts) | Some name ↦ (Some name, ts) ]

-- `, i32 C`, where it stands
abbrev pub begins_place : List Tok → Bool
begins_place (t ∷ u ∷ ts) = is_mark (codes ",") t && is_word (codes "i32") u
begins_place _ = false

unfoldable pub place_at : List Tok → Found (Option Literal)
place_at ts = if begins_place ts then after (mark_at (codes ",") ts) (λ _ ts. after (word_at (codes "i32") ts) (λ _ ts.
    after (literal_at ts) (λ place ts. Some (Some place, ts)))) else Some (None, ts)

-- `gc "S"`, where it stands
unfoldable pub strategy_at : List Tok → Found (Option (List ℕ))
strategy_at ts = if begins (is_word (codes "gc")) ts then after (word_at (codes "gc") ts) (λ _ ts. after (one_at quoted_of ts) (λ name ts. Some (Some name, ts)))
    else Some (None, ts)

-- any tokens, the last of them `}`; `closed` says whether the token before these was one
unfoldable pub brace_at_end : Bool → List Tok → Found (Unit {0})
brace_at_end closed (tok kind bytes ∷ ts) = brace_at_end (is_mark (codes "}") (tok kind bytes)) ts
brace_at_end closed ts = if closed && is_some (end_of ts) then Some (tt, ts) else None

abbrev pub to_brace_at : List Tok → Found (Unit {0})
to_brace_at ts = brace_at_end false ts
