-- Lists in a line: fields, arguments, what a call passes, entries of a phi.
use Rattle.std.specs.Prelude.{ℕ, zero, suc, Bool, false, ◌&&◌, List, [], ◌∷◌, Option, Some, None, length, codes, if◌then◌else◌}
use Rattle.std.specs.Str.{bytes_eq}
use Rattle.sp_text.specs.Tokens.{Tok}
use Rattle.line_parts.specs.Types.{TypeWord}
use Rattle.line_parts.specs.Types as types
use Rattle.line_tokens.specs.declared.words.Dropped.TheVariants as drops
use Rattle.line_parts.specs.Gives.{Found, after}
use Rattle.line_tokens.specs.Marks.{is_mark, begins}
use Rattle.line_parts.specs.Drops.{past_all, past}
use Rattle.line_parts.specs.Parts.{Val, mark_at, local_at, global_at, value_at, allowed_type_at, is_value_type, name_if_any}

-- an element, and further ones as long as the separator stands behind the last; at most `count`
unfoldable pub at_most_at : {A : Type 0} → (List Tok → Found A) → (List Tok → Bool) → ℕ → List Tok → Found (List A)
at_most_at element goes_on zero ts = None
at_most_at element goes_on (suc count) ts = after (element ts) (λ x rest.
    if goes_on rest then after (at_most_at element goes_on count (past (is_mark (codes ",")) rest)) (λ xs end. Some (x ∷ xs, end))
    else Some (x ∷ [], rest))

-- one or more elements with commas between them: no more can stand than there are tokens
unfoldable pub listed_at : {A : Type 0} → (List Tok → Found A) → (List Tok → Bool) → List Tok → Found (List A)
listed_at element goes_on ts = at_most_at element goes_on (length ts) ts

abbrev pub comma : List Tok → Bool
comma ts = begins (is_mark (codes ",")) ts

-- no element, where the closing mark stands, or a list
unfoldable pub list_to : {A : Type 0} → (List Tok → Found A) → List ℕ → List Tok → Found (List A)
list_to element closing ts = if begins (is_mark closing) ts then Some ([], ts) else listed_at element comma ts

-- ---- fields

abbrev pub fields_at : List Tok → Found (List TypeWord)
fields_at ts = list_to (allowed_type_at is_value_type) (codes "}") ts

-- ---- arguments of a head

pub record Named : Type 0 where
  pub ty : TypeWord
  pub name : Option (List ℕ)

-- a type, or `ptr` where it may stand
abbrev pub is_argument_type : Bool → TypeWord → Bool
is_argument_type plain types.Plain = plain
is_argument_type plain ty = is_value_type ty

unfoldable pub argument_at : Bool → List Tok → Found Named
argument_at plain ts = after (allowed_type_at (is_argument_type plain) ts) (λ ty ts.
    let named = name_if_any (past_all drops.Groups ts) in Some (record { ty = ty; name = named.0 }, named.1))

abbrev pub arguments_at : Bool → List Tok → Found (List Named)
arguments_at plain ts = list_to (argument_at plain) (codes ")") ts

abbrev pub is_task_start : List ℕ → Bool
is_task_start name = bytes_eq name (codes "task_start")

-- a head's name and arguments; `ptr` stands for the function of `task_start` alone
unfoldable pub head_at : Bool → List Tok → Found (List ℕ × List Named)
head_at declared ts = after (global_at ts) (λ name ts. after (mark_at (codes "(") ts) (λ _ ts.
    after (arguments_at (declared && is_task_start name) ts) (λ arguments ts. after (mark_at (codes ")") ts) (λ _ ts.
    Some ((name, arguments), ts)))))

-- ---- what a call passes

pub data Given : Type 0 where
  given : TypeWord → Val → Given
  function : List ℕ → Given

abbrev pub given_behind : TypeWord → List Tok → Found Given
given_behind types.Plain ts = after (global_at ts) (λ name ts. Some (function name, ts))
given_behind ty ts = after (value_at ts) (λ value ts. Some (given ty value, ts))

unfoldable pub passed_at : Bool → List Tok → Found Given
passed_at plain ts = after (allowed_type_at (is_argument_type plain) ts) (λ ty ts. given_behind ty (past_all drops.Groups ts))

abbrev pub all_passed_at : Bool → List Tok → Found (List Given)
all_passed_at plain ts = list_to (passed_at plain) (codes ")") ts

-- the function that a call names, and what it passes
unfoldable pub called_at : List Tok → Found (List ℕ × List Given)
called_at ts = after (global_at ts) (λ name ts. after (mark_at (codes "(") ts) (λ _ ts.
    after (all_passed_at (is_task_start name) ts) (λ passed ts. after (mark_at (codes ")") ts) (λ _ ts.
    Some ((name, passed), ts)))))

-- ---- entries of a phi

unfoldable pub entry_at : List Tok → Found (Val × List ℕ)
entry_at ts = after (mark_at (codes "[") ts) (λ _ ts. after (value_at ts) (λ value ts. after (mark_at (codes ",") ts) (λ _ ts.
    after (local_at ts) (λ label ts. after (mark_at (codes "]") ts) (λ _ ts. Some ((value, label), ts))))))

-- another entry follows
abbrev pub begins_entry : List Tok → Bool
begins_entry (t ∷ u ∷ ts) = is_mark (codes ",") t && is_mark (codes "[") u
begins_entry _ = false

abbrev pub entries_at : List Tok → Found (List (Val × List ℕ))
entries_at ts = listed_at entry_at begins_entry ts
