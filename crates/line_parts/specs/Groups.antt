-- The parts of lines of statepoint groups: numbers, what a statepoint takes, results, declarations.
use Rattle.std.specs.Prelude.{ℕ, Bool, true, false, ◌&&◌, ◌||◌, not, List, [], ◌∷◌, Option, Some, None, is_some, option_map, codes, if◌then◌else◌}
use Rattle.std.specs.List.{list_all}
use Rattle.std.specs.Str.{bytes_eq}
use Rattle.sp_text.specs.Tokens.{Tok, tok}
use Rattle.sp_text.specs.declared.tokens.Kind.TheVariants as kinds
use Rattle.line_parts.specs.Types.{TypeWord}
use Rattle.line_parts.specs.Types as types
use Rattle.line_tokens.specs.declared.literals.Literal.{Literal}
use Rattle.line_tokens.specs.declared.words.Dropped.TheVariants as drops
use Rattle.line_parts.specs.Gives.{Found, after, one_at}
use Rattle.line_tokens.specs.Marks.{is_mark, is_word, global_of, stands, begins}
use Rattle.line_parts.specs.Drops.{after_bracket, past_all, past}
use Rattle.line_parts.specs.Parts.{word_at, mark_at, local_at, global_at, literal_at, allowed_type_at, is_value_type, is_answer_type}
use Rattle.line_parts.specs.Lists.{Given, function, comma, list_to, listed_at, is_argument_type, is_task_start, passed_at}
use Rattle.line_tokens.specs.Families.{is_family_name, is_result_of}

-- ---- numbers

-- a type, then a number
unfoldable pub number_at : List ℕ → List Tok → Found Literal
number_at of_type ts = after (word_at of_type ts) (λ _ ts. literal_at (past_all drops.Groups ts))

-- the number 0
abbrev pub is_zero : Tok → Bool
is_zero (tok kinds.Number bytes) = bytes_eq bytes (codes "0")
is_zero _ = false

-- `i32 0`
unfoldable pub zero_at : List Tok → Found (Unit {0})
zero_at ts = after (word_at (codes "i32") ts) (λ _ ts. one_at (stands is_zero) (past_all drops.Groups ts))

-- `token %t`
unfoldable pub token_at : List Tok → Found (List ℕ)
token_at ts = after (word_at (codes "token") ts) (λ _ ts. local_at (past_all drops.Groups ts))

-- ---- what a statepoint calls

-- the parameters of a function type
abbrev pub types_at : List Tok → Found (List TypeWord)
types_at ts = list_to (allowed_type_at (is_argument_type true)) (codes ")") ts

-- ---- what a statepoint passes

-- `, i32 0, i32 0)`, the end
unfoldable pub closing_at : List Tok → Found (Unit {0})
closing_at ts = after (mark_at (codes ",") ts) (λ _ ts. after (zero_at ts) (λ _ ts. after (mark_at (codes ",") ts) (λ _ ts.
    after (zero_at ts) (λ _ ts. mark_at (codes ")") ts))))

-- an argument follows, and not the end
abbrev pub begins_argument : List Tok → Bool
begins_argument ts = comma ts && not (is_some (closing_at ts))

-- the arguments, a comma before each
unfoldable pub handed_at : List Tok → Found (List Given)
handed_at ts = if begins_argument ts then listed_at (passed_at true) begins_argument (past (is_mark (codes ",")) ts) else Some ([], ts)

-- no function
abbrev pub is_value_given : Given → Bool
is_value_given (function name) = false
is_value_given _ = true

-- `ptr` stands in the type and among the arguments of `task_start` alone
abbrev pub takes_own : List ℕ → List TypeWord → List Given → Bool
takes_own callee parameters passed = is_task_start callee || (list_all (is_argument_type false) parameters && list_all is_value_given passed)

-- ---- results

-- the end of a result's name: how the type is spelled, of which these are the tokens
abbrev pub suffix_of : TypeWord → List Tok → List ℕ
suffix_of types.Managed ts = codes "p1"
suffix_of ty (tok kind bytes ∷ ts) = bytes
suffix_of ty _ = []

abbrev pub named_result : TypeWord → List ℕ → List ℕ → List Tok → Found TypeWord
named_result ty suffix name ts = if is_result_of suffix name then Some (ty, ts) else None

-- `T @llvm.experimental.gc.result.S`, S the spelling of T
unfoldable pub result_at : List Tok → Found TypeWord
result_at ts = after (allowed_type_at is_value_type ts) (λ ty rest. after (global_at rest) (λ name end. named_result ty (suffix_of ty ts) name end))

-- ---- declarations of the three families

abbrev pub is_family : Option (List ℕ) → Bool
is_family None = false
is_family (Some name) = is_family_name name

abbrev pub declares_family : Tok → Bool
declares_family t = is_family (global_of t)

-- `token`, or what a function answers else
unfoldable pub family_answer_at : List Tok → Found (Option TypeWord)
family_answer_at ts = if begins (is_word (codes "token")) ts then after (word_at (codes "token") ts) (λ _ rest. Some (None, rest))
    else after (allowed_type_at is_answer_type ts) (λ answer rest. Some (Some answer, rest))

-- any tokens in parentheses, which are balanced
unfoldable pub bracketing_at : List Tok → Found (Unit {0})
bracketing_at ts = after (mark_at (codes "(") ts) (λ _ rest. option_map (λ end. (tt, end)) (after_bracket 0 rest))
