-- The reading of a line's words, word by word.
use Rattle.std.specs.Prelude.{ℕ, ◌+◌, ◌*◌, ◌^◌, Bool, true, false, ◌==◌, ◌&&◌, nat_lt, if◌then◌else◌, List, [], ◌∷◌, codes, Option, Some, None, option_map, option_and_then}
use Rattle.std.specs.Str.{bytes_eq}
use Rattle.std.specs.Char.{digit_value}
use Rattle.sp_text.specs.Bytes.{zero_digit}
use Rattle.move_plan.specs.declared.plan_lines.PlanLine.{PlanLine}
use Rattle.move_plan.specs.declared.plan_lines.PlanLine.TheVariants.{Every, Move, Flip, Go}

-- a digit behind those that spell n, where the number has 64 bits
abbrev pub with_digit : ℕ → ℕ → Option ℕ
with_digit n c = if nat_lt (digit_value c) 10 && nat_lt (n * 10 + digit_value c) (2 ^ 64) then Some (n * 10 + digit_value c) else None

-- digits behind those that spell n
unfoldable pub numeral_after : ℕ → List ℕ → Option ℕ
numeral_after n [] = Some n
numeral_after n (c ∷ cs) = option_and_then (λ m. numeral_after m cs) (with_digit n c)

-- the number that one or more digits spell, where it has 64 bits
abbrev pub numeral_of : List ℕ → Option ℕ
numeral_of [] = None
numeral_of (c ∷ cs) = numeral_after 0 (c ∷ cs)

-- the same without leading zeros
abbrev pub number_of : List ℕ → Option ℕ
number_of [] = None
number_of (c ∷ []) = numeral_of (c ∷ [])
number_of (c ∷ d ∷ more) = if c == zero_digit then None else numeral_of (c ∷ d ∷ more)

abbrev pub positive : ℕ → Option ℕ
positive n = if n == 0 then None else Some n

abbrev pub count_of : List ℕ → Option ℕ
count_of word = option_and_then positive (number_of word)

-- the last word is this one
abbrev pub is_last : List ℕ → List (List ℕ) → Bool
is_last word (one ∷ []) = bytes_eq one word
is_last word _ = false

-- the last word is a number
abbrev pub last_number : List (List ℕ) → Option ℕ
last_number (word ∷ []) = number_of word
last_number _ = None

abbrev pub only_if : Bool → PlanLine → Option PlanLine
only_if holds what = if holds then Some what else None

-- behind `every`
abbrev pub decoded_every : List (List ℕ) → Option PlanLine
decoded_every [] = None
decoded_every (period ∷ more) = option_and_then (λ n. only_if (is_last (codes "flip") more) (Every n)) (count_of period)

-- behind `at K move`
abbrev pub decoded_move : ℕ → List (List ℕ) → Option PlanLine
decoded_move event (obj ∷ to ∷ more) =
    if bytes_eq to (codes "to") then option_and_then (λ o. option_map (λ a. Move event o a) (last_number more)) (number_of obj) else None
decoded_move event _ = None

abbrev pub decoded_go : ℕ → List (List ℕ) → Option PlanLine
decoded_go event more = option_map (λ task. Go event task) (last_number more)

abbrev pub is_none : List (List ℕ) → Bool
is_none [] = true
is_none (word ∷ more) = false

-- behind `at K`
abbrev pub decoded_verb : ℕ → List (List ℕ) → Option PlanLine
decoded_verb event [] = None
decoded_verb event (verb ∷ more) =
    if bytes_eq verb (codes "move") then decoded_move event more
    else if bytes_eq verb (codes "flip") then only_if (is_none more) (Flip event)
    else if bytes_eq verb (codes "go") then decoded_go event more
    else None

-- behind `at`
abbrev pub decoded_at : List (List ℕ) → Option PlanLine
decoded_at [] = None
decoded_at (event ∷ more) = option_and_then (λ n. decoded_verb n more) (count_of event)

abbrev pub decoded : List (List ℕ) → Option PlanLine
decoded [] = None
decoded (first ∷ more) =
    if bytes_eq first (codes "every") then decoded_every more
    else if bytes_eq first (codes "at") then decoded_at more
    else None
