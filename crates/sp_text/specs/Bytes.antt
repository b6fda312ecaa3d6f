-- The bytes that lines and tokens are made of (LLVM Language Reference, "Identifiers").
use Rattle.std.specs.Prelude.{ℕ, Bool, ◌==◌, ◌||◌, List, drop, codes}
use Rattle.std.specs.List.{list_any, prefix_len}
use Rattle.std.specs.Char.{is_ascii_alphabetic, is_ascii_digit}

-- the marks with a meaning of their own
abbrev pub bang : ℕ
bang = 33

abbrev pub quote : ℕ
quote = 34

abbrev pub hash : ℕ
hash = 35

abbrev pub dollar : ℕ
dollar = 36

abbrev pub percent : ℕ
percent = 37

abbrev pub minus : ℕ
minus = 45

abbrev pub dot : ℕ
dot = 46

abbrev pub zero_digit : ℕ
zero_digit = 48

abbrev pub colon : ℕ
colon = 58

abbrev pub semicolon : ℕ
semicolon = 59

abbrev pub at_sign : ℕ
at_sign = 64

abbrev pub underscore : ℕ
underscore = 95

-- a space or a tab
abbrev pub is_blank : ℕ → Bool
is_blank b = b == 32 || b == 9

-- what follows the blanks
abbrev pub after_blanks : List ℕ → List ℕ
after_blanks bs = drop (prefix_len is_blank bs) bs

-- a letter or `_`
abbrev pub begins_word : ℕ → Bool
begins_word b = is_ascii_alphabetic b || b == underscore

-- a letter, a digit, `_` or `.`
abbrev pub in_word : ℕ → Bool
in_word b = begins_word b || is_ascii_digit b || b == dot

-- one of `[-a-zA-Z$._]`
abbrev pub begins_name : ℕ → Bool
begins_name b = is_ascii_alphabetic b || b == minus || b == dollar || b == dot || b == underscore

-- one of `[-a-zA-Z$._0-9]`
abbrev pub in_name : ℕ → Bool
in_name b = begins_name b || is_ascii_digit b

-- one of `( ) { } [ ] , = : *`
abbrev pub is_mark : ℕ → Bool
is_mark b = list_any (λ mark. b == mark) (codes "(){}[],=:*")
