-- What `parse` says of a word of digits, and the number that such a word gives.
use Rattle.std.proofs.Common.{◌≡◌, ℕ, ◌<◌, ◌^◌, List, length, None, Err, true, rules, arith}
use Rattle.std.proofs.lemmas.Bool.Decides.{nat_tests}
use Rattle.std.proofs.lemmas.Str.Parse.{IsNumeralModel, numerals_by_value, parse_digits}
use Rattle.std.specs.List.{list_all}
use Rattle.std.specs.Char.{is_ascii_digit}
use Rattle.std.specs.Str.Parse.{digits_value, ParsesUnsigned}
use Rattle.tool_words.specs.Words.{number_in}

digits : IsNumeralModel (λ ds. list_all is_ascii_digit ds ≡ true) (digits_value 10)
digits = numerals_by_value _ (search rules)

above_words : (least most : ℕ) (word : List ℕ) → most < 2 ^ 64 → ¬ ((0 < length word) × (digits_value 10 word < 2 ^ 64)) → None ≡ number_in least most word
above_words least most word below unparsed = grind (arith, nat_tests)

-- digits that are too large for a word of 64 bits give no number
pub number_in-unparsed : {E : Type 0} (least most : ℕ) (word : List ℕ) (error : E) → most < 2 ^ 64 → ParsesUnsigned 64 10 word (Err error) →
    list_all is_ascii_digit word ≡ true → None ≡ number_in least most word
number_in-unparsed least most word error below parsed all = above_words least most word below (parse_digits digits 64 word (Err error) parsed all)
