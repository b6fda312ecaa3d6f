-- The size of a generated module that words ask for.
use Rattle.std.proofs.Common.{◌≡◌, ◌≤◌, ℕ, Bool, true, false, cond, List, [], ◌∷◌, length, Option, Some, None, codes, refl, subst, arith}
use Rattle.std.specs.Prelude.{◌&&◌, nat_le, option_map, option_and_then}
use Rattle.std.specs.List.{list_all}
use Rattle.std.specs.Char.{is_ascii_digit}
use Rattle.std.specs.Str.{bytes_eq}
use Rattle.std.specs.Str.Parse.{digits_value}
use Rattle.std.proofs.lemmas.Bool.Decides.{nat_tests}
use Rattle.tool_words.specs.Words.{Given, Parts, are_sound, command_of, has_option, number_in, of_module, of_numbers, of_parts, of_run, of_words, options_of, parts_of, request_of, seed_of, size_of, steps_of}
use Rattle.tool_words.specs.declared.request.Command.{Command}
use Rattle.tool_words.specs.declared.request.Command.TheVariants.{Gen}
use Rattle.tool_words.specs.declared.request.RunRequest.{RunRequest}

-- a command that generates does so in a size from 1 to 1,000
abbrev FitsSize : Option Command → Type 0
FitsSize (Some (Gen seed size steps)) = (1 ≤ size) × (size ≤ 1000)
FitsSize command = Unit {0}

fits_if : (test : Bool) (one other : Option Command) → FitsSize one → FitsSize other → FitsSize (cond test one other)
fits_if true one other p q = p
fits_if false one other p q = q

fits_then : {A : Type 0} (next : A → Option Command) (first : Option A) → ((value : A) → first ≡ Some value → FitsSize (next value)) → FitsSize (option_and_then next first)
fits_then next (Some value) fits = fits value refl
fits_then next None fits = tt {0}

tested : (least most value number : ℕ) (test : Bool) → (test ≡ true → (least ≤ value) × (value ≤ most)) → cond test (Some value) None ≡ Some number → (least ≤ number) × (number ≤ most)
tested least most value number true within is = let same : value ≡ number = cc in subst (λ (n : ℕ). (least ≤ n) × (n ≤ most)) same (within refl)
tested least most value number false within is = cc

all_tests : (least most : ℕ) (word : List ℕ) → (nat_le 1 (length word) && nat_le (length word) 20 && list_all is_ascii_digit word && nat_le least (digits_value 10 word) && nat_le (digits_value 10 word) most) ≡ true
    → (least ≤ digits_value 10 word) × (digits_value 10 word ≤ most)
all_tests least most word is = (grind (arith, nat_tests), grind (arith, nat_tests))

in_range : (least most : ℕ) (word : List ℕ) (number : ℕ) → number_in least most word ≡ Some number → (least ≤ number) × (number ≤ most)
in_range least most word number is = tested least most (digits_value 10 word) number _ (all_tests least most word) is

fits_map : (seed size : ℕ) (steps : Option ℕ) → (1 ≤ size) × (size ≤ 1000) → FitsSize (option_map (Gen seed size) steps)
fits_map seed size (Some steps) within = within
fits_map seed size None within = tt {0}

fits_numbers : (name seed size steps : List ℕ) → FitsSize (of_numbers name seed size steps)
unfolding of_numbers
fits_numbers name seed size steps =
    fits_if (bytes_eq name (codes "gen")) _ None
    (fits_then _ (seed_of seed) (λ drawn one. fits_then _ (size_of size) (λ large is. fits_map drawn large (steps_of steps) (in_range 1 1000 size large is)))) (tt {0})

fits_module : (name : List ℕ) (options : List Given) (module_file : List ℕ) → FitsSize (of_module name (options_of options) module_file)
unfolding of_module
fits_module name options module_file =
    fits_if (bytes_eq name (codes "show")) _ _ (tt {0})
    (fits_if (bytes_eq name (codes "rewrite")) _ _ (tt {0})
    (fits_if (bytes_eq name (codes "maps")) _ _ (tt {0}) (fits_if (bytes_eq name (codes "check")) _ None (tt {0}) (tt {0}))))

fits_run : (name : List ℕ) (options : List Given) (request : RunRequest) → FitsSize (of_run name (options_of options) request)
unfolding of_run
fits_run name options request =
    fits_if (bytes_eq name (codes "source")) _ _ (tt {0})
    (fits_if (bytes_eq name (codes "run")) _ _ (tt {0}) (fits_if (bytes_eq name (codes "exec")) _ None (tt {0}) (tt {0})))

fits_words : (name : List ℕ) (options : List Given) (positional : List (List ℕ)) → FitsSize (of_words name (options_of options) positional)
fits_words name options [] = tt {0}
fits_words name options (module_file ∷ []) = fits_module name options module_file
fits_words name options (one ∷ other ∷ []) = tt {0}
fits_words name options (seed ∷ size ∷ steps ∷ []) = fits_numbers name seed size steps
fits_words name options (code ∷ input ∷ plan ∷ steps ∷ []) = fits_then (of_run name (options_of options)) (request_of code input plan steps) (λ request is. fits_run name options request)
fits_words name options (one ∷ two ∷ three ∷ four ∷ five ∷ more) = tt {0}

fits_parts : (name : List ℕ) (parts : Parts) → FitsSize (of_parts name parts)
unfolding of_parts
fits_parts name parts = fits_if (are_sound parts && list_all (has_option name) parts.options) _ None (fits_words name parts.options parts.positional) (tt {0})

fits_command : (words : List (List ℕ)) → FitsSize (command_of words)
unfolding command_of
fits_command [] = tt {0}
fits_command (program ∷ []) = tt {0}
fits_command (program ∷ name ∷ words) = fits_then (of_parts name) (parts_of words) (λ parts is. fits_parts name parts)

pub size_fits : (words : List (List ℕ)) (seed size steps : ℕ) → command_of words ≡ Some (Gen seed size steps) → (1 ≤ size) × (size ≤ 1000)
size_fits words seed size steps is = subst FitsSize is (fits_command words)
