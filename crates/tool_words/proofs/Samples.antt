-- The definition on worked words.
use Rattle.std.proofs.Common.{◌≡◌, [], ◌∷◌, Some, None, true, false, codes, refl}
use Rattle.tool_words.specs.Words.{command_of, parts_of, of_module, of_numbers, of_run, of_parts}
use Rattle.tool_words.specs.declared.request.Command.TheVariants.{Show, Rewrite, Check, Source, Run, Exec, Gen}
use Rattle.tool_words.specs.declared.request.Part.TheVariants.{MapBytes}

show_one : command_of (codes "statepoint" ∷ codes "show" ∷ codes "m" ∷ []) ≡ Some (Show (codes "m"))
unfolding command_of parts_of of_module of_numbers of_run of_parts
show_one = refl

dash_is_a_file : command_of (codes "statepoint" ∷ codes "show" ∷ codes "-" ∷ []) ≡ Some (Show (codes "-"))
unfolding command_of parts_of of_module of_numbers of_run of_parts
dash_is_a_file = refl

file_like_an_option : command_of (codes "statepoint" ∷ codes "show" ∷ codes "-m" ∷ []) ≡ None
unfolding command_of parts_of of_module of_numbers of_run of_parts
file_like_an_option = refl

behind_dashes_it_is_a_file : command_of (codes "statepoint" ∷ codes "show" ∷ codes "--" ∷ codes "-m" ∷ []) ≡ Some (Show (codes "-m"))
unfolding command_of parts_of of_module of_numbers of_run of_parts
behind_dashes_it_is_a_file = refl

dashes_behind_dashes : command_of (codes "statepoint" ∷ codes "show" ∷ codes "--" ∷ codes "--" ∷ []) ≡ Some (Show (codes "--"))
unfolding command_of parts_of of_module of_numbers of_run of_parts
dashes_behind_dashes = refl

dashes_at_the_end : command_of (codes "statepoint" ∷ codes "check" ∷ codes "m" ∷ codes "--" ∷ []) ≡ Some (Check (codes "m"))
unfolding command_of parts_of of_module of_numbers of_run of_parts
dashes_at_the_end = refl

empty_word : command_of (codes "statepoint" ∷ codes "show" ∷ codes "" ∷ []) ≡ None
unfolding command_of parts_of of_module of_numbers of_run of_parts
empty_word = refl

raw_first : command_of (codes "statepoint" ∷ codes "maps" ∷ codes "--raw" ∷ codes "m" ∷ []) ≡ Some (Rewrite (codes "m") MapBytes)
unfolding command_of parts_of of_module of_numbers of_run of_parts
raw_first = refl

raw_last : command_of (codes "statepoint" ∷ codes "maps" ∷ codes "m" ∷ codes "--raw" ∷ []) ≡ Some (Rewrite (codes "m") MapBytes)
unfolding command_of parts_of of_module of_numbers of_run of_parts
raw_last = refl

raw_twice : command_of (codes "statepoint" ∷ codes "maps" ∷ codes "--raw" ∷ codes "m" ∷ codes "--raw" ∷ []) ≡ None
unfolding command_of parts_of of_module of_numbers of_run of_parts
raw_twice = refl

raw_elsewhere : command_of (codes "statepoint" ∷ codes "rewrite" ∷ codes "m" ∷ codes "--raw" ∷ []) ≡ None
unfolding command_of parts_of of_module of_numbers of_run of_parts
raw_elsewhere = refl

plain_run : command_of (codes "statepoint" ∷ codes "run" ∷ codes "m" ∷ codes "i" ∷ codes "p" ∷ codes "7" ∷ []) ≡ Some (Run (record { code = codes "m"; input = codes "i"; plan = codes "p"; steps = 7 }) None false false)
unfolding command_of parts_of of_module of_numbers of_run of_parts
plain_run = refl

options_between : command_of (codes "statepoint" ∷ codes "run" ∷ codes "m" ∷ codes "--places" ∷ codes "i" ∷ codes "p" ∷ codes "--trace" ∷ codes "7" ∷ []) ≡ Some (Run (record { code = codes "m"; input = codes "i"; plan = codes "p"; steps = 7 }) None true true)
unfolding command_of parts_of of_module of_numbers of_run of_parts
options_between = refl

map_and_a_file : command_of (codes "statepoint" ∷ codes "run" ∷ codes "--map" ∷ codes "x" ∷ codes "m" ∷ codes "i" ∷ codes "p" ∷ codes "7" ∷ []) ≡ Some (Run (record { code = codes "m"; input = codes "i"; plan = codes "p"; steps = 7 }) (Some (codes "x")) false false)
unfolding command_of parts_of of_module of_numbers of_run of_parts
map_and_a_file = refl

map_and_dash : command_of (codes "statepoint" ∷ codes "run" ∷ codes "m" ∷ codes "i" ∷ codes "p" ∷ codes "7" ∷ codes "--map" ∷ codes "-" ∷ []) ≡ Some (Run (record { code = codes "m"; input = codes "i"; plan = codes "p"; steps = 7 }) (Some (codes "-")) false false)
unfolding command_of parts_of of_module of_numbers of_run of_parts
map_and_dash = refl

map_and_option : command_of (codes "statepoint" ∷ codes "run" ∷ codes "m" ∷ codes "i" ∷ codes "p" ∷ codes "7" ∷ codes "--map" ∷ codes "-x" ∷ []) ≡ None
unfolding command_of parts_of of_module of_numbers of_run of_parts
map_and_option = refl

map_and_dashes : command_of (codes "statepoint" ∷ codes "run" ∷ codes "m" ∷ codes "i" ∷ codes "p" ∷ codes "7" ∷ codes "--map" ∷ codes "--" ∷ []) ≡ None
unfolding command_of parts_of of_module of_numbers of_run of_parts
map_and_dashes = refl

map_at_the_end : command_of (codes "statepoint" ∷ codes "run" ∷ codes "m" ∷ codes "i" ∷ codes "p" ∷ codes "7" ∷ codes "--map" ∷ []) ≡ None
unfolding command_of parts_of of_module of_numbers of_run of_parts
map_at_the_end = refl

map_is : command_of (codes "statepoint" ∷ codes "run" ∷ codes "m" ∷ codes "i" ∷ codes "p" ∷ codes "7" ∷ codes "--map=x" ∷ []) ≡ Some (Run (record { code = codes "m"; input = codes "i"; plan = codes "p"; steps = 7 }) (Some (codes "x")) false false)
unfolding command_of parts_of of_module of_numbers of_run of_parts
map_is = refl

map_is_option : command_of (codes "statepoint" ∷ codes "run" ∷ codes "m" ∷ codes "i" ∷ codes "p" ∷ codes "7" ∷ codes "--map=-x" ∷ []) ≡ Some (Run (record { code = codes "m"; input = codes "i"; plan = codes "p"; steps = 7 }) (Some (codes "-x")) false false)
unfolding command_of parts_of of_module of_numbers of_run of_parts
map_is_option = refl

map_is_equals : command_of (codes "statepoint" ∷ codes "run" ∷ codes "m" ∷ codes "i" ∷ codes "p" ∷ codes "7" ∷ codes "--map==" ∷ []) ≡ Some (Run (record { code = codes "m"; input = codes "i"; plan = codes "p"; steps = 7 }) (Some (codes "=")) false false)
unfolding command_of parts_of of_module of_numbers of_run of_parts
map_is_equals = refl

map_is_nothing : command_of (codes "statepoint" ∷ codes "run" ∷ codes "m" ∷ codes "i" ∷ codes "p" ∷ codes "7" ∷ codes "--map=" ∷ []) ≡ None
unfolding command_of parts_of of_module of_numbers of_run of_parts
map_is_nothing = refl

map_and_nothing : command_of (codes "statepoint" ∷ codes "run" ∷ codes "m" ∷ codes "i" ∷ codes "p" ∷ codes "7" ∷ codes "--map" ∷ codes "" ∷ []) ≡ None
unfolding command_of parts_of of_module of_numbers of_run of_parts
map_and_nothing = refl

map_twice : command_of (codes "statepoint" ∷ codes "run" ∷ codes "m" ∷ codes "i" ∷ codes "p" ∷ codes "7" ∷ codes "--map" ∷ codes "x" ∷ codes "--map=x" ∷ []) ≡ None
unfolding command_of parts_of of_module of_numbers of_run of_parts
map_twice = refl

option_with_a_value : command_of (codes "statepoint" ∷ codes "run" ∷ codes "m" ∷ codes "i" ∷ codes "p" ∷ codes "7" ∷ codes "--places=1" ∷ []) ≡ None
unfolding command_of parts_of of_module of_numbers of_run of_parts
option_with_a_value = refl

option_twice : command_of (codes "statepoint" ∷ codes "run" ∷ codes "--trace" ∷ codes "m" ∷ codes "i" ∷ codes "p" ∷ codes "7" ∷ codes "--trace" ∷ []) ≡ None
unfolding command_of parts_of of_module of_numbers of_run of_parts
option_twice = refl

trust_of_run : command_of (codes "statepoint" ∷ codes "run" ∷ codes "m" ∷ codes "i" ∷ codes "p" ∷ codes "7" ∷ codes "--trust" ∷ []) ≡ None
unfolding command_of parts_of of_module of_numbers of_run of_parts
trust_of_run = refl

all_of_exec : command_of (codes "statepoint" ∷ codes "exec" ∷ codes "--trust" ∷ codes "m" ∷ codes "--map" ∷ codes "x" ∷ codes "i" ∷ codes "--places" ∷ codes "p" ∷ codes "--trace" ∷ codes "7" ∷ []) ≡ Some (Exec (record { code = codes "m"; input = codes "i"; plan = codes "p"; steps = 7 }) (Some (codes "x")) true true true)
unfolding command_of parts_of of_module of_numbers of_run of_parts
all_of_exec = refl

option_behind_dashes : command_of (codes "statepoint" ∷ codes "run" ∷ codes "m" ∷ codes "i" ∷ codes "p" ∷ codes "7" ∷ codes "--" ∷ codes "--places" ∷ []) ≡ None
unfolding command_of parts_of of_module of_numbers of_run of_parts
option_behind_dashes = refl

dashes_before_the_command : command_of (codes "statepoint" ∷ codes "--" ∷ codes "run" ∷ codes "m" ∷ codes "i" ∷ codes "p" ∷ codes "7" ∷ []) ≡ None
unfolding command_of parts_of of_module of_numbers of_run of_parts
dashes_before_the_command = refl

option_before_the_command : command_of (codes "statepoint" ∷ codes "--places" ∷ codes "run" ∷ codes "m" ∷ codes "i" ∷ codes "p" ∷ codes "7" ∷ []) ≡ None
unfolding command_of parts_of of_module of_numbers of_run of_parts
option_before_the_command = refl

help : command_of (codes "statepoint" ∷ codes "run" ∷ codes "--help" ∷ []) ≡ None
unfolding command_of parts_of of_module of_numbers of_run of_parts
help = refl

one_word_more : command_of (codes "statepoint" ∷ codes "run" ∷ codes "m" ∷ codes "i" ∷ codes "p" ∷ codes "7" ∷ codes "7" ∷ []) ≡ None
unfolding command_of parts_of of_module of_numbers of_run of_parts
one_word_more = refl

most_steps : command_of (codes "statepoint" ∷ codes "source" ∷ codes "m" ∷ codes "i" ∷ codes "p" ∷ codes "1000000000000" ∷ []) ≡ Some (Source (record { code = codes "m"; input = codes "i"; plan = codes "p"; steps = 1000000000000 }))
unfolding command_of parts_of of_module of_numbers of_run of_parts
most_steps = refl

too_many_steps : command_of (codes "statepoint" ∷ codes "source" ∷ codes "m" ∷ codes "i" ∷ codes "p" ∷ codes "1000000000001" ∷ []) ≡ None
unfolding command_of parts_of of_module of_numbers of_run of_parts
too_many_steps = refl

digits_20 : command_of (codes "statepoint" ∷ codes "gen" ∷ codes "00000000000000000000" ∷ codes "00000000000000000001" ∷ codes "00000000000000001000" ∷ []) ≡ Some (Gen 0 1 1000)
unfolding command_of parts_of of_module of_numbers of_run of_parts
digits_20 = refl

digits_21 : command_of (codes "statepoint" ∷ codes "gen" ∷ codes "000000000000000000000" ∷ codes "1" ∷ codes "1000" ∷ []) ≡ None
unfolding command_of parts_of of_module of_numbers of_run of_parts
digits_21 = refl

greatest_seed : command_of (codes "statepoint" ∷ codes "gen" ∷ codes "18446744073709551615" ∷ codes "1000" ∷ codes "0" ∷ []) ≡ Some (Gen 18446744073709551615 1000 0)
unfolding command_of parts_of of_module of_numbers of_run of_parts
greatest_seed = refl

seed_of_65_bits : command_of (codes "statepoint" ∷ codes "gen" ∷ codes "18446744073709551616" ∷ codes "1" ∷ codes "0" ∷ []) ≡ None
unfolding command_of parts_of of_module of_numbers of_run of_parts
seed_of_65_bits = refl

size_0 : command_of (codes "statepoint" ∷ codes "gen" ∷ codes "0" ∷ codes "0" ∷ codes "0" ∷ []) ≡ None
unfolding command_of parts_of of_module of_numbers of_run of_parts
size_0 = refl

size_1001 : command_of (codes "statepoint" ∷ codes "gen" ∷ codes "0" ∷ codes "1001" ∷ codes "0" ∷ []) ≡ None
unfolding command_of parts_of of_module of_numbers of_run of_parts
size_1001 = refl

sign : command_of (codes "statepoint" ∷ codes "gen" ∷ codes "+1" ∷ codes "1" ∷ codes "1" ∷ []) ≡ None
unfolding command_of parts_of of_module of_numbers of_run of_parts
sign = refl

sign_behind_dashes : command_of (codes "statepoint" ∷ codes "gen" ∷ codes "--" ∷ codes "-1" ∷ codes "1" ∷ codes "1" ∷ []) ≡ None
unfolding command_of parts_of of_module of_numbers of_run of_parts
sign_behind_dashes = refl

no_command : command_of (codes "statepoint" ∷ []) ≡ None
unfolding command_of parts_of of_module of_numbers of_run of_parts
no_command = refl

no_words : command_of ([]) ≡ None
unfolding command_of parts_of of_module of_numbers of_run of_parts
no_words = refl
