-- Which words give which command.
use Rattle.std.specs.Prelude.{ℕ, Bool, true, false, not, ◌&&◌, ◌||◌, ◌==◌, nat_le, nat_lt, if◌then◌else◌, List, [], ◌∷◌, length, take, drop, Option, Some, None, option_map, option_and_then, codes}
use Rattle.std.specs.List.{list_all, list_any}
use Rattle.std.specs.Char.{is_ascii_digit}
use Rattle.std.specs.Str.{bytes_eq}
use Rattle.std.specs.Str.Parse.{digits_value}
use Rattle.tool_words.specs.declared.request.Part.TheVariants.{Text, MapText, MapBytes}
use Rattle.tool_words.specs.declared.request.RunRequest.{RunRequest}
use Rattle.tool_words.specs.declared.request.Options.{Options}
use Rattle.tool_words.specs.declared.request.Command.{Command}
use Rattle.tool_words.specs.declared.request.Command.TheVariants.{Show, Rewrite, Check, Source, Run, Exec, Gen}

-- ---- positional words and options

-- an option, as words give it; `--map` names a file
pub data Given : Type 0 where
  raw : Given
  places : Given
  trace : Given
  trust : Given
  map_in : List ℕ → Given

-- what the words behind a command's name are: its positional words and its options, each in their order
pub record Parts : Type 0 where
  pub positional : List (List ℕ)
  pub options : List Given

abbrev pub with_positional : List ℕ → Parts → Parts
with_positional word parts = record parts { positional = word ∷ parts.positional }

abbrev pub with_option : Given → Parts → Parts
with_option given parts = record parts { options = given ∷ parts.options }

-- a word that stands for itself: it is `-`, or doesn't begin with `-`
abbrev pub is_plain : List ℕ → Bool
is_plain [] = true
is_plain (byte ∷ []) = true
is_plain (byte ∷ next ∷ rest) = not (byte == 45)

-- the option that a word gives alone: its name, or `--map=` and the name of a file
abbrev pub option_of : List ℕ → Option Given
option_of word =
    if bytes_eq word (codes "--raw") then Some raw
    else if bytes_eq word (codes "--places") then Some places
    else if bytes_eq word (codes "--trace") then Some trace
    else if bytes_eq word (codes "--trust") then Some trust
    else if bytes_eq (take 6 word) (codes "--map=") then Some (map_in (drop 6 word))
    else None

unfoldable mutual
  -- all words behind `--` are positional; before it a plain word is, unless it is the file that `--map` names, and any other
  -- word gives an option
  pub parts_of : List (List ℕ) → Option Parts
  parts_of [] = Some (record { positional = []; options = [] })
  parts_of (word ∷ rest) =
      if bytes_eq word (codes "--") then Some (record { positional = rest; options = [] })
      else if bytes_eq word (codes "--map") then parts_behind_map rest
      else if is_plain word then option_map (with_positional word) (parts_of rest)
      else option_and_then (λ given. option_map (with_option given) (parts_of rest)) (option_of word)

  -- the word behind `--map` names the file
  pub parts_behind_map : List (List ℕ) → Option Parts
  parts_behind_map [] = None
  parts_behind_map (file ∷ rest) = if is_plain file then option_map (with_option (map_in file)) (parts_of rest) else None

abbrev pub same_option : Given → Given → Bool
same_option raw raw = true
same_option places places = true
same_option trace trace = true
same_option trust trust = true
same_option (map_in file) (map_in other) = true
same_option _ _ = false

abbrev pub is_given : Given → List Given → Bool
is_given option = list_any (same_option option)

-- no option is given twice
abbrev pub are_given_once : List Given → Bool
are_given_once [] = true
are_given_once (given ∷ rest) = not (is_given given rest) && are_given_once rest

-- the file that `--map` names, where it is given
abbrev pub map_given : List Given → Option (List ℕ)
map_given [] = None
map_given (map_in file ∷ rest) = Some file
map_given (_ ∷ rest) = map_given rest

abbrev pub is_nonempty : List ℕ → Bool
is_nonempty word = nat_lt 0 (length word)

abbrev pub names_nothing : Given → Bool
names_nothing (map_in file) = not (is_nonempty file)
names_nothing _ = false

-- no positional word and no name of a file is empty, and no option is given twice
abbrev pub are_sound : Parts → Bool
are_sound parts = list_all is_nonempty parts.positional && not (list_any names_nothing parts.options) && are_given_once parts.options

-- ---- commands

-- the options that each command has
abbrev pub has_option : (name : List ℕ) → Given → Bool
has_option name raw = bytes_eq name (codes "maps")
has_option name places = bytes_eq name (codes "run") || bytes_eq name (codes "exec")
has_option name trace = bytes_eq name (codes "run") || bytes_eq name (codes "exec")
has_option name trust = bytes_eq name (codes "exec")
has_option name (map_in file) = bytes_eq name (codes "run") || bytes_eq name (codes "exec")

-- a number from `least` to `most`, in 1 to 20 digits
abbrev pub number_in : (least most : ℕ) → List ℕ → Option ℕ
number_in least most word =
    if nat_le 1 (length word) && nat_le (length word) 20 && list_all is_ascii_digit word
    && nat_le least (digits_value 10 word) && nat_le (digits_value 10 word) most
    then Some (digits_value 10 word)
    else None

-- a bound on steps, at most 10^12
abbrev pub steps_of : List ℕ → Option ℕ
steps_of = number_in 0 1000000000000

-- what is drawn from to make a module, below 2^64, and the module's size
abbrev pub seed_of : List ℕ → Option ℕ
seed_of = number_in 0 18446744073709551615

abbrev pub size_of : List ℕ → Option ℕ
size_of = number_in 1 1000

-- what the words of a run ask for: the files of the module, of its input and of its plan, and a bound on steps
abbrev pub request_of : (code input plan steps : List ℕ) → Option RunRequest
request_of code input plan steps = option_map (λ bound. record { code = code; input = input; plan = plan; steps = bound }) (steps_of steps)

-- what options choose
abbrev pub options_of : List Given → Options
options_of given = record {
  raw = is_given raw given;
  places = is_given places given;
  trace = is_given trace given;
  trust = is_given trust given;
  map = map_given given;
}

-- the command of this name over one file
unfoldable pub of_module : (name : List ℕ) → Options → (module_file : List ℕ) → Option Command
of_module name options module_file =
    if bytes_eq name (codes "show") then Some (Show module_file)
    else if bytes_eq name (codes "rewrite") then Some (Rewrite module_file Text)
    else if bytes_eq name (codes "maps") then Some (Rewrite module_file (if options.raw then MapBytes else MapText))
    else if bytes_eq name (codes "check") then Some (Check module_file)
    else None

-- that over three numbers
unfoldable pub of_numbers : (name seed size steps : List ℕ) → Option Command
of_numbers name seed size steps =
    if bytes_eq name (codes "gen")
    then option_and_then (λ drawn. option_and_then (λ large. option_map (Gen drawn large) (steps_of steps)) (size_of size)) (seed_of seed)
    else None

-- that over all that a run needs
unfoldable pub of_run : (name : List ℕ) → Options → RunRequest → Option Command
of_run name options request =
    if bytes_eq name (codes "source") then Some (Source request)
    else if bytes_eq name (codes "run") then Some (Run request options.map options.places options.trace)
    else if bytes_eq name (codes "exec")
    then Some (Exec request options.map options.trust options.places options.trace)
    else None

-- the command of this name over these positional words, of which it takes one, three or four
abbrev pub of_words : (name : List ℕ) → Options → (positional : List (List ℕ)) → Option Command
of_words name options (module_file ∷ []) = of_module name options module_file
of_words name options (seed ∷ size ∷ steps ∷ []) = of_numbers name seed size steps
of_words name options (code ∷ input ∷ plan ∷ steps ∷ []) = option_and_then (of_run name options) (request_of code input plan steps)
of_words name options _ = None

-- the command of this name, where it has the options
unfoldable pub of_parts : (name : List ℕ) → Parts → Option Command
of_parts name parts =
    if are_sound parts && list_all (has_option name) parts.options then of_words name (options_of parts.options) parts.positional else None

-- the program's name, the command's name, and its positional words and options; nothing else is a command
unfoldable pub command_of : List (List ℕ) → Option Command
command_of (program ∷ name ∷ words) = option_and_then (of_parts name) (parts_of words)
command_of _ = None
