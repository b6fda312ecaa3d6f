-- The one command line that `clap` reads behind a command's name: positional words, and the options of all commands.
use Rattle.std.specs.Prelude.{◌≡◌, ◌&&◌, ◌||◌, Bool, true, is_some, not, List, [], ◌∷◌, Option, Some, None, codes, if◌then◌else◌, option_and_then, option_map}
use Rattle.clap.specs.Matches.{first_value, found_of, matched_of, one_text, raw_values}
use Rattle.clap.specs.declared.parser.matches.ArgMatches.{ArgMatches}
use Rattle.std.specs.Str.{bytes_eq}
use Rattle.tool_words.specs.declared.request.Options.{Options}
use Rattle.tool_words.specs.Words.{Parts, raw, places, trace, trust, are_sound, is_given, map_given, parts_of}
use Rattle.clap.specs.Walk.{Rule, Text}
use Rattle.clap.specs.Simple.{App, new_rule, new_shape}
use Rattle.clap.specs.declared.builder.action.ArgAction.TheVariants.{Append, Set, SetTrue}
use Rattle.clap.specs.declared.builder.value_parser.ValueParser.TheVariants.{NonEmptyString}

abbrev pub word_rule : Rule
word_rule = record (new_rule (codes "words")) { action = Some Append; parser = Some NonEmptyString }

abbrev pub map_rule : Rule
map_rule = record (new_rule (codes "map")) { long = Some (codes "map"); action = Some Set; parser = Some NonEmptyString }

abbrev pub flag_rule : Text → Rule
flag_rule name = record (new_rule name) { long = Some name; action = Some SetTrue }

abbrev pub stated_rules : List Rule
stated_rules =
    word_rule ∷ map_rule ∷ flag_rule (codes "raw") ∷ flag_rule (codes "places") ∷ flag_rule (codes "trace") ∷ flag_rule (codes "trust") ∷ []

-- the command line, under the name of its program
abbrev pub reader_app : Text → App
reader_app name = record { top = record (new_shape name) { rules = stated_rules; disable_help_flag = true }; subs = [] }

-- ---- what it gives

-- the parts of the words behind a command's name, where they are sound
abbrev pub sound_parts : List Text → Option Parts
sound_parts words = option_and_then (λ parts. if are_sound parts then Some parts else None) (parts_of words)

abbrev pub positional_values : List Text → Option (List Text)
positional_values [] = None
positional_values (word ∷ rest) = Some (word ∷ rest)

abbrev pub flag_text : Bool → Text
flag_text given = if given then codes "true" else codes "false"

-- the matches are these parts
pub record HasParts (matches : ArgMatches) (parts : Parts) : Type 0 where
  pub positional : option_map raw_values (matched_of (found_of matches) (codes "words")) ≡ positional_values parts.positional
  pub map_file : first_value (found_of matches) (codes "map") ≡ map_given parts.options
  pub raw_given : one_text (found_of matches) (codes "raw") ≡ Some (flag_text (is_given raw parts.options))
  pub places_given : one_text (found_of matches) (codes "places") ≡ Some (flag_text (is_given places parts.options))
  pub trace_given : one_text (found_of matches) (codes "trace") ≡ Some (flag_text (is_given trace parts.options))
  pub trust_given : one_text (found_of matches) (codes "trust") ≡ Some (flag_text (is_given trust parts.options))

-- they are the parts of the words
pub record ReadsParts (words : List Text) (matches : ArgMatches) : Type 0 where
  pub parts : Parts
  pub sound : sound_parts words ≡ Some parts
  pub are : HasParts matches parts

-- whether the command of a name has the options of these choices
unfoldable pub allows : (name : Text) → Options → Bool
allows name options =
    (not options.raw || bytes_eq name (codes "maps"))
    && ((not (options.places || (options.trace || is_some options.map)) || (bytes_eq name (codes "run") || bytes_eq name (codes "exec")))
    && (not options.trust || bytes_eq name (codes "exec")))
