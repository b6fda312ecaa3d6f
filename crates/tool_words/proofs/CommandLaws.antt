-- From the parts of the words behind a command's name to the command.
use Rattle.std.proofs.Common.{◌≡◌, ◌∙◌, ◌&&◌, ◌||◌, Bool, cond, true, false, not, List, [], ◌∷◌, Option, Some, None, String, codes, refl, sym, ap, drop, is_some, length, map, option_and_then, option_map, slice_get, string_bytes, arith}
use Rattle.std.proofs.Math.Bool.{or-true}
use Rattle.std.specs.List.{list_all}
use Rattle.std.specs.Str.{bytes_eq}
use Rattle.clap.specs.Matches.{found_of, matched_of, raw_values}
use Rattle.clap.specs.Walk.{Text}
use Rattle.clap.specs.declared.parser.matches.ArgMatches.{ArgMatches}
use Rattle.tool_words.specs.Reader.{HasParts, ReadsParts, allows, positional_values, sound_parts}
use Rattle.tool_words.specs.Words.{Given, raw, places, trace, trust, map_in, Parts, are_sound, command_of, has_option, is_given, map_given, of_parts, of_words, options_of, parts_of}
use Rattle.tool_words.specs.declared.request.Command.{Command}
use Rattle.tool_words.specs.declared.request.Options.{Options}

-- ---- the options that a command has

alone_first : (m r z : Bool) → (m && z) ≡ (m && ((not r || m) && z))
alone_first false r z = refl
alone_first true true z = refl
alone_first true false z = refl

alone_second : (x m s t : Bool) → (x && (m && t)) ≡ (m && (x && ((not s || m) && t)))
alone_second true true true t = refl
alone_second true true false t = refl
alone_second false true s t = refl
alone_second true false s t = refl
alone_second false false s t = refl

alone_third : (x y m t : Bool) → (x && (y && m)) ≡ (m && (x && (y && (not t || m))))
alone_third true true true true = refl
alone_third true true true false = refl
alone_third true false true t = refl
alone_third false y true t = refl
alone_third true true false t = refl
alone_third true false false t = refl
alone_third false y false t = refl

module _ (name : Text) where
  abbrev runs : Bool
  runs = bytes_eq name (codes "run") || bytes_eq name (codes "exec")

  abbrev for_raw : List Given → Bool
  for_raw given = not (is_given raw given) || bytes_eq name (codes "maps")

  abbrev on_machine : List Given → Bool
  on_machine given = is_given places given || (is_given trace given || is_some (map_given given))

  abbrev for_trust : List Given → Bool
  for_trust given = not (is_given trust given) || bytes_eq name (codes "exec")

  abbrev all_for : List Given → Bool
  all_for given = for_raw given && ((not (on_machine given) || runs) && for_trust given)

  second_is : (given : List Given) (b : Bool) → b ≡ true → (for_raw given && ((not b || runs) && for_trust given)) ≡ (runs && all_for given)
  second_is given b is = rw is (alone_second (for_raw given) runs (on_machine given) (for_trust given))

  each_option : (given : List Given) → all_for given ≡ list_all (has_option name) given
  each_option [] = refl
  each_option (raw ∷ rest) =
      alone_first (bytes_eq name (codes "maps")) (is_given raw rest) ((not (on_machine rest) || runs) && for_trust rest)
      ∙ ap (λ (b : Bool). bytes_eq name (codes "maps") && b) (each_option rest)
  each_option (places ∷ rest) = second_is rest true refl ∙ ap (λ (b : Bool). runs && b) (each_option rest)
  each_option (trace ∷ rest) = second_is rest (is_given places rest || true) (or-true (is_given places rest)) ∙ ap (λ (b : Bool). runs && b) (each_option rest)
  each_option (trust ∷ rest) =
      alone_third (for_raw rest) (not (on_machine rest) || runs) (bytes_eq name (codes "exec")) (is_given trust rest)
      ∙ ap (λ (b : Bool). bytes_eq name (codes "exec") && b) (each_option rest)
  each_option (map_in file ∷ rest) =
      second_is rest (is_given places rest || (is_given trace rest || true)) (ap (λ (b : Bool). is_given places rest || b) (or-true (is_given trace rest)) ∙ or-true (is_given places rest))
      ∙ ap (λ (b : Bool). runs && b) (each_option rest)

  allows_is : (given : List Given) → allows name (options_of given) ≡ list_all (has_option name) given
  unfolding allows
  allows_is given = each_option given

  -- ---- from sound parts

  abbrev pub of_sound : Option Parts → Option Command
  of_sound None = None
  of_sound (Some parts) = cond (list_all (has_option name) parts.options) (of_words name (options_of parts.options) parts.positional) None

  sound_is : (parts : Option Parts) → option_and_then (of_parts name) parts ≡ of_sound (option_and_then (λ those. cond (are_sound those) (Some those) None) parts)
  unfolding of_parts
  sound_is None = refl
  sound_is (Some parts) = go (are_sound parts) refl
    where
      go : (b : Bool) → are_sound parts ≡ b → of_parts name parts ≡ of_sound (cond (are_sound parts) (Some parts) None)
      go true e = rw e refl
      go false e = rw e refl

  module _ (texts : List Text) (matches : ArgMatches) (options : Options) (reads : ReadsParts texts matches) (chosen : (parts : Parts) → HasParts matches parts → options ≡ options_of parts.options) where
    options_are : options ≡ options_of reads.parts.options
    options_are = chosen reads.parts reads.are

    allowed_is : (b : Bool) → allows name options ≡ b → list_all (has_option name) reads.parts.options ≡ b
    allowed_is b e = sym (allows_is reads.parts.options) ∙ ap (allows name) (sym options_are) ∙ e

    pub not_allowed : allows name options ≡ false → of_sound (sound_parts texts) ≡ None
    not_allowed e = ap of_sound reads.sound ∙ ap (λ (b : Bool). cond b (of_words name (options_of reads.parts.options) reads.parts.positional) None) (allowed_is false e)

    allowed : allows name options ≡ true → of_sound (sound_parts texts) ≡ of_words name options reads.parts.positional
    allowed e =
        ap of_sound reads.sound ∙ ap (λ (b : Bool). cond b (of_words name (options_of reads.parts.options) reads.parts.positional) None) (allowed_is true e)
        ∙ ap (λ (o : Options). of_words name o reads.parts.positional) (sym options_are)

    abbrev values : Option (List Text)
    values = option_map raw_values (matched_of (found_of matches) (codes "words"))

    some_words : (positional all : List Text) → Some positional ≡ positional_values all → all ≡ positional
    some_words positional [] e = absurd cc
    some_words positional (word ∷ rest) e = cc

    no_words : (all : List Text) → None ≡ positional_values all → all ≡ []
    no_words [] e = refl
    no_words (word ∷ rest) e = absurd cc

    pub from_words : allows name options ≡ true → (positional : List Text) → Some positional ≡ values → of_sound (sound_parts texts) ≡ of_words name options positional
    from_words e positional is = allowed e ∙ ap (of_words name options) (some_words positional reads.parts.positional (is ∙ reads.are.positional))

    pub from_no_words : allows name options ≡ true → None ≡ values → of_sound (sound_parts texts) ≡ None
    from_no_words e is = allowed e ∙ ap (of_words name options) (no_words reads.parts.positional (is ∙ reads.are.positional))

-- ---- from the words

module _ {Z : Type 0} where
  abbrev texts_of : List (String Z) → List Text
  texts_of words = map string_bytes words

  pub without_words : (words : List (String Z)) → length words ≡ 0 → command_of (texts_of words) ≡ None
  unfolding command_of
  without_words [] e = refl
  without_words (word ∷ rest) e = absurd (omega arith)

  program_alone : (program : String Z) (called : List (String Z)) → None ≡ slice_get called 0 → command_of (texts_of (program ∷ called)) ≡ None
  unfolding command_of
  program_alone program [] e = refl
  program_alone program (name ∷ rest) e = absurd cc

  pub without_name : (words : List (String Z)) (program : String Z) (called : List (String Z)) → words ≡ program ∷ called → None ≡ slice_get called 0
      → command_of (texts_of words) ≡ None
  without_name words program called is e = ap (λ (ws : List (String Z)). command_of (texts_of ws)) is ∙ program_alone program called e

  named : (program : String Z) (called : List (String Z)) (name : String Z) → Some name ≡ slice_get called 0
      → command_of (texts_of (program ∷ called)) ≡ of_sound (string_bytes name) (sound_parts (drop 1 (texts_of called)))
  unfolding command_of
  named program [] name e = absurd cc
  named program (first ∷ rest) name e =
      let is : first ≡ name = cc in
      sound_is (string_bytes first) (parts_of (texts_of rest)) ∙ ap (λ (n : String Z). of_sound (string_bytes n) (sound_parts (texts_of rest))) is

  pub with_name : (words : List (String Z)) (program : String Z) (called : List (String Z)) (name : String Z) → words ≡ program ∷ called → Some name ≡ slice_get called 0
      → command_of (texts_of words) ≡ of_sound (string_bytes name) (sound_parts (drop 1 (texts_of called)))
  with_name words program called name is e = ap (λ (ws : List (String Z)). command_of (texts_of ws)) is ∙ named program called name e
