-- The rules that `clap` reads words by, once it has built the command line.
use Rattle.std.proofs.Common.{◌≡◌, ℕ, true, false, List, [], ◌∷◌, Some, None, codes, refl}
use Rattle.std.specs.Str.{bytes_eq}
use Rattle.clap.specs.Faults.{is_simple_and_free}
use Rattle.clap.specs.Simple.{Shape, built, filled, is_simple, new_shape, with_index}
use Rattle.clap.specs.Walk.{Rule, Text, arg_by_id, arg_by_index, arg_by_long, arg_by_short}
use Rattle.tool_words.specs.Reader.{flag_rule, map_rule, reader_app, word_rule}

abbrev pub words_built : Rule
words_built = with_index 1 (filled word_rule)

abbrev pub map_built : Rule
map_built = with_index 2 (filled map_rule)

abbrev pub flag_built : Text → Rule
flag_built name = with_index 2 (filled (flag_rule name))

unfoldable pub rules : List Rule
rules = words_built ∷ map_built ∷ flag_built (codes "raw") ∷ flag_built (codes "places") ∷ flag_built (codes "trace") ∷ flag_built (codes "trust") ∷ []

abbrev pub shape : Text → Shape
shape name = record (new_shape name) { rules = rules; disable_help_flag = true; disable_help_subcommand = true; is_built = true }

pub is_simple_reader : (name : Text) → is_simple (reader_app name) ≡ true
is_simple_reader name = refl

pub is_free_reader : (name : Text) → is_simple_and_free (reader_app name) ≡ true
is_free_reader name = refl

pub by_words : arg_by_id rules (codes "words") ≡ Some words_built
unfolding rules
by_words = refl

pub by_raw : arg_by_long rules (codes "raw") ≡ Some (flag_built (codes "raw"))
unfolding rules
by_raw = refl

pub by_places : arg_by_long rules (codes "places") ≡ Some (flag_built (codes "places"))
unfolding rules
by_places = refl

pub by_trace : arg_by_long rules (codes "trace") ≡ Some (flag_built (codes "trace"))
unfolding rules
by_trace = refl

pub by_trust : arg_by_long rules (codes "trust") ≡ Some (flag_built (codes "trust"))
unfolding rules
by_trust = refl

pub by_other : (name : Text) → bytes_eq (codes "map") name ≡ false → bytes_eq (codes "raw") name ≡ false → bytes_eq (codes "places") name ≡ false
    → bytes_eq (codes "trace") name ≡ false → bytes_eq (codes "trust") name ≡ false → arg_by_long rules name ≡ None
unfolding rules
by_other name no_map no_raw no_places no_trace no_trust = rw (no_map, no_raw, no_places, no_trace, no_trust) refl
