-- What a parse by `clap` comes to: its matches are the parts of the words where those are sound, and else it fails.
use Rattle.std.proofs.Common.{◌≡◌, ◌∙◌, ◌&&◌, Bool, cond, true, false, List, [], ◌∷◌, Option, Some, None, codes, refl, sym, ap, subst, option_map, option_and_then, true≢false, find, unwrap_or, drop, slice_get}
use Rattle.std.proofs.Math.Bool.{and-true}
use Rattle.std.specs.Str.{bytes_eq}
use Rattle.clap.specs.Faults.{fault_of}
use Rattle.clap.specs.Matches.{found_of, one_text}
use Rattle.clap.specs.Simple.{HasMatchesOf}
use Rattle.clap.specs.Walk.{Row, Text, all_of, first_of, one_of, row_text, rows_of, walk_from, nothing_held}
use Rattle.clap.specs.declared.parser.matches.ArgMatches.{ArgMatches}
use Rattle.clap.proofs.WalkLemmas.{first_value-rows, one_text-rows, raw_values-rows}
use Rattle.tool_words.specs.Reader.{HasParts, ReadsParts, flag_text, positional_values, reader_app, sound_parts}
use Rattle.tool_words.specs.Words.{Given, raw, places, trace, trust, map_in, Parts, are_sound, is_given, map_given, parts_of, same_option}
use Rattle.tool_words.proofs.Items.{Item, items_of, run, use_items}
use Rattle.tool_words.proofs.Parses.{default_row, fault_is, flagged, map_stays, matches_are, places_row, raw_row, run_none, run_some, trace_row, trust_row, whole, words_stay}
use Rattle.tool_words.proofs.Refusals.{Refuses}
use Rattle.tool_words.proofs.Rows.{Alike, Known, id_of, known_none, row_at, row_of_option, row_of_words, uses_alike}
use Rattle.tool_words.proofs.Rules.{is_simple_reader}
use Rattle.tool_words.proofs.Takes.{all_taken, are_new, gathered, parts_gathered, takes_all}
use Rattle.tool_words.proofs.Uses.{AreTexts, all_used, use_these}

abbrev nothing : Parts
nothing = record { positional = []; options = [] }

new_to_none : (options : List Given) → are_new [] options ≡ true
new_to_none [] = refl
new_to_none (one ∷ rest) = new_to_none rest

-- the parts, where they are sound
all_sound : (parts : Parts) → all_taken nothing parts ≡ cond (are_sound parts) (Some parts) None
all_sound parts =
    ap (λ (b : Bool). cond (are_sound parts && b) (Some parts) None) (new_to_none parts.options) ∙ ap (λ (b : Bool). cond b (Some parts) None) (and-true (are_sound parts))

items_alike : (texts : List Text) (items : Option (List Item)) → items_of texts ≡ items → Alike (use_these items []) (sound_parts texts)
items_alike texts None none =
    let parts : parts_of texts ≡ None = sym (parts_gathered texts) ∙ ap (option_map gathered) none in
    rw parts tt
items_alike texts (Some items) some =
    let parts : parts_of texts ≡ Some (gathered items) = sym (parts_gathered texts) ∙ ap (option_map gathered) some in
    rw parts (subst (Alike (use_items items [])) (takes_all items nothing ∙ all_sound (gathered items)) (uses_alike items [] nothing known_none))

module _ (name : Text) (words : List Text) (are : AreTexts (drop 1 words)) where
  abbrev texts : List Text
  texts = drop 1 words

  abbrev ran : Option (List Row)
  ran = run name (walk_from nothing_held) texts

  alike : Alike ran (sound_parts texts)
  alike = subst (λ (o : Option (List Row)). Alike o (sound_parts texts)) (sym (all_used name texts are)) (items_alike texts (items_of texts) refl)

  pub refused_words : (fault_of (reader_app name) words ≡ [] → ⊥) → sound_parts texts ≡ None
  refused_words faulty = go ran (sound_parts texts) refl alike
    where
      go : (o : Option (List Row)) (p : Option Parts) → ran ≡ o → Alike o p → p ≡ None
      go o None is same = refl
      go None (Some parts) is same = absurd same
      go (Some rows) (Some parts) is same =
          let runs = run_some name texts (walk_from nothing_held) rows is in
          absurd (faulty (fault_is name words ∙ rw (runs.walks, runs.settles) refl))

  -- ---- the values of the matches

  flag_row : (one other : Given) → same_option one other ≡ true → bytes_eq (id_of one) (codes "map") ≡ false → row_text (row_of_option other) ≡ Some (codes "true")
  flag_row raw raw same flag = refl
  flag_row places places same flag = refl
  flag_row trace trace same flag = refl
  flag_row trust trust same flag = refl
  flag_row (map_in file) other same flag = absurd (true≢false flag)
  flag_row _ _ same flag = absurd (true≢false (sym same))

  flag_of : (one : Given) (false_row : Row) → bytes_eq (id_of one) (codes "map") ≡ false → row_text false_row ≡ Some (codes "false") → (options : List Given)
      → row_text (unwrap_or (option_map row_of_option (find (same_option one) options)) false_row) ≡ Some (flag_text (is_given one options))
  flag_of one false_row flag is_false [] = is_false
  flag_of one false_row flag is_false (other ∷ rest) = go (same_option one other) refl (flag_of one false_row flag is_false rest)
    where
      go : (b : Bool) → same_option one other ≡ b
          → row_text (unwrap_or (option_map row_of_option (find (same_option one) rest)) false_row) ≡ Some (flag_text (is_given one rest))
          → row_text (unwrap_or (option_map row_of_option (find (same_option one) (other ∷ rest))) false_row) ≡ Some (flag_text (is_given one (other ∷ rest)))
      go true e later = rw e (flag_row one other e flag)
      go false e later = rw e later

  file_of : (options : List Given) → option_and_then (λ (row : Row). slice_get row.values 0) (option_map row_of_option (find (same_option (map_in [])) options)) ≡ map_given options
  file_of [] = refl
  file_of (raw ∷ rest) = file_of rest
  file_of (places ∷ rest) = file_of rest
  file_of (trace ∷ rest) = file_of rest
  file_of (trust ∷ rest) = file_of rest
  file_of (map_in file ∷ rest) = refl

  words_of : (positional : List Text) → option_map (λ (row : Row). row.values) (row_of_words positional) ≡ positional_values positional
  words_of [] = refl
  words_of (text ∷ rest) = refl

  module _ (matches : ArgMatches) (rows : List Row) (parts : Parts) (known : Known rows parts) (found : rows_of (found_of matches) ≡ whole rows) where
    flag_found : (one : Given) (row_is : row_at (id_of one) (whole rows) ≡ flagged rows (id_of one)) → bytes_eq (id_of one) (codes "map") ≡ false
        → one_text (found_of matches) (id_of one) ≡ Some (flag_text (is_given one parts.options))
    flag_found one row_is flag =
        one_text-rows (found_of matches) (id_of one) ∙ ap (one_of (id_of one)) found ∙ ap (option_and_then row_text) row_is
        ∙ ap (λ (o : Option Row). row_text (unwrap_or o (default_row (id_of one)))) (known.options one) ∙ flag_of one (default_row (id_of one)) flag refl parts.options

    are_parts : HasParts matches parts
    are_parts = record {
      positional = raw_values-rows (found_of matches) (codes "words") ∙ ap (all_of (codes "words")) found
          ∙ ap (option_map (λ (row : Row). row.values)) (words_stay rows ∙ known.words) ∙ words_of parts.positional;
      map_file = first_value-rows (found_of matches) (codes "map") ∙ ap (first_of (codes "map")) found
          ∙ ap (option_and_then (λ (row : Row). slice_get row.values 0)) (map_stays rows ∙ known.options (map_in [])) ∙ file_of parts.options;
      raw_given = flag_found raw (raw_row rows) refl;
      places_given = flag_found places (places_row rows) refl;
      trace_given = flag_found trace (trace_row rows) refl;
      trust_given = flag_found trust (trust_row rows) refl;
    }

  pub read_words : (matches : ArgMatches) → fault_of (reader_app name) words ≡ [] → HasMatchesOf (reader_app name) words matches → ReadsParts texts matches
  read_words matches faultless has = go ran (sound_parts texts) refl refl alike
    where
      go : (o : Option (List Row)) (p : Option Parts) → ran ≡ o → sound_parts texts ≡ p → Alike o p → ReadsParts texts matches
      go None p is sound same = absurd (subst Refuses (sym (fault_is name words) ∙ faultless) (run_none name texts (walk_from nothing_held) is))
      go (Some rows) None is sound same = absurd same
      go (Some rows) (Some parts) is sound same =
          let runs = run_some name texts (walk_from nothing_held) rows is in
          let found : rows_of (found_of matches) ≡ whole rows = (has (is_simple_reader name)).0 ∙ matches_are name words ∙ ap whole runs.leaves in
          record { parts = parts; sound = sound; are = are_parts matches rows parts same found }
