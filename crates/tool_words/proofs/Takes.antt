-- Positional words and options, taken one by one, are the parts of the words, where those are sound.
use Rattle.std.proofs.Common.{◌≡◌, ◌∙◌, ◌&&◌, ◌||◌, ◌++◌, Bool, cond, true, false, not, List, [], ◌∷◌, Option, Some, None, codes, refl, sym, ap, ap₂, option_map, option_and_then, append-nil, append_assoc}
use Rattle.std.proofs.Math.Bool.{and-false}
use Rattle.std.specs.List.{list_all, list_any}
use Rattle.std.specs.Str.{bytes_eq}
use Rattle.clap.specs.Walk.{Text}
use Rattle.tool_words.specs.Words.{Given, Parts, are_given_once, are_sound, is_given, is_nonempty, is_plain, map_in, names_nothing, option_of, parts_behind_map, parts_of, same_option, with_option, with_positional}
use Rattle.tool_words.proofs.Items.{Item, word, given, before, items_behind_map, items_of, words_items}
use Rattle.tool_words.proofs.Rows.{same_back, take_items, with_given, with_word}

abbrev pub gathered : List Item → Parts
gathered [] = record { positional = []; options = [] }
gathered (word text ∷ items) = with_positional text (gathered items)
gathered (given one ∷ items) = with_option one (gathered items)

gathered_words : (texts : List Text) → gathered (words_items texts) ≡ record { positional = texts; options = [] }
gathered_words [] = refl
gathered_words (text ∷ rest) = ap (with_positional text) (gathered_words rest)

before_gathered : (item : Item) (items : Option (List Item)) (add : Parts → Parts) → ((those : List Item) → gathered (item ∷ those) ≡ add (gathered those))
    → option_map gathered (before item items) ≡ option_map add (option_map gathered items)
before_gathered item None add each = refl
before_gathered item (Some those) add each = ap Some (each those)

module _ (text : Text) (rest : List Text) (later : option_map gathered (items_of rest) ≡ parts_of rest) (behind : option_map gathered (items_behind_map rest) ≡ parts_behind_map rest) where
  as_word : option_map gathered (before (word text) (items_of rest)) ≡ option_map (with_positional text) (parts_of rest)
  as_word = before_gathered (word text) (items_of rest) (with_positional text) (λ those. refl) ∙ ap (option_map (with_positional text)) later

  as_option : (one : Given) → option_map gathered (before (given one) (items_of rest)) ≡ option_map (with_option one) (parts_of rest)
  as_option one = before_gathered (given one) (items_of rest) (with_option one) (λ those. refl) ∙ ap (option_map (with_option one)) later

  one_more : option_map gathered (items_of (text ∷ rest)) ≡ parts_of (text ∷ rest)
  unfolding items_of parts_of
  one_more = on_dashes (bytes_eq text (codes "--")) refl
    where
      on_option : (o : Option Given)
          → option_map gathered (option_and_then (λ one. before (given one) (items_of rest)) o) ≡ option_and_then (λ one. option_map (with_option one) (parts_of rest)) o
      on_option None = refl
      on_option (Some one) = as_option one

      on_plain : (b : Bool) → option_map gathered (cond b (before (word text) (items_of rest)) (option_and_then (λ one. before (given one) (items_of rest)) (option_of text)))
          ≡ cond b (option_map (with_positional text) (parts_of rest)) (option_and_then (λ one. option_map (with_option one) (parts_of rest)) (option_of text))
      on_plain true = as_word
      on_plain false = on_option (option_of text)

      on_map : (b : Bool) → bytes_eq text (codes "--") ≡ false → bytes_eq text (codes "--map") ≡ b → option_map gathered (items_of (text ∷ rest)) ≡ parts_of (text ∷ rest)
      on_map true no_dashes e = rw (no_dashes, e) behind
      on_map false no_dashes e = rw (no_dashes, e) (on_plain (is_plain text))

      on_dashes : (b : Bool) → bytes_eq text (codes "--") ≡ b → option_map gathered (items_of (text ∷ rest)) ≡ parts_of (text ∷ rest)
      on_dashes true e = rw e (ap Some (gathered_words rest))
      on_dashes false e = on_map (bytes_eq text (codes "--map")) e refl

  one_file : option_map gathered (items_behind_map (text ∷ rest)) ≡ parts_behind_map (text ∷ rest)
  unfolding items_of parts_of
  one_file = on_plain (is_plain text)
    where
      on_plain : (b : Bool) → option_map gathered (cond b (before (given (map_in text)) (items_of rest)) None) ≡ cond b (option_map (with_option (map_in text)) (parts_of rest)) None
      on_plain true = as_option (map_in text)
      on_plain false = refl

none_left : option_map gathered (items_of []) ≡ parts_of []
unfolding items_of parts_of
none_left = refl

no_file_left : option_map gathered (items_behind_map []) ≡ parts_behind_map []
unfolding items_of parts_of
no_file_left = refl

both_gathered : (texts : List Text) → (option_map gathered (items_of texts) ≡ parts_of texts) × (option_map gathered (items_behind_map texts) ≡ parts_behind_map texts)
both_gathered [] = (none_left, no_file_left)
both_gathered (text ∷ rest) =
    let later = both_gathered rest in
    (one_more text rest later.0 later.1, one_file text rest later.0 later.1)

pub parts_gathered : (texts : List Text) → option_map gathered (items_of texts) ≡ parts_of texts
parts_gathered texts = (both_gathered texts).0

-- ---- taken one by one

-- none of these is among those
abbrev pub are_new : List Given → List Given → Bool
are_new those = list_all (λ one. not (is_given one those))

abbrev pub fits : Parts → Parts → Bool
fits now more = are_sound more && are_new now.options more.options

abbrev pub joined : Parts → Parts → Parts
joined now more = record { positional = now.positional ++ more.positional; options = now.options ++ more.options }

abbrev pub all_taken : Parts → Parts → Option Parts
all_taken now more = cond (fits now more) (Some (joined now more)) None

is_given_more : (one : Given) (those : List Given) (last : Given) → is_given one (those ++ (last ∷ [])) ≡ (is_given one those || same_option one last)
is_given_more one [] last = on_last (same_option one last)
  where
    on_last : (b : Bool) → (b || false) ≡ b
    on_last true = refl
    on_last false = refl
is_given_more one (first ∷ rest) last = on_first (same_option one first) (is_given_more one rest last)
  where
    on_first : (b : Bool) → is_given one (rest ++ (last ∷ [])) ≡ (is_given one rest || same_option one last)
        → (b || is_given one (rest ++ (last ∷ []))) ≡ ((b || is_given one rest) || same_option one last)
    on_first true e = refl
    on_first false e = e

neither : (a b c d : Bool) → (not (a || b) && (c && not d)) ≡ ((not a && c) && not (b || d))
neither true b c d = refl
neither false true true d = refl
neither false true false d = refl
neither false false c d = refl

-- what is new to more options is new to them without the last, and doesn't have that one
new_more : (those : List Given) (last : Given) (more : List Given) → are_new (those ++ (last ∷ [])) more ≡ (are_new those more && not (is_given last more))
new_more those last [] = refl
new_more those last (one ∷ rest) =
    ap₂ (λ (a b : Bool). not a && b) (is_given_more one those last ∙ ap (λ (b : Bool). is_given one those || b) (same_back one last)) (new_more those last rest)
    ∙ neither (is_given one those) (same_option last one) (are_new those rest) (is_given last rest)

shuffled : (a b c d e : Bool) → ((a && b && c) && (d && not e)) ≡ ((a && b && (not e && c)) && d)
shuffled false b c d e = refl
shuffled true false c d e = refl
shuffled true true true true true = refl
shuffled true true true true false = refl
shuffled true true true false true = refl
shuffled true true true false false = refl
shuffled true true false d true = refl
shuffled true true false d false = refl

word_taken : (text : Text) (items : List Item) (now : Parts) (b : Bool) → is_nonempty text ≡ b
    → take_items items (with_word now text) ≡ all_taken (with_word now text) (gathered items) → take_items (word text ∷ items) now ≡ all_taken now (gathered (word text ∷ items))
word_taken text items now true e later =
    rw e (later ∙ ap (λ (ps : List Text). cond (fits now (gathered items)) (Some (record { positional = ps; options = now.options ++ (gathered items).options })) None)
    (append_assoc now.positional (text ∷ []) (gathered items).positional))
word_taken text items now false e later = rw e refl

option_taken : (one : Given) (items : List Item) (now : Parts) (b c : Bool) → is_given one now.options ≡ b → names_nothing one ≡ c
    → take_items items (with_given now one) ≡ all_taken (with_given now one) (gathered items) → take_items (given one ∷ items) now ≡ all_taken now (gathered (given one ∷ items))
option_taken one items now true c e n later = rw (e, and-false) refl
option_taken one items now false true e n later = rw (e, n, and-false) refl
option_taken one items now false false e n later =
    let more : Parts = gathered items in
    let fit = ap (λ (b : Bool). are_sound more && b) (new_more now.options one more.options)
    ∙ shuffled (list_all is_nonempty more.positional) (not (list_any names_nothing more.options)) (are_given_once more.options) (are_new now.options more.options)
    (is_given one more.options) in
    rw (e, n) (later ∙ ap₂ (λ (b : Bool) (os : List Given). cond b (Some (record { positional = now.positional ++ more.positional; options = os })) None) fit
    (append_assoc now.options (one ∷ []) more.options))

pub takes_all : (items : List Item) (now : Parts) → take_items items now ≡ all_taken now (gathered items)
takes_all [] now = ap₂ (λ (a : List Text) (b : List Given). Some (record { positional = a; options = b })) (sym (append-nil now.positional)) (sym (append-nil now.options))
takes_all (word text ∷ items) now = word_taken text items now (is_nonempty text) refl (takes_all items (with_word now text))
takes_all (given one ∷ items) now = option_taken one items now (is_given one now.options) (names_nothing one) refl refl (takes_all items (with_given now one))
