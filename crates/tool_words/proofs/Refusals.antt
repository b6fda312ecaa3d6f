-- The words that `clap` refuses: those that begin with `-`, are longer, and give no option.
use Rattle.std.proofs.Common.{◌≡◌, ◌∙◌, ◌++◌, ◌+◌, ◌==◌, ℕ, Bool, suc, true, false, List, [], ◌∷◌, Option, Some, None, codes, refl, sym, ap, subst, slice_get, length, drop, encode_utf8_all, eqb-true, one-add, true≢false, IsUtf8, arith}
use Rattle.std.specs.Prelude.{⊤}
use Rattle.std.specs.List.{before_first, after_first}
use Rattle.std.specs.Char.{encode_utf8}
use Rattle.std.specs.Str.{bytes_eq, chars}
use Rattle.std.proofs.lemmas.Str.{encodes-chars}
use Rattle.clap.specs.Faults.{flags_fault}
use Rattle.clap.specs.Kinds.{Kinds, or_else}
use Rattle.clap.specs.Lexer.{has_byte, long_of, name_and_value, short_of}
use Rattle.clap.specs.Walk.{Held, Row, Text, Waiting, Walk, idle, option, positional, arg_by_long}
use Rattle.tool_words.specs.Words.{Given, raw, places, trace, trust, is_plain, option_of}
use Rattle.tool_words.proofs.Basics.{some≢none}
use Rattle.tool_words.proofs.Rules.{by_other, by_places, by_raw, by_trace, by_trust, flag_built, rules}
use Rattle.tool_words.proofs.Steps.{held, state, turn}
use Rattle.list_laws.proofs.Contents.{same_bytes}

-- there is a fault
abbrev pub Refuses : Kinds → Type 0
Refuses [] = ⊥
Refuses (fault ∷ faults) = ⊤

abbrev is_equals : ℕ → Bool
is_equals byte = byte == 61

-- a text without `=` is what stands before it
front_whole : (text : Text) → has_byte 61 text ≡ false → before_first is_equals text ≡ text
front_whole [] none = refl
front_whole (byte ∷ bytes) none = go (byte == 61) refl (λ h. front_whole bytes h)
  where
    go : (b : Bool) → (byte == 61) ≡ b → (has_byte 61 bytes ≡ false → before_first is_equals bytes ≡ bytes) → before_first is_equals (byte ∷ bytes) ≡ byte ∷ bytes
    go true here rest = absurd (true≢false (sym (rw here refl) ∙ none))
    go false here rest =
        let later : has_byte 61 bytes ≡ false = sym (rw here refl) ∙ none in
        rw (here, one-add) (ap (λ (xs : Text). byte ∷ xs) (rest later))

drop_past : (n : ℕ) (byte : ℕ) (bytes : Text) → drop (suc n + 1) (byte ∷ bytes) ≡ drop (n + 1) bytes
drop_past n byte bytes =
    let next : suc n + 1 ≡ suc (n + 1) = omega arith in
    ap (λ (k : ℕ). drop k (byte ∷ bytes)) next

-- and one with it is that, `=`, and what stands behind it
parts_joined : (text : Text) → has_byte 61 text ≡ true → text ≡ before_first is_equals text ++ (61 ∷ after_first is_equals text)
parts_joined [] some = absurd (true≢false (sym some))
parts_joined (byte ∷ bytes) some = go (byte == 61) refl (λ h. parts_joined bytes h)
  where
    go : (b : Bool) → (byte == 61) ≡ b → (has_byte 61 bytes ≡ true → bytes ≡ before_first is_equals bytes ++ (61 ∷ after_first is_equals bytes))
        → byte ∷ bytes ≡ before_first is_equals (byte ∷ bytes) ++ (61 ∷ after_first is_equals (byte ∷ bytes))
    go true here rest =
        let is : byte ≡ 61 = eqb-true byte 61 here in
        rw here (ap (λ (x : ℕ). x ∷ bytes) is)
    go false here rest =
        let later : has_byte 61 bytes ≡ true = sym (rw here refl) ∙ some in
        rw (here, one-add, drop_past) (ap (λ (xs : Text). byte ∷ xs) (rest later))

module _ (waiting : Waiting) (rows : List Row) (pending : Option (Text × List Text)) (name : Text) where
  abbrev now : Held
  now = held rows pending

  abbrev at : Walk
  at = state waiting false now

  module _ (word : Text) (no_dashes : bytes_eq word (codes "--") ≡ false) where
    -- `--name` and `--name=value`, where no option has the name
    unknown_refused : (option_name : Text) (value : Option Text) → long_of word ≡ Some (option_name, value) → arg_by_long rules option_name ≡ None
        → Refuses (turn name at word)
    unknown_refused option_name value is unknown = go waiting
      where
        go : (waits : Waiting) → Refuses (turn name (state waits false now) word)
        go idle = rw (no_dashes, is, unknown) tt
        go (option id) = rw (no_dashes, is, unknown) tt
        go positional = rw (no_dashes, is, unknown) tt

    -- a flag with a value
    valued_refused : (option_name value flag : Text) → long_of word ≡ Some (option_name, Some value) → arg_by_long rules option_name ≡ Some (flag_built flag)
        → Refuses (turn name at word)
    valued_refused option_name value flag is known = go waiting
      where
        go : (waits : Waiting) → Refuses (turn name (state waits false now) word)
        go idle = rw (no_dashes, is, known) tt
        go (option id) = rw (no_dashes, is, known) tt
        go positional = rw (no_dashes, is, known) tt

    -- `-x`
    letter_refused : (byte : ℕ) (bytes : Text) (letter : ℕ) → long_of word ≡ None → short_of word ≡ Some (byte ∷ bytes) → slice_get (chars (byte ∷ bytes)) 0 ≡ Some letter
        → Refuses (turn name at word)
    unfolding flags_fault rules
    letter_refused byte bytes letter no_long is first = go waiting
      where
        go : (waits : Waiting) → Refuses (turn name (state waits false now) word)
        go idle = rw (no_dashes, no_long, is, first) tt
        go (option id) = rw (no_dashes, no_long, is, first) tt
        go positional = rw (no_dashes, no_long, is, first) tt

  -- the bytes behind `-` begin with a letter
  letter_first : (byte : ℕ) (bytes : Text) → IsUtf8 (45 ∷ byte ∷ bytes) → (letter : ℕ) × (slice_get (chars (byte ∷ bytes)) 0 ≡ Some letter)
  unfolding chars encode_utf8
  letter_first byte bytes text = go (chars (byte ∷ bytes)) refl
    where
      go : (letters : List ℕ) → chars (byte ∷ bytes) ≡ letters → (letter : ℕ) × (slice_get (chars (byte ∷ bytes)) 0 ≡ Some letter)
      go [] none =
          let all : encode_utf8_all (45 ∷ []) ≡ 45 ∷ byte ∷ bytes = ap (λ (cs : List ℕ). encode_utf8_all (45 ∷ cs)) (sym none) ∙ encodes-chars (45 ∷ byte ∷ bytes) text in
          let lengths : 1 ≡ suc (suc (length bytes)) = ap length all in
          absurd (omega arith)
      go (letter ∷ letters) is = (letter, rw is refl)

  short_refused : (byte : ℕ) (bytes : Text) → (byte == 45) ≡ false → IsUtf8 (45 ∷ byte ∷ bytes) → Refuses (turn name at (45 ∷ byte ∷ bytes))
  short_refused byte bytes other text =
      let letter = letter_first byte bytes text in
      let no_dashes : bytes_eq (45 ∷ byte ∷ bytes) (codes "--") ≡ false = rw other refl in
      let no_long : long_of (45 ∷ byte ∷ bytes) ≡ None = rw other refl in
      let is : short_of (45 ∷ byte ∷ bytes) ≡ Some (byte ∷ bytes) = rw other refl in
      letter_refused (45 ∷ byte ∷ bytes) no_dashes byte bytes letter.0 no_long is letter.1

  module _ (byte : ℕ) (bytes : Text) where
    abbrev word : Text
    word = 45 ∷ 45 ∷ byte ∷ bytes

    abbrev front : Text
    front = before_first is_equals (byte ∷ bytes)

    -- a word without `=` is the name of an option
    whole_word : (flag : Text) → flag ≡ front → has_byte 61 (byte ∷ bytes) ≡ false → word ≡ 45 ∷ 45 ∷ flag
    whole_word flag is none = ap (λ (text : Text). 45 ∷ 45 ∷ text) (sym (is ∙ front_whole (byte ∷ bytes) none))

    valued_word : (flag : Text) → flag ≡ front → has_byte 61 (byte ∷ bytes) ≡ true → word ≡ 45 ∷ 45 ∷ (flag ++ (61 ∷ after_first is_equals (byte ∷ bytes)))
    valued_word flag is some =
        ap (λ (text : Text). 45 ∷ 45 ∷ text) (parts_joined (byte ∷ bytes) some ∙ ap (λ (text : Text). text ++ (61 ∷ after_first is_equals (byte ∷ bytes))) (sym is))

    flag_refused : (flag : Text) (given : Given) → option_of (45 ∷ 45 ∷ flag) ≡ Some given → arg_by_long rules flag ≡ Some (flag_built flag) → option_of word ≡ None
        → bytes_eq flag front ≡ true → Refuses (turn name at word)
    flag_refused flag given gives found none same = go (has_byte 61 (byte ∷ bytes)) refl
      where
        is : flag ≡ front
        is = same_bytes _ _ same

        go : (b : Bool) → has_byte 61 (byte ∷ bytes) ≡ b → Refuses (turn name at word)
        go false no_equals = absurd (some≢none given (sym gives ∙ ap option_of (sym (whole_word flag is no_equals)) ∙ none))
        go true equals =
            let long : long_of word ≡ Some (front, Some (after_first is_equals (byte ∷ bytes))) = rw equals refl in
            valued_refused word refl front _ flag long (subst (λ (text : Text). arg_by_long rules text ≡ Some (flag_built flag)) is found)

    long_refused : bytes_eq word (codes "--map") ≡ false → option_of word ≡ None → Refuses (turn name at word)
    long_refused no_map none = on_map (bytes_eq (codes "map") front) refl
      where
        unknown : bytes_eq (codes "map") front ≡ false → bytes_eq (codes "raw") front ≡ false → bytes_eq (codes "places") front ≡ false → bytes_eq (codes "trace") front ≡ false
            → bytes_eq (codes "trust") front ≡ false → Refuses (turn name at word)
        unknown not_map not_raw not_places not_trace not_trust =
            unknown_refused word refl front (name_and_value (byte ∷ bytes)).1 refl (by_other front not_map not_raw not_places not_trace not_trust)

        on_trust : (b : Bool) → bytes_eq (codes "trust") front ≡ b → bytes_eq (codes "map") front ≡ false → bytes_eq (codes "raw") front ≡ false
            → bytes_eq (codes "places") front ≡ false → bytes_eq (codes "trace") front ≡ false → Refuses (turn name at word)
        on_trust true same _ _ _ _ = flag_refused (codes "trust") trust refl by_trust none same
        on_trust false e not_map not_raw not_places not_trace = unknown not_map not_raw not_places not_trace e

        on_trace : (b : Bool) → bytes_eq (codes "trace") front ≡ b → bytes_eq (codes "map") front ≡ false → bytes_eq (codes "raw") front ≡ false
            → bytes_eq (codes "places") front ≡ false → Refuses (turn name at word)
        on_trace true same _ _ _ = flag_refused (codes "trace") trace refl by_trace none same
        on_trace false e not_map not_raw not_places = on_trust (bytes_eq (codes "trust") front) refl not_map not_raw not_places e

        on_places : (b : Bool) → bytes_eq (codes "places") front ≡ b → bytes_eq (codes "map") front ≡ false → bytes_eq (codes "raw") front ≡ false → Refuses (turn name at word)
        on_places true same _ _ = flag_refused (codes "places") places refl by_places none same
        on_places false e not_map not_raw = on_trace (bytes_eq (codes "trace") front) refl not_map not_raw e

        on_raw : (b : Bool) → bytes_eq (codes "raw") front ≡ b → bytes_eq (codes "map") front ≡ false → Refuses (turn name at word)
        on_raw true same _ = flag_refused (codes "raw") raw refl by_raw none same
        on_raw false e not_map = on_places (bytes_eq (codes "places") front) refl not_map e

        map_named : codes "map" ≡ front → (b : Bool) → has_byte 61 (byte ∷ bytes) ≡ b → Refuses (turn name at word)
        map_named is false no_equals = absurd (true≢false (sym (ap (λ (text : Text). bytes_eq text (codes "--map")) (whole_word (codes "map") is no_equals)) ∙ no_map))
        map_named is true equals = absurd (some≢none _ (sym (ap option_of (valued_word (codes "map") is equals)) ∙ none))

        on_map : (b : Bool) → bytes_eq (codes "map") front ≡ b → Refuses (turn name at word)
        on_map true same = map_named (same_bytes _ _ same) (has_byte 61 (byte ∷ bytes)) refl
        on_map false e = on_raw (bytes_eq (codes "raw") front) refl e

  -- a word that isn't plain, nor `--` nor `--map`, and gives no option
  pub refused : (word : Text) → bytes_eq word (codes "--") ≡ false → bytes_eq word (codes "--map") ≡ false → is_plain word ≡ false → option_of word ≡ None → IsUtf8 word
      → Refuses (turn name at word)
  refused [] _ _ dash _ _ = absurd (true≢false dash)
  refused (byte ∷ []) _ _ dash _ _ = absurd (true≢false dash)
  refused (byte ∷ next ∷ bytes) no_dashes no_map dash none text = from_first (byte == 45) refl
    where
      from_rest : (rest : Text) → bytes_eq (45 ∷ 45 ∷ rest) (codes "--") ≡ false → bytes_eq (45 ∷ 45 ∷ rest) (codes "--map") ≡ false → option_of (45 ∷ 45 ∷ rest) ≡ None
          → Refuses (turn name at (45 ∷ 45 ∷ rest))
      from_rest [] no_dashes _ _ = absurd (true≢false no_dashes)
      from_rest (third ∷ rest) _ no_map none = long_refused third rest no_map none

      from_next : (b : Bool) → (next == 45) ≡ b → bytes_eq (45 ∷ next ∷ bytes) (codes "--") ≡ false → bytes_eq (45 ∷ next ∷ bytes) (codes "--map") ≡ false
          → option_of (45 ∷ next ∷ bytes) ≡ None → IsUtf8 (45 ∷ next ∷ bytes) → Refuses (turn name at (45 ∷ next ∷ bytes))
      from_next false other _ _ _ text = short_refused next bytes other text
      from_next true same no_dashes no_map none text =
          subst (λ (x : ℕ). bytes_eq (45 ∷ x ∷ bytes) (codes "--") ≡ false → bytes_eq (45 ∷ x ∷ bytes) (codes "--map") ≡ false → option_of (45 ∷ x ∷ bytes) ≡ None
          → IsUtf8 (45 ∷ x ∷ bytes) → Refuses (turn name at (45 ∷ x ∷ bytes)))
          (sym (eqb-true next 45 same)) (λ no_dashes no_map none _. from_rest bytes no_dashes no_map none) no_dashes no_map none text

      from_first : (b : Bool) → (byte == 45) ≡ b → Refuses (turn name at (byte ∷ next ∷ bytes))
      from_first false other = absurd (true≢false (sym (rw other refl) ∙ dash))
      from_first true same =
          subst (λ (x : ℕ). bytes_eq (x ∷ next ∷ bytes) (codes "--") ≡ false → bytes_eq (x ∷ next ∷ bytes) (codes "--map") ≡ false → option_of (x ∷ next ∷ bytes) ≡ None
          → IsUtf8 (x ∷ next ∷ bytes) → Refuses (turn name at (x ∷ next ∷ bytes)))
          (sym (eqb-true byte 45 same)) (from_next (next == 45) refl) no_dashes no_map none text
