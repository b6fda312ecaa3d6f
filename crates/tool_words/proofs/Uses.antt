-- `clap`'s walk over the words behind a command's name uses, one by one, what the words are.
use Rattle.std.proofs.Common.{◌≡◌, ◌∙◌, ◌++◌, ℕ, Bool, cond, true, false, List, [], ◌∷◌, Option, Some, None, codes, refl, sym, ap, map, option_and_then, take, drop, take-append-drop, true≢false, IsUtf8, ◌==◌}
use Rattle.std.specs.Prelude.{⊤}
use Rattle.std.specs.Str.{bytes_eq}
use Rattle.clap.specs.Faults.{use_fault}
use Rattle.clap.specs.Kinds.{Kinds, or_else}
use Rattle.clap.specs.Lexer.{long_of, short_of}
use Rattle.clap.specs.Walk.{Row, Text, Waiting, idle, option, positional}
use Rattle.tool_words.specs.Words.{Given, raw, places, trace, trust, map_in, is_plain, option_of}
use Rattle.tool_words.proofs.Basics.{and_then_none, and_then_some}
use Rattle.tool_words.proofs.Items.{Item, word, given, before, items_behind_map, items_of, past, past_settled, run, run_refused, run_step, settle, settle_map, settle_waiting, settle_word, unless, use_item, use_items, words_items}
use Rattle.tool_words.proofs.Refusals.{refused}
use Rattle.tool_words.proofs.Steps.{dashes, file_step, held, map_alone, map_pending, option_step, plain_step, rule_for, settled_now, settling, spelled, state, trailing_step, used_now, values_for, word_pending}
use Rattle.list_laws.proofs.Contents.{same_bytes}

-- each word is text
abbrev pub AreTexts : List Text → Type 0
AreTexts [] = ⊤
AreTexts (text ∷ rest) = IsUtf8 text × AreTexts rest

-- ---- what a word is

not_dash : (byte next : ℕ) (rest : Text) → is_plain (byte ∷ next ∷ rest) ≡ true → (byte == 45) ≡ false
not_dash byte next rest plain = go (byte == 45) refl
  where
    go : (b : Bool) → (byte == 45) ≡ b → (byte == 45) ≡ false
    go false e = e
    go true e = absurd (true≢false (sym plain ∙ rw e refl))

plain_long : (text : Text) → is_plain text ≡ true → long_of text ≡ None
plain_long [] plain = refl
plain_long (byte ∷ []) plain = go (byte == 45) refl
  where
    go : (b : Bool) → (byte == 45) ≡ b → long_of (byte ∷ []) ≡ None
    go false e = rw e refl
    go true e = rw e refl
plain_long (byte ∷ next ∷ rest) plain = rw (not_dash byte next rest plain) refl

plain_short : (text : Text) → is_plain text ≡ true → short_of text ≡ None
plain_short [] plain = refl
plain_short (byte ∷ []) plain = go (byte == 45) refl
  where
    go : (b : Bool) → (byte == 45) ≡ b → short_of (byte ∷ []) ≡ None
    go false e = rw e refl
    go true e = rw e refl
plain_short (byte ∷ next ∷ rest) plain = rw (not_dash byte next rest plain) refl

plain_dashes : (text : Text) → is_plain text ≡ true → bytes_eq text (codes "--") ≡ false
plain_dashes text plain = go (bytes_eq text (codes "--")) refl
  where
    go : (b : Bool) → bytes_eq text (codes "--") ≡ b → bytes_eq text (codes "--") ≡ false
    go false e = e
    go true e = absurd (true≢false (sym plain ∙ ap is_plain (same_bytes text (codes "--") e)))

-- a word that gives an option alone is spelled so
option_spelled : (text : Text) (one : Given) → option_of text ≡ Some one → text ≡ spelled one
option_spelled text one gives = on_raw (bytes_eq text (codes "--raw")) refl
  where
    on_map : (b : Bool) → bytes_eq (take 6 text) (codes "--map=") ≡ b → bytes_eq text (codes "--raw") ≡ false → bytes_eq text (codes "--places") ≡ false
        → bytes_eq text (codes "--trace") ≡ false → bytes_eq text (codes "--trust") ≡ false → text ≡ spelled one
    on_map true e no_raw no_places no_trace no_trust =
        let is : Some (map_in (drop 6 text)) ≡ Some one = sym (rw (no_raw, no_places, no_trace, no_trust, e) refl) ∙ gives in
        let joined : text ≡ spelled (map_in (drop 6 text)) = sym (take-append-drop 6 text) ∙ ap (λ (front : Text). front ++ drop 6 text) (same_bytes _ _ e) in
        joined ∙ ap spelled (let one_is : map_in (drop 6 text) ≡ one = cc in one_is)
    on_map false e no_raw no_places no_trace no_trust =
        let is : None ≡ Some one = sym (rw (no_raw, no_places, no_trace, no_trust, e) refl) ∙ gives in
        absurd cc

    on_trust : (b : Bool) → bytes_eq text (codes "--trust") ≡ b → bytes_eq text (codes "--raw") ≡ false → bytes_eq text (codes "--places") ≡ false
        → bytes_eq text (codes "--trace") ≡ false → text ≡ spelled one
    on_trust true e no_raw no_places no_trace =
        let is : Some trust ≡ Some one = sym (rw (no_raw, no_places, no_trace, e) refl) ∙ gives in
        same_bytes _ _ e ∙ ap spelled (let one_is : trust ≡ one = cc in one_is)
    on_trust false e no_raw no_places no_trace = on_map (bytes_eq (take 6 text) (codes "--map=")) refl no_raw no_places no_trace e

    on_trace : (b : Bool) → bytes_eq text (codes "--trace") ≡ b → bytes_eq text (codes "--raw") ≡ false → bytes_eq text (codes "--places") ≡ false → text ≡ spelled one
    on_trace true e no_raw no_places =
        let is : Some trace ≡ Some one = sym (rw (no_raw, no_places, e) refl) ∙ gives in
        same_bytes _ _ e ∙ ap spelled (let one_is : trace ≡ one = cc in one_is)
    on_trace false e no_raw no_places = on_trust (bytes_eq text (codes "--trust")) refl no_raw no_places e

    on_places : (b : Bool) → bytes_eq text (codes "--places") ≡ b → bytes_eq text (codes "--raw") ≡ false → text ≡ spelled one
    on_places true e no_raw =
        let is : Some places ≡ Some one = sym (rw (no_raw, e) refl) ∙ gives in
        same_bytes _ _ e ∙ ap spelled (let one_is : places ≡ one = cc in one_is)
    on_places false e no_raw = on_trace (bytes_eq text (codes "--trace")) refl no_raw e

    on_raw : (b : Bool) → bytes_eq text (codes "--raw") ≡ b → text ≡ spelled one
    on_raw true e =
        let is : Some raw ≡ Some one = sym (rw e refl) ∙ gives in
        same_bytes _ _ e ∙ ap spelled (let one_is : raw ≡ one = cc in one_is)
    on_raw false e = on_places (bytes_eq text (codes "--places")) refl e

-- ---- what the words behind it are

module _ (text : Text) (rest : List Text) where
  items_dashes : bytes_eq text (codes "--") ≡ true → items_of (text ∷ rest) ≡ Some (words_items rest)
  unfolding items_of
  items_dashes dashes = rw dashes refl

  items_map : bytes_eq text (codes "--") ≡ false → bytes_eq text (codes "--map") ≡ true → items_of (text ∷ rest) ≡ items_behind_map rest
  unfolding items_of
  items_map no_dashes map = rw (no_dashes, map) refl

  items_plain : bytes_eq text (codes "--") ≡ false → bytes_eq text (codes "--map") ≡ false → is_plain text ≡ true → items_of (text ∷ rest) ≡ before (word text) (items_of rest)
  unfolding items_of
  items_plain no_dashes no_map plain = rw (no_dashes, no_map, plain) refl

  items_option : (one : Given) → bytes_eq text (codes "--") ≡ false → bytes_eq text (codes "--map") ≡ false → is_plain text ≡ false → option_of text ≡ Some one
      → items_of (text ∷ rest) ≡ before (given one) (items_of rest)
  unfolding items_of
  items_option one no_dashes no_map dash gives = rw (no_dashes, no_map, dash, gives) refl

  items_none : bytes_eq text (codes "--") ≡ false → bytes_eq text (codes "--map") ≡ false → is_plain text ≡ false → option_of text ≡ None → items_of (text ∷ rest) ≡ None
  unfolding items_of
  items_none no_dashes no_map dash gives = rw (no_dashes, no_map, dash, gives) refl

  items_file : is_plain text ≡ true → items_behind_map (text ∷ rest) ≡ before (given (map_in text)) (items_of rest)
  unfolding items_of
  items_file plain = rw plain refl

  items_no_file : is_plain text ≡ false → items_behind_map (text ∷ rest) ≡ None
  unfolding items_of
  items_no_file dash = rw dash refl

-- ---- the walk

abbrev pub use_these : Option (List Item) → List Row → Option (List Row)
use_these items rows = option_and_then (λ those. use_items those rows) items

use_before : (item : Item) (items : Option (List Item)) (rows : List Row) → use_these (before item items) rows ≡ option_and_then (use_these items) (use_item item rows)
unfolding use_items
use_before item None rows = sym (and_then_none (use_item item rows))
use_before item (Some items) rows = refl

past_unless : {X Y : Type 0} (faults : Kinds) (k : X → Option Y) (x : X) → past faults (k x) ≡ option_and_then k (unless faults x)
past_unless [] k x = refl
past_unless (fault ∷ faults) k x = refl

past_both : {X : Type 0} (a b : Kinds) (o : Option X) → past (or_else a b) o ≡ past a (past b o)
past_both [] b o = refl
past_both (fault ∷ faults) b o = refl

past_none : {X Y : Type 0} (faults : Kinds) (x : X) (o : Option Y) → unless faults x ≡ None → past faults o ≡ None
past_none [] x o none = absurd cc
past_none (fault ∷ faults) x o none = refl

module _ (name : Text) where
  -- behind `--`
  trailing_uses : (rest : List Text) (waiting : Waiting) (rows : List Row) (pending : Option (Text × List Text))
      → run name (state waiting true (held rows pending)) rest ≡ option_and_then (use_items (words_items rest)) (settle name (held rows pending))
  unfolding run use_items
  trailing_uses [] waiting rows pending = sym (and_then_some (settle name (held rows pending)))
  trailing_uses (text ∷ rest) waiting rows pending =
      run_step name _ _ text rest _ (trailing_step name rows pending waiting text)
      ∙ past_settled name (held rows pending) (use_items (words_items (text ∷ rest))) _
      (trailing_uses rest positional (settled_now name rows pending) (word_pending text)
      ∙ ap (option_and_then (use_items (words_items rest))) (settle_word name (settled_now name rows pending) text))

  -- what the words do from where the walk stands, and behind `--map`
  abbrev Uses : List Text → Type 0
  Uses rest = (several : Bool) (rows : List Row) (pending : Option (Text × List Text)) → AreTexts rest
      → run name (state (cond several positional idle) false (held rows pending)) rest ≡ option_and_then (use_these (items_of rest)) (settle name (held rows pending))

  abbrev UsesBehindMap : List Text → Type 0
  UsesBehindMap rest = (rows : List Row) → AreTexts rest
      → run name (state (option (codes "map")) false (held rows (map_pending []))) rest ≡ use_these (items_behind_map rest) rows

  module _ (text : Text) (rest : List Text) (text_is : IsUtf8 text) (rest_are : AreTexts rest) where
    module _ (waiting : Waiting) (rows : List Row) (pending : Option (Text × List Text)) where
      from_dashes : bytes_eq text (codes "--") ≡ true
          → run name (state waiting false (held rows pending)) (text ∷ rest) ≡ option_and_then (use_items (words_items rest)) (settle name (held rows pending))
      from_dashes e =
          ap (λ (t : Text). run name (state waiting false (held rows pending)) (t ∷ rest)) (same_bytes text (codes "--") e)
          ∙ run_step name _ _ (codes "--") rest _ (dashes name waiting (held rows pending)) ∙ trailing_uses rest waiting rows pending

      from_map : UsesBehindMap rest → bytes_eq text (codes "--map") ≡ true
          → run name (state waiting false (held rows pending)) (text ∷ rest) ≡ option_and_then (use_these (items_behind_map rest)) (settle name (held rows pending))
      from_map behind e =
          ap (λ (t : Text). run name (state waiting false (held rows pending)) (t ∷ rest)) (same_bytes text (codes "--map") e)
          ∙ run_step name _ _ (codes "--map") rest _ (map_alone name rows pending waiting)
          ∙ past_settled name (held rows pending) (use_these (items_behind_map rest)) _ (behind (settled_now name rows pending) rest_are)

      from_option : Uses rest → (one : Given) → option_of text ≡ Some one
          → run name (state waiting false (held rows pending)) (text ∷ rest)
          ≡ past (settling name (held rows pending)) (use_these (before (given one) (items_of rest)) (settled_now name rows pending))
      unfolding use_item
      from_option later one gives =
          ap (λ (t : Text). run name (state waiting false (held rows pending)) (t ∷ rest)) (option_spelled text one gives)
          ∙ run_step name _ _ (spelled one) rest _ (option_step name rows pending waiting one)
          ∙ past_both (settling name (held rows pending)) _ _
          ∙ ap (past (settling name (held rows pending)))
          (ap (past (use_fault false (rule_for one) (values_for one) (settled_now name rows pending))) (later false (used_now name rows pending one) None rest_are)
          ∙ past_unless (use_fault false (rule_for one) (values_for one) (settled_now name rows pending)) (use_these (items_of rest)) (used_now name rows pending one)
          ∙ sym (use_before (given one) (items_of rest) (settled_now name rows pending)))

      from_other : bytes_eq text (codes "--") ≡ false → bytes_eq text (codes "--map") ≡ false → is_plain text ≡ false → option_of text ≡ None
          → run name (state waiting false (held rows pending)) (text ∷ rest) ≡ None
      from_other no_dashes no_map dash none = run_refused name _ text rest (refused waiting rows pending name text no_dashes no_map dash none text_is)

    from_plain : Uses rest → (several : Bool) (rows : List Row) (pending : Option (Text × List Text)) → is_plain text ≡ true
        → run name (state (cond several positional idle) false (held rows pending)) (text ∷ rest)
        ≡ option_and_then (use_these (before (word text) (items_of rest))) (settle name (held rows pending))
    from_plain later several rows pending plain =
        run_step name _ _ text rest _ (plain_step name rows pending several text (plain_dashes text plain) (plain_long text plain) (plain_short text plain))
        ∙ past_settled name (held rows pending) (use_these (before (word text) (items_of rest))) _
        (later true (settled_now name rows pending) (word_pending text) rest_are
        ∙ ap (option_and_then (use_these (items_of rest))) (settle_word name (settled_now name rows pending) text)
        ∙ sym (use_before (word text) (items_of rest) (settled_now name rows pending)))

    module _ (later : Uses rest) (behind : UsesBehindMap rest) where
      one_more : Uses (text ∷ rest)
      one_more several rows pending _ = on_dashes (bytes_eq text (codes "--")) refl
        where
          is : (items : Option (List Item)) → items_of (text ∷ rest) ≡ items
              → run name (state (cond several positional idle) false (held rows pending)) (text ∷ rest) ≡ option_and_then (use_these items) (settle name (held rows pending))
              → run name (state (cond several positional idle) false (held rows pending)) (text ∷ rest)
              ≡ option_and_then (use_these (items_of (text ∷ rest))) (settle name (held rows pending))
          is items are e = e ∙ ap (λ (those : Option (List Item)). option_and_then (use_these those) (settle name (held rows pending))) (sym are)

          on_option : (o : Option Given) → option_of text ≡ o → bytes_eq text (codes "--") ≡ false → bytes_eq text (codes "--map") ≡ false → is_plain text ≡ false
              → run name (state (cond several positional idle) false (held rows pending)) (text ∷ rest)
              ≡ option_and_then (use_these (items_of (text ∷ rest))) (settle name (held rows pending))
          on_option None e no_dashes no_map dash =
              is None (items_none text rest no_dashes no_map dash e)
              (from_other (cond several positional idle) rows pending no_dashes no_map dash e ∙ sym (and_then_none (settle name (held rows pending))))
          on_option (Some one) e no_dashes no_map dash =
              is (before (given one) (items_of rest)) (items_option text rest one no_dashes no_map dash e)
              (from_option (cond several positional idle) rows pending later one e ∙ past_unless (settling name (held rows pending)) (use_these (before (given one) (items_of rest))) (settled_now name rows pending))

          on_plain : (b : Bool) → is_plain text ≡ b → bytes_eq text (codes "--") ≡ false → bytes_eq text (codes "--map") ≡ false
              → run name (state (cond several positional idle) false (held rows pending)) (text ∷ rest)
              ≡ option_and_then (use_these (items_of (text ∷ rest))) (settle name (held rows pending))
          on_plain true e no_dashes no_map =
              is (before (word text) (items_of rest)) (items_plain text rest no_dashes no_map e) (from_plain later several rows pending e)
          on_plain false e no_dashes no_map = on_option (option_of text) refl no_dashes no_map e

          on_map : (b : Bool) → bytes_eq text (codes "--map") ≡ b → bytes_eq text (codes "--") ≡ false
              → run name (state (cond several positional idle) false (held rows pending)) (text ∷ rest)
              ≡ option_and_then (use_these (items_of (text ∷ rest))) (settle name (held rows pending))
          on_map true e no_dashes = is (items_behind_map rest) (items_map text rest no_dashes e) (from_map (cond several positional idle) rows pending behind e)
          on_map false e no_dashes = on_plain (is_plain text) refl no_dashes e

          on_dashes : (b : Bool) → bytes_eq text (codes "--") ≡ b
              → run name (state (cond several positional idle) false (held rows pending)) (text ∷ rest)
              ≡ option_and_then (use_these (items_of (text ∷ rest))) (settle name (held rows pending))
          on_dashes true e = is (Some (words_items rest)) (items_dashes text rest e) (from_dashes (cond several positional idle) rows pending e)
          on_dashes false e = on_map (bytes_eq text (codes "--map")) refl e

      one_file : UsesBehindMap (text ∷ rest)
      one_file rows _ = on_plain (is_plain text) refl
        where
          is : (items : Option (List Item)) → items_behind_map (text ∷ rest) ≡ items
              → run name (state (option (codes "map")) false (held rows (map_pending []))) (text ∷ rest) ≡ use_these items rows
              → run name (state (option (codes "map")) false (held rows (map_pending []))) (text ∷ rest) ≡ use_these (items_behind_map (text ∷ rest)) rows
          is items are e = e ∙ ap (λ (those : Option (List Item)). use_these those rows) (sym are)

          -- nothing is used while `--map` waits for its file
          waits : {X : Type 0} (o : Option X) → past (settling name (held rows (map_pending []))) o ≡ None
          waits o = past_none (settling name (held rows (map_pending []))) (settled_now name rows (map_pending [])) o (settle_waiting name rows)

          on_option : (o : Option Given) → option_of text ≡ o → bytes_eq text (codes "--") ≡ false → bytes_eq text (codes "--map") ≡ false → is_plain text ≡ false
              → run name (state (option (codes "map")) false (held rows (map_pending []))) (text ∷ rest) ≡ None
          on_option None e no_dashes no_map dash = from_other (option (codes "map")) rows (map_pending []) no_dashes no_map dash e
          on_option (Some one) e no_dashes no_map dash = from_option (option (codes "map")) rows (map_pending []) later one e ∙ waits _

          on_map : (b : Bool) → bytes_eq text (codes "--map") ≡ b → bytes_eq text (codes "--") ≡ false → is_plain text ≡ false
              → run name (state (option (codes "map")) false (held rows (map_pending []))) (text ∷ rest) ≡ None
          on_map true e no_dashes dash =
              from_map (option (codes "map")) rows (map_pending []) behind e ∙ ap (option_and_then (use_these (items_behind_map rest))) (settle_waiting name rows)
          on_map false e no_dashes dash = on_option (option_of text) refl no_dashes e dash

          on_dashes : (b : Bool) → bytes_eq text (codes "--") ≡ b → is_plain text ≡ false
              → run name (state (option (codes "map")) false (held rows (map_pending []))) (text ∷ rest) ≡ None
          on_dashes true e dash = from_dashes (option (codes "map")) rows (map_pending []) e ∙ ap (option_and_then (use_items (words_items rest))) (settle_waiting name rows)
          on_dashes false e dash = on_map (bytes_eq text (codes "--map")) refl e dash

          on_plain : (b : Bool) → is_plain text ≡ b
              → run name (state (option (codes "map")) false (held rows (map_pending []))) (text ∷ rest) ≡ use_these (items_behind_map (text ∷ rest)) rows
          on_plain true e =
              is (before (given (map_in text)) (items_of rest)) (items_file text rest e)
              (run_step name _ _ text rest _ (file_step name rows text (plain_dashes text e) (plain_long text e) (plain_short text e))
              ∙ later false rows (map_pending (text ∷ [])) rest_are
              ∙ ap (option_and_then (use_these (items_of rest))) (settle_map name rows text)
              ∙ sym (use_before (given (map_in text)) (items_of rest) rows))
          on_plain false e = is None (items_no_file text rest e) (on_dashes (bytes_eq text (codes "--")) refl e)

  none_left : Uses []
  unfolding run items_of use_items
  none_left several rows pending _ = sym (and_then_some (settle name (held rows pending)))

  no_file_left : UsesBehindMap []
  unfolding run items_of
  no_file_left rows _ = settle_waiting name rows

  both_used : (rest : List Text) → Uses rest × UsesBehindMap rest
  both_used [] = (none_left, no_file_left)
  both_used (text ∷ rest) =
      let later = both_used rest in (
        λ several rows pending are. one_more text rest are.0 are.1 later.0 later.1 several rows pending are,
        λ rows are. one_file text rest are.0 are.1 later.0 later.1 rows are,
      )

  -- the words behind a command's name
  pub all_used : (rest : List Text) → AreTexts rest → run name (state idle false (held [] None)) rest ≡ use_these (items_of rest) []
  all_used rest are = (both_used rest).0 false [] None are
