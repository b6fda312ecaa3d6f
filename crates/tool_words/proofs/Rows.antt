-- What the rows of `clap`'s matches say once words are used: the positional words, and the first use of each option.
use Rattle.std.proofs.Common.{◌≡◌, ◌∙◌, ◌++◌, Bool, cond, true, false, not, List, [], ◌∷◌, Option, Some, None, codes, refl, sym, ap, subst, option_map, option_and_then, true≢false, find, is_some}
use Rattle.std.specs.Prelude.{⊤}
use Rattle.std.specs.Str.{bytes_eq}
use Rattle.clap.specs.Walk.{Row, Text, has_row, stronger, with_values, without}
use Rattle.clap.specs.declared.builder.value_parser.Reading.{Reading}
use Rattle.clap.specs.declared.builder.value_parser.Reading.TheVariants.{AsWritten}
use Rattle.clap.specs.declared.parser.matches.ValueSource.{ValueSource}
use Rattle.clap.specs.declared.parser.matches.ValueSource.TheVariants.{CommandLine}
use Rattle.tool_words.specs.Words.{Given, raw, places, trace, trust, map_in, Parts, is_given, is_nonempty, names_nothing, same_option}
use Rattle.tool_words.proofs.Basics.{any_is_found, find_last, find_more, find_none, map_some, option_map_none, some≢none}
use Rattle.tool_words.proofs.Items.{Item, word, given, use_item, use_items}
use Rattle.list_laws.proofs.Contents.{same_bytes}

-- ---- one row by its id

abbrev pub row_at : Text → List Row → Option Row
row_at id rows = find (λ (row : Row). bytes_eq row.id id) rows

-- an id has a row where one is found
pub has_row_at : (id : Text) (rows : List Row) → has_row id rows ≡ is_some (row_at id rows)
has_row_at id rows = any_is_found (λ (row : Row). bytes_eq row.id id) rows

module _ (id : Text) where
  without_none : (rows : List Row) → row_at id rows ≡ None → without id rows ≡ rows
  without_none [] none = refl
  without_none (row ∷ rows) none = go (bytes_eq row.id id) refl (λ h. without_none rows h)
    where
      go : (b : Bool) → bytes_eq row.id id ≡ b → (row_at id rows ≡ None → without id rows ≡ rows) → without id (row ∷ rows) ≡ row ∷ rows
      go true e later = absurd (some≢none row (sym (rw e refl) ∙ none))
      go false e later =
          let rest_none : row_at id rows ≡ None = sym (rw e refl) ∙ none in
          rw e (ap (λ (rs : List Row). row ∷ rs) (later rest_none))

  module _ (how : Reading) (source : ValueSource) (values : List Text) where
    abbrev added : List Row → List Row
    added rows = with_values id how source values rows

    abbrev new_row : Row
    new_row = record { id = id; values = values; count = None; source = Some source; reading = how }

    abbrev more : Row → Row
    more row = record row { values = row.values ++ values; source = Some (stronger row.source source) }

    module _ (id_is : bytes_eq id id ≡ true) where
      pub added_new : (rows : List Row) → row_at id rows ≡ None → row_at id (added rows) ≡ Some new_row
      added_new [] none = rw id_is refl
      added_new (row ∷ rows) none = go (bytes_eq row.id id) refl (λ h. added_new rows h)
        where
          go : (b : Bool) → bytes_eq row.id id ≡ b → (row_at id rows ≡ None → row_at id (added rows) ≡ Some new_row) → row_at id (added (row ∷ rows)) ≡ Some new_row
          go true e later = absurd (some≢none row (sym (rw e refl) ∙ none))
          go false e later =
              let rest_none : row_at id rows ≡ None = sym (rw e refl) ∙ none in
              rw (e, e) (later rest_none)

      added_more : (rows : List Row) (old : Row) → row_at id rows ≡ Some old → row_at id (added rows) ≡ Some (more old)
      added_more [] old some = absurd (some≢none old (sym some))
      added_more (row ∷ rows) old some = go (bytes_eq row.id id) refl (λ h. added_more rows old h)
        where
          go : (b : Bool) → bytes_eq row.id id ≡ b → (row_at id rows ≡ Some old → row_at id (added rows) ≡ Some (more old)) → row_at id (added (row ∷ rows)) ≡ Some (more old)
          go true e later =
              let is : Some row ≡ Some old = sym (rw e refl) ∙ some in
              let row_is : row ≡ old = cc in
              rw (e, e) (ap (λ (r : Row). Some (more r)) row_is)
          go false e later =
              let rest_some : row_at id rows ≡ Some old = sym (rw e refl) ∙ some in
              rw (e, e) (later rest_some)

    -- the rows of other ids stay
    pub added_other : (other : Text) → bytes_eq id other ≡ false → (rows : List Row) → row_at other (added rows) ≡ row_at other rows
    added_other other differs [] = rw differs refl
    added_other other differs (row ∷ rows) = go (bytes_eq row.id id) refl (added_other other differs rows)
      where
        go : (b : Bool) → bytes_eq row.id id ≡ b → row_at other (added rows) ≡ row_at other rows → row_at other (added (row ∷ rows)) ≡ row_at other (row ∷ rows)
        go true e later =
            let is : bytes_eq row.id other ≡ false = ap (λ (t : Text). bytes_eq t other) (same_bytes row.id id e) ∙ differs in
            rw (e, is) refl
        go false e later = rw e (ap (λ (o : Option Row). cond (bytes_eq row.id other) (Some row) o) later)

  without_other : (other : Text) → bytes_eq id other ≡ false → (rows : List Row) → row_at other (without id rows) ≡ row_at other rows
  without_other other differs [] = refl
  without_other other differs (row ∷ rows) = go (bytes_eq row.id id) refl (without_other other differs rows)
    where
      go : (b : Bool) → bytes_eq row.id id ≡ b → row_at other (without id rows) ≡ row_at other rows → row_at other (without id (row ∷ rows)) ≡ row_at other (row ∷ rows)
      go true e later =
          let is : bytes_eq row.id other ≡ false = ap (λ (t : Text). bytes_eq t other) (same_bytes row.id id e) ∙ differs in
          rw (e, is) refl
      go false e later = rw e (ap (λ (o : Option Row). cond (bytes_eq row.id other) (Some row) o) later)

-- ---- what the rows know of the words

abbrev pub id_of : Given → Text
id_of raw = codes "raw"
id_of places = codes "places"
id_of trace = codes "trace"
id_of trust = codes "trust"
id_of (map_in file) = codes "map"

abbrev pub texts_of : Given → List Text
texts_of (map_in file) = file ∷ []
texts_of _ = codes "true" ∷ []

abbrev pub row_of_option : Given → Row
row_of_option one = record { id = id_of one; values = texts_of one; count = None; source = Some CommandLine; reading = AsWritten }

abbrev pub row_of_words : List Text → Option Row
row_of_words [] = None
row_of_words (text ∷ rest) = Some (record { id = codes "words"; values = text ∷ rest; count = None; source = Some CommandLine; reading = AsWritten })

pub record Known (rows : List Row) (parts : Parts) : Type 0 where
  pub words : row_at (codes "words") rows ≡ row_of_words parts.positional
  pub options : (one : Given) → row_at (id_of one) rows ≡ option_map row_of_option (find (same_option one) parts.options)

pub known_none : Known [] (record { positional = []; options = [] })
known_none = record { words = refl; options = λ one. refl }

same_ids : (one other : Given) → same_option one other ≡ bytes_eq (id_of one) (id_of other)
same_ids raw raw = refl
same_ids places places = refl
same_ids trace trace = refl
same_ids trust trust = refl
same_ids (map_in file) (map_in other) = refl
same_ids _ _ = refl

pub same_back : (one other : Given) → same_option one other ≡ same_option other one
same_back raw raw = refl
same_back places places = refl
same_back trace trace = refl
same_back trust trust = refl
same_back (map_in file) (map_in other) = refl
same_back _ _ = refl

no_words_id : (one : Given) → bytes_eq (codes "words") (id_of one) ≡ false
no_words_id raw = refl
no_words_id places = refl
no_words_id trace = refl
no_words_id trust = refl
no_words_id (map_in file) = refl

no_option_id : (one : Given) → bytes_eq (id_of one) (codes "words") ≡ false
no_option_id raw = refl
no_option_id places = refl
no_option_id trace = refl
no_option_id trust = refl
no_option_id (map_in file) = refl

id_itself : (one : Given) → bytes_eq (id_of one) (id_of one) ≡ true
id_itself raw = refl
id_itself places = refl
id_itself trace = refl
id_itself trust = refl
id_itself (map_in file) = refl

-- ---- one more positional word or option

abbrev pub with_word : Parts → Text → Parts
with_word parts text = record parts { positional = parts.positional ++ (text ∷ []) }

abbrev pub with_given : Parts → Given → Parts
with_given parts one = record parts { options = parts.options ++ (one ∷ []) }

-- the parts with one more, where it isn't empty, and no option given before
abbrev pub take_item : Item → Parts → Option Parts
take_item (word text) parts = cond (is_nonempty text) (Some (with_word parts text)) None
take_item (given one) parts = cond (is_given one parts.options) None (cond (names_nothing one) None (Some (with_given parts one)))

abbrev pub take_items : List Item → Parts → Option Parts
take_items [] parts = Some parts
take_items (item ∷ items) parts = option_and_then (take_items items) (take_item item parts)

-- both refuse, or what the rows know is these parts
abbrev pub Alike : Option (List Row) → Option Parts → Type 0
Alike None None = ⊤
Alike (Some rows) (Some parts) = Known rows parts
Alike _ _ = ⊥

module _ (rows : List Row) (parts : Parts) (known : Known rows parts) where
  word_known : (text : Text) → Known (with_values (codes "words") AsWritten CommandLine (text ∷ []) rows) (with_word parts text)
  word_known text = record {
    words = words parts.positional known.words;
    options = λ one. added_other (codes "words") AsWritten CommandLine (text ∷ []) (id_of one) (no_words_id one) rows ∙ known.options one;
  }
    where
      words : (positional : List Text) → row_at (codes "words") rows ≡ row_of_words positional
          → row_at (codes "words") (with_values (codes "words") AsWritten CommandLine (text ∷ []) rows) ≡ row_of_words (positional ++ (text ∷ []))
      words [] is = added_new (codes "words") AsWritten CommandLine (text ∷ []) refl rows is
      words (first ∷ rest) is = added_more (codes "words") AsWritten CommandLine (text ∷ []) refl rows _ is

  -- an option that isn't given has no row
  absent : (one : Given) → is_given one parts.options ≡ false → row_at (id_of one) rows ≡ None
  absent one none = known.options one ∙ ap (option_map row_of_option) (find_none (same_option one) parts.options none)

  present : (one : Given) → is_given one parts.options ≡ true → has_row (id_of one) rows ≡ true
  present one some =
      has_row_at (id_of one) rows ∙ ap (λ (o : Option Row). is_some o) (known.options one) ∙ map_some row_of_option (find (same_option one) parts.options)
      ∙ sym (any_is_found (same_option one) parts.options) ∙ some

  option_known : (one : Given) → is_given one parts.options ≡ false
      → Known (with_values (id_of one) AsWritten CommandLine (texts_of one) (without (id_of one) rows)) (with_given parts one)
  option_known one none =
      let kept : without (id_of one) rows ≡ rows = without_none (id_of one) rows (absent one none) in
      subst (λ (rs : List Row). Known (with_values (id_of one) AsWritten CommandLine (texts_of one) rs) (with_given parts one)) (sym kept)
      (record {
        words = added_other (id_of one) AsWritten CommandLine (texts_of one) (codes "words") (no_option_id one) rows ∙ known.words;
        options = λ other. options other (bytes_eq (id_of one) (id_of other)) refl;
      })
    where
      options : (other : Given) (b : Bool) → bytes_eq (id_of one) (id_of other) ≡ b
          → row_at (id_of other) (with_values (id_of one) AsWritten CommandLine (texts_of one) rows) ≡ option_map row_of_option (find (same_option other) (parts.options ++ (one ∷ [])))
      options other false e =
          let differs : same_option other one ≡ false = same_back other one ∙ same_ids one other ∙ e in
          added_other (id_of one) AsWritten CommandLine (texts_of one) (id_of other) e rows ∙ known.options other
          ∙ ap (option_map row_of_option) (sym (find_more (same_option other) parts.options one differs))
      options other true e =
          let ties : same_option other one ≡ true = same_back other one ∙ same_ids one other ∙ e in
          let ids : id_of one ≡ id_of other = same_bytes _ _ e in
          let none_found : find (same_option other) parts.options ≡ None =
          option_map_none row_of_option _ (sym (known.options other) ∙ ap (λ (id : Text). row_at id rows) (sym ids) ∙ absent one none) in
          ap (λ (id : Text). row_at id (with_values (id_of one) AsWritten CommandLine (texts_of one) rows)) (sym ids)
          ∙ added_new (id_of one) AsWritten CommandLine (texts_of one) (id_itself one) rows (absent one none)
          ∙ ap (option_map row_of_option) (sym (find_last (same_option other) parts.options one ties none_found))

  use_word : (text : Text) (b : Bool) → is_nonempty text ≡ b → Alike (use_item (word text) rows) (cond b (Some (with_word parts text)) None)
  unfolding use_item
  use_word text true e = rw e (word_known text)
  use_word text false e = rw e tt

  use_given : (one : Given) (b c : Bool) → is_given one parts.options ≡ b → names_nothing one ≡ c
      → Alike (use_item (given one) rows) (cond b None (cond c None (Some (with_given parts one))))
  unfolding use_item
  use_given raw true c e n = rw (present raw e) tt
  use_given raw false false e n = rw (has_row_at (codes "raw") rows, absent raw e) (option_known raw e)
  use_given raw false true e n = absurd (true≢false (sym n))
  use_given places true c e n = rw (present places e) tt
  use_given places false false e n = rw (has_row_at (codes "places") rows, absent places e) (option_known places e)
  use_given places false true e n = absurd (true≢false (sym n))
  use_given trace true c e n = rw (present trace e) tt
  use_given trace false false e n = rw (has_row_at (codes "trace") rows, absent trace e) (option_known trace e)
  use_given trace false true e n = absurd (true≢false (sym n))
  use_given trust true c e n = rw (present trust e) tt
  use_given trust false false e n = rw (has_row_at (codes "trust") rows, absent trust e) (option_known trust e)
  use_given trust false true e n = absurd (true≢false (sym n))
  use_given (map_in file) true c e n = rw (present (map_in file) e) tt
  use_given (map_in file) false c e n = on_file (is_nonempty file) refl
    where
      on_file : (b : Bool) → is_nonempty file ≡ b → Alike (use_item (given (map_in file)) rows) (cond c None (Some (with_given parts (map_in file))))
      on_file b is =
          let c_is : c ≡ not b = sym n ∙ ap not is in
          by b is c_is
        where
          by : (b : Bool) → is_nonempty file ≡ b → c ≡ not b → Alike (use_item (given (map_in file)) rows) (cond c None (Some (with_given parts (map_in file))))
          by false is c_is = rw (c_is, has_row_at (codes "map") rows, absent (map_in file) e, is) tt
          by true is c_is = rw (c_is, has_row_at (codes "map") rows, absent (map_in file) e, is) (option_known (map_in file) e)

  pub use_alike : (item : Item) → Alike (use_item item rows) (take_item item parts)
  use_alike (word text) = use_word text (is_nonempty text) refl
  use_alike (given one) = use_given one (is_given one parts.options) (names_nothing one) refl refl

then_alike : (f : List Row → Option (List Row)) (g : Parts → Option Parts) → ((rows : List Row) (parts : Parts) → Known rows parts → Alike (f rows) (g parts))
    → (a : Option (List Row)) (b : Option Parts) → Alike a b → Alike (option_and_then f a) (option_and_then g b)
then_alike f g each None None alike = tt
then_alike f g each None (Some parts) alike = absurd alike
then_alike f g each (Some rows) None alike = absurd alike
then_alike f g each (Some rows) (Some parts) alike = each rows parts alike

pub uses_alike : (items : List Item) (rows : List Row) (parts : Parts) → Known rows parts → Alike (use_items items rows) (take_items items parts)
unfolding use_items
uses_alike [] rows parts known = known
uses_alike (item ∷ items) rows parts known =
    then_alike (use_items items) (take_items items) (λ later now k. uses_alike items later now k) (use_item item rows) (take_item item parts) (use_alike rows parts known item)
