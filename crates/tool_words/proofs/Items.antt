-- `clap`'s walk over the words behind a command's name uses, one by one, what the words are.
use Rattle.std.proofs.Common.{◌≡◌, cond, false, List, [], ◌∷◌, Option, Some, None, codes, refl, option_map, option_and_then}
use Rattle.std.specs.Str.{bytes_eq}
use Rattle.clap.specs.Faults.{use_fault}
use Rattle.clap.specs.Kinds.{Kinds}
use Rattle.clap.specs.Walk.{Held, Row, Rule, Text, Walk, settled, used}
use Rattle.tool_words.specs.Words.{Given, map_in, is_plain, option_of}
use Rattle.tool_words.proofs.Rules.{rules, words_built}
use Rattle.tool_words.proofs.Refusals.{Refuses}
use Rattle.tool_words.proofs.Steps.{Step, held, map_pending, next, rule_for, settling, turn, values_for, word_pending}

-- a positional word or an option, in the order of the words
pub data Item : Type 0 where
  word : Text → Item
  given : Given → Item

abbrev pub words_items : List Text → List Item
words_items [] = []
words_items (text ∷ rest) = word text ∷ words_items rest

abbrev pub before : Item → Option (List Item) → Option (List Item)
before item = option_map (λ items. item ∷ items)

unfoldable mutual
  pub items_of : List Text → Option (List Item)
  items_of [] = Some []
  items_of (text ∷ rest) =
      cond (bytes_eq text (codes "--")) (Some (words_items rest))
      (cond (bytes_eq text (codes "--map")) (items_behind_map rest)
      (cond (is_plain text) (before (word text) (items_of rest))
      (option_and_then (λ one. before (given one) (items_of rest)) (option_of text))))

  pub items_behind_map : List Text → Option (List Item)
  items_behind_map [] = None
  items_behind_map (file ∷ rest) = cond (is_plain file) (before (given (map_in file)) (items_of rest)) None

-- ---- using them

abbrev pub rule_of_item : Item → Rule
rule_of_item (word text) = words_built
rule_of_item (given one) = rule_for one

abbrev pub values_of_item : Item → List Text
values_of_item (word text) = text ∷ []
values_of_item (given one) = values_for one

-- the value, where there is no fault
abbrev pub unless : {X : Type 0} → Kinds → X → Option X
unless [] x = Some x
unless (fault ∷ faults) x = None

abbrev pub past : {X : Type 0} → Kinds → Option X → Option X
past [] x = x
past (fault ∷ faults) x = None

-- the rows behind one use
unfoldable pub use_item : Item → List Row → Option (List Row)
use_item item rows = unless (use_fault false (rule_of_item item) (values_of_item item) rows) (used (rule_of_item item) (values_of_item item) rows)

unfoldable pub use_items : List Item → List Row → Option (List Row)
use_items [] rows = Some rows
use_items (item ∷ items) rows = option_and_then (use_items items) (use_item item rows)

module _ (name : Text) where
  -- the rows behind what waits
  abbrev pub settle : Held → Option (List Row)
  settle h = unless (settling name h) (settled rules h).rows

  -- the rows behind the words, where there is no fault
  unfoldable pub run : Walk → List Text → Option (List Row)
  run w [] = settle w.held
  run w (text ∷ rest) = past (turn name w text) (run (next name w text) rest)

  pub run_step : (w then : Walk) (text : Text) (rest : List Text) (faults : Kinds) → Step name w text faults then → run w (text ∷ rest) ≡ past faults (run then rest)
  unfolding run
  run_step w then text rest faults step = rw (step.faulty, step.goes) refl

  pub run_refused : (w : Walk) (text : Text) (rest : List Text) → Refuses (turn name w text) → run w (text ∷ rest) ≡ None
  unfolding run
  run_refused w text rest refuses = go (turn name w text) refuses refl
    where
      go : (faults : Kinds) → Refuses faults → turn name w text ≡ faults → past (turn name w text) (run (next name w text) rest) ≡ None
      go [] none is = absurd none
      go (fault ∷ faults) some is = rw is refl

  -- a word behind which the walk is settled
  pub past_settled : {X : Type 0} (h : Held) (k : List Row → Option X) (o : Option X) → o ≡ k (settled rules h).rows → past (settling name h) o ≡ option_and_then k (settle h)
  past_settled {X} h k o is = go (settling name h)
    where
      go : (faults : Kinds) → past faults o ≡ option_and_then k (unless faults (settled rules h).rows)
      go [] = is
      go (fault ∷ faults) = refl

  -- one that waits is used when the walk settles
  pub settle_word : (rows : List Row) (text : Text) → settle (held rows (word_pending text)) ≡ use_item (word text) rows
  unfolding use_item rules
  settle_word rows text = refl

  pub settle_map : (rows : List Row) (file : Text) → settle (held rows (map_pending (file ∷ []))) ≡ use_item (given (map_in file)) rows
  unfolding use_item rules
  settle_map rows file = refl

  pub settle_waiting : (rows : List Row) → settle (held rows (map_pending [])) ≡ None
  unfolding rules
  settle_waiting rows = refl
