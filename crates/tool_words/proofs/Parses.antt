-- `clap`'s parse of the words behind a command's name: it fails where they aren't sound, and its matches are their parts.
use Rattle.std.proofs.Common.{◌≡◌, ◌∙◌, ◌||◌, Bool, true, false, List, [], ◌∷◌, Option, Some, None, codes, refl, sym, ap, unwrap_or, fold, drop, is_some}
use Rattle.std.proofs.Math.Bool.{or-true}
use Rattle.std.specs.Str.{bytes_eq}
use Rattle.clap.specs.Faults.{check_fault, default_fault, defaults_fault, entered_fault, fault_of, level_fault, settle_fault, walk_fault}
use Rattle.clap.specs.Kinds.{Kinds, or_else}
use Rattle.clap.specs.Simple.{App, entered, matches_of}
use Rattle.clap.specs.Walk.{Held, Row, Text, Walk, has_row, nothing_held, settled, walk, walk_from, walked, with_default}
use Rattle.clap.specs.declared.parser.matches.ValueSource.TheVariants.{DefaultValue}
use Rattle.clap.specs.declared.builder.value_parser.Reading.TheVariants.{AsWritten}
use Rattle.tool_words.specs.Reader.{reader_app}
use Rattle.tool_words.proofs.Items.{run}
use Rattle.tool_words.proofs.Refusals.{Refuses}
use Rattle.tool_words.proofs.Rows.{added_new, added_other, has_row_at, row_at}
use Rattle.tool_words.proofs.Rules.{flag_built, map_built, rules, shape, words_built}
use Rattle.tool_words.proofs.Steps.{or_else_none, turn}
use Rattle.list_laws.proofs.Booleans.{cond_same}

-- ---- defaults, behind the walk

both_none : (a b : Kinds) → a ≡ [] → b ≡ [] → or_else a b ≡ []
both_none a b a_is b_is = rw a_is b_is

word_default : (rows : List Row) → default_fault rows words_built ≡ []
word_default rows = rw or-true refl

map_default : (rows : List Row) → default_fault rows map_built ≡ []
map_default rows = rw or-true refl

flag_default : (flag : Text) (rows : List Row) → default_fault rows (flag_built flag) ≡ []
flag_default flag rows = cond_same (has_row flag rows || false) []

-- the rows once each argument has its default in turn
abbrev with_words : List Row → List Row
with_words rows = with_default rows words_built

abbrev with_map : List Row → List Row
with_map rows = with_default (with_words rows) map_built

abbrev with_raw : List Row → List Row
with_raw rows = with_default (with_map rows) (flag_built (codes "raw"))

abbrev with_places : List Row → List Row
with_places rows = with_default (with_raw rows) (flag_built (codes "places"))

abbrev with_trace : List Row → List Row
with_trace rows = with_default (with_places rows) (flag_built (codes "trace"))

abbrev with_trust : List Row → List Row
with_trust rows = with_default (with_trace rows) (flag_built (codes "trust"))

defaults_pass : (rows : List Row) → defaults_fault rows rules ≡ []
unfolding defaults_fault rules
defaults_pass rows =
    both_none _ _ (word_default rows) (both_none _ _ (map_default (with_words rows)) (both_none _ _ (flag_default (codes "raw") (with_map rows))
    (both_none _ _ (flag_default (codes "places") (with_raw rows)) (both_none _ _ (flag_default (codes "trace") (with_places rows))
    (both_none _ _ (flag_default (codes "trust") (with_trace rows)) refl)))))

-- ---- the rows, with defaults

abbrev pub whole : List Row → List Row
whole rows = fold with_default rows rules

stages : (rows : List Row) → whole rows ≡ with_trust rows
unfolding rules
stages rows = refl

no_default : (rows : List Row) → with_map rows ≡ rows
no_default rows = ap (λ (rs : List Row). with_default rs map_built) words ∙ cond_same (has_row (codes "map") rows) rows
  where
    words : with_words rows ≡ rows
    words = cond_same (has_row (codes "words") rows) rows

-- the row of a flag that isn't given
abbrev pub default_row : Text → Row
default_row flag = record { id = flag; values = codes "false" ∷ []; count = None; source = Some DefaultValue; reading = AsWritten }

flag_stays : (flag other : Text) (rows : List Row) → bytes_eq flag other ≡ false → row_at other (with_default rows (flag_built flag)) ≡ row_at other rows
flag_stays flag other rows differs = go (has_row flag rows) refl
  where
    go : (b : Bool) → has_row flag rows ≡ b → row_at other (with_default rows (flag_built flag)) ≡ row_at other rows
    go true e = rw e refl
    go false e = rw e (added_other flag AsWritten DefaultValue (codes "false" ∷ []) other differs rows)

flag_defaults : (flag : Text) (rows : List Row) → bytes_eq flag flag ≡ true
    → row_at flag (with_default rows (flag_built flag)) ≡ Some (unwrap_or (row_at flag rows) (default_row flag))
flag_defaults flag rows itself = go (row_at flag rows) refl
  where
    go : (o : Option Row) → row_at flag rows ≡ o → row_at flag (with_default rows (flag_built flag)) ≡ Some (unwrap_or (row_at flag rows) (default_row flag))
    go None e =
        let none : has_row flag rows ≡ false = has_row_at flag rows ∙ ap (λ (o : Option Row). is_some o) e in
        rw (none, e) (added_new flag AsWritten DefaultValue (codes "false" ∷ []) itself rows e)
    go (Some row) e =
        let some : has_row flag rows ≡ true = has_row_at flag rows ∙ ap (λ (o : Option Row). is_some o) e in
        rw (some, e) refl

module _ (rows : List Row) where
  stay : (id : Text) → bytes_eq (codes "raw") id ≡ false → bytes_eq (codes "places") id ≡ false → bytes_eq (codes "trace") id ≡ false → bytes_eq (codes "trust") id ≡ false
      → row_at id (whole rows) ≡ row_at id rows
  stay id no_raw no_places no_trace no_trust =
      ap (row_at id) (stages rows) ∙ flag_stays (codes "trust") id (with_trace rows) no_trust ∙ flag_stays (codes "trace") id (with_places rows) no_trace
      ∙ flag_stays (codes "places") id (with_raw rows) no_places ∙ flag_stays (codes "raw") id (with_map rows) no_raw ∙ ap (row_at id) (no_default rows)

  pub words_stay : row_at (codes "words") (whole rows) ≡ row_at (codes "words") rows
  words_stay = stay (codes "words") refl refl refl refl

  pub map_stays : row_at (codes "map") (whole rows) ≡ row_at (codes "map") rows
  map_stays = stay (codes "map") refl refl refl refl

  abbrev pub flagged : Text → Option Row
  flagged flag = Some (unwrap_or (row_at flag rows) (default_row flag))

  pub raw_row : row_at (codes "raw") (whole rows) ≡ flagged (codes "raw")
  raw_row =
      ap (row_at (codes "raw")) (stages rows) ∙ flag_stays (codes "trust") (codes "raw") (with_trace rows) refl ∙ flag_stays (codes "trace") (codes "raw") (with_places rows) refl
      ∙ flag_stays (codes "places") (codes "raw") (with_raw rows) refl ∙ flag_defaults (codes "raw") (with_map rows) refl
      ∙ ap (λ (rs : List Row). Some (unwrap_or (row_at (codes "raw") rs) (default_row (codes "raw")))) (no_default rows)

  pub places_row : row_at (codes "places") (whole rows) ≡ flagged (codes "places")
  places_row =
      ap (row_at (codes "places")) (stages rows) ∙ flag_stays (codes "trust") (codes "places") (with_trace rows) refl
      ∙ flag_stays (codes "trace") (codes "places") (with_places rows) refl ∙ flag_defaults (codes "places") (with_raw rows) refl
      ∙ ap (λ (o : Option Row). Some (unwrap_or o (default_row (codes "places"))))
      (flag_stays (codes "raw") (codes "places") (with_map rows) refl ∙ ap (row_at (codes "places")) (no_default rows))

  pub trace_row : row_at (codes "trace") (whole rows) ≡ flagged (codes "trace")
  trace_row =
      ap (row_at (codes "trace")) (stages rows) ∙ flag_stays (codes "trust") (codes "trace") (with_trace rows) refl ∙ flag_defaults (codes "trace") (with_places rows) refl
      ∙ ap (λ (o : Option Row). Some (unwrap_or o (default_row (codes "trace"))))
      (flag_stays (codes "places") (codes "trace") (with_raw rows) refl ∙ flag_stays (codes "raw") (codes "trace") (with_map rows) refl ∙ ap (row_at (codes "trace")) (no_default rows))

  pub trust_row : row_at (codes "trust") (whole rows) ≡ flagged (codes "trust")
  trust_row =
      ap (row_at (codes "trust")) (stages rows) ∙ flag_defaults (codes "trust") (with_trace rows) refl
      ∙ ap (λ (o : Option Row). Some (unwrap_or o (default_row (codes "trust"))))
      (flag_stays (codes "trace") (codes "trust") (with_places rows) refl ∙ flag_stays (codes "places") (codes "trust") (with_raw rows) refl
      ∙ flag_stays (codes "raw") (codes "trust") (with_map rows) refl ∙ ap (row_at (codes "trust")) (no_default rows))

-- ---- faults

module _ (name : Text) where
  abbrev pub behind : Walk → List Text → Held
  behind w texts = (fold (walked rules []) w texts).held

  pub record Runs (w : Walk) (texts : List Text) (rows : List Row) : Type 0 where
    pub walks : walk_fault (shape name) [] w texts ≡ []
    pub settles : settle_fault rules false (behind w texts) ≡ []
    pub leaves : (settled rules (behind w texts)).rows ≡ rows

  pub run_some : (texts : List Text) (w : Walk) (rows : List Row) → run name w texts ≡ Some rows → Runs w texts rows
  unfolding run walk_fault
  run_some [] w rows is = go (settle_fault rules false w.held) refl
    where
      go : (faults : Kinds) → settle_fault rules false w.held ≡ faults → Runs w [] rows
      go [] e =
          let rows_are : Some (settled rules w.held).rows ≡ Some rows = sym (rw e refl) ∙ is in
          record { walks = refl; settles = e; leaves = cc }
      go (fault ∷ faults) e =
          let none : None ≡ Some rows = sym (rw e refl) ∙ is in
          absurd cc
  run_some (text ∷ rest) w rows is = go (turn name w text) refl (λ h. run_some rest (walked rules [] w text) rows h)
    where
      go : (faults : Kinds) → turn name w text ≡ faults → (run name (walked rules [] w text) rest ≡ Some rows → Runs (walked rules [] w text) rest rows) → Runs w (text ∷ rest) rows
      go [] e later =
          let runs = later (sym (rw e refl) ∙ is) in
          record { walks = rw e runs.walks; settles = runs.settles; leaves = runs.leaves }
      go (fault ∷ faults) e later =
          let none : None ≡ Some rows = sym (rw e refl) ∙ is in
          absurd cc

  pub run_none : (texts : List Text) (w : Walk) → run name w texts ≡ None → Refuses (or_else (walk_fault (shape name) [] w texts) (settle_fault rules false (behind w texts)))
  unfolding run walk_fault
  run_none [] w is = go (settle_fault rules false w.held) refl
    where
      go : (faults : Kinds) → settle_fault rules false w.held ≡ faults → Refuses (settle_fault rules false w.held)
      go [] e =
          let some : Some (settled rules w.held).rows ≡ None = sym (rw e refl) ∙ is in
          absurd cc
      go (fault ∷ faults) e = rw e tt
  run_none (text ∷ rest) w is = go (turn name w text) refl (λ h. run_none rest (walked rules [] w text) h)
    where
      go : (faults : Kinds) → turn name w text ≡ faults
          → (run name (walked rules [] w text) rest ≡ None → Refuses (or_else (walk_fault (shape name) [] (walked rules [] w text) rest) (settle_fault rules false (behind (walked rules [] w text) rest))))
          → Refuses (or_else (walk_fault (shape name) [] w (text ∷ rest)) (settle_fault rules false (behind w (text ∷ rest))))
      go [] e later = rw e (later (sym (rw e refl) ∙ is))
      go (fault ∷ faults) e later = rw e tt

  checks_pass : (rows : List Row) → check_fault (shape name) rows false ≡ []
  unfolding rules
  checks_pass rows = refl

  abbrev built_app : App
  built_app = record { top = shape name; subs = [] }

  level_is : (texts : List Text) (stop : Option (Text × List Text)) →
      level_fault (shape name) [] nothing_held texts (is_some (entered built_app stop)) (entered_fault built_app stop)
      ≡ or_else (walk_fault (shape name) [] (walk_from nothing_held) texts) (settle_fault rules false (behind (walk_from nothing_held) texts))
  level_is texts None =
      rw (defaults_pass (settled rules (behind (walk_from nothing_held) texts)).rows, checks_pass (fold with_default (settled rules (behind (walk_from nothing_held) texts)).rows rules), or_else_none) refl
  level_is texts (Some p) =
      rw (defaults_pass (settled rules (behind (walk_from nothing_held) texts)).rows, checks_pass (fold with_default (settled rules (behind (walk_from nothing_held) texts)).rows rules), or_else_none) refl

  pub fault_is : (words : List Text) → fault_of (reader_app name) words
      ≡ or_else (walk_fault (shape name) [] (walk_from nothing_held) (drop 1 words)) (settle_fault rules false (behind (walk_from nothing_held) (drop 1 words)))
  unfolding rules
  fault_is words = level_is (drop 1 words) (walk rules [] nothing_held (drop 1 words)).stopped

  pub matches_are : (words : List Text) → matches_of (reader_app name) words ≡ fold with_default (settled rules (behind (walk_from nothing_held) (drop 1 words))).rows rules
  unfolding rules
  matches_are words = refl
