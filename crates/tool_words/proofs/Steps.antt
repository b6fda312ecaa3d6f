-- What each word does to `clap`'s walk: the faults that it adds, and where the walk then stands.
use Rattle.std.proofs.Common.{◌≡◌, ◌++◌, Bool, cond, true, false, List, [], ◌∷◌, Option, Some, None, codes, refl}
use Rattle.std.proofs.Math.Bool.{and-false}
use Rattle.std.specs.Str.{bytes_eq}
use Rattle.clap.specs.Faults.{settle_fault, turn_fault, use_fault}
use Rattle.clap.specs.Kinds.{Kinds, or_else}
use Rattle.clap.specs.Lexer.{long_of, short_of}
use Rattle.clap.specs.Walk.{Held, Row, Rule, Text, Waiting, Walk, idle, option, positional, settled, subcommand_met, used, walked}
use Rattle.tool_words.specs.Words.{Given, raw, places, trace, trust, map_in}
use Rattle.tool_words.proofs.Rules.{flag_built, map_built, rules, shape}

abbrev pub held : List Row → Option (Text × List Text) → Held
held rows pending = record { rows = rows; pending = pending; skip = 0 }

abbrev pub state : Waiting → Bool → Held → Walk
state waiting trailing h = record { held = h; waiting = waiting; position = 1; is_trailing = trailing; stopped = None }

abbrev pub word_pending : Text → Option (Text × List Text)
word_pending word = Some (codes "words", word ∷ [])

abbrev pub map_pending : List Text → Option (Text × List Text)
map_pending files = Some (codes "map", files)

-- how an option is used
abbrev pub rule_for : Given → Rule
rule_for raw = flag_built (codes "raw")
rule_for places = flag_built (codes "places")
rule_for trace = flag_built (codes "trace")
rule_for trust = flag_built (codes "trust")
rule_for (map_in file) = map_built

abbrev pub values_for : Given → List Text
values_for (map_in file) = file ∷ []
values_for _ = []

-- the word that gives it alone
abbrev pub spelled : Given → Text
spelled raw = codes "--raw"
spelled places = codes "--places"
spelled trace = codes "--trace"
spelled trust = codes "--trust"
spelled (map_in file) = codes "--map=" ++ file

pub or_else_none : (faults : Kinds) → or_else faults [] ≡ faults
or_else_none [] = refl
or_else_none (fault ∷ faults) = refl

module _ (name : Text) where
  abbrev pub turn : Walk → Text → Kinds
  turn w word = turn_fault (shape name) [] w word

  abbrev pub next : Walk → Text → Walk
  next w word = walked rules [] w word

  abbrev pub settling : Held → Kinds
  settling h = settle_fault rules false h

  pub record Step (w : Walk) (word : Text) (faults : Kinds) (then : Walk) : Type 0 where
    pub faulty : turn w word ≡ faults
    pub goes : next w word ≡ then

  -- `--`
  pub dashes : (waiting : Waiting) (h : Held) → Step (state waiting false h) (codes "--") [] (state waiting true h)
  unfolding walked
  dashes idle h = record { faulty = refl; goes = refl }
  dashes (option id) h = record { faulty = refl; goes = refl }
  dashes positional h = record { faulty = refl; goes = refl }

  module _ (rows : List Row) (pending : Option (Text × List Text)) where
    abbrev now : Held
    now = held rows pending

    abbrev pub settled_now : List Row
    settled_now = (settled rules now).rows

    -- `--map`, which waits for its file
    pub map_alone : (waiting : Waiting) → Step (state waiting false now) (codes "--map") (settling now) (state (option (codes "map")) false (held settled_now (map_pending [])))
    unfolding walked rules
    map_alone idle = record { faulty = or_else_none _; goes = refl }
    map_alone (option id) = record { faulty = or_else_none _; goes = refl }
    map_alone positional = record { faulty = or_else_none _; goes = refl }

    abbrev pub using : Given → Kinds
    using given = or_else (settling now) (use_fault false (rule_for given) (values_for given) settled_now)

    abbrev pub used_now : Given → List Row
    used_now given = used (rule_for given) (values_for given) settled_now

    -- an option that a word gives alone
    pub option_step : (waiting : Waiting) (given : Given) → Step (state waiting false now) (spelled given) (using given) (state idle false (held (used_now given) None))
    unfolding walked rules
    option_step idle raw = record { faulty = or_else_none _; goes = refl }
    option_step idle places = record { faulty = or_else_none _; goes = refl }
    option_step idle trace = record { faulty = or_else_none _; goes = refl }
    option_step idle trust = record { faulty = or_else_none _; goes = refl }
    option_step idle (map_in file) = record { faulty = or_else_none _; goes = refl }
    option_step (option id) raw = record { faulty = or_else_none _; goes = refl }
    option_step (option id) places = record { faulty = or_else_none _; goes = refl }
    option_step (option id) trace = record { faulty = or_else_none _; goes = refl }
    option_step (option id) trust = record { faulty = or_else_none _; goes = refl }
    option_step (option id) (map_in file) = record { faulty = or_else_none _; goes = refl }
    option_step positional raw = record { faulty = or_else_none _; goes = refl }
    option_step positional places = record { faulty = or_else_none _; goes = refl }
    option_step positional trace = record { faulty = or_else_none _; goes = refl }
    option_step positional trust = record { faulty = or_else_none _; goes = refl }
    option_step positional (map_in file) = record { faulty = or_else_none _; goes = refl }

    -- a word behind `--` is positional
    pub trailing_step : (waiting : Waiting) (word : Text) → Step (state waiting true now) word (settling now) (state positional true (held settled_now (word_pending word)))
    unfolding walked rules
    trailing_step waiting word = record { faulty = rw and-false refl; goes = rw and-false refl }

    -- a plain word is positional
    pub plain_step : (several : Bool) (word : Text) → bytes_eq word (codes "--") ≡ false → long_of word ≡ None → short_of word ≡ None
        → Step (state (cond several positional idle) false now) word (settling now) (state positional false (held settled_now (word_pending word)))
    unfolding walked rules
    plain_step true word no_dashes no_long no_short = record { faulty = rw (no_dashes, no_long, no_short, and-false) refl; goes = rw (no_dashes, no_long, no_short, and-false) refl }
    plain_step false word no_dashes no_long no_short = record { faulty = rw (no_dashes, no_long, no_short, and-false) refl; goes = rw (no_dashes, no_long, no_short, and-false) refl }

  -- or the file that `--map` waits for
  pub file_step : (rows : List Row) (file : Text) → bytes_eq file (codes "--") ≡ false → long_of file ≡ None → short_of file ≡ None
      → Step (state (option (codes "map")) false (held rows (map_pending []))) file [] (state idle false (held rows (map_pending (file ∷ []))))
  unfolding walked rules
  file_step rows file no_dashes no_long no_short = record { faulty = rw (no_dashes, no_long, no_short) refl; goes = rw (no_dashes, no_long, no_short) refl }

  -- what waits for its file can't be used without it
  pub map_waits : (rows : List Row) → settling (held rows (map_pending [])) ≡ use_fault false map_built [] rows
  unfolding rules
  map_waits rows = refl
