-- Lines that were put into a sink, each by one call.
use Rattle.std.specs.Prelude.{◌≡◌, ◌≤◌, ℕ, List, [], ◌∷◌, ◌++◌, length, Option}
use Rattle.std.specs.List.{concat}
use Rattle.tool_io.specs.Sink.{append_known, AppendsFront}
use Rattle.tool_io.specs.Told.{append_told}

-- what a sink tells: its bytes, and the pieces that were put
pub record SinkTold : Type 0 where
  pub written : Option (List ℕ)
  pub puts : Option (List (List ℕ))

abbrev pub told_by : {S : Type 0} → (S → Option (List ℕ)) → (S → Option (List (List ℕ))) → S → SinkTold
told_by written puts sink = record { written = written sink; puts = puts sink }

-- the buffer of a writer, of 8,192 bytes, has room for the line
abbrev pub IsShort : List ℕ → Type 0
IsShort line = length line ≤ 8192

-- these lines were put, each by one call, and nothing else
pub record PutsLines (old new : SinkTold) (lines : List (List ℕ)) : Type 0 where
  pub written : new.written ≡ append_known old.written (concat lines)
  pub puts : new.puts ≡ append_told old.puts lines

-- the first of these lines, if there is one
abbrev pub next_line : List (List ℕ) → List ℕ
next_line [] = []
next_line (line ∷ lines) = line

-- the first ones of these lines were put, each by one call, and after them at most a front of the next one, by a call that failed
pub record PutsFirst (old new : SinkTold) (lines : List (List ℕ)) : Type 0 where
  pub first : List (List ℕ)
  pub rest : List (List ℕ)
  pub whole : lines ≡ first ++ rest
  pub puts : new.puts ≡ append_told old.puts first
  pub front : AppendsFront (append_known old.written (concat first)) new.written (next_line rest)
