-- The base slot of each derived slot of a frame.
use Rattle.std.specs.Prelude.{◌≡◌, ℕ, zero, suc, List, Option, Some, None, option_map, slice_index}
use Rattle.frame_walk.specs.Maps.{Pair}
use Rattle.machine_meaning.specs.TrapLines.{pair_at}

-- a number of the table: 0 is none
abbrev pub base_of : ℕ → Option ℕ
base_of zero = None
base_of (suc base) = Some base

abbrev pub base_in : List ℕ → ℕ → Option ℕ
base_in bases word = base_of (slice_index bases word)

-- of each word, the base of the last of these pairs that has it as its derived slot
abbrev pub AreBases : List Pair → List ℕ → Type 0
AreBases pairs bases = (word : ℕ) → base_in bases word ≡ option_map (λ pair. pair.base) (pair_at pairs word)
