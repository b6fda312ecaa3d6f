-- A format is a table of fields: which field stands next, and for each number in it what stands behind it.
use Rattle.std.specs.Prelude.{◌≡◌, ℕ, ◌<◌, ◌^◌, Bool, IsTrue, List, [], ◌∷◌, ◌++◌, Option, None, slice_index}
use Rattle.byteorder.specs.Endian.{little_bytes}
use Rattle.map_bytes.specs.declared.rules.MapRule.{MapRule}
use Rattle.map_bytes.specs.declared.rules.MapFault.{MapFault}

-- a list of bytes
abbrev pub AreBytes : List ℕ → Type 0
AreBytes bytes = (i : ℕ) → slice_index bytes i < 256

-- a field: how many bytes it has, lowest first, and which rule a number in it breaks, if any
pub record Field : Type 0 where
  pub bytes : ℕ
  pub breaks : ℕ → Option MapRule

pub data Format : Type 0 where
  ends : Format
  field : Field → (ℕ → Format) → Format
  -- something that the numbers so far must keep, and the fault if they don't
  asks : Bool → MapFault → Format → Format

-- `number ← field` on one line and what stands behind it on the next
infixl 10 ◌>>=◌
abbrev pub ◌>>=◌ : Field → (ℕ → Format) → Format
one >>= next = field one next

-- the bytes of the fields that hold these numbers, one after the other
unfoldable pub laid : Format → List ℕ → List ℕ
laid ends numbers = []
laid (field one next) [] = []
laid (field one next) (n ∷ ns) = little_bytes one.bytes n ++ laid (next n) ns
laid (asks holds fault next) numbers = laid next numbers

-- a number that fits in a field and breaks no rule there
pub record IsAllowed (one : Field) (n : ℕ) : Type 0 where
  pub fits : n < 256 ^ one.bytes
  pub breaks_none : one.breaks n ≡ None

-- these numbers are allowed in the fields, and no field is left
abbrev pub Fills : Format → List ℕ → Type 0
Fills ends [] = Unit {0}
Fills ends (n ∷ ns) = ⊥
Fills (field one next) [] = ⊥
Fills (field one next) (n ∷ ns) = IsAllowed one n × Fills (next n) ns
Fills (asks holds fault next) numbers = IsTrue holds × Fills next numbers
