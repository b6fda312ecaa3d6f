-- Where bytes that are no map go wrong: behind the longest list of allowed numbers whose fields are a front of them.
use Rattle.std.specs.Prelude.{◌≡◌, ℕ, ◌-◌, IsTrue, if◌then◌else◌, nat_lt, List, [], ◌∷◌, ◌++◌, length, drop, Option, Some, None}
use Rattle.byteorder.specs.Endian.{little_number}
use Rattle.map_bytes.specs.declared.rules.MapRule.{MapRule}
use Rattle.map_bytes.specs.declared.rules.MapRule.TheVariants.{Short, Trailing}
use Rattle.map_bytes.specs.declared.rules.MapFault.{MapFault}
use Rattle.map_bytes.specs.Formats.{Format, ends, field, asks, laid, IsAllowed}
use Rattle.map_bytes.specs.Tables.{map_format}

-- these numbers are allowed in the first fields
abbrev pub Begins : Format → List ℕ → Type 0
Begins ends [] = Unit {0}
Begins ends (n ∷ ns) = ⊥
Begins (field one next) [] = Unit {0}
Begins (field one next) (n ∷ ns) = IsAllowed one n × Begins (next n) ns
Begins (asks holds fault next) [] = Unit {0}
Begins (asks holds fault next) (n ∷ ns) = IsTrue holds × Begins next (n ∷ ns)

-- the fields behind those of the numbers
abbrev pub behind : Format → List ℕ → Format
behind ends numbers = ends
behind (field one next) [] = field one next
behind (field one next) (n ∷ ns) = behind (next n) ns
behind (asks holds fault next) [] = asks holds fault next
behind (asks holds fault next) (n ∷ ns) = behind next (n ∷ ns)

abbrev pub fault_at : ℕ → Option MapRule → Option MapFault
fault_at at None = None
fault_at at (Some rule) = Some (record { at = at; rule = rule })

-- what the next field breaks at a place, over the bytes that stand from there on
abbrev pub broken : Format → ℕ → List ℕ → Option MapFault
broken ends at [] = None
broken ends at (b ∷ bs) = Some (record { at = at; rule = Trailing })
broken (field one next) at bytes =
    if nat_lt (length bytes) one.bytes then Some (record { at = at; rule = Short })
    else fault_at at (one.breaks (little_number one.bytes bytes))
broken (asks holds fault next) at bytes = if holds then broken next at bytes else Some fault

-- The fault of bytes: some numbers are allowed in the first fields, their bytes are a front of the bytes, and the next field
-- breaks its rule there.
pub record IsFirstFault (bytes : List ℕ) (fault : MapFault) : Type 0 where
  pub numbers : List ℕ
  pub rest : List ℕ
  pub begins : Begins map_format numbers
  pub front : bytes ≡ laid map_format numbers ++ rest
  pub next_breaks : broken (behind map_format numbers) (length (laid map_format numbers)) rest ≡ Some fault

-- ---- the same by looking at the fields in order

-- the fault so far, or what is found behind it for a number
abbrev pub found_or : Option MapFault → (ℕ → Option MapFault) → ℕ → Option MapFault
found_or None behind number = behind number
found_or (Some fault) behind number = Some fault

-- the first fault in the bytes that are left of a map of so many bytes
unfoldable pub first_fault : Format → ℕ → List ℕ → Option MapFault
first_fault ends whole bytes = broken ends (whole - length bytes) bytes
first_fault (field one next) whole bytes =
    found_or (broken (field one next) (whole - length bytes) bytes) (λ n. first_fault (next n) whole (drop one.bytes bytes)) (little_number one.bytes bytes)
first_fault (asks holds fault next) whole bytes = found_or (if holds then None else Some fault) (λ _. first_fault next whole bytes) 0
