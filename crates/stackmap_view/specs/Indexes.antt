-- An index of a map's records by return address.
use Rattle.std.specs.Prelude.{◌≡◌, ◌⊎◌, ◌<◌, ◌≤◌, ℕ, ◌==◌, List, Option, option_map, map}
use Rattle.std.specs.List.{find, enumerate_from}
use Rattle.std.specs.List.Sorted.{IsNonDecreasingBy}
use Rattle.map_bytes.specs.Maps.{StackMap}
use Rattle.map_bytes.specs.Entries.{Entry, entries, entry_at}
use Rattle.stackmap_view.specs.declared.numbered.Numbered.{Numbered}
use Rattle.stackmap_view.specs.Views.{seen}

-- a map with the return addresses and numbers of its records, sorted by both
pub record IndexedMap : Type 0 where
  pub whole : StackMap
  pub pairs : List (ℕ × ℕ)

abbrev pub address_of : Numbered → ℕ
address_of one = one.lent.return_address

abbrev pub pair_of : Numbered → ℕ × ℕ
pair_of one = (one.lent.return_address, one.number)

-- a record and its number
abbrev pub numbered : Numbered → ℕ × Entry
numbered one = (one.number, seen one.lent)

-- the first of them with a return address
abbrev pub first_at : List Numbered → ℕ → Option Numbered
first_at items address = find (λ one. address_of one == address) items

-- the return addresses and numbers of a map's records, in order
abbrev pub numbered_addresses : StackMap → List (ℕ × ℕ)
numbered_addresses whole = map (λ one. (one.1.return_address, one.0)) (enumerate_from 0 (entries whole))

-- the items are in order of their addresses, and the first at an address is the map's
pub record IsIndex (whole : StackMap) (items : List Numbered) : Type 0 where
  pub sorted : IsNonDecreasingBy address_of items
  pub finds : (address : ℕ) → option_map (λ one. seen one.lent) (first_at items address) ≡ entry_at whole address

-- in order of the address, and of the number where the addresses are equal
abbrev pub AreInOrder : ℕ × ℕ → ℕ × ℕ → Type 0
AreInOrder one next = (one.0 < next.0) ⊎ ((one.0 ≡ next.0) × (one.1 ≤ next.1))
