-- The records of a map, each with what the entry of its function says of it.
use Rattle.std.specs.Prelude.{ℕ, ◌+◌, ◌%◌, ◌^◌, ◌==◌, List, [], ◌∷◌, ◌++◌, take, drop, Option}
use Rattle.std.specs.Prelude.{map}
use Rattle.std.specs.List.{find}
use Rattle.map_bytes.specs.declared.values.FuncEntry.{FuncEntry}
use Rattle.map_bytes.specs.Maps.{MapRecord, StackMap}

pub record Entry : Type 0 where
  pub frame_bytes : ℕ
  pub return_address : ℕ
  pub one : MapRecord

-- a record's return address is its function's address and its offset, modulo 2^64
abbrev pub entry_of : FuncEntry → MapRecord → Entry
entry_of function one = record { frame_bytes = function.frame_bytes; return_address = (function.address + one.offset) % 2 ^ 64; one = one }

-- records belong to the functions in order, as many as each counts
unfoldable pub entries_of : List FuncEntry → List MapRecord → List Entry
entries_of [] records = []
entries_of (function ∷ functions) records = map (entry_of function) (take function.records records) ++ entries_of functions (drop function.records records)

abbrev pub entries : StackMap → List Entry
entries whole = entries_of whole.functions whole.records

-- the first record with a return address
abbrev pub entry_at : StackMap → ℕ → Option Entry
entry_at whole address = find (λ entry. entry.return_address == address) (entries whole)
