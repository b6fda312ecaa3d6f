-- The fields of a stack map in their order (Stack maps and patch points, "Stack Map Format", version 3).
use Rattle.std.specs.Prelude.{ℕ, zero, suc, ◌+◌, ◌*◌, ◌%◌, ◌==◌, ◌&&◌, nat_le, if◌then◌else◌, Some, None}
use Rattle.map_bytes.specs.declared.rules.MapRule.{MapRule}
use Rattle.map_bytes.specs.declared.rules.MapRule.TheVariants.{BadVersion, BadReserved, BadCount, BadKind}
use Rattle.map_bytes.specs.Formats.{Field, Format, ends, field, asks, ◌>>=◌}

-- ---- fields

-- one that may hold any number
abbrev pub any : ℕ → Field
any size = record { bytes = size; breaks = λ n. None }

-- one that must hold this number
abbrev pub fixed : ℕ → ℕ → MapRule → Field
fixed size number rule = record { bytes = size; breaks = λ n. if n == number then None else Some rule }

abbrev pub reserved : ℕ → Field
reserved size = fixed size 0 BadReserved

-- the kind of a location
abbrev pub a_kind : Field
a_kind = record { bytes = 1; breaks = λ kind. if nat_le 1 kind && nat_le kind 5 then None else Some BadKind }

-- the offset of a location; of a ConstantIndex it is the number of one of so many constants
abbrev pub an_offset : ℕ → ℕ → Field
an_offset constants kind = record { bytes = 4; breaks = λ n. if (kind == 5) && nat_le constants n then Some BadCount else None }

-- ---- parts

-- where so many bytes are no multiple of 8, four bytes of padding come next
unfoldable pub padded : ℕ → Format → Format
padded bytes next = if bytes % 8 == 0 then next else field (reserved 4) (λ _. next)

-- so many entries of functions, and what stands behind them for the sum of their record counts
unfoldable pub functions_then : ℕ → ℕ → (ℕ → Format) → Format
functions_then zero counted next = next counted
functions_then (suc n) counted next = do
  address ← any 8
  frame_bytes ← any 8
  records ← any 8
  functions_then n (counted + records) next

unfoldable pub constants_then : ℕ → Format → Format
constants_then zero next = next
constants_then (suc n) next = do
  constant ← any 8
  constants_then n next

-- so many locations, in a map of so many constants
unfoldable pub places_then : ℕ → ℕ → Format → Format
places_then constants zero next = next
places_then constants (suc n) next = do
  kind ← a_kind
  nothing ← reserved 1
  size ← any 2
  register ← any 2
  nothing_more ← reserved 2
  offset ← an_offset constants kind
  places_then constants n next

unfoldable pub live_outs_then : ℕ → Format → Format
live_outs_then zero next = next
live_outs_then (suc n) next = do
  register ← any 2
  nothing ← reserved 1
  size ← any 1
  live_outs_then n next

-- Padding is counted from the first byte of the map. Every part before a record and every record has a multiple of 8
-- bytes, so it may be counted from the record's first byte, or from the field behind the first padding.
unfoldable pub record_then : ℕ → Format → Format
record_then constants next = do
  id ← any 8
  offset ← any 4
  nothing ← reserved 2
  places ← any 2
  places_then constants places (padded (16 + 12 * places) (do
    nothing_more ← reserved 2
    live_outs ← any 2
    live_outs_then live_outs (padded (4 + 4 * live_outs) next)))

unfoldable pub records_then : ℕ → ℕ → Format → Format
records_then constants zero next = next
records_then constants (suc n) next = record_then constants (records_then constants n next)

-- the constants and the records
unfoldable pub behind_functions : ℕ → ℕ → ℕ → Format
behind_functions constants records counted =
    asks (counted == records) (record { at = 12; rule = BadCount }) (constants_then constants (records_then constants records ends))

unfoldable pub map_format : Format
map_format = do
  version ← fixed 1 3 BadVersion
  nothing ← reserved 1
  nothing_more ← reserved 2
  functions ← any 4
  constants ← any 4
  records ← any 4
  functions_then functions 0 (behind_functions constants records)
