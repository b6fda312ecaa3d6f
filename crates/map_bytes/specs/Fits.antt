-- What the table of fields asks of a map, said of the map's own numbers.
use Rattle.std.specs.Prelude.{◌≡◌, ℕ, ◌<◌, ◌≤◌, ◌^◌, length, FitsSigned}
use Rattle.std.specs.List.{AllByRecursion}
use Rattle.std.specs.Int.{w32, cast_unsigned}
use Rattle.map_bytes.specs.declared.values.FuncEntry.{FuncEntry}
use Rattle.map_bytes.specs.declared.values.Place.{Place}
use Rattle.map_bytes.specs.Maps.{LiveOut, MapRecord, StackMap, counted_records}

pub record FunctionFits (function : FuncEntry) : Type 0 where
  pub address : function.address < 2 ^ 64
  pub frame_bytes : function.frame_bytes < 2 ^ 64
  pub records : function.records < 2 ^ 64

-- a location of a map of so many constants
pub record PlaceFits (constants : ℕ) (place : Place) : Type 0 where
  pub kind_low : 1 ≤ place.kind
  pub kind_high : place.kind ≤ 5
  pub size : place.size < 2 ^ 16
  pub register : place.register < 2 ^ 16
  pub offset : FitsSigned w32 place.offset
  pub index : place.kind ≡ 5 → cast_unsigned w32 place.offset < constants

pub record LiveOutFits (live : LiveOut) : Type 0 where
  pub register : live.register < 2 ^ 16
  pub size : live.size < 2 ^ 8

pub record RecordFits (constants : ℕ) (one : MapRecord) : Type 0 where
  pub id : one.id < 2 ^ 64
  pub offset : one.offset < 2 ^ 32
  pub few_places : length one.places < 2 ^ 16
  pub few_live_outs : length one.live_outs < 2 ^ 16
  pub places : AllByRecursion (PlaceFits constants) one.places
  pub live_outs : AllByRecursion LiveOutFits one.live_outs

pub record MapFits (map : StackMap) : Type 0 where
  pub few_functions : length map.functions < 2 ^ 32
  pub few_constants : length map.constants < 2 ^ 32
  pub few_records : length map.records < 2 ^ 32
  pub functions : AllByRecursion FunctionFits map.functions
  pub counted : counted_records map.functions ≡ length map.records
  pub constants : AllByRecursion (λ c. c < 2 ^ 64) map.constants
  pub records : AllByRecursion (RecordFits (length map.constants)) map.records
