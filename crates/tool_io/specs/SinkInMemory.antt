-- A sink in memory: its bytes, the room that they may fill, and the calls that are to fail.
use Rattle.std.specs.Prelude.{ℕ, ◌+◌, ◌==◌, nat_lt, if◌then◌else◌, List, [], ◌++◌, find, length, take, Option, Some, None}
use Rattle.std.specs.Option.{option_map}
use Rattle.tool_io.specs.Counts.{raised}
use Rattle.tool_io.specs.declared.mem_sink.FailingPut.{FailingPut}

pub record SinkInMemory : Type 0 where
  pub bytes : List ℕ
  pub room : ℕ
  pub failing : List FailingPut
  pub calls : ℕ
  pub faults : ℕ

-- a sink that no call was made on
abbrev pub empty_sink : ℕ → SinkInMemory
empty_sink room = record { bytes = []; room = room; failing = []; calls = 0; faults = 0 }

-- how many bytes the call of this number still adds, where it is to fail
abbrev pub adds_of : List FailingPut → ℕ → Option ℕ
adds_of failing call = option_map (λ put. put.adds) (find (λ put. put.call == call) failing)

-- how many bytes of a piece the next call adds where it fails: none where the piece doesn't fit in the
-- room, and else what the call was to add
abbrev pub cut_of : SinkInMemory → List ℕ → Option ℕ
cut_of sink piece =
    if nat_lt sink.room (length sink.bytes + length piece)
    then Some 0
    else adds_of sink.failing (raised sink.calls)

-- the sink after a call that added these bytes
abbrev pub added : SinkInMemory → List ℕ → SinkInMemory
added sink bytes = record sink { bytes = sink.bytes ++ bytes; calls = raised sink.calls }

-- the sink after the next call, with a fault counted where it failed
abbrev pub after_cut : SinkInMemory → List ℕ → Option ℕ → SinkInMemory
after_cut sink piece None = added sink piece
after_cut sink piece (Some count) = record (added sink (take count piece)) { faults = raised sink.faults }

abbrev pub after_put : SinkInMemory → List ℕ → SinkInMemory
after_put sink piece = after_cut sink piece (cut_of sink piece)
