use Rattle.std.proofs.Common.{◌≡◌, take}
use Rattle.std.specs.List.{flat_map}
use Rattle.statepoint_verify.specs.Judged.{asks_for}
use Rattle.statepoint_verify.proofs.pairs.asks_of.Given as goal

abbrev pub invariant-loop-pair : goal.invariant-loop-pair
invariant-loop-pair l = l.asks.items ≡ flat_map asks_for (take l.pair-index l.used)
