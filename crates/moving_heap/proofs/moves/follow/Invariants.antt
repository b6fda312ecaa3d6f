use Rattle.std.proofs.Common.{◌≡◌, ◌≤◌, ◌++◌, take, drop, length}
use Rattle.moving_heap.specs.Settled.{sent_on}
use Rattle.moving_heap.proofs.moves.follow.Given as goal

abbrev pub invariant-loop-address : goal.invariant-loop-address
invariant-loop-address l = record {
  same : take l.address-index l.addresses ++ sent_on (drop l.next l.moves) (drop l.address-index l.addresses) ≡ sent_on l.moves l.initial.addresses;
  within : l.next ≤ length l.moves;
}
