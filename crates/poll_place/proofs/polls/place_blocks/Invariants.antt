use Rattle.std.proofs.Common.{◌≡◌, length}
use Rattle.base_forms.specs.Polls.{placed_from}
use Rattle.poll_place.proofs.polls.place_blocks.Given as goal

abbrev pub invariant-loop-block : goal.invariant-loop-block
invariant-loop-block l = record {
  number : l.number ≡ length l.yielded;
  placed : l.after.items ≡ placed_from 0 l.yielded;
}
