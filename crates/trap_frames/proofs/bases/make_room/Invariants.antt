use Rattle.std.proofs.Common.{◌≡◌, ℕ, length}
use Rattle.std.specs.Prelude.{slice_index}
use Rattle.trap_frames.proofs.bases.make_room.Given as goal

abbrev pub invariant-loop-turn : goal.invariant-loop-turn
invariant-loop-turn l = record {
  long : length l.bases.items ≡ l.turn;
  same : (at : ℕ) → slice_index l.bases.items at ≡ slice_index l.initial.bases.items at;
}
