use Rattle.std.proofs.Common.{◌≡◌}
use Rattle.flat_code.specs.declared.spots.Due.TheVariants.{Line as Next}
use Rattle.flat_code.specs.Segments.{IsFront}
use Rattle.flat_code.specs.Opens.{IsOpen, starts_of}
use Rattle.flat_code.proofs.decode.decode_block.Given as goal

abbrev pub invariant-loop-at : goal.invariant-loop-at
invariant-loop-at l = record {
  drafted : IsOpen l.source.layouts l.source.defined l.draft;
  place : l.draft.spot.at ≡ l.at;
  due : l.draft.spot.due ≡ Next;
  block : l.draft.spot.block ≡ l.initial.draft.spot.block;
  grows : IsFront (starts_of l.initial.draft) (starts_of l.draft);
}
