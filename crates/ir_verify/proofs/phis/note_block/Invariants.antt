use Rattle.std.proofs.Common.{◌≡◌, length, take}
use Rattle.ir_verify.specs.Founds.{FoundBelow}
use Rattle.ir_verify.specs.FunctionFaults.{PhiFaultAt}
use Rattle.ir_lines.specs.Notes.{Notes}
use Rattle.ir_verify.proofs.PhiLemmas.{is_late}
use Rattle.ir_verify.proofs.phis.note_block.Given as goal

abbrev pub invariant-loop-at : goal.invariant-loop-at
invariant-loop-at l = record {
  late : l.late ≡ is_late (take l.at l.insts);
  size : length l.room.places.items ≡ length l.initial.room.places.items;
  noted : Notes l.initial.first.found l.first.found (FoundBelow (PhiFaultAt l.func l.block l.start l.insts) l.insts l.at);
}
