use Rattle.std.proofs.Common.{◌≡◌, length}
use Rattle.ir_verify.specs.Founds.{FoundBelow}
use Rattle.ir_verify.specs.FunctionFaults.{BlockFaultAt, start_of}
use Rattle.ir_lines.specs.Notes.{Notes}
use Rattle.ir_verify.proofs.phis.note_all.Given as goal

abbrev pub invariant-loop-number : goal.invariant-loop-number
invariant-loop-number l = record {
  start : l.start ≡ start_of l.func.content l.number;
  size : length l.room.places.items ≡ length l.func.content.blocks;
  noted : Notes l.initial.first.found l.first.found (FoundBelow (BlockFaultAt l.func) l.func.content.blocks l.number);
}
