use Rattle.std.proofs.Common.{◌≡◌, ◌++◌, drop}
use Rattle.object_meaning.specs.Lines.{first_registers, registers_of}
use Rattle.machine_frames.proofs.numbering.registers_of.Given as goal

abbrev pub invariant-loop-block : goal.invariant-loop-block
invariant-loop-block l = l.list.items ++ first_registers l.next (drop l.block-index l.block-items) ≡ registers_of l.func.content
