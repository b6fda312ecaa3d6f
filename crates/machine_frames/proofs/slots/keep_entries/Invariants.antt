use Rattle.std.proofs.Common.{◌≡◌, map, take}
use Rattle.ir_ast.specs.Objects.{number}
use Rattle.object_meaning.specs.Registers.{value, number_in}
use Rattle.machine_meaning.specs.Machines.{over}
use Rattle.machine_meaning.specs.Words.{worded_operand}
use Rattle.machine_frames.proofs.slots.keep_entries.Given as goal

abbrev pub invariant-loop-place : goal.invariant-loop-place
invariant-loop-place l =
    l.stack ≡ over (map (λ operand. number_in (value (map number l.registers) operand)) (map worded_operand (take l.place l.entries))) l.initial.stack
