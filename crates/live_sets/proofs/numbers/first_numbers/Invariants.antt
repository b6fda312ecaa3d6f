use Rattle.std.proofs.Common.{◌≡◌, ◌++◌, ◌+◌, ◌≤◌, drop, take, length}
use Rattle.ir_ast.specs.Funcs.{instructions_of}
use Rattle.object_meaning.specs.Lines.{first_registers, registers_of}
use Rattle.live_sets.proofs.numbers.first_numbers.Given as goal

abbrev pub invariant-loop-block : goal.invariant-loop-block
invariant-loop-block l = record {
  is : l.numbers.items ++ first_registers l.next (drop l.block-index l.block-items) ≡ registers_of l.func.content;
  small : l.next ≤ length l.func.content.args + length (instructions_of (take l.block-index l.block-items));
}
