use Rattle.std.proofs.Common.{◌≡◌, map, take}
use Rattle.ir_meaning.specs.Stacks.{move_of}
use Rattle.ir_meaning.proofs.stacks.Stack.gather.Given as goal

abbrev pub invariant-loop-copy : goal.invariant-loop-copy
invariant-loop-copy l = l.moves.items ≡ map (move_of l.self.running.registers) (take l.copy-index l.copies)
