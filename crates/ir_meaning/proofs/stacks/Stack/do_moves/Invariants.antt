use Rattle.std.proofs.Common.{◌≡◌, take}
use Rattle.ir_meaning.specs.Stacks.{moved}
use Rattle.ir_meaning.proofs.stacks.Stack.do_moves.Given as goal

abbrev pub invariant-loop-one : goal.invariant-loop-one
invariant-loop-one l = l.self ≡ record l.initial.self { running = record l.initial.self.running { registers = moved (take l.one-index l.moves) l.initial.self.running.registers } }
