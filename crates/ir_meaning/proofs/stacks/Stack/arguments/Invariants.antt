use Rattle.std.proofs.Common.{◌≡◌, map, take}
use Rattle.ir_meaning.specs.Stacks.{word}
use Rattle.ir_meaning.proofs.stacks.Stack.arguments.Given as goal

abbrev pub invariant-loop-operand : goal.invariant-loop-operand
invariant-loop-operand l = l.args.items ≡ map (word l.self.running.registers) (take l.operand-index l.operands)
