use Rattle.std.proofs.Common.{◌≡◌, ◌++◌, replicate}
use Rattle.object_store.specs.Words.{number_word}
use Rattle.ir_meaning.proofs.stacks.fill.Given as goal

abbrev pub invariant-loop : goal.invariant-loop
invariant-loop l = l.registers.items ≡ l.initial.registers.items ++ replicate l.counter (number_word 0)
