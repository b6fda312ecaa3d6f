use Rattle.std.proofs.Common.{◌≡◌, ◌++◌, take}
use Rattle.ir_verify.specs.Phis.{numbers_of}
use Rattle.ir_verify.proofs.phis.push_numbers.Given as goal

abbrev pub invariant-loop-label : goal.invariant-loop-label
invariant-loop-label l = l.numbers.items ≡ l.initial.numbers.items ++ numbers_of (take l.label-index l.labels)
