use Rattle.std.proofs.Common.{◌≡◌, map, take}
use Rattle.rewriting_forms.specs.Numbered.{named}
use Rattle.ssa_rebuild.proofs.filled.values.Given as goal

abbrev pub invariant-loop-number : goal.invariant-loop-number
invariant-loop-number l = l.operands.items ≡ map (λ number. named number) (take l.number-index l.numbers)
