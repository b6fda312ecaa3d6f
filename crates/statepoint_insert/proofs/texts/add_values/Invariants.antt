use Rattle.std.proofs.Common.{◌≡◌, ◌++◌, map, take}
use Rattle.rewriting_forms.specs.Numbered.{named}
use Rattle.statepoint_insert.proofs.texts.add_values.Given as goal

abbrev pub invariant-loop-number : goal.invariant-loop-number
invariant-loop-number l = l.operands.items ≡ l.initial.operands.items ++ map (λ v. named v) (take l.number-index l.live)
