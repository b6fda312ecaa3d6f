use Rattle.std.proofs.Common.{◌≡◌, ◌++◌, map, take}
use Rattle.used_pairs.specs.Lists.{own_used}
use Rattle.used_pairs.proofs.uses.add_escaping.Given as goal

abbrev pub invariant-loop-operand : goal.invariant-loop-operand
invariant-loop-operand l = l.used.items ≡ l.initial.used.items ++ map (own_used l.block l.place) (take l.operand-index l.operand-items)
