use Rattle.std.proofs.Common.{◌≡◌, ◌++◌, take, map}
use Rattle.std.specs.List.{flat_map}
use Rattle.definite_assign.specs.Asked.{asked}
use Rattle.definite_assign.proofs.uses.ask_bundle.Given as goal

abbrev pub invariant-loop-operand : goal.invariant-loop-operand
invariant-loop-operand l = l.uses.items ≡ l.initial.uses.items ++ flat_map (asked l.homes l.arguments l.spot l.place) (map (λ entry. entry.1) (take l.operand-index l.bundle))
