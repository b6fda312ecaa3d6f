use Rattle.std.proofs.Common.{◌≡◌, ◌++◌, take}
use Rattle.definite_assign.specs.Asked.{entries_asked}
use Rattle.definite_assign.proofs.uses.ask_entries.Given as goal

abbrev pub invariant-loop-index : goal.invariant-loop-index
invariant-loop-index l = l.uses.items ≡ l.initial.uses.items ++ entries_asked l.homes l.arguments l.place l.labels (take l.index l.operands)
