use Rattle.std.proofs.Common.{◌≡◌, ◌++◌, map, filter, not}
use Rattle.live_sets.specs.Uses.{names}
use Rattle.live_sets.proofs.lists.list_of.Given as goal
use Rattle.ir_ast.specs.Operands.{valued}

abbrev pub invariant-loop-number : goal.invariant-loop-number
invariant-loop-number l =
    l.list.items ++ map valued (filter (λ v. not (names l.to v)) l.number-iterator) ≡ map valued (filter (λ v. not (names l.to v)) l.set.keys)
