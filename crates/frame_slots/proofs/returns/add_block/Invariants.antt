use Rattle.std.proofs.Common.{◌≡◌, ◌+◌, ◌++◌, drop}
use Rattle.frame_forms.specs.CodeAddresses.{returns_from}
use Rattle.frame_slots.proofs.returns.add_block.Given as goal

abbrev pub invariant-loop-index : goal.invariant-loop-index
invariant-loop-index l =
    l.returns.items ++ returns_from (l.first + l.index) (drop l.index l.insts) ≡ l.initial.returns.items ++ returns_from l.first l.insts
