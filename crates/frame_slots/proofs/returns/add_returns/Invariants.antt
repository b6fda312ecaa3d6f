use Rattle.std.proofs.Common.{◌≡◌, ◌+◌, ◌++◌, drop, length}
use Rattle.ir_ast.specs.Funcs.{instructions_of}
use Rattle.frame_forms.specs.CodeAddresses.{returns_from}
use Rattle.frame_slots.proofs.returns.add_returns.Given as goal

abbrev pub invariant-loop-block : goal.invariant-loop-block
invariant-loop-block l =
    (l.returns.items ++ returns_from l.place (instructions_of (drop l.block-index l.block-items))
    ≡ l.initial.returns.items ++ returns_from 0 (instructions_of l.fn.func.content.blocks))
    × (l.place + length (instructions_of (drop l.block-index l.block-items)) ≡ length (instructions_of l.fn.func.content.blocks))
