use Rattle.std.proofs.Common.{◌≡◌, ◌+◌, drop, count_by}
use Rattle.ir_ast.specs.Funcs.{instructions_of}
use Rattle.ir_ast.specs.Faults.GroupShape.{is_statepoint}
use Rattle.frame_slots.proofs.returns.statepoints_of.Given as goal

abbrev pub invariant-loop-block : goal.invariant-loop-block
invariant-loop-block l =
    l.found + count_by (λ inst. is_statepoint inst.op) (instructions_of (drop l.block-index l.blocks))
    ≡ count_by (λ inst. is_statepoint inst.op) (instructions_of l.blocks)
