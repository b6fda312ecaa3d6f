use Rattle.std.proofs.Common.{◌≡◌, ◌≤◌, ◌+◌, drop, count_by}
use Rattle.ir_ast.specs.Faults.GroupShape.{is_statepoint}
use Rattle.frame_slots.proofs.returns.statepoints_in.Given as goal

abbrev pub invariant-loop-inst : goal.invariant-loop-inst
invariant-loop-inst l =
    (l.found + count_by (λ inst. is_statepoint inst.op) (drop l.inst-index l.insts) ≡ count_by (λ inst. is_statepoint inst.op) l.insts)
    × (l.found ≤ l.inst-index)
