use Rattle.std.proofs.Common.{◌≡◌, ◌+◌, drop}
use Rattle.std.specs.List.{prefix_len}
use Rattle.ir_ast.specs.Faults.PhiEdges.{is_phi}
use Rattle.machine_frames.proofs.numbering.phi_count.Given as goal

abbrev pub invariant-loop-inst : goal.invariant-loop-inst
invariant-loop-inst l =
    (l.found ≡ l.inst-index)
    × (l.found + prefix_len (λ inst. is_phi inst.op) (drop l.found l.insts) ≡ prefix_len (λ inst. is_phi inst.op) l.insts)
