use Rattle.std.proofs.Common.{take}
use Rattle.std.specs.List.{flat_map}
use Rattle.ssa_rebuild.specs.Rows.{phi_entries}
use Rattle.ssa_rebuild.specs.Arrivals.{Takes, phi_numbers}
use Rattle.ssa_rebuild.proofs.arrivals.take_phis.Given as goal

abbrev pub invariant-loop-inst : goal.invariant-loop-inst
invariant-loop-inst l = Takes l.rows l.initial.arrivals l.arrivals (λ p. flat_map (phi_entries p) (take l.inst-index l.insts))
    (λ here. flat_map (phi_numbers here) (take l.inst-index l.insts))
