use Rattle.std.proofs.Common.{take}
use Rattle.std.specs.List.{flat_map}
use Rattle.ssa_rebuild.specs.Rows.{Grows, phi_entries}
use Rattle.ssa_rebuild.proofs.entries.add_phis.Given as goal

abbrev pub invariant-loop-inst : goal.invariant-loop-inst
invariant-loop-inst l = Grows l.initial.rows.items l.rows.items (λ p. flat_map (phi_entries p) (take l.inst-index l.insts))
