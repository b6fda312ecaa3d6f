use Rattle.std.proofs.Common.{take}
use Rattle.ssa_rebuild.specs.Rows.{entries_for}
use Rattle.ssa_rebuild.specs.Arrivals.{Takes, labeled_numbers}
use Rattle.ssa_rebuild.proofs.arrivals.take_labeled.Given as goal

abbrev pub invariant-loop-place : goal.invariant-loop-place
invariant-loop-place l = Takes l.rows l.initial.arrivals l.arrivals (λ p. entries_for p (take l.place l.labels) (take l.place l.operands))
    (λ here. labeled_numbers here (take l.place l.labels) (take l.place l.operands))
