use Rattle.std.proofs.Common.{take}
use Rattle.ssa_rebuild.specs.Rows.{Grows, entries_for}
use Rattle.ssa_rebuild.proofs.entries.add_labeled.Given as goal

abbrev pub invariant-loop-place : goal.invariant-loop-place
invariant-loop-place l = Grows l.initial.rows.items l.rows.items (λ p. entries_for p (take l.place l.labels) (take l.place l.operands))
