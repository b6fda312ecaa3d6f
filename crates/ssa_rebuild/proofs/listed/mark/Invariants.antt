use Rattle.std.proofs.Common.{◌≡◌, ℕ, ◌+◌, ◌-◌, false, length}
use Rattle.std.specs.Prelude.{slice_index_or}
use Rattle.ssa_rebuild.proofs.listed.mark.Given as goal

abbrev pub invariant-loop-marks : goal.invariant-loop-marks
invariant-loop-marks l = (v : ℕ) → slice_index_or l.marks.items v false ≡ slice_index_or l.initial.marks.items v false

abbrev pub decreases-loop-marks : goal.decreases-loop-marks
decreases-loop-marks l = (l.place + 1) - length l.marks.items
