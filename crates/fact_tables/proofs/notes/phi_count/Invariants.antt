use Rattle.std.proofs.Common.{◌≡◌, ℕ, ◌<◌, true, Some, slice_get}
use Rattle.ir_ast.specs.Insts.{Instruction}
use Rattle.ir_ast.specs.Faults.PhiEdges.{is_phi}
use Rattle.fact_tables.proofs.notes.phi_count.Given as goal

abbrev pub invariant-loop-place : goal.invariant-loop-place
invariant-loop-place l = (k : ℕ) (inst : Instruction) → k < l.place → slice_get l.insts k ≡ Some inst → is_phi inst.op ≡ true
