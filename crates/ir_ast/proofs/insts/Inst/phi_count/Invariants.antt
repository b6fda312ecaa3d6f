use Rattle.std.proofs.Common.{◌≡◌, ◌+◌, ◌-◌, ◌≤◌, drop, length}
use Rattle.ir_ast.specs.Funcs.{phis_of}
use Rattle.ir_ast.proofs.insts.Inst.phi_count.Given as goal

abbrev pub invariant-loop-count : goal.invariant-loop-count
invariant-loop-count l = record { counted : l.count + phis_of (drop l.count l.insts) ≡ phis_of l.insts; within : l.count ≤ length l.insts }

abbrev pub decreases-loop-count : goal.decreases-loop-count
decreases-loop-count l = length l.insts - l.count
