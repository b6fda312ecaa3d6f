use Rattle.std.proofs.Common.{take}
use Rattle.std.specs.List.{AllZip}
use Rattle.ir_ast.specs.Faults.TypeClash.{Fits}
use Rattle.ir_verify.proofs.types.each_fits.Given as goal

abbrev pub invariant-loop-place : goal.invariant-loop-place
invariant-loop-place l = AllZip (Fits l.values) (take l.place l.operands) (take l.place l.types)
