use Rattle.std.proofs.Common.{take}
use Rattle.std.specs.List.{All}
use Rattle.ir_ast.specs.Faults.TypeClash.{Fits}
use Rattle.ir_verify.proofs.types.bundle_fits.Given as goal

abbrev pub invariant-loop-entry : goal.invariant-loop-entry
invariant-loop-entry l = All (λ entry. Fits l.values entry.1 entry.0) (take l.entry-index l.bundle)
