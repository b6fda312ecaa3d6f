use Rattle.std.proofs.Common.{arith}
use Rattle.ir_ast.specs.declared.types.Ty.{Ty}
use Rattle.ir_ast.specs.declared.ops.Operand.{Operand}
use Rattle.ir_ast.specs.Faults.TypeClash.{Fits}
use Rattle.std.specs.Prelude.{refl}
use Rattle.std.proofs.lemmas.List.Elements.{All-more}
use Rattle.ir_verify.proofs.Zips.{all_taken}
use Rattle.ir_verify.proofs.types.bundle_fits.Goals as goal

pub loop-entry-preserved : goal.loop-entry-preserved
loop-entry-preserved c =
    All-more (λ (entry : Ty × Operand). Fits c.args.values.now entry.1 entry.0) c.args.bundle.now c.loop-entry.entry-index _ c.loop-entry-test.true
    c.loop-entry.invariant (c.fits.ensures.0 c.if-not-fits.false)

pub returns : goal.returns
returns c = (
  (λ is. all_taken (λ (entry : Ty × Operand). Fits c.args.values.now entry.1 entry.0) c.args.bundle.now c.loop-entry.entry-index
      (omega arith) c.loop-entry.invariant),
  (λ all. refl),
)
