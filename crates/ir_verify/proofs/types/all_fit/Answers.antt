use Rattle.std.proofs.Common.{arith}
use Rattle.ir_ast.specs.declared.ops.Operand.{Operand}
use Rattle.ir_ast.specs.Faults.TypeClash.{Fits}
use Rattle.std.specs.Prelude.{refl}
use Rattle.std.proofs.lemmas.List.Elements.{All-more}
use Rattle.ir_verify.proofs.Zips.{all_taken}
use Rattle.ir_verify.proofs.types.all_fit.Goals as goal

pub loop-operand-preserved : goal.loop-operand-preserved
loop-operand-preserved c =
    All-more (λ (operand : Operand). Fits c.args.values.now operand c.args.ty) c.args.operands.now c.loop-operand.operand-index _ c.loop-operand-test.true
    c.loop-operand.invariant (c.fits.ensures.0 c.if-not-fits.false)

pub returns : goal.returns
returns c = (
  (λ is. all_taken (λ (operand : Operand). Fits c.args.values.now operand c.args.ty) c.args.operands.now c.loop-operand.operand-index
      (omega arith) c.loop-operand.invariant),
  (λ all. refl),
)
