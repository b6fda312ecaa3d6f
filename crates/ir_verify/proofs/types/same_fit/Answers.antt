use Rattle.ir_ast.specs.Faults.TypeClash.{Fits}
use Rattle.ir_verify.proofs.Zips.{zip_one, one_zip}
use Rattle.ir_verify.proofs.types.same_fit.Goals as goal

pub returns : goal.returns
returns c = (
  (λ is. zip_one (Fits c.args.values.now) c.args.operands.now c.args.ty (c.all_fit.ensures.0 is)),
  (λ all. c.all_fit.ensures.1 (one_zip (Fits c.args.values.now) c.args.operands.now c.args.ty all)),
)
