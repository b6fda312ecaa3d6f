use Rattle.std.proofs.Common.{length, ap, arith}
use Rattle.fold_tables.proofs.CheckLaws.{few_values}
use Rattle.ir_simplify.proofs.modules.thinning_of.Goals as goal

pub returns-clause-few : goal.returns-clause-few
returns-clause-few c =
    let table = c.as_slice-3.result.now in
    let few = few_values c.args.func.now.content table c.if-not-is_thinning.ensures.whole c.args-2.ensures.small in
    omega (arith, few, ap length c.as_slice-3.ensures.value)
