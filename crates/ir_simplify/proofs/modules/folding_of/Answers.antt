use Rattle.std.proofs.Common.{length, ap, arith}
use Rattle.folded_forms.specs.Foldings.{IsFolding}
use Rattle.fold_tables.proofs.CheckLaws.{few_values}
use Rattle.fold_tables.proofs.ListLaws.{on_true_is}
use Rattle.ir_simplify.proofs.modules.folding_of.Goals as goal

pub returns-clause-few : goal.returns-clause-few
returns-clause-few c =
    let table = c.as_slice-3.result.now in
    let folding = on_true_is c.in_ok-holds.holds (IsFolding c.args.func.now.content table) c.if-not-holds.false c.in_ok-holds.ensures in
    let few = few_values c.args.func.now.content table folding.whole c.args-2.ensures.small in
    omega (arith, few, ap length c.as_slice-3.ensures.value)
