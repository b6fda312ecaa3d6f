use Rattle.std.proofs.Common.{◌∙◌, ap, sym, subst, Option}
use Rattle.std.specs.Option.{option_map_or}
use Rattle.ir_ast.specs.declared.ops.Operand.{Operand}
use Rattle.ir_ast.specs.declared.ops.Operand.TheVariants.{Null}
use Rattle.fact_tables.specs.Phis.{AreEntries}
use Rattle.fact_tables.proofs.PhiLemmas.{incoming_beside}
use Rattle.fact_tables.proofs.phis.incoming.Goals as goal

pub returns-in-Some : goal.returns-in-Some
returns-in-Some c =
    let knows = subst (AreEntries c.args.phi.now) c.in-Some.is c.requires in
    c.entry_of.ensures ∙ ap (λ (o : Option Operand). option_map_or (λ operand. operand) o Null) (knows c.args.from.0)
    ∙ sym (incoming_beside c.args.phi.now.labels c.args.phi.now.operands c.args.from.0)
