use Rattle.std.specs.Prelude.{map}
use Rattle.ir_ast.specs.Values.{argument}
use Rattle.ir_ast.specs.Insts.{Instruction}
use Rattle.std.specs.Borrow.{Bor}
use Rattle.body_tables.specs.Bodies.{seen_insts, inst_of}
use Rattle.body_tables.proofs.Values.{table_more}
use Rattle.body_tables.proofs.bodies.givers.Goals as goal
use Rattle.list_laws.proofs.Places.{seen_at}

pub loop-inst-preserved : goal.loop-inst-preserved
loop-inst-preserved c =
    table_more inst_of (map argument c.args.func.now.content.args) (seen_insts c.args.insts.now) c.loop-inst.inst-index c.inst-item.result.now
    _ _ (seen_at (λ (inst : Bor Instruction). inst.now) c.args.insts.now c.loop-inst.inst-index c.inst-item.result c.loop-inst-test.true c.inst-item.is)
    c.loop-inst.invariant c.in_ok-push_giver.ensures
