use Rattle.std.proofs.Common.{◌≡◌}
use Rattle.std.specs.Prelude.{map, slice_get, Some}
use Rattle.ir_ast.specs.Values.{argument, definition_type}
use Rattle.ir_ast.specs.Insts.{Instruction}
use Rattle.ir_ast.specs.Derived.{is_step}
use Rattle.ir_ast.specs.Faults.PhiEdges.{is_phi}
use Rattle.std.specs.Borrow.{Bor}
use Rattle.body_tables.specs.Bodies.{seen_insts}
use Rattle.body_tables.proofs.Values.{table_more, any_more}
use Rattle.body_tables.proofs.bodies.value_table.Goals as goal
use Rattle.list_laws.proofs.Places.{seen_at}

pub loop-inst-preserved : goal.loop-inst-preserved
loop-inst-preserved c =
    let insts = seen_insts c.args.insts.now in
    let i = c.loop-inst.inst-index in
    let inst = c.inst-item.result.now in
    let at : slice_get insts i ≡ Some inst
    = seen_at (λ (one : Bor Instruction). one.now) c.args.insts.now i c.inst-item.result c.loop-inst-test.true c.inst-item.is in
    record {
      types = table_more definition_type (map argument c.args.func.now.content.args) insts i inst
          c.loop-inst.types.items _ at c.loop-inst.invariant.types c.in_ok-push_type.ensures;
      steps = any_more (λ (one : Instruction). is_step one.op) insts i inst c.loop-inst.has_step c.or_step-has_step.result at c.loop-inst.invariant.steps c.or_step-has_step.ensures;
      phis = any_more (λ (one : Instruction). is_phi one.op) insts i inst c.loop-inst.has_phi c.or_phi-has_phi.result at c.loop-inst.invariant.phis c.or_phi-has_phi.ensures;
    }
