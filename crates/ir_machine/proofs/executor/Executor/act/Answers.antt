use Rattle.std.proofs.Common.{List, length, sym, ap, ◌∙◌}
use Rattle.ir_machine.specs.Executors.{machinery, acts_at}
use Rattle.ir_machine.proofs.StepLemmas.{does_as}
use Rattle.ir_ast.specs.declared.types.Ty.{Ty}
use Rattle.ir_machine.specs.Executors.{calls_kept}
use Rattle.ir_machine.proofs.executor.Executor.act.Goals as goal

pub returns-in-Statepoint : goal.returns-in-Statepoint
returns-in-Statepoint c =
    let now = c.args.self.now in let inst = c.args.inst.now in let all = machinery c.args.program.now in
    let is = sym c.op-2.ensures ∙ c.in-Statepoint.is in
    does_as c.statepoint.new.self c.statepoint.result _ _
    (ap (λ (types : List Ty). calls_kept all now inst c.args.rest.insts.now c.in-Statepoint.callee (length types)) c.list.ensures ∙ sym (ap (acts_at all now inst c.args.rest.insts.now) is)) c.statepoint.ensures
