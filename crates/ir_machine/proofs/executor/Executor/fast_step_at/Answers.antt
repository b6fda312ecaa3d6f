use Rattle.std.proofs.Common.{List, length, sym, ap, ◌∙◌}
use Rattle.ir_ast.specs.declared.ops.Callee.{Callee}
use Rattle.ir_ast.specs.declared.ops.Callee.TheVariants.{Fun, Poll}
use Rattle.ir_ast.specs.declared.types.Ty.{Ty}
use Rattle.ir_machine.specs.Executors.{acts_at, calls_kept, machinery, seen}
use Rattle.ir_machine.proofs.StepLemmas.{goes_as}
use Rattle.ir_machine.proofs.executor.Executor.fast_step_at.Goals as goal

pub returns-in-Poll : goal.returns-in-Poll
returns-in-Poll c =
    let now = c.args.self.now in let inst = c.args.inst.now in let all = machinery c.args.program.now in let rest = c.args.rest.insts.now in
    let is = sym c.op.ensures ∙ c.in-Statepoint.is in
    goes_as (seen now) (seen c.fast_poll.new.self) c.fast_poll.result _ _
    (ap (λ (types : List Ty). calls_kept all now inst rest Poll (length types)) c.list.ensures
    ∙ sym (ap (λ (callee : Callee). calls_kept all now inst rest callee (length c.in-Statepoint.types)) c.in-Poll.is)
    ∙ sym (ap (acts_at all now inst rest) is)) c.fast_poll.ensures

pub returns-in-Fun : goal.returns-in-Fun
returns-in-Fun c =
    let now = c.args.self.now in let inst = c.args.inst.now in let all = machinery c.args.program.now in let rest = c.args.rest.insts.now in
    let is = sym c.op.ensures ∙ c.in-Statepoint.is in
    goes_as (seen now) (seen c.fast_call.new.self) c.fast_call.result _ _
    (ap (λ (types : List Ty). calls_kept all now inst rest (Fun c.in-Fun.func) (length types)) c.list-in-Fun.ensures
    ∙ sym (ap (λ (callee : Callee). calls_kept all now inst rest callee (length c.in-Statepoint.types)) c.in-Fun.is)
    ∙ sym (ap (acts_at all now inst rest) is)) c.fast_call.ensures
