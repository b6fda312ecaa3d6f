use Rattle.std.proofs.Common.{◌≡◌, List, Bool, true, length, ap, sym, ◌∙◌, subst}
use Rattle.std.proofs.lemmas.Result.{IfOk-weaker}
use Rattle.object_meaning.specs.Lines.{following}
use Rattle.machine_meaning.specs.Machines.{Machine, spilled}
use Rattle.machine_meaning.specs.MachineSteps.{machine_step}
use Rattle.machine_lines.specs.Lines.{line_of, lines_left}
use Rattle.ir_ast.specs.declared.types.Ty.{Ty}
use Rattle.ir_machine.specs.Executors.{machinery, seen}
use Rattle.ir_machine.specs.Traces.{CallForeseen, StepForeseen}
use Rattle.ir_machine.proofs.TraceLemmas.{OnOk-holds, call_foreseen, spilled_step, statepoint_foreseen}
use Rattle.ir_machine.proofs.executor.Executor.foresee_line.Goals as goal

pub returns-in-Call-clause-event : goal.returns-in-Call-clause-event
returns-in-Call-clause-event c =
    let now = c.args.self.now in let all = machinery c.args.program.now in let next = now.run.frame.next in
    let line = line_of next c.args.inst.now in let rest = lines_left (following next c.args.inst.now) c.args.rest.now in
    let one = c.foresee_call.new.happening in
    IfOk-weaker c.foresee_call.result (λ (event : Bool). CallForeseen all (seen now) c.in-Call.callee event one) (λ (event : Bool). StepForeseen all true (seen now) event one)
    (λ event. call_foreseen all (seen now) line rest (ap (lines_left next) c.requires.stands) c.in-Call.callee c.in-Call.types (sym c.op.ensures ∙ c.in-Call.is) event one) c.foresee_call.ensures.event

pub returns-in_ok-spill-in-Statepoint-clause-event : goal.returns-in_ok-spill-in-Statepoint-clause-event
returns-in_ok-spill-in-Statepoint-clause-event c =
    let now = c.args.self.now in let all = machinery c.args.program.now in let next = now.run.frame.next in
    let line = line_of next c.args.inst.now in let rest = lines_left (following next c.args.inst.now) c.args.rest.now in
    let one = c.foresee_call-in-Statepoint.new.happening in
    let spills : seen c.spill.new.self ≡ spilled (seen now) line.inst (length c.in-Statepoint.types) =
    c.in_ok-spill-in-Statepoint.ensures.spilled ∙ ap (λ (types : List Ty). spilled (seen now) line.inst (length types)) c.list.ensures in
    IfOk-weaker c.foresee_call-in-Statepoint.result (λ (event : Bool). CallForeseen all (seen c.spill.new.self) c.in-Statepoint.callee event one) (λ (event : Bool). StepForeseen all true (seen now) event one)
    (λ event foreseen. statepoint_foreseen all (seen now) line rest (ap (lines_left next) c.requires.stands) c.in-Statepoint.callee c.in-Statepoint.types c.in-Statepoint.id
    (sym c.op.ensures ∙ c.in-Statepoint.is) event one (subst (λ (m : Machine). CallForeseen all m c.in-Statepoint.callee event one) spills foreseen)) c.foresee_call-in-Statepoint.ensures.event

pub returns-in_ok-spill-in-Statepoint-clause-step : goal.returns-in_ok-spill-in-Statepoint-clause-step
returns-in_ok-spill-in-Statepoint-clause-step c =
    let now = c.args.self.now in let all = machinery c.args.program.now in let next = now.run.frame.next in
    let line = line_of next c.args.inst.now in let rest = lines_left (following next c.args.inst.now) c.args.rest.now in
    let spills : seen c.spill.new.self ≡ spilled (seen now) line.inst (length c.in-Statepoint.types) =
    c.in_ok-spill-in-Statepoint.ensures.spilled ∙ ap (λ (types : List Ty). spilled (seen now) line.inst (length types)) c.list.ensures in
    OnOk-holds c.foresee_call-in-Statepoint.result
    (ap (machine_step all) (c.foresee_call-in-Statepoint.ensures.kept ∙ spills)
    ∙ spilled_step all (seen now) line rest (ap (lines_left next) c.requires.stands) c.in-Statepoint.callee c.in-Statepoint.types c.in-Statepoint.id (sym c.op.ensures ∙ c.in-Statepoint.is))
