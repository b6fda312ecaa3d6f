use Rattle.std.proofs.Common.{◌≡◌, ◌-◌, suc, arith}
use Rattle.base_facts.proofs.ClosingLemmas.{can_step, definition_closed, null_closed}
use Rattle.base_facts.proofs.closing.expand_definition.Goals as goal
use Rattle.std.proofs.lemmas.Result.{IfOk-weaker}

pub take_step-requires-clause-step : goal.take_step-requires-clause-step
take_step-requires-clause-step c =
    let place : c.args.fact.place ≡ suc (c.args.fact.place - 1) = omega (arith, c.requires.defined.behind) in
    can_step c.args.func.now.content c.args.asked.now c.args.number c.args.fact c.in-Value.value (c.args.fact.place - 1) c.step_of-step.result c.requires.asked c.requires.stands c.requires.block
    c.requires.defined c.in-Value.is place c.step_of-step.ensures

pub returns-in-Value : goal.returns-in-Value
returns-in-Value c =
    let place : c.args.fact.place ≡ suc (c.args.fact.place - 1) = omega (arith, c.requires.defined.behind) in
    IfOk-weaker c.take_step.result _ _
    (λ x has. definition_closed c.args.func.now.content c.args.number c.args.fact c.in-Value.value (c.args.fact.place - 1) c.step_of-step.result c.args.asked.now c.take_step.new.asked
    c.requires.defined c.in-Value.is place c.step_of-step.ensures has) c.take_step.ensures

pub returns-in-Null : goal.returns-in-Null
returns-in-Null c = null_closed c.args.func.now.content c.args.number c.args.fact c.args.asked.now c.requires.defined c.in-Null.is
