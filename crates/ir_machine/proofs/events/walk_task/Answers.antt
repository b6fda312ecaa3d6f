use Rattle.std.proofs.Common.{ℕ, ap, ◌∙◌}
use Rattle.ir_machine.specs.Executors.{machinery}
use Rattle.frame_walk.specs.Walks.{walked}
use Rattle.ir_machine.proofs.events.walk_task.Goals as goal

pub returns-in-Ok-clause-walked : goal.returns-in-Ok-clause-walked
returns-in-Ok-clause-walked c =
    let all = machinery c.args.program.now in let task = c.args.task.now in
    ap (λ (address : ℕ). walked all.found c.args.moves.now.moves address task.stack) (c.return_address-address.ensures c.args.program.now.map.whole c.args.program.now.plan.now c.args.program.now.bound) ∙ c.in-Ok.ensures.walked

pub returns-in-Err-clause-walked : goal.returns-in-Err-clause-walked
returns-in-Err-clause-walked c =
    let all = machinery c.args.program.now in let task = c.args.task.now in
    (_, ap (λ (address : ℕ). walked all.found c.args.moves.now.moves address task.stack) (c.return_address-address.ensures c.args.program.now.map.whole c.args.program.now.plan.now c.args.program.now.bound) ∙ c.in-Err.ensures.walked)
