use Rattle.std.specs.Result.{IfOk}
use Rattle.std.proofs.Common.{subst}
use Rattle.std.proofs.lemmas.Result.{IfOk-weaker}
use Rattle.ir_ast.specs.Modules.{ModuleContent}
use Rattle.made_objects.specs.Packed.{ArePacked}
use Rattle.move_plan.specs.Plans.{go}
use Rattle.object_meaning.specs.Effects.{Progress}
use Rattle.object_meaning.specs.Outcomes.{opening}
use Rattle.object_meaning.specs.SourceRuns.{source_setting}
use Rattle.object_meaning.specs.States.{State}
use Rattle.ir_meaning.specs.Machines.{today}
use Rattle.ir_meaning.specs.Makings.{IsMakingRun, MakesFrom}
use Rattle.ir_meaning.proofs.OpeningLemmas.{opening_is}
use Rattle.ir_meaning.proofs.TrackLemmas.{making_is, making_packed}
use Rattle.ir_meaning.proofs.making.made.Goals as goal

pub returns-clause-made : goal.returns-clause-made
returns-clause-made c =
    let start = opening_is c.in_ok-code.code c.args.plan.now c.args.steps c.args.input.now c.in_ok-machine.machine c.in_ok-machine.ensures in
    let setting = source_setting c.args.module.now.content (go c.args.plan.now) c.args.steps in
    IfOk-weaker c.follow.result (λ given. MakesFrom setting (opening setting c.args.input.now) given.0 given.1.items)
    (λ given. IsMakingRun c.args.module.now.content c.args.input.now (go c.args.plan.now) c.args.steps given.0 given.1.items)
    (λ given makes. making_is c.args.module.now.content c.args.input.now (go c.args.plan.now) c.args.steps given.0 given.1.items makes)
    (subst (λ (content : ModuleContent). IfOk c.follow.result (λ given. MakesFrom (source_setting content (go c.args.plan.now) c.args.steps) (opening (source_setting content (go c.args.plan.now) c.args.steps) c.args.input.now) given.0 given.1.items)) c.in_ok-code.ensures
    (subst (λ (start : Progress State). IfOk c.follow.result (λ given. MakesFrom (today c.in_ok-code.code c.args.plan.now c.args.steps) start given.0 given.1.items)) start c.follow.ensures))

pub returns-clause-packed : goal.returns-clause-packed
returns-clause-packed c =
    IfOk-weaker c.follow.result (λ given. IsMakingRun c.args.module.now.content c.args.input.now (go c.args.plan.now) c.args.steps given.0 given.1.items)
    (λ given. ArePacked given.1.items)
    (λ given is. making_packed c.args.module.now.content c.args.input.now (go c.args.plan.now) c.args.steps given.0 given.1.items is) (returns-clause-made c)
