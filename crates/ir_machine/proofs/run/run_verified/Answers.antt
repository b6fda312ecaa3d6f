use Rattle.std.proofs.lemmas.Result.{IfOk-weaker}
use Rattle.stackmap_view.specs.Maps.{stack_map}
use Rattle.moves_unseen.specs.Waits.{IsSound}
use Rattle.run_tasks.specs.declared.runs.Ran.{Ran}
use Rattle.ir_machine.specs.Answers.{IsRunOver, IsRunUnseen}
use Rattle.ir_machine.proofs.RunLemmas.{seen_over}
use Rattle.ir_machine.proofs.run.run_verified.Goals as goal

pub returns-clause-seen : goal.returns-clause-seen
returns-clause-seen g c = λ own.
    let content = c.args.verified.now.content in let input = c.args.input.now in let plan = c.args.plan.now in let bound = c.args.steps in let shows = c.args.shows in
    let old = g.O.Sink.written c.args.out.now in
    let new = g.O.Sink.written c.run_over.new.out in
    let sound : IsSound content = record { target = c.module-module.ensures.target; verified = c.module-module.ensures.verified } in
    IfOk-weaker c.run_over.result (λ (ran : Ran). IsRunOver content (stack_map c.args.map.now) input plan bound shows ran old new)
    (λ (ran : Ran). IsRunUnseen content input plan bound shows ran old new)
    (seen_over content sound input plan bound shows old new (stack_map c.args.map.now) own)
    (rw c.module-module.ensures.value at c.run_over.ensures.ran)
