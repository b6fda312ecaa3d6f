use Rattle.std.proofs.Common.{subst}
use Rattle.std.specs.Result.{IfOk, OnErr}
use Rattle.std.proofs.lemmas.Result.{IfOk-weaker, on_err_weaker}
use Rattle.tool_io.proofs.AppendLaws.{OnErr-always}
use Rattle.piece_writer.specs.LinePuts.{told_by}
use Rattle.ir_ast.specs.Modules.{ModuleContent}
use Rattle.move_plan.specs.Plans.{go}
use Rattle.object_meaning.specs.Effects.{Progress}
use Rattle.object_meaning.specs.Outcomes.{opening}
use Rattle.object_meaning.specs.SourceRuns.{source_setting}
use Rattle.object_meaning.specs.States.{State}
use Rattle.run_tasks.specs.declared.runs.Ran.{Ran}
use Rattle.run_tasks.proofs.RunLemmas.{on_ok_from}
use Rattle.ir_meaning.specs.Machines.{today}
use Rattle.ir_meaning.specs.References.{IsRun, IsRunFrom, WritesFrontFrom}
use Rattle.ir_meaning.proofs.RunLemmas.{front_none}
use Rattle.ir_meaning.proofs.OpeningLemmas.{opening_is}
use Rattle.ir_meaning.proofs.ReferenceLaws.{cut_is, front_is, puts_are, run_is}
use Rattle.ir_meaning.proofs.interpret.reference.Goals as goal

pub run-requires : goal.run-requires
run-requires g c = c.in_ok-machine.ensures.layouts

pub returns-clause-ran : goal.returns-clause-ran
returns-clause-ran g c =
    let start = opening_is c.in_ok-code.code c.args.plan.now c.args.steps c.args.input.now c.in_ok-machine.machine c.in_ok-machine.ensures in
    let setting = source_setting c.args.module.now.content (go c.args.plan.now) c.args.steps in
    let old = told_by g.O.Sink.written g.O.Sink.puts c.args.out.now in
    let new = told_by g.O.Sink.written g.O.Sink.puts c.run.new.out in
    IfOk-weaker c.run.result (λ (ran : Ran). IsRunFrom setting (opening setting c.args.input.now) ran old new)
    (λ (ran : Ran). IsRun c.args.module.now.content c.args.input.now (go c.args.plan.now) c.args.steps ran old.written new.written) (run_is c.args.module.now.content c.args.input.now (go c.args.plan.now) c.args.steps old new)
    (subst (λ (content : ModuleContent). IfOk c.run.result (λ ran. IsRunFrom (source_setting content (go c.args.plan.now) c.args.steps) (opening (source_setting content (go c.args.plan.now) c.args.steps) c.args.input.now) ran old new)) c.in_ok-code.ensures
    (subst (λ (start : Progress State). IfOk c.run.result (λ ran. IsRunFrom (today c.in_ok-code.code c.args.plan.now c.args.steps) start ran old new)) start c.run.ensures.ran))

pub returns-clause-by_one_put : goal.returns-clause-by_one_put
returns-clause-by_one_put g c =
    let start = opening_is c.in_ok-code.code c.args.plan.now c.args.steps c.args.input.now c.in_ok-machine.machine c.in_ok-machine.ensures in
    let old = told_by g.O.Sink.written g.O.Sink.puts c.args.out.now in
    let new = told_by g.O.Sink.written g.O.Sink.puts c.run.new.out in
    on_ok_from c.run.result (puts_are c.args.module.now.content c.args.input.now (go c.args.plan.now) c.args.steps old new)
    (subst (λ (content : ModuleContent). IfOk c.run.result (λ ran. IsRunFrom (source_setting content (go c.args.plan.now) c.args.steps) (opening (source_setting content (go c.args.plan.now) c.args.steps) c.args.input.now) ran old new)) c.in_ok-code.ensures
    (subst (λ (start : Progress State). IfOk c.run.result (λ ran. IsRunFrom (today c.in_ok-code.code c.args.plan.now c.args.steps) start ran old new)) start c.run.ensures.ran))

pub returns-clause-front : goal.returns-clause-front
returns-clause-front g c =
    let start = opening_is c.in_ok-code.code c.args.plan.now c.args.steps c.args.input.now c.in_ok-machine.machine c.in_ok-machine.ensures in
    let old = told_by g.O.Sink.written g.O.Sink.puts c.args.out.now in
    let new = told_by g.O.Sink.written g.O.Sink.puts c.run.new.out in
    on_err_weaker c.run.result (front_is c.args.module.now.content c.args.input.now (go c.args.plan.now) c.args.steps old new)
    (subst (λ (content : ModuleContent). OnErr c.run.result (WritesFrontFrom (source_setting content (go c.args.plan.now) c.args.steps) (opening (source_setting content (go c.args.plan.now) c.args.steps) c.args.input.now) old new)) c.in_ok-code.ensures
    (subst (λ (start : Progress State). OnErr c.run.result (WritesFrontFrom (today c.in_ok-code.code c.args.plan.now c.args.steps) start old new)) start c.run.ensures.front))

pub returns-clause-cut : goal.returns-clause-cut
returns-clause-cut g c =
    let start = opening_is c.in_ok-code.code c.args.plan.now c.args.steps c.args.input.now c.in_ok-machine.machine c.in_ok-machine.ensures in
    let old = told_by g.O.Sink.written g.O.Sink.puts c.args.out.now in
    let new = told_by g.O.Sink.written g.O.Sink.puts c.run.new.out in
    on_err_weaker c.run.result (cut_is c.args.module.now.content c.args.input.now (go c.args.plan.now) c.args.steps old new)
    (subst (λ (content : ModuleContent). OnErr c.run.result (WritesFrontFrom (source_setting content (go c.args.plan.now) c.args.steps) (opening (source_setting content (go c.args.plan.now) c.args.steps) c.args.input.now) old new)) c.in_ok-code.ensures
    (subst (λ (start : Progress State). OnErr c.run.result (WritesFrontFrom (today c.in_ok-code.code c.args.plan.now c.args.steps) start old new)) start c.run.ensures.front))

pub returns-in_err-code-clause-front : goal.returns-in_err-code-clause-front
returns-in_err-code-clause-front g c =
    let setting = source_setting c.args.module.now.content (go c.args.plan.now) c.args.steps in
    let old = told_by g.O.Sink.written g.O.Sink.puts c.args.out.now in
    OnErr-always c.from_residual.result
    (front_is c.args.module.now.content c.args.input.now (go c.args.plan.now) c.args.steps old old (front_none setting (opening setting c.args.input.now) old))

pub returns-in_err-code-clause-cut : goal.returns-in_err-code-clause-cut
returns-in_err-code-clause-cut g c =
    let setting = source_setting c.args.module.now.content (go c.args.plan.now) c.args.steps in
    let old = told_by g.O.Sink.written g.O.Sink.puts c.args.out.now in
    OnErr-always c.from_residual.result
    (cut_is c.args.module.now.content c.args.input.now (go c.args.plan.now) c.args.steps old old (front_none setting (opening setting c.args.input.now) old))

pub returns-in_err-machine-clause-front : goal.returns-in_err-machine-clause-front
returns-in_err-machine-clause-front g c =
    let setting = source_setting c.args.module.now.content (go c.args.plan.now) c.args.steps in
    let old = told_by g.O.Sink.written g.O.Sink.puts c.args.out.now in
    OnErr-always c.from_residual-in_err-machine.result
    (front_is c.args.module.now.content c.args.input.now (go c.args.plan.now) c.args.steps old old (front_none setting (opening setting c.args.input.now) old))

pub returns-in_err-machine-clause-cut : goal.returns-in_err-machine-clause-cut
returns-in_err-machine-clause-cut g c =
    let setting = source_setting c.args.module.now.content (go c.args.plan.now) c.args.steps in
    let old = told_by g.O.Sink.written g.O.Sink.puts c.args.out.now in
    OnErr-always c.from_residual-in_err-machine.result
    (cut_is c.args.module.now.content c.args.input.now (go c.args.plan.now) c.args.steps old old (front_none setting (opening setting c.args.input.now) old))
