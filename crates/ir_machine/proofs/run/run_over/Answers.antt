use Rattle.std.proofs.Common.{ap, subst}
use Rattle.std.specs.Result.{IfOk, OnErr}
use Rattle.std.proofs.lemmas.Result.{IfOk-weaker, on_err_weaker}
use Rattle.tool_io.proofs.AppendLaws.{OnErr-always}
use Rattle.ir_ast.specs.Modules.{ModuleContent}
use Rattle.map_bytes.specs.Maps.{StackMap}
use Rattle.stackmap_view.specs.Maps.{stack_map}
use Rattle.object_meaning.specs.Effects.{Progress}
use Rattle.machine_meaning.specs.Machines.{Machine}
use Rattle.machine_meaning.specs.MachineRuns.{machine_opening}
use Rattle.machine_meaning.specs.Code.{machinery_of}
use Rattle.run_tasks.specs.declared.runs.Ran.{Ran}
use Rattle.run_tasks.proofs.RunLemmas.{on_ok_from}
use Rattle.piece_writer.specs.LinePuts.{told_by}
use Rattle.ir_machine.specs.Answers.{IsRunOver, IsRunFrom, WritesFrontFrom}
use Rattle.ir_machine.proofs.RunLemmas.{cut_is, front_is, front_none, none_settled, puts_are, run_is}
use Rattle.ir_machine.proofs.run.run_over.Goals as goal

pub run-requires : goal.run-requires
run-requires g c = record {
  settled = none_settled c.in_ok-executor.executor.heap.stands (ap (λ (p : Progress Machine). p.state.heap.stands) c.in_ok-executor.ensures);
}

pub returns-clause-ran : goal.returns-clause-ran
returns-clause-ran g c =
    let content = c.args.«module».now.content in let map = stack_map c.args.view in let plan = c.args.plan.now in let bound = c.args.bound in let input = c.args.input.now in
    let shows = c.args.shows in
    let old = told_by g.O.Sink.written g.O.Sink.puts c.args.out.now in
    let new = told_by g.O.Sink.written g.O.Sink.puts c.run.new.out in
    let code : ModuleContent = c.in_ok-code.code in let whole = c.in_ok-map.map.whole in
    let at : ModuleContent → StackMap → Ran → Type 0 = λ content map ran. IsRunFrom content (machinery_of content map plan bound) shows (machine_opening (machinery_of content map plan bound) input) ran old new in
    IfOk-weaker c.run.result (at content map) (λ (ran : Ran). IsRunOver content map input plan bound shows ran old.written new.written)
    (run_is content map input plan bound shows old new)
    (subst (λ (m : StackMap). IfOk c.run.result (at content m)) c.in_ok-map.ensures.whole
    (subst (λ (one : ModuleContent). IfOk c.run.result (at one whole)) c.in_ok-code.ensures
    (subst (λ (start : Progress Machine). IfOk c.run.result (λ ran. IsRunFrom code (machinery_of code whole plan bound) shows start ran old new)) c.in_ok-executor.ensures c.run.ensures.ran)))

pub returns-clause-front : goal.returns-clause-front
returns-clause-front g c =
    let content = c.args.«module».now.content in let map = stack_map c.args.view in let plan = c.args.plan.now in let bound = c.args.bound in let input = c.args.input.now in
    let shows = c.args.shows in
    let old = told_by g.O.Sink.written g.O.Sink.puts c.args.out.now in
    let new = told_by g.O.Sink.written g.O.Sink.puts c.run.new.out in
    let code : ModuleContent = c.in_ok-code.code in let whole = c.in_ok-map.map.whole in
    let at : ModuleContent → StackMap → Type 0 = λ content map. WritesFrontFrom content (machinery_of content map plan bound) shows (machine_opening (machinery_of content map plan bound) input) old new in
    on_err_weaker c.run.result (front_is content map input plan bound shows old new)
    (subst (λ (m : StackMap). OnErr c.run.result (at content m)) c.in_ok-map.ensures.whole
    (subst (λ (one : ModuleContent). OnErr c.run.result (at one whole)) c.in_ok-code.ensures
    (subst (λ (start : Progress Machine). OnErr c.run.result (WritesFrontFrom code (machinery_of code whole plan bound) shows start old new)) c.in_ok-executor.ensures c.run.ensures.front)))

pub returns-in_err-code-clause-front : goal.returns-in_err-code-clause-front
returns-in_err-code-clause-front g c =
    let content = c.args.«module».now.content in let map = stack_map c.args.view in let plan = c.args.plan.now in let bound = c.args.bound in let input = c.args.input.now in
    let all = machinery_of content map plan bound in
    let old = told_by g.O.Sink.written g.O.Sink.puts c.args.out.now in
    OnErr-always c.from_residual.result (front_is content map input plan bound c.args.shows old old (front_none content all c.args.shows (machine_opening all input) old))

pub returns-in_err-map-clause-front : goal.returns-in_err-map-clause-front
returns-in_err-map-clause-front g c =
    let content = c.args.«module».now.content in let map = stack_map c.args.view in let plan = c.args.plan.now in let bound = c.args.bound in let input = c.args.input.now in
    let all = machinery_of content map plan bound in
    let old = told_by g.O.Sink.written g.O.Sink.puts c.args.out.now in
    OnErr-always c.from_residual-in_err-map.result (front_is content map input plan bound c.args.shows old old (front_none content all c.args.shows (machine_opening all input) old))

pub returns-in_err-executor-clause-front : goal.returns-in_err-executor-clause-front
returns-in_err-executor-clause-front g c =
    let content = c.args.«module».now.content in let map = stack_map c.args.view in let plan = c.args.plan.now in let bound = c.args.bound in let input = c.args.input.now in
    let all = machinery_of content map plan bound in
    let old = told_by g.O.Sink.written g.O.Sink.puts c.args.out.now in
    OnErr-always c.from_residual-in_err-executor.result (front_is content map input plan bound c.args.shows old old (front_none content all c.args.shows (machine_opening all input) old))

pub returns-clause-by_one_put : goal.returns-clause-by_one_put
returns-clause-by_one_put g c =
    let content = c.args.«module».now.content in let map = stack_map c.args.view in let plan = c.args.plan.now in let bound = c.args.bound in let input = c.args.input.now in
    let shows = c.args.shows in
    let old = told_by g.O.Sink.written g.O.Sink.puts c.args.out.now in
    let new = told_by g.O.Sink.written g.O.Sink.puts c.run.new.out in
    let code : ModuleContent = c.in_ok-code.code in let whole = c.in_ok-map.map.whole in
    let at : ModuleContent → StackMap → Ran → Type 0 = λ content map ran. IsRunFrom content (machinery_of content map plan bound) shows (machine_opening (machinery_of content map plan bound) input) ran old new in
    on_ok_from c.run.result (puts_are content map input plan bound shows old new)
    (subst (λ (m : StackMap). IfOk c.run.result (at content m)) c.in_ok-map.ensures.whole
    (subst (λ (one : ModuleContent). IfOk c.run.result (at one whole)) c.in_ok-code.ensures
    (subst (λ (start : Progress Machine). IfOk c.run.result (λ ran. IsRunFrom code (machinery_of code whole plan bound) shows start ran old new)) c.in_ok-executor.ensures c.run.ensures.ran)))

pub returns-clause-cut : goal.returns-clause-cut
returns-clause-cut g c =
    let content = c.args.«module».now.content in let map = stack_map c.args.view in let plan = c.args.plan.now in let bound = c.args.bound in let input = c.args.input.now in
    let shows = c.args.shows in
    let old = told_by g.O.Sink.written g.O.Sink.puts c.args.out.now in
    let new = told_by g.O.Sink.written g.O.Sink.puts c.run.new.out in
    let code : ModuleContent = c.in_ok-code.code in let whole = c.in_ok-map.map.whole in
    let at : ModuleContent → StackMap → Type 0 = λ content map. WritesFrontFrom content (machinery_of content map plan bound) shows (machine_opening (machinery_of content map plan bound) input) old new in
    on_err_weaker c.run.result (cut_is content map input plan bound shows old new)
    (subst (λ (m : StackMap). OnErr c.run.result (at content m)) c.in_ok-map.ensures.whole
    (subst (λ (one : ModuleContent). OnErr c.run.result (at one whole)) c.in_ok-code.ensures
    (subst (λ (start : Progress Machine). OnErr c.run.result (WritesFrontFrom code (machinery_of code whole plan bound) shows start old new)) c.in_ok-executor.ensures c.run.ensures.front)))

pub returns-in_err-code-clause-cut : goal.returns-in_err-code-clause-cut
returns-in_err-code-clause-cut g c =
    let content = c.args.«module».now.content in let map = stack_map c.args.view in let plan = c.args.plan.now in let bound = c.args.bound in let input = c.args.input.now in
    let all = machinery_of content map plan bound in
    let old = told_by g.O.Sink.written g.O.Sink.puts c.args.out.now in
    OnErr-always c.from_residual.result (cut_is content map input plan bound c.args.shows old old (front_none content all c.args.shows (machine_opening all input) old))

pub returns-in_err-map-clause-cut : goal.returns-in_err-map-clause-cut
returns-in_err-map-clause-cut g c =
    let content = c.args.«module».now.content in let map = stack_map c.args.view in let plan = c.args.plan.now in let bound = c.args.bound in let input = c.args.input.now in
    let all = machinery_of content map plan bound in
    let old = told_by g.O.Sink.written g.O.Sink.puts c.args.out.now in
    OnErr-always c.from_residual-in_err-map.result (cut_is content map input plan bound c.args.shows old old (front_none content all c.args.shows (machine_opening all input) old))

pub returns-in_err-executor-clause-cut : goal.returns-in_err-executor-clause-cut
returns-in_err-executor-clause-cut g c =
    let content = c.args.«module».now.content in let map = stack_map c.args.view in let plan = c.args.plan.now in let bound = c.args.bound in let input = c.args.input.now in
    let all = machinery_of content map plan bound in
    let old = told_by g.O.Sink.written g.O.Sink.puts c.args.out.now in
    OnErr-always c.from_residual-in_err-executor.result (cut_is content map input plan bound c.args.shows old old (front_none content all c.args.shows (machine_opening all input) old))
