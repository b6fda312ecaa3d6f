use Rattle.std.proofs.lemmas.Result.{err_from_is_err_and}
use Rattle.piece_writer.specs.LinePuts.{told_by}
use Rattle.ir_ast.specs.Modules.{LinedModule}
use Rattle.statepoint_tool.specs.Taken.{files_seen}
use Rattle.statepoint_tool.specs.Work.{MayGiveFromInput, after_module, judged}
use Rattle.statepoint_tool.specs.declared.engine.Engine.{Engine}
use Rattle.statepoint_tool.specs.declared.runner.Runner.{Runner}
use Rattle.statepoint_tool.proofs.GivenLaws.{MayGiveFromInput-as_told, MayGiveFromInput-earlier, from_input_as_told}
use Rattle.statepoint_tool.proofs.ReadsLaws.{Reads-stops, Reads-then}
use Rattle.statepoint_tool.proofs.WorksLaws.{Works-given, Works-stops, Works-goes_on}
use Rattle.std.proofs.Common.{[], ◌∷◌}
use Rattle.tool_io.proofs.TakeLaws.{OnOk-takes, TakesFirst-more, TakesFirst-then}
use Rattle.statepoint_tool.specs.Named.{files_of_map}
use Rattle.statepoint_tool.proofs.run.run.Goals as goal

pub run_module-requires : goal.run_module-requires
run_module-requires g c = (c.in_ok-read.read.content, c.in_ok-runner.ensures.runs)

pub returns-in_err-read-clause-works : goal.returns-in_err-read-clause-works
returns-in_err-read-clause-works g c =
    let engine : Engine = c.args.engine in
    let files = files_seen (g.F.Files.contents c.args.files.now) (g.F.Files.faults c.args.files.now) (g.F.Files.faults c.take_module.new.files) in
    let exit = err_from_is_err_and c.from_residual.result c.from_residual.ensures.1 in
    rw (exit.1, exit.2) (Works-given (Works-stops (λ (whole : LinedModule). after_module c.args.request.input c.args.request.plan engine whole.content c.args.request.steps)
    (MayGiveFromInput files c.args.request.input c.args.request.plan engine)
    (from_input_as_told files c.args.request.input c.args.request.plan engine)
    (MayGiveFromInput-as_told files c.args.request.input c.args.request.plan engine)
    (told_by g.O.Sink.written g.O.Sink.puts c.args.out.now) (g.O.Sink.faults c.args.out.now)
    (Reads-stops (judged engine) (λ (whole : LinedModule). whole) (rw c.form.ensures at c.in_err-read.ensures.read))))

pub returns-in_err-runner-clause-works : goal.returns-in_err-runner-clause-works
returns-in_err-runner-clause-works g c =
    let engine : Engine = c.args.engine in
    let files = files_seen (g.F.Files.contents c.args.files.now) (g.F.Files.faults c.args.files.now) (g.F.Files.faults c.take_module.new.files) in
    let exit = err_from_is_err_and c.from_residual-in_err-runner.result c.from_residual-in_err-runner.ensures.1 in
    rw (exit.1, exit.2) (Works-given (Works-stops (λ (whole : LinedModule). after_module c.args.request.input c.args.request.plan engine whole.content c.args.request.steps)
    (MayGiveFromInput files c.args.request.input c.args.request.plan engine)
    (from_input_as_told files c.args.request.input c.args.request.plan engine)
    (MayGiveFromInput-as_told files c.args.request.input c.args.request.plan engine)
    (told_by g.O.Sink.written g.O.Sink.puts c.args.out.now) (g.O.Sink.faults c.args.out.now)
    (Reads-then (judged engine) (λ (_ : Runner). c.in_ok-read.read) (rw c.form.ensures at c.in_ok-read.ensures.read) c.in_err-runner.ensures.judged)))

pub returns-clause-works : goal.returns-clause-works
returns-clause-works g c =
    let engine : Engine = c.args.engine in
    let after = g.F.Files.faults c.run_module.new.files in
    let files = files_seen (g.F.Files.contents c.args.files.now) (g.F.Files.faults c.args.files.now) after in
    let kept = c.in_ok-read.ensures.kept in
    let counted = c.in_ok-read.ensures.counted in
    Works-given (Works-goes_on {value = c.in_ok-runner.runner} (λ (whole : LinedModule). after_module c.args.request.input c.args.request.plan engine whole.content c.args.request.steps)
    (MayGiveFromInput files c.args.request.input c.args.request.plan engine)
    (λ given. MayGiveFromInput-earlier _ _ _ _ after kept counted c.args.request.input c.args.request.plan engine given)
    after c.run_module.ensures.counted
    (Reads-then (judged engine) (λ (_ : Runner). c.in_ok-read.read) (rw c.form.ensures at c.in_ok-read.ensures.read) c.in_ok-runner.ensures.judged)
    (rw c.in_ok-runner.ensures.engine at (c.run_module.ensures.works c.in_ok-read.read.content c.in_ok-runner.ensures.runs)))

pub returns-in_err-read-clause-takes_first : goal.returns-in_err-read-clause-takes_first
returns-in_err-read-clause-takes_first g c =
    TakesFirst-more c.in_err-read.ensures.takes_first (c.args.request.input ∷ c.args.request.plan ∷ files_of_map c.args.engine)

pub returns-in_err-runner-clause-takes_first : goal.returns-in_err-runner-clause-takes_first
returns-in_err-runner-clause-takes_first g c =
    TakesFirst-more c.in_ok-read.ensures.takes_first (c.args.request.input ∷ c.args.request.plan ∷ files_of_map c.args.engine)

pub returns-clause-takes_first : goal.returns-clause-takes_first
returns-clause-takes_first g c =
    TakesFirst-then (g.F.Files.taken c.args.files.now) (c.args.request.code ∷ []) c.in_ok-read.ensures.takes_all
    (rw c.in_ok-runner.ensures.engine at c.run_module.ensures.takes_first)

pub returns-clause-takes_all : goal.returns-clause-takes_all
returns-clause-takes_all g c =
    OnOk-takes c.run_module.result (g.F.Files.taken c.args.files.now) (g.F.Files.taken c.take_module.new.files) (g.F.Files.taken c.run_module.new.files)
    (c.args.request.code ∷ []) (c.args.request.input ∷ c.args.request.plan ∷ files_of_map c.args.engine) c.in_ok-read.ensures.takes_all
    (rw c.in_ok-runner.ensures.engine at c.run_module.ensures.takes_all)
