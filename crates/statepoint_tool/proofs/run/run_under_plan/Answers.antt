use Rattle.std.proofs.Common.{ap, subst, ◌∙◌}
use Rattle.piece_writer.specs.LinePuts.{told_by}
use Rattle.ir_ast.specs.Modules.{ModuleContent}
use Rattle.ir_machine.specs.declared.run.Shows.{Shows}
use Rattle.statepoint_tool.specs.Answers.{Works, sink_seen}
use Rattle.statepoint_tool.specs.Causes.{shown_by}
use Rattle.statepoint_tool.specs.Runners.{engine_of, module_in}
use Rattle.statepoint_tool.specs.Steps.{Then}
use Rattle.statepoint_tool.specs.Taken.{files_seen}
use Rattle.statepoint_tool.specs.Work.{Executing, MayGiveFile, map_phase}
use Rattle.statepoint_tool.specs.declared.runner.Runner.{Runner}
use Rattle.statepoint_tool.proofs.MachineLaws.{works_rewritten}
use Rattle.statepoint_tool.proofs.run.run_under_plan.Goals as goal

pub returns-in-Rewritten-clause-works : goal.returns-in-Rewritten-clause-works
returns-in-Rewritten-clause-works g c =
    let job = c.args.job.now in
    let after = (module_in c.in-Rewritten.«module»).content in
    let files = files_seen (g.F.Files.contents c.args.files.now) (g.F.Files.faults c.args.files.now) (g.F.Files.faults c.run_on_machine.new.files) in
    let out = sink_seen (told_by g.O.Sink.written g.O.Sink.puts c.args.out.now) (told_by g.O.Sink.written g.O.Sink.puts c.run_on_machine.new.out) (g.O.Sink.faults c.args.out.now) (g.O.Sink.faults c.run_on_machine.new.out) in
    let shown = c.requires.shows ∙ ap (λ (runner : Runner). shown_by (engine_of runner)) c.in-Rewritten.is in
    let works = subst (λ (shows : Shows). Works (MayGiveFile files c.in-Rewritten.map) (λ given. Then (map_phase after c.in-Rewritten.map given) (Executing after job.input.now job.plan.now job.steps shows)) c.run_on_machine.result out)
    shown c.run_on_machine.ensures.works in
    rw c.in-Rewritten.is (λ (content : ModuleContent) is. works_rewritten content after is job.input.now job.plan.now job.steps c.in-Rewritten.shows c.in-Rewritten.map files c.run_on_machine.result out works)
