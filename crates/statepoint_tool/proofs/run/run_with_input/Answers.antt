use Rattle.std.proofs.Common.{List, [], ◌∷◌}
use Rattle.piece_writer.specs.LinePuts.{told_by}
use Rattle.move_plan.specs.declared.plan_lines.PlanLine.{PlanLine}
use Rattle.std.proofs.lemmas.Result.{err_from_is_err_and}
use Rattle.ir_ast.specs.Modules.{ModuleContent}
use Rattle.statepoint_tool.specs.Runners.{engine_of}
use Rattle.statepoint_tool.specs.Taken.{files_seen}
use Rattle.statepoint_tool.specs.Work.{MayGiveMap, run_phase}
use Rattle.statepoint_tool.proofs.GivenLaws.{MayGiveMap-as_told, MayGiveMap-earlier, map_as_told}
use Rattle.statepoint_tool.proofs.WorksLaws.{Works-stops, Works-goes_on}
use Rattle.tool_io.proofs.TakeLaws.{OnOk-takes, TakesFirst-more, TakesFirst-then}
use Rattle.statepoint_tool.specs.Named.{files_of_map}
use Rattle.statepoint_tool.proofs.run.run_with_input.Goals as goal

pub returns-in_err-lines-clause-works : goal.returns-in_err-lines-clause-works
returns-in_err-lines-clause-works g c = λ (content : ModuleContent) runs.
    let files = files_seen (g.F.Files.contents c.args.files.now) (g.F.Files.faults c.args.files.now) (g.F.Files.faults c.take_plan.new.files) in
    let exit = err_from_is_err_and c.from_residual.result c.from_residual.ensures.1 in
    rw (exit.1, exit.2) (Works-stops (λ (lines : List PlanLine). run_phase (engine_of c.args.runner) content c.args.numbers.now lines c.args.steps)
    (MayGiveMap files (engine_of c.args.runner)) (map_as_told files (engine_of c.args.runner)) (MayGiveMap-as_told files (engine_of c.args.runner))
    (told_by g.O.Sink.written g.O.Sink.puts c.args.out.now) (g.O.Sink.faults c.args.out.now) c.in_err-lines.ensures.read)

pub returns-clause-works : goal.returns-clause-works
returns-clause-works g c = λ (content : ModuleContent) runs.
    let after = g.F.Files.faults c.run_under_plan.new.files in
    let files = files_seen (g.F.Files.contents c.args.files.now) (g.F.Files.faults c.args.files.now) after in
    Works-goes_on (λ (lines : List PlanLine). run_phase (engine_of c.args.runner) content c.args.numbers.now lines c.args.steps) (MayGiveMap files (engine_of c.args.runner))
    (λ given. MayGiveMap-earlier _ _ _ _ after c.in_ok-lines.ensures.kept c.in_ok-lines.ensures.counted (engine_of c.args.runner) given)
    after c.run_under_plan.ensures.counted c.in_ok-lines.ensures.read (c.run_under_plan.ensures.works content runs)

pub returns-in_err-lines-clause-takes_first : goal.returns-in_err-lines-clause-takes_first
returns-in_err-lines-clause-takes_first g c = TakesFirst-more c.in_err-lines.ensures.takes_first (files_of_map (engine_of c.args.runner))

pub returns-clause-takes_first : goal.returns-clause-takes_first
returns-clause-takes_first g c =
    TakesFirst-then (g.F.Files.taken c.args.files.now) (c.args.plan ∷ []) c.in_ok-lines.ensures.takes_all c.run_under_plan.ensures.takes_first

pub returns-clause-takes_all : goal.returns-clause-takes_all
returns-clause-takes_all g c =
    OnOk-takes c.run_under_plan.result (g.F.Files.taken c.args.files.now) (g.F.Files.taken c.take_plan.new.files) (g.F.Files.taken c.run_under_plan.new.files)
    (c.args.plan ∷ []) (files_of_map (engine_of c.args.runner)) c.in_ok-lines.ensures.takes_all c.run_under_plan.ensures.takes_all
