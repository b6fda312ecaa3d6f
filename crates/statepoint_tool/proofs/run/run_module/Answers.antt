use Rattle.std.proofs.Common.{List, [], ◌∷◌}
use Rattle.piece_writer.specs.LinePuts.{told_by}
use Rattle.std.specs.Prelude.{ℤ}
use Rattle.std.proofs.lemmas.Result.{err_from_is_err_and}
use Rattle.ir_ast.specs.Modules.{ModuleContent}
use Rattle.statepoint_tool.specs.Runners.{engine_of}
use Rattle.statepoint_tool.specs.Taken.{files_seen}
use Rattle.statepoint_tool.specs.Work.{MayGiveFromPlan, after_input}
use Rattle.statepoint_tool.proofs.GivenLaws.{MayGiveFromPlan-as_told, MayGiveFromPlan-earlier, from_plan_as_told}
use Rattle.statepoint_tool.proofs.WorksLaws.{Works-stops, Works-goes_on}
use Rattle.tool_io.proofs.TakeLaws.{OnOk-takes, TakesFirst-more, TakesFirst-then}
use Rattle.statepoint_tool.specs.Named.{files_of_map}
use Rattle.statepoint_tool.proofs.run.run_module.Goals as goal

pub returns-in_err-numbers-clause-works : goal.returns-in_err-numbers-clause-works
returns-in_err-numbers-clause-works g c = λ (content : ModuleContent) runs.
    let files = files_seen (g.F.Files.contents c.args.files.now) (g.F.Files.faults c.args.files.now) (g.F.Files.faults c.take_input.new.files) in
    let exit = err_from_is_err_and c.from_residual.result c.from_residual.ensures.1 in
    rw (exit.1, exit.2) (Works-stops (λ (numbers : List ℤ). after_input c.args.plan (engine_of c.args.runner) content numbers c.args.steps)
    (MayGiveFromPlan files c.args.plan (engine_of c.args.runner)) (from_plan_as_told files c.args.plan (engine_of c.args.runner)) (MayGiveFromPlan-as_told files c.args.plan (engine_of c.args.runner))
    (told_by g.O.Sink.written g.O.Sink.puts c.args.out.now) (g.O.Sink.faults c.args.out.now) c.in_err-numbers.ensures.read)

pub returns-clause-works : goal.returns-clause-works
returns-clause-works g c = λ (content : ModuleContent) runs.
    let after = g.F.Files.faults c.run_with_input.new.files in
    let files = files_seen (g.F.Files.contents c.args.files.now) (g.F.Files.faults c.args.files.now) after in
    Works-goes_on (λ (numbers : List ℤ). after_input c.args.plan (engine_of c.args.runner) content numbers c.args.steps) (MayGiveFromPlan files c.args.plan (engine_of c.args.runner))
    (λ given. MayGiveFromPlan-earlier _ _ _ _ after c.in_ok-numbers.ensures.kept c.in_ok-numbers.ensures.counted c.args.plan (engine_of c.args.runner) given)
    after c.run_with_input.ensures.counted c.in_ok-numbers.ensures.read (rw c.deref.ensures.value at (c.run_with_input.ensures.works content runs))

pub returns-in_err-numbers-clause-takes_first : goal.returns-in_err-numbers-clause-takes_first
returns-in_err-numbers-clause-takes_first g c =
    TakesFirst-more c.in_err-numbers.ensures.takes_first (c.args.plan ∷ files_of_map (engine_of c.args.runner))

pub returns-clause-takes_first : goal.returns-clause-takes_first
returns-clause-takes_first g c =
    TakesFirst-then (g.F.Files.taken c.args.files.now) (c.args.input ∷ []) c.in_ok-numbers.ensures.takes_all c.run_with_input.ensures.takes_first

pub returns-clause-takes_all : goal.returns-clause-takes_all
returns-clause-takes_all g c =
    OnOk-takes c.run_with_input.result (g.F.Files.taken c.args.files.now) (g.F.Files.taken c.take_input.new.files) (g.F.Files.taken c.run_with_input.new.files)
    (c.args.input ∷ []) (c.args.plan ∷ files_of_map (engine_of c.args.runner)) c.in_ok-numbers.ensures.takes_all c.run_with_input.ensures.takes_all
