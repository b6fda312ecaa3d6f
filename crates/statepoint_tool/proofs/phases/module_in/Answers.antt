use Rattle.std.proofs.lemmas.Result.{err_from_is_err_and}
use Rattle.ir_ast.specs.Modules.{LinedModule}
use Rattle.ir_reader.specs.Raws.{Readings}
use Rattle.ir_lines.specs.Views.{seen_lines}
use Rattle.statepoint_tool.specs.Work.{reading, Typing}
use Rattle.statepoint_tool.proofs.WorksLaws.{Agrees-stops, Agrees-goes_on}
use Rattle.statepoint_tool.proofs.phases.module_in.Goals as goal

pub returns-in_err-raw-clause-read : goal.returns-in_err-raw-clause-read
returns-in_err-raw-clause-read c =
    let exit = err_from_is_err_and c.from_residual.result c.from_residual.ensures.1 in
    rw (exit.1, exit.2) (Agrees-stops (reading c.args.form c.args.text.now) (λ (raw : Readings). seen_lines raw.lines) c.in_err-raw.field-0.0 (Typing c.args.form) (λ (read : LinedModule). read) c.in_err-raw.ensures.read)

pub returns-clause-read : goal.returns-clause-read
returns-clause-read c =
    Agrees-goes_on (reading c.args.form c.args.text.now) (λ (raw : Readings). seen_lines raw.lines) c.in_ok-raw.raw c.type_in.result (Typing c.args.form) (λ (read : LinedModule). read)
    c.in_ok-raw.ensures.read c.type_in.ensures.typed
