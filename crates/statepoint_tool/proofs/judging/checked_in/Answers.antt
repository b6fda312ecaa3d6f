use Rattle.std.proofs.lemmas.Result.{err_from_is_err_and}
use Rattle.ir_ast.specs.declared.modules.Form.TheVariants.{Rewritten}
use Rattle.ir_ast.specs.Modules.{LinedModule}
use Rattle.statepoint_tool.specs.Work.{module_phase, Judging}
use Rattle.statepoint_tool.proofs.WorksLaws.{Agrees-stops, Agrees-goes_on}
use Rattle.statepoint_tool.proofs.judging.checked_in.Goals as goal

pub returns-in_err-read : goal.returns-in_err-read
returns-in_err-read c =
    let exit = err_from_is_err_and c.from_residual.result c.from_residual.ensures.1 in
    rw (exit.1, exit.2) (record {
      read = Agrees-stops (module_phase Rewritten c.args.text.now) (λ (read : LinedModule). read) c.in_err-read.field-0.0 Judging (λ (checked : LinedModule). checked) c.in_err-read.ensures.read;
    })

pub returns : goal.returns
returns c = record {
  read =
      Agrees-goes_on (module_phase Rewritten c.args.text.now) (λ (read : LinedModule). read) c.in_ok-read.read c.verified.result Judging (λ (checked : LinedModule). checked)
      c.in_ok-read.ensures.read c.verified.ensures.judged;
}
