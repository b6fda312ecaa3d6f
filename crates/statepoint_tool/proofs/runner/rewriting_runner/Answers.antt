use Rattle.std.proofs.Common.{refl}
use Rattle.std.proofs.lemmas.Result.{err_from_is_err_and}
use Rattle.ir_ast.specs.Modules.{LinedModule, ModuleContent}
use Rattle.statepoint_tool.specs.Steps.{Go, comes_to, goes_on}
use Rattle.statepoint_tool.specs.Work.{Rewriting}
use Rattle.statepoint_tool.specs.declared.runner.Runner.{Runner}
use Rattle.statepoint_tool.proofs.WorksLaws.{Agrees-stops}
use Rattle.statepoint_tool.proofs.runner.rewriting_runner.Goals as goal

pub returns-in_err-after-clause-judged : goal.returns-in_err-after-clause-judged
returns-in_err-after-clause-judged c =
    let exit = err_from_is_err_and c.from_residual.result c.from_residual.ensures.1 in
    rw (exit.1, exit.2) (Agrees-stops (Rewriting c.args.read.content) (λ (after : LinedModule). after.content) c.in_err-after.field-0.0
    (λ (after : ModuleContent). comes_to (Go c.args.read)) (λ (_ : Runner). c.args.read) c.in_err-after.ensures.rewrites)

pub returns-clause-judged : goal.returns-clause-judged
returns-clause-judged c = goes_on c.in_ok-after.after.content (Go c.args.read) c.in_ok-after.ensures.rewrites refl

pub returns-clause-runs : goal.returns-clause-runs
returns-clause-runs c = record {
  source = c.requires.source;
  rewritten = c.in_ok-after.ensures.is;
  few = c.in_ok-after.ensures.few;
  executable = record { target = c.in_ok-after.ensures.target };
}
