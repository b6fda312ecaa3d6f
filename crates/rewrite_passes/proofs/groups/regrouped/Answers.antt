use Rattle.std.proofs.Common.{◌≡◌, ap, subst}
use Rattle.std.specs.Prelude.{IfOk}
use Rattle.ir_ast.specs.Funcs.{Function}
use Rattle.rewriting_forms.specs.Rewritten.{rewritten}
use Rattle.statepoint_insert.specs.Marked.{MarkedFunction}
use Rattle.rewrite_passes.proofs.groups.regrouped.Goals as goal

pub returns-clause-content : goal.returns-clause-content
returns-clause-content c =
    let same = ap (λ (marked : MarkedFunction). rewritten marked.before marked.table) c.in_ok-marked.ensures in
    subst (λ (to : Function). IfOk c.rebuild.result (λ func. func.content ≡ to)) same c.rebuild.ensures.content
