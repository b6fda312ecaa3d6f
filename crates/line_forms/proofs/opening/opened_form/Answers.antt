use Rattle.std.proofs.Common.{sym}
use Rattle.line_forms.proofs.Operators.{operator_in}
use Rattle.line_forms.proofs.opening.opened_form.Goals as goal

pub returns-in-Some : goal.returns-in-Some
returns-in-Some c =
    let operator = rw c.in-Some.is at c.in_ok-form.ensures.operator in
    let opened = rw c.in-Some.is at c.in_ok-form.ensures.opened in
    (operator_in c.args.text c.in_ok-form.form c.args.cursor.now c.in_ok-form.ensures.form (sym operator), operator, opened)
