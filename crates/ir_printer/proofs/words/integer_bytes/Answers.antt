use Rattle.std.proofs.Common.{sym, arith, ◌∙◌}
use Rattle.std.proofs.lemmas.Grind.{common_steps}
use Rattle.std.proofs.lemmas.Int.{to_z-of_z}
use Rattle.ir_printer.proofs.IntegerLemmas.{integer-empty, integer-false, integer-true, integer-signed, integer-wide}
use Rattle.ir_printer.proofs.words.integer_bytes.Goals as goal

pub returns-then-wrap-eq0 : goal.returns-then-wrap-eq0
returns-then-wrap-eq0 c =
    sym (integer-false c.args.width c.args.number c.if-width-eq1.true (sym c.wrap.ensures ∙ c.if-wrap-eq0.true))

pub returns-else-wrap-eq0 : goal.returns-else-wrap-eq0
returns-else-wrap-eq0 c =
    sym (integer-true c.args.width c.args.number c.if-width-eq1.true (λ low. c.if-wrap-eq0.false (c.wrap.ensures ∙ low)))

pub returns-then-width-eq0 : goal.returns-then-width-eq0
returns-then-width-eq0 c =
    c.as_bytes.ensures.value ∙ c.format.ensures.text ∙ sym (integer-empty c.args.width c.args.number c.if-width-eq0.true)

pub returns-then-width-le64 : goal.returns-then-width-le64
returns-then-width-le64 c =
    rw (integer-signed c.args.width c.args.number c.if-width-eq1.false, ← c.sign.ensures)
    (grind (arith, common_steps, to_z-of_z))

pub returns-else-width-le64 : goal.returns-else-width-le64
returns-else-width-le64 c =
    c.as_bytes-else-width-le64.ensures.value ∙ c.format-else-width-le64.ensures.text
    ∙ sym (integer-wide c.args.width c.args.number (omega arith) (omega arith))
