use Rattle.ir_printer.proofs.lines.SwitchPiece.put_into.Goals as goal

pub returns-clause-ok : goal.returns-clause-ok
returns-clause-ok g c =
    rw (← c.ty-ty.ensures, ← c.operand_of.ensures, ← c.label_of.ensures, ← c.operands.ensures, ← c.labels.ensures, ← c.after_first_operand.ensures, ← c.after_first_label.ensures) c.put_into.ensures.ok
