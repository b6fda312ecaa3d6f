use Rattle.ir_printer.specs.Texts.{text_of}
use Rattle.ir_printer.proofs.texts.print.Goals as goal

pub returns-clause-ok : goal.returns-clause-ok
unfolding text_of
returns-clause-ok g c = rw (← c.layouts.ensures.value, ← c.funcs.ensures.content, ← c.of-called.ensures) c.put_text.ensures.ok

pub returns-clause-err : goal.returns-clause-err
unfolding text_of
returns-clause-err g c = rw (← c.layouts.ensures.value, ← c.funcs.ensures.content, ← c.of-called.ensures) c.put_text.ensures.err
