use Rattle.std.proofs.Common.{◌∙◌, sym}
use Rattle.ir_printer.proofs.TextLemmas.{functions_text-above, functions_text-first}
use Rattle.ir_printer.proofs.texts.AllFunctionsPiece.put_into.Goals as goal

pub returns-then-stands_above-clause-ok : goal.returns-then-stands_above-clause-ok
returns-then-stands_above-clause-ok g c =
    let above = rw (← c.funcs-funcs.ensures) at (sym c.stands_above.ensures ∙ c.if-stands_above.true) in
    rw (← c.funcs-funcs.ensures, functions_text-above c.args.self.now.layouts.now c.funcs-funcs.result.now above) c.put_into.ensures.ok

pub returns-then-stands_above-clause-err : goal.returns-then-stands_above-clause-err
returns-then-stands_above-clause-err g c =
    let above = rw (← c.funcs-funcs.ensures) at (sym c.stands_above.ensures ∙ c.if-stands_above.true) in
    rw (← c.funcs-funcs.ensures, functions_text-above c.args.self.now.layouts.now c.funcs-funcs.result.now above) c.put_into.ensures.err

pub returns-else-stands_above-clause-ok : goal.returns-else-stands_above-clause-ok
returns-else-stands_above-clause-ok g c =
    let first = rw (← c.funcs-funcs.ensures) at (sym c.stands_above.ensures ∙ c.if-stands_above.false) in
    rw (← c.funcs-funcs.ensures, functions_text-first c.args.self.now.layouts.now c.funcs-funcs.result.now first) c.put_into-else-stands_above.ensures.ok

pub returns-else-stands_above-clause-err : goal.returns-else-stands_above-clause-err
returns-else-stands_above-clause-err g c =
    let first = rw (← c.funcs-funcs.ensures) at (sym c.stands_above.ensures ∙ c.if-stands_above.false) in
    rw (← c.funcs-funcs.ensures, functions_text-first c.args.self.now.layouts.now c.funcs-funcs.result.now first) c.put_into-else-stands_above.ensures.err
