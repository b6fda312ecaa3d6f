use Rattle.ir_printer.proofs.DeclarationLemmas.{declarations_text-parts}
use Rattle.ir_printer.proofs.declarations.DeclarationsPiece.put_into.Goals as goal

pub returns-clause-ok : goal.returns-clause-ok
returns-clause-ok g c =
    rw (declarations_text-parts c.args.self.now.layouts.now c.args.self.now.called.now, ← c.fixed_list-externals.ensures) c.put_into.ensures.ok

pub returns-clause-err : goal.returns-clause-err
returns-clause-err g c =
    rw (declarations_text-parts c.args.self.now.layouts.now c.args.self.now.called.now, ← c.fixed_list-externals.ensures) c.put_into.ensures.err
