use Rattle.ir_printer.proofs.CallLemmas.{bundles-live, bundles-deopt, bundles-both}
use Rattle.ir_printer.proofs.calls.BundlesPiece.put_into.Goals as goal

pub returns-else-is_empty-2-clause-ok : goal.returns-else-is_empty-2-clause-ok
returns-else-is_empty-2-clause-ok g c =
    rw (bundles-live c.args.self.now.scope.now c.args.self.now.bundle.now c.args.self.now.entries.now
    c.if-is_empty.ensures c.if-is_empty-2.ensures) c.put_into.ensures.ok

pub returns-then-is_empty-3-clause-ok : goal.returns-then-is_empty-3-clause-ok
returns-then-is_empty-3-clause-ok g c =
    rw (bundles-deopt c.args.self.now.scope.now c.args.self.now.bundle.now c.args.self.now.entries.now
    c.if-is_empty.ensures c.if-is_empty-3.ensures) c.put_into-then-is_empty-3.ensures.ok

pub returns-else-is_empty-3-clause-ok : goal.returns-else-is_empty-3-clause-ok
returns-else-is_empty-3-clause-ok g c =
    rw (bundles-both c.args.self.now.scope.now c.args.self.now.bundle.now c.args.self.now.entries.now
    c.if-is_empty.ensures c.if-is_empty-3.ensures) c.put_into-else-is_empty-3.ensures.ok
