use Rattle.std.proofs.Common.{◌≡◌, ℕ, List, length, arith}
use Rattle.std.specs.List.{range_with_len}
use Rattle.std.proofs.lemmas.List.FromFn.{length-range_with_len}
use Rattle.piece_writer.proofs.RowLemmas.{text-none}
use Rattle.print_tables.specs.declared.externals.External.TheVariants.{New}
use Rattle.ir_printer.specs.Declarations.{declaration_if_called}
use Rattle.ir_printer.proofs.DeclarationLemmas.{number-text}
use Rattle.ir_printer.proofs.declarations.NewDeclarationsRow.put_at.Goals as goal

pub returns-then-place-self-clause-ok : goal.returns-then-place-self-clause-ok
returns-then-place-self-clause-ok g c =
    let text : ℕ → List ℕ = λ layout. declaration_if_called c.args.self.now.layouts.now c.args.self.now.called.now (New layout) in
    rw (number-text text 0 (length c.args.self.now.layouts.now) c.args.place c.args.place c.if-place-self.true (omega arith)) c.put_into.ensures.ok

pub returns-then-place-self-clause-err : goal.returns-then-place-self-clause-err
returns-then-place-self-clause-err g c =
    let text : ℕ → List ℕ = λ layout. declaration_if_called c.args.self.now.layouts.now c.args.self.now.called.now (New layout) in
    rw (number-text text 0 (length c.args.self.now.layouts.now) c.args.place c.args.place c.if-place-self.true (omega arith)) c.put_into.ensures.err

pub returns-else-place-self-clause-ok : goal.returns-else-place-self-clause-ok
returns-else-place-self-clause-ok g c =
    let text : ℕ → List ℕ = λ layout. declaration_if_called c.args.self.now.layouts.now c.args.self.now.called.now (New layout) in
    let count : length (range_with_len 0 (length c.args.self.now.layouts.now)) ≡ length c.args.self.now.layouts.now = length-range_with_len 0 (length c.args.self.now.layouts.now) in
    rw (text-none text (range_with_len 0 (length c.args.self.now.layouts.now)) c.args.place (omega arith)) (g.met.W.PieceSink.took_nothing _)
