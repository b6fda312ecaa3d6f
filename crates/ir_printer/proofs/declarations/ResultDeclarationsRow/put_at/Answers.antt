use Rattle.std.proofs.Common.{◌≡◌, ℕ, ◌+◌, List, length, arith}
use Rattle.std.specs.List.{range_with_len}
use Rattle.std.proofs.lemmas.List.FromFn.{length-range_with_len}
use Rattle.print_tables.specs.declared.externals.External.TheVariants.{ResultOf}
use Rattle.ir_printer.specs.Declarations.{declaration_if_called, integer_widths}
use Rattle.piece_writer.proofs.RowLemmas.{text-none}
use Rattle.ir_printer.proofs.DeclarationLemmas.{number-text}
use Rattle.ir_printer.proofs.declarations.ResultDeclarationsRow.put_at.Goals as goal

pub returns-then-place-lt64-clause-ok : goal.returns-then-place-lt64-clause-ok
unfolding integer_widths
returns-then-place-lt64-clause-ok g c =
    let text : ℕ → List ℕ = λ width. declaration_if_called c.args.self.now.layouts.now c.args.self.now.called.now (ResultOf width) in
    rw (number-text text 1 64 c.args.place (c.args.place + 1) (omega arith) (omega arith)) c.put_into.ensures.ok

pub returns-then-place-lt64-clause-err : goal.returns-then-place-lt64-clause-err
unfolding integer_widths
returns-then-place-lt64-clause-err g c =
    let text : ℕ → List ℕ = λ width. declaration_if_called c.args.self.now.layouts.now c.args.self.now.called.now (ResultOf width) in
    rw (number-text text 1 64 c.args.place (c.args.place + 1) (omega arith) (omega arith)) c.put_into.ensures.err

pub returns-else-place-lt64-clause-ok : goal.returns-else-place-lt64-clause-ok
unfolding integer_widths
returns-else-place-lt64-clause-ok g c =
    let text : ℕ → List ℕ = λ width. declaration_if_called c.args.self.now.layouts.now c.args.self.now.called.now (ResultOf width) in
    let count : length (range_with_len 1 64) ≡ 64 = length-range_with_len 1 64 in
    rw (text-none text (range_with_len 1 64) c.args.place (omega arith)) (g.met.W.PieceSink.took_nothing _)
