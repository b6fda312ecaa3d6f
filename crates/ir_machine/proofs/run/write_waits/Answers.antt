use Rattle.std.proofs.Common.{List, ℕ, sym, ap, subst, ◌∙◌}
use Rattle.std.specs.List.{concat}
use Rattle.tool_io.specs.Sink.{append_known}
use Rattle.tool_io.proofs.AppendLaws.{append_known-nil}
use Rattle.piece_writer.specs.LinePuts.{PutsLines, told_by}
use Rattle.piece_writer.proofs.LineLaws.{puts_none}
use Rattle.ir_machine.specs.Executors.{machinery, seen}
use Rattle.ir_machine.proofs.WriteLemmas.{shows_nothing}
use Rattle.ir_machine.proofs.run.write_waits.Goals as goal

pub returns-in_default-clause-ok : goal.returns-in_default-clause-ok
returns-in_default-clause-ok g c =
    let old = g.O.Sink.written c.args.out.now in
    let none = shows_nothing (machinery c.args.program.now) c.args.end (seen c.args.executor.now) c.in_default.not-Trap in
    sym (ap (λ (lines : List (List ℕ)). append_known old (concat lines)) none ∙ append_known-nil old)

pub returns-in_default-clause-by_one_put : goal.returns-in_default-clause-by_one_put
returns-in_default-clause-by_one_put g c = λ short.
    let old = told_by g.O.Sink.written g.O.Sink.puts c.args.out.now in
    let none = shows_nothing (machinery c.args.program.now) c.args.end (seen c.args.executor.now) c.in_default.not-Trap in
    subst (PutsLines old old) (sym none) (puts_none old)
