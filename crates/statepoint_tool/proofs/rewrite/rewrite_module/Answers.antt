use Rattle.std.proofs.lemmas.Result.{err_from_is_err_and}
use Rattle.piece_writer.specs.LinePuts.{told_by}
use Rattle.ir_ast.specs.Modules.{LinedModule}
use Rattle.statepoint_tool.specs.Answers.{sink_seen}
use Rattle.statepoint_tool.specs.Work.{Rewriting, after_rewriting}
use Rattle.statepoint_tool.proofs.WorksLaws.{Came-stops, Came-goes_on}
use Rattle.statepoint_tool.proofs.rewrite.rewrite_module.Goals as goal

pub returns-in_err-after-clause-came : goal.returns-in_err-after-clause-came
returns-in_err-after-clause-came g c =
    let exit = err_from_is_err_and c.from_residual.result c.from_residual.ensures.1 in
    rw (exit.1, exit.2) (Came-stops (Rewriting c.args.read.content) (after_rewriting c.args.part) (λ (after : LinedModule). after.content) c.in_err-after.field-0.0
    (told_by g.O.Sink.written g.O.Sink.puts c.args.out.now) (g.O.Sink.faults c.args.out.now) c.in_err-after.ensures.rewrites)

pub returns-clause-came : goal.returns-clause-came
returns-clause-came g c =
    Came-goes_on (Rewriting c.args.read.content) (after_rewriting c.args.part) c.in_ok-after.after.content c.write_part-written.result
    (sink_seen (told_by g.O.Sink.written g.O.Sink.puts c.args.out.now) (told_by g.O.Sink.written g.O.Sink.puts c.write_part-written.new.out) (g.O.Sink.faults c.args.out.now) (g.O.Sink.faults c.write_part-written.new.out))
    c.in_ok-after.ensures.rewrites (rw c.«module».ensures.value at c.write_part-written.ensures.came)
