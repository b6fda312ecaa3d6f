use Rattle.std.proofs.Common.{◌∙◌, ap}
use Rattle.piece_writer.specs.LinePuts.{told_by}
use Rattle.statepoint_tool.specs.Answers.{sink_seen}
use Rattle.statepoint_tool.specs.Closings.{status_of_end}
use Rattle.statepoint_tool.proofs.SummaryLaws.{begun-generated, done-generated}
use Rattle.statepoint_tool.proofs.generate.generate.Goals as goal

pub returns-in-Ok-clause-came : goal.returns-in-Ok-clause-came
returns-in-Ok-clause-came g c =
    done-generated c.args.seed c.args.size c.args.steps c.in_ok-summary.summary
    (sink_seen (told_by g.O.Sink.written g.O.Sink.puts c.args.out.now) (told_by g.O.Sink.written g.O.Sink.puts c.put.new.out) (g.O.Sink.faults c.args.out.now) (g.O.Sink.faults c.put.new.out))
    c.in_ok-summary.ensures c.status_of.result (c.status_of.ensures ∙ ap status_of_end c.end.ensures) c.in-Ok.ensures.ok

pub returns-clause-came : goal.returns-clause-came
returns-clause-came g c = (
  c.in-Err.ensures.failed,
  begun-generated c.args.seed c.args.size c.args.steps c.in_ok-summary.summary
      (sink_seen (told_by g.O.Sink.written g.O.Sink.puts c.args.out.now) (told_by g.O.Sink.written g.O.Sink.puts c.put.new.out) (g.O.Sink.faults c.args.out.now) (g.O.Sink.faults c.put.new.out))
      c.in_ok-summary.ensures c.in-Err.ensures.err,
)
