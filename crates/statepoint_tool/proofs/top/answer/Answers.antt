use Rattle.statepoint_tool.specs.Answers.{sink_seen}
use Rattle.piece_writer.specs.LinePuts.{told_by}
use Rattle.statepoint_tool.proofs.FactLaws.{holds_at_end}
use Rattle.statepoint_tool.proofs.top.answer.Goals as goal

pub returns-clause-takes : goal.returns-clause-takes
returns-clause-takes g c =
    let notes = sink_seen (told_by g.E.Sink.written g.E.Sink.puts c.args.notes.now) (told_by g.E.Sink.written g.E.Sink.puts c.tell.new.notes) (g.E.Sink.faults c.args.notes.now) (g.E.Sink.faults c.tell.new.notes) in
    record {
      first = c.work-ended.ensures.takes_first;
      all = holds_at_end c.work-ended.result c.tell.result notes c.tell.ensures.told c.work-ended.ensures.takes_all;
    }
