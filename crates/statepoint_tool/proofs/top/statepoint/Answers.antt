use Rattle.std.proofs.Common.{map, string_bytes}
use Rattle.piece_writer.specs.LinePuts.{told_by}
use Rattle.statepoint_tool.specs.Answers.{sink_seen}
use Rattle.statepoint_tool.specs.Taken.{files_seen}
use Rattle.statepoint_tool.proofs.FactLaws.{Facts-answer}
use Rattle.statepoint_tool.proofs.top.statepoint.Goals as goal

pub returns-clause-facts : goal.returns-clause-facts
returns-clause-facts g c =
    Facts-answer (map string_bytes c.args.words.now)
    (files_seen (g.F.Files.contents c.args.files.now) (g.F.Files.faults c.args.files.now) (g.F.Files.faults c.answer.new.files))
    (sink_seen (told_by g.O.Sink.written g.O.Sink.puts c.args.out.now) (told_by g.O.Sink.written g.O.Sink.puts c.answer.new.out) (g.O.Sink.faults c.args.out.now) (g.O.Sink.faults c.answer.new.out))
    (sink_seen (told_by g.E.Sink.written g.E.Sink.puts c.args.notes.now) (told_by g.E.Sink.written g.E.Sink.puts c.answer.new.notes) (g.E.Sink.faults c.args.notes.now) (g.E.Sink.faults c.answer.new.notes))
    c.answer.result c.answer.ensures.answer
