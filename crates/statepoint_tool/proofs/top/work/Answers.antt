use Rattle.std.proofs.Common.{map, string_bytes}
use Rattle.piece_writer.specs.LinePuts.{told_by}
use Rattle.statepoint_tool.specs.Taken.{files_seen}
use Rattle.tool_words.specs.Words.{command_of}
use Rattle.statepoint_tool.specs.Work.{work as work_of}
use Rattle.statepoint_tool.specs.Answers.{sink_seen}
use Rattle.statepoint_tool.proofs.NamedLaws.{Works-generated, Works-memory, Works-no_command}
use Rattle.statepoint_tool.proofs.SizeLaws.{size_fits}
use Rattle.statepoint_tool.proofs.top.work.Goals as goal

pub returns-in-Err-Words-clause-works : goal.returns-in-Err-Words-clause-works
returns-in-Err-Words-clause-works g c =
    let faults = g.F.Files.faults c.args.files.now in
    Works-no_command (map string_bytes c.args.words.now) (files_seen (g.F.Files.contents c.args.files.now) faults faults)
    (told_by g.O.Sink.written g.O.Sink.puts c.args.out.now) (g.O.Sink.faults c.args.out.now) (c.in-Err-Words.ensures.none (cc))

pub returns-in-Err-Memory-clause-works : goal.returns-in-Err-Memory-clause-works
returns-in-Err-Memory-clause-works g c =
    let faults = g.F.Files.faults c.args.files.now in
    let words = map string_bytes c.args.words.now in
    Works-memory (files_seen (g.F.Files.contents c.args.files.now) faults faults) (command_of words) (work_of words)
    (told_by g.O.Sink.written g.O.Sink.puts c.args.out.now) (g.O.Sink.faults c.args.out.now)

pub generate-requires-clause-some : goal.generate-requires-clause-some
generate-requires-clause-some g c = (size_fits (map string_bytes c.args.words.now) c.in-Ok-Gen.seed c.in-Ok-Gen.size c.in-Ok-Gen.steps (rw c.in-Ok-Gen.field-0-is at c.in-Ok-Gen.ensures.gives)).0

pub generate-requires-clause-few : goal.generate-requires-clause-few
generate-requires-clause-few g c = (size_fits (map string_bytes c.args.words.now) c.in-Ok-Gen.seed c.in-Ok-Gen.size c.in-Ok-Gen.steps (rw c.in-Ok-Gen.field-0-is at c.in-Ok-Gen.ensures.gives)).1

pub returns-in-Ok-Gen-clause-works : goal.returns-in-Ok-Gen-clause-works
returns-in-Ok-Gen-clause-works g c =
    let faults = g.F.Files.faults c.args.files.now in
    Works-generated (map string_bytes c.args.words.now) (files_seen (g.F.Files.contents c.args.files.now) faults faults) c.in-Ok-Gen.seed c.in-Ok-Gen.size c.in-Ok-Gen.steps c.generate.result
    (sink_seen (told_by g.O.Sink.written g.O.Sink.puts c.args.out.now) (told_by g.O.Sink.written g.O.Sink.puts c.generate.new.out) (g.O.Sink.faults c.args.out.now) (g.O.Sink.faults c.generate.new.out))
    (rw c.in-Ok-Gen.field-0-is at c.in-Ok-Gen.ensures.gives) c.generate.ensures.came
