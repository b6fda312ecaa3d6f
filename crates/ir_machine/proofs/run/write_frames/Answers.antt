use Rattle.tool_io.proofs.AppendLaws.{OnErr-always}
use Rattle.piece_writer.specs.LinePuts.{told_by}
use Rattle.piece_writer.proofs.LineLaws.{first_none}
use Rattle.ir_machine.specs.Executors.{machinery, seen}
use Rattle.ir_machine.specs.Answers.{frames_shown}
use Rattle.ir_machine.proofs.run.write_frames.Goals as goal

pub returns-in_err-own-clause-cut : goal.returns-in_err-own-clause-cut
returns-in_err-own-clause-cut g c = λ short.
    OnErr-always c.from_residual.result
    (first_none (told_by g.O.Sink.written g.O.Sink.puts c.args.out.now) (frames_shown (machinery c.args.program.now) (seen c.args.executor.now)))
